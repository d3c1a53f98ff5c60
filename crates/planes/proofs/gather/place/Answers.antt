use native.Mathlib.Omega.{arith}
use Rattle.bits.proofs.Lowest.{turn_below}
use Rattle.planes.proofs.Placed.{placing_room, placing_on, placing_end}
use Rattle.planes.proofs.gather.place.Goals as goal

pub overflow_add-list : goal.overflow_add-list
overflow_add-list c = omega (arith, turn_below _ _ c.in-Some.ensures.steps)

pub overflow_cast-list : goal.overflow_cast-list
overflow_cast-list c = omega (arith, turn_below _ _ c.in-Some.ensures.steps)

pub bounds-list-at : goal.bounds-list-at
bounds-list-at c = placing_room c.loop-t.invariant _ c.in-Some.ensures.steps c.requires.1

pub loop-t-preserved : goal.loop-t-preserved
loop-t-preserved c = placing_on c.loop-t.invariant _ c.in-Some.ensures.steps c.requires.1

pub returns : goal.returns
returns c = placing_end c.loop-t.invariant c.in-None.ensures.steps.0
