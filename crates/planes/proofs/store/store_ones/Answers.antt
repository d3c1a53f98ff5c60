use Rattle.std.proofs.Common.{rules}
use native.Mathlib.Omega.{arith}
use Rattle.planes.proofs.Stored.{storing_low, storing_on, storing_end}
use Rattle.planes.proofs.store.store_ones.Goals as goal

pub overflow_mul-at : goal.overflow_mul-at
overflow_mul-at c = omega (arith, storing_low c.loop-b.invariant _ c.in-Some.ensures.steps c.requires.0)

pub overflow_add-at : goal.overflow_add-at
overflow_add-at c = omega (arith, storing_low c.loop-b.invariant _ c.in-Some.ensures.steps c.requires.0)

pub offset_bounds-planes-at : goal.offset_bounds-planes-at
offset_bounds-planes-at c = omega (arith, storing_low c.loop-b.invariant _ c.in-Some.ensures.steps c.requires.0)

pub bounds-planes-at : goal.bounds-planes-at
bounds-planes-at c = omega (arith, storing_low c.loop-b.invariant _ c.in-Some.ensures.steps c.requires.0)

pub offset_bounds-planes-at-in-loop-b : goal.offset_bounds-planes-at-in-loop-b
offset_bounds-planes-at-in-loop-b c = omega (arith, storing_low c.loop-b.invariant _ c.in-Some.ensures.steps c.requires.0)

pub bounds-planes-at-in-loop-b : goal.bounds-planes-at-in-loop-b
bounds-planes-at-in-loop-b c = omega (arith, storing_low c.loop-b.invariant _ c.in-Some.ensures.steps c.requires.0)

pub loop-b-preserved : goal.loop-b-preserved
loop-b-preserved c = search (rules, storing_on c.loop-b.invariant c.next.new.self.word c.in-Some.ensures.steps)

pub returns : goal.returns
returns c = storing_end c.loop-b.invariant c.in-None.ensures.steps.0
