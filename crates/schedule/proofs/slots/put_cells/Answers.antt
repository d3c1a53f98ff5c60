use Rattle.std.proofs.Common.{rules}
use native.Mathlib.Omega.{arith}
use Rattle.schedule.proofs.Written.{putting_zeros, putting_low, putting_lt, putting_on, putting_end}
use Rattle.schedule.proofs.slots.put_cells.Goals as goal

pub overflow_add-p : goal.overflow_add-p
overflow_add-p c = omega (arith, putting_zeros c.loop-t.invariant _ c.in-Some.ensures.steps)

pub overflow_add-p-in-loop-t : goal.overflow_add-p-in-loop-t
overflow_add-p-in-loop-t c = omega (arith, putting_low c.loop-t.invariant _ c.in-Some.ensures.steps)

pub bounds-ends-p : goal.bounds-ends-p
bounds-ends-p c = omega (arith, putting_low c.loop-t.invariant _ c.in-Some.ensures.steps)

pub overflow_add-slot : goal.overflow_add-slot
overflow_add-slot c = omega (arith, putting_low c.loop-t.invariant _ c.in-Some.ensures.steps)

pub overflow_cast-slot : goal.overflow_cast-slot
overflow_cast-slot c = omega (arith, putting_low c.loop-t.invariant _ c.in-Some.ensures.steps)

pub bounds-slot-input : goal.bounds-slot-input
bounds-slot-input c = putting_lt c.loop-t.invariant _ c.in-Some.ensures.steps c.from-input.ensures

pub loop-t-preserved : goal.loop-t-preserved
loop-t-preserved c = search (rules, putting_on c.loop-t.invariant c.next.new.self.word c.in-Some.ensures.steps)

pub returns : goal.returns
returns c = putting_end c.loop-t.invariant c.in-None.ensures.steps.0
