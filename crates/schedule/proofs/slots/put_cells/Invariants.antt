use Rattle.schedule.proofs.Written.{Putting}
use Rattle.schedule.proofs.slots.put_cells.Given as goal

abbrev pub invariant-loop-t : goal.invariant-loop-t
invariant-loop-t l = Putting l.ends l.base l.x l.initial.slot l.t-iterator.word l.slot
