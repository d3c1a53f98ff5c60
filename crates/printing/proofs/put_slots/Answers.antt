use Rattle.std.proofs.Common.{rules}
use Rattle.printing.proofs.Prints.{slots_next, slots_done}
use Rattle.printing.proofs.put_slots.Goals as goal

pub loop-s-preserved : goal.loop-s-preserved
loop-s-preserved c = record { same = search rules; slotted = slots_next _ _ _ _ _ _ _ _ _ _ _ c.loop-s.invariant.slotted (search rules) c.slot.ensures.run (search rules) }

pub returns-clause-printed : goal.returns-clause-printed
returns-clause-printed c = search (rules, slots_done)
