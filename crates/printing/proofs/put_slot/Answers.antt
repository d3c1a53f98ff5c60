use Rattle.std.proofs.Common.{rules}
use Rattle.printing.proofs.Prints.{slot_printed}
use Rattle.printing.proofs.put_slot.Goals as goal

pub returns-clause-printed : goal.returns-clause-printed
returns-clause-printed c = search (rules, slot_printed)
