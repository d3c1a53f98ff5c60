use Rattle.std.proofs.Common.{rules}
use Rattle.printing.proofs.Prints.{cells_next}
use Rattle.printing.proofs.put_cells.Goals as goal

pub loop-entry-preserved : goal.loop-entry-preserved
loop-entry-preserved c = record { same = search rules; celled = search (rules, cells_next) }
