use Rattle.std.proofs.Common.{rules}
use Rattle.lines.proofs.Pieces.{both_printed}
use Rattle.lines.proofs.Line.put_both.Goals as goal

pub returns-clause-printed : goal.returns-clause-printed
returns-clause-printed c = search (rules, both_printed)
