use Rattle.std.proofs.Common.{rules}
use Rattle.lines.proofs.Refused.{value_printed}
use Rattle.lines.proofs.Line.put_value.Goals as goal

pub returns-clause-printed : goal.returns-clause-printed
returns-clause-printed c = search (rules, value_printed)
