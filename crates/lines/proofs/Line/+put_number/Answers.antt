use Rattle.std.proofs.Common.{rules}
use Rattle.lines.proofs.Pieces.{number_last, number_tens}
use Rattle.lines.proofs.Line.+put_number.Goals as goal

pub returns-then-n-lt10-clause-printed : goal.returns-then-n-lt10-clause-printed
returns-then-n-lt10-clause-printed t c = search (rules, number_last)

pub returns-clause-printed : goal.returns-clause-printed
returns-clause-printed t c = search (rules, number_tens)
