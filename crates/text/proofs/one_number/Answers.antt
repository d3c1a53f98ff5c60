use Rattle.std.proofs.Common.{rules}
use Rattle.text.proofs.Numbers.{line_off}
use Rattle.text.proofs.one_number.Goals as goal

pub returns-in_err-rest : goal.returns-in_err-rest
returns-in_err-rest c = line_off _ _ _ _ _ _ c.in_ok-value.ensures (search rules) c.in_err-rest.ensures.cases
