use Rattle.std.proofs.Common.{rules}
use Rattle.text.proofs.Numbers.{after_none, after_some}
use Rattle.text.proofs.number_after.Goals as goal

pub returns-in_err-behind : goal.returns-in_err-behind
returns-in_err-behind c = search (rules, after_none)

pub returns : goal.returns
returns c = after_some _ _ _ _ _ c.in_ok-behind.ensures.cases c.number.ensures
