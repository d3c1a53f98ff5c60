use Rattle.std.proofs.Common.{rules}
use Rattle.bits.proofs.Digits.{turn_at}
use Rattle.bits.proofs.flip_digit.Goals as goal

pub returns : goal.returns
returns c = search (rules, turn_at)
