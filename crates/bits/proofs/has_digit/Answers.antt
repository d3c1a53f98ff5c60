use Rattle.std.proofs.Common.{rules}
use Rattle.bits.specs.Digits.{digit}
use Rattle.bits.proofs.has_digit.Goals as goal

pub returns : goal.returns
unfolding digit
returns c = search rules
