use Rattle.std.proofs.Common.{rules}
use Rattle.bits.proofs.Digits.{put_at_is}
use Rattle.bits.proofs.put_digit.Goals as goal

pub returns : goal.returns
returns c = search (rules, put_at_is)
