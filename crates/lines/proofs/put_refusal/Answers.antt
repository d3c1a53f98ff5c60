use Rattle.std.proofs.Common.{rules}
use Rattle.lines.proofs.Pieces.{printed_left}
use Rattle.lines.proofs.Refused.{refusal_printed}
use Rattle.lines.proofs.put_refusal.Goals as goal

pub returns : goal.returns
returns c =
    printed_left _ _
    (refusal_printed _ _ _ _ _ _ _ _ _ c.from.ensures.three.number_is (search rules) c.put_values.ensures.printed c.put_word.ensures.printed)
    (search rules) (search rules)
