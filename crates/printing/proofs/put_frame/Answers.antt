use Rattle.std.proofs.Common.{rules}
use Rattle.lines.proofs.Pieces.{printed_left}
use Rattle.printing.proofs.Prints.{frame_printed}
use Rattle.printing.proofs.put_frame.Goals as goal

pub returns : goal.returns
returns c =
    printed_left _ _
    (frame_printed _ _ _ _ _ _ _ _ _ _ _ _ _ _ _ c.in-Some.ensures.same c.in-Some.frame.sized (search rules) c.put_both-2.ensures.printed c.put_word.ensures.printed
    c.put_slots.ensures.printed)
    (search rules) (search rules)
