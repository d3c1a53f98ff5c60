use Rattle.std.proofs.Common.{rules, not, ◌-◌, ◌*◌, slice_index}
use borrow.Author.Tests.{tests}
use Rattle.rules.specs.Frames.{right_on}
use Rattle.calls.specs.Sides.{side_of}
use Rattle.rules.proofs.Ranges.{found_from}
use Rattle.entries.proofs.Found.{wrong_place}
use Rattle.entries.proofs.wrong_in.Goals as goal

pub returns : goal.returns
returns c =
    wrong_place (side_of c.args.side) c.args.frame.now.of.ports c.args.slot c.args.frame.now.of.list.now c.args.frame.now.entries.now
    (found_from (λ q. not (right_on (side_of c.args.side) c.args.frame.now.of.list.now (q - c.args.slot * c.args.frame.now.of.ports) (slice_index c.args.frame.now.entries.now q)))
    _ _ _ _ c.find.ensures.ran (λ x b q k. search (rules, tests)) _ _ (cc))
