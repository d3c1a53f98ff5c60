use Rattle.std.proofs.Common.{rules, ◌-◌, ◌*◌, slice_index, nat_lt}
use borrow.Author.Tests.{tests}
use Rattle.calls.specs.Sides.{side_of}
use Rattle.rules.proofs.Ranges.{found_from}
use Rattle.checks.proofs.Framed.{of_flows}
use Rattle.entries.proofs.Found.{twice_place}
use Rattle.entries.proofs.twice_in.Goals as goal

pub returns : goal.returns
returns c =
    let frame = c.args.frame.now in
    twice_place (side_of c.args.side) (of_flows frame) c.requires c.uses_of-uses.ensures
    (found_from (λ q. nat_lt 1 (slice_index c.uses_of-uses.result (q - c.args.slot * c.args.frame.now.frame.of.ports)))
    _ _ _ _ c.find.ensures.ran (λ x b q k. search (rules, tests)) _ _ (cc))
