use Rattle.std.proofs.Common.{rules, not, nat_eq, slice_index}
use borrow.Author.Tests.{tests}
use Rattle.rules.specs.Flows.{number_of}
use Rattle.rules.proofs.Ranges.{found_below}
use Rattle.checks.proofs.Framed.{of_flows}
use Rattle.inspection.proofs.Counted.{counts_told}
use Rattle.inspection.proofs.first_wrong_count.Goals as goal

pub returns : goal.returns
returns c =
    let frame = c.args.frame.now in
    let tally = c.tally_run.new.tally in
    counts_told {ports = frame.frame.of.ports} {slots = frame.frame.of.slots} {tally = tally} (of_flows frame) (search rules) c.flows.ensures
    (found_below (λ f. not (nat_eq (slice_index tally.flows f) (number_of 2 frame.frame.of.list.now f))) _ _ _ _ c.find.ensures.ran (λ x b q k. search (rules, tests)) _ (cc))
