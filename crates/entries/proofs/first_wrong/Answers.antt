use Rattle.std.proofs.Common.{rules, ◌*◌}
use borrow.Author.Tests.{tests}
use Rattle.rules.specs.Words.{found}
use Rattle.calls.specs.Sides.{side_of}
use Rattle.calls.specs.Inspect.{is_wrong}
use Rattle.rules.proofs.Ranges.{mapped_below, rows_found}
use Rattle.entries.proofs.first_wrong.Goals as goal

pub returns : goal.returns
returns c =
    let ports = c.args.frame.now.of.ports in
    let test = is_wrong (side_of c.args.side) ports c.args.frame.now.of.list.now c.args.frame.now.entries.now in
    rows_found test ports c.args.frame.now.of.slots _
    (mapped_below (λ s. found test (s * ports) ports) _ _ _ c.find_map.ensures.runs (λ x b q k. search (rules, tests)) _ (cc))
