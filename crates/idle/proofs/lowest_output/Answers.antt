use Rattle.std.proofs.Common.{rules, ℕ, ◌+◌, Bool, is_none}
use borrow.Author.Tests.{tests}
use Rattle.rules.specs.Words.{found}
use Rattle.rules.proofs.Ranges.{found_below}
use Rattle.checks.proofs.Framed.{flow_frame}
use Rattle.exchange.specs.Swaps.{goes_to}
use Rattle.idle.proofs.Found.{output_found}
use Rattle.idle.proofs.lowest_output.Goals as goal

pub returns : goal.returns
returns c =
    let frame = c.args.frame.now in
    let ports = frame.frame.of.ports in
    let test : ℕ → Bool = λ s. is_none (found (goes_to ports frame.frame.of.list.now frame.frame.entries.now s (c.flow.result.output + 1) ports) 0 ports) in
    output_found (flow_frame frame.frame.of.fits frame.frame.power frame.frame.size frame.each_flow) c.requires c.flow.ensures.output
    (found_below test _ _ _ _ c.find.ensures.ran (λ x b q k. search (rules, tests)) _ (cc))
