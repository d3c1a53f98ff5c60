use Rattle.std.proofs.Common.{rules, ℕ, ◌+◌, Bool, eqb, get_or, is_none}
use borrow.Author.Tests.{tests}
use Rattle.rules.specs.Words.{both, found}
use Rattle.rules.specs.Frames.{run_of}
use Rattle.rules.proofs.Ranges.{found_below}
use Rattle.checks.proofs.Framed.{flow_frame}
use Rattle.exchange.specs.Swaps.{goes_to}
use Rattle.idle.proofs.Found.{both_found}
use Rattle.idle.proofs.lowest_both.Goals as goal

pub returns : goal.returns
returns c =
    let frame = c.args.frame.now in
    let ports = frame.frame.of.ports in
    let test : ℕ → Bool = λ s. both (eqb (get_or (run_of ports s 1 frame.frame.entries.now) c.flow-own.result.input 0) 0) (is_none (found (goes_to ports frame.frame.of.list.now frame.frame.entries.now s (c.flow-own.result.output + 1) ports) 0 ports)) in
    both_found (flow_frame frame.frame.of.fits frame.frame.power frame.frame.size frame.each_flow) c.requires c.flow-own.ensures.output c.flow-own.ensures.input
    (found_below test _ _ _ _ c.find.ensures.ran (λ x b q k. search (rules, tests)) _ (cc))
