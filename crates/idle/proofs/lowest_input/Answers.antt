use Rattle.std.proofs.Common.{rules, ℕ, Bool, eqb, get_or}
use borrow.Author.Tests.{tests}
use Rattle.rules.specs.Frames.{run_of}
use Rattle.rules.proofs.Ranges.{found_below}
use Rattle.checks.proofs.Framed.{flow_frame}
use Rattle.idle.proofs.Found.{input_found}
use Rattle.idle.proofs.lowest_input.Goals as goal

pub returns : goal.returns
returns c =
    let frame = c.args.frame.now in
    let test : ℕ → Bool = λ s. eqb (get_or (run_of frame.frame.of.ports s 1 frame.frame.entries.now) c.flow-i.result.input 0) 0 in
    input_found (flow_frame frame.frame.of.fits frame.frame.power frame.frame.size frame.each_flow) c.requires c.flow-i.ensures.input
    (found_below test _ _ _ _ c.find.ensures.ran (λ x b q k. search (rules, tests)) _ (cc))
