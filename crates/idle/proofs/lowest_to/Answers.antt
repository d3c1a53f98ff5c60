use Rattle.std.proofs.Common.{rules, ℕ, Bool, not, eqb, slice_index}
use Rattle.std.proofs.lemmas.Iterator.{serves_from_Range}
use borrow.Author.Tests.{tests}
use Rattle.rules.specs.Words.{both}
use Rattle.rules.proofs.Ranges.{found_below}
use Rattle.checks.proofs.Framed.{flow_frame}
use Rattle.exchange.specs.Swaps.{output_number}
use Rattle.idle.proofs.Found.{slot_flow, to_found}
use Rattle.idle.proofs.lowest_to.Goals as goal

pub find-requires-clause-callable : goal.find-requires-clause-callable
find-requires-clause-callable c =
    let frame = c.args.frame.now in
    let low = slot_flow (flow_frame frame.frame.of.fits frame.frame.power frame.frame.size frame.each_flow) c.requires c.slot-entries.ensures.run in
    serves_from_Range (λ x q k. search (rules, tests)) (λ x from to. search (rules, low))

pub returns : goal.returns
returns c =
    let frame = c.args.frame.now in
    let test : ℕ → Bool = λ i. both (not (eqb i c.args.but)) (eqb (output_number frame.frame.of.list.now (slice_index c.slot-entries.result.now i)) c.args.output) in
    to_found (flow_frame frame.frame.of.fits frame.frame.power frame.frame.size frame.each_flow) c.requires c.slot-entries.ensures.run _ _
    (found_below test _ _ _ _ c.find.ensures.ran (λ x b q k. search (rules, tests)) _ (cc))
