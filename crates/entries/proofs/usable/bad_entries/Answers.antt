use Rattle.calls.specs.Sides.{side_of}
use Rattle.checks.proofs.Framed.{frame_fits}
use Rattle.entries.proofs.Words.{above_told, all_flows, words_told}
use Rattle.entries.proofs.usable.bad_entries.Goals as goal

pub returns-then-flows-from : goal.returns-then-flows-from
returns-then-flows-from c =
    let frame = c.args.frame.now in
    above_told (side_of c.args.side) frame.of.fits (frame_fits frame.of.fits frame.power frame.size) c.flows.ensures c.largest.ensures c.from.ensures c.if-flows-from.true

pub invariant_of-words_clash : goal.invariant_of-words_clash
invariant_of-words_clash c =
    let frame = c.args.frame.now in
    record { each_flow = all_flows (side_of c.args.side) frame.of.fits (frame_fits frame.of.fits frame.power frame.size) c.flows.ensures c.largest.ensures c.from.ensures c.if-flows-from.false }

pub returns : goal.returns
returns c =
    let frame = c.args.frame.now in
    words_told (side_of c.args.side) frame.of.fits (frame_fits frame.of.fits frame.power frame.size) c.flows.ensures c.largest.ensures c.from.ensures c.if-flows-from.false
    c.fill_words.ensures c.words_clash.ensures
