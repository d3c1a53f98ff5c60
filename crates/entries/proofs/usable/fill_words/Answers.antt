use Rattle.std.proofs.Common.{rules}
use mathlib.Core.Path.{◌≡◌}
use Rattle.rules.specs.Flows.{other}
use Rattle.checks.specs.Ports.{port_at}
use Rattle.calls.specs.Sides.{side_of}
use Rattle.checks.proofs.Fits.{fits_sixteen}
use Rattle.entries.proofs.Found.{port_told}
use Rattle.entries.proofs.Read.{words_start, words_on}
use Rattle.entries.proofs.usable.fill_words.Goals as goal

pub loop-f-init : goal.loop-f-init
loop-f-init c = words_start _ _ c.requires

pub loop-f-preserved : goal.loop-f-preserved
loop-f-preserved c =
    let flow = c.flow-flow.ensures in
    let side = side_of c.args.side in
    let across : c.port.result ≡ port_at (other side) c.flow-flow.result.input c.flow-flow.result.output = search rules in
    let own : c.port-in-loop-f.result ≡ port_at side c.flow-flow.result.input c.flow-flow.result.output = search rules in
    words_on side (fits_sixteen c.args.of.now.fits) (search rules) c.loop-f.invariant
    (port_told _ _ (other side) across flow.input flow.output) (port_told _ _ side own flow.input flow.output) c.word_of.ensures
