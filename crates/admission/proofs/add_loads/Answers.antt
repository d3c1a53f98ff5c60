use native.Mathlib.Omega.{arith}
use Rattle.std.proofs.Common.{rules}
use Rattle.admission.proofs.Adding.{summed_start, summed_on, summed_end}
use Rattle.admission.proofs.add_loads.Goals as goal

pub loop-f-init : goal.loop-f-init
loop-f-init c = summed_start c.requires

pub loop-f-preserved : goal.loop-f-preserved
loop-f-preserved c =
    let flow = c.flow-flow.ensures in
    let next = summed_on c.args.of.now.fits c.loop-f.invariant (omega (arith, c.loop-f-test.true, c.flows-f-end.ensures)) flow.input flow.output flow.link flow.cells flow.low in
    search rules

pub returns : goal.returns
returns c = summed_end c.args.of.now.fits c.loop-f.invariant (omega (arith, c.loop-f-test.false, c.flows-f-end.ensures))
