use Rattle.std.proofs.Common.{rules}
use native.Mathlib.Omega.{arith}
use Prim.Native.Nat.{◌<◌}
use Rattle.schedule.proofs.Tabled.{tabling_start, tabling_on, tabling_end, sides_end}
use Rattle.schedule.proofs.positions.tabulate.Goals as goal

pub loop-f-init : goal.loop-f-init
loop-f-init c = tabling_start c.requires

pub loop-f-preserved : goal.loop-f-preserved
loop-f-preserved c =
    let ranges = c.flow-flow.ensures.low in
    let low : c.loop-f.f < 512 = omega (arith, c.loop-f-test.true, c.flows-f-end.ensures, c.args.of.now.fits.few) in
    let few : c.flow-flow.result.output < 16 = omega (arith, ranges.1, ranges.3) in
    search (rules, tabling_on c.loop-f.invariant low c.flow-flow.ensures.input c.flow-flow.ensures.link c.flow-flow.ensures.output few c.beyond_first_link.ensures.0)

pub returns : goal.returns
returns c = (tabling_end c.loop-f.invariant (omega arith), sides_end c.loop-f.invariant (omega arith) c.args.of.now.fits)
