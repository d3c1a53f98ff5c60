use Rattle.std.proofs.Common.{rules, ◌-◌}
use native.Mathlib.Omega.{arith}
use mathlib.Core.Path.{refl, ap, ◌∙◌}
use mathlib.Core.Logic.{◌≢◌}
use Rattle.rules.specs.Flows.{flow, port_on, input, output, link, total}
use Rattle.checks.proofs.Framed.{of_flows}
use Rattle.tally.specs.Tally.{tally_of}
use Rattle.tally.proofs.Tallies.{run_ends, run_is, run_flow, run_most, counted_start, counted_idle, counted_on, counted_fits, counted_end}
use Rattle.tally.proofs.tally_run.Goals as goal
use Rattle.tally.proofs.tally_run.Goals.{then-entry-ne0, else-entry-ne0}

pub slice_bounds-entry-items-end : goal.slice_bounds-entry-items-end
slice_bounds-entry-items-end c =
    let frame = c.args.frame.now in
    let ends = run_ends c.args.start c.args.len (of_flows frame) c.requires.0 in
    search (rules, ends)

pub loop-entry-init : goal.loop-entry-init
loop-entry-init c = rw c.requires.1 (counted_start _ _)

pub overflow_add-tally : goal.overflow_add-tally
overflow_add-tally c =
    let frame = c.args.frame.now in
    let framed = of_flows frame in
    let is = run_is c.args.start c.args.len framed c.requires.0 in
    counted_fits c.loop-entry.invariant (run_most c.args.start c.args.len framed c.requires.0 is c.loop-entry-test.true refl) (flow (c.from-f.result - 1))
    (omega (arith, frame.frame.of.fits.few, run_flow c.args.start c.args.len framed c.requires.0 is c.loop-entry-test.true c.from-f.ensures (omega (arith, c.if-entry-ne0.true, c.from-f.ensures))))

pub overflow_add-tally-then-entry-ne0 : goal.overflow_add-tally-then-entry-ne0
overflow_add-tally-then-entry-ne0 c =
    let frame = c.args.frame.now in
    let framed = of_flows frame in
    counted_fits c.loop-entry.invariant (run_most c.args.start c.args.len framed c.requires.0 (run_is c.args.start c.args.len framed c.requires.0) c.loop-entry-test.true refl) (port_on input c.flow-flow.result.input)
    (omega (arith, c.flow-flow.ensures.low))

pub overflow_add-tally-then-entry-ne0-2 : goal.overflow_add-tally-then-entry-ne0-2
overflow_add-tally-then-entry-ne0-2 c =
    let frame = c.args.frame.now in
    let framed = of_flows frame in
    counted_fits c.loop-entry.invariant (run_most c.args.start c.args.len framed c.requires.0 (run_is c.args.start c.args.len framed c.requires.0) c.loop-entry-test.true refl) (port_on output c.flow-flow.result.output)
    (omega (arith, c.flow-flow.ensures.low))

pub overflow_add-tally-then-entry-ne0-3 : goal.overflow_add-tally-then-entry-ne0-3
overflow_add-tally-then-entry-ne0-3 c =
    let frame = c.args.frame.now in
    let framed = of_flows frame in
    counted_fits c.loop-entry.invariant (run_most c.args.start c.args.len framed c.requires.0 (run_is c.args.start c.args.len framed c.requires.0) c.loop-entry-test.true refl) (link c.flow-flow.result.link)
    (omega (arith, c.flow-flow.ensures.low))

pub overflow_add-total : goal.overflow_add-total
overflow_add-total c =
    let frame = c.args.frame.now in
    let framed = of_flows frame in
    counted_fits c.loop-entry.invariant (run_most c.args.start c.args.len framed c.requires.0 (run_is c.args.start c.args.len framed c.requires.0) c.loop-entry-test.true refl) total tt

pub loop-entry-preserved : goal.loop-entry-preserved
loop-entry-preserved c =
    elim c.if-entry-ne0.branch [
      | then-entry-ne0 w ↦
          let frame = c.args.frame.now in
          let framed = of_flows frame in
          let some : w.from-f.result ≢ 0 = omega (arith, w.if-entry-ne0.true, w.from-f.ensures) in
          let low = run_flow c.args.start c.args.len framed c.requires.0 (run_is c.args.start c.args.len framed c.requires.0) c.loop-entry-test.true w.from-f.ensures some in
          let ports = w.flow-flow.ensures.low in
          rw (w.tally-is, w.total-is)
          (counted_on c.loop-entry.invariant w.from-f.ensures some low w.flow-flow.ensures.input w.flow-flow.ensures.output w.flow-flow.ensures.link
          (omega (arith, frame.frame.of.fits.few, low)) (omega (arith, ports)) (omega (arith, ports)) (omega (arith, ports))
          (search rules) (search rules) (search rules) (search rules))
      | else-entry-ne0 w ↦ rw (w.tally-is, w.total-is) (counted_idle c.loop-entry.invariant w.if-entry-ne0.false)
    ]

pub returns : goal.returns
returns c =
    let frame = c.args.frame.now in
    let framed = of_flows frame in
    counted_end c.loop-entry.invariant (omega (arith, c.loop-entry-test.false, c.loop-entry.auto)) (search rules) ∙ ap (tally_of frame.frame.of.list.now) (run_is c.args.start c.args.len framed c.requires.0)
