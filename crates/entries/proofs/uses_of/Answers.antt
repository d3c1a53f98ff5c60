use Rattle.std.proofs.Common.{rules, ◌<◌}
use native.Mathlib.Omega.{arith}
use mathlib.Core.Path.{◌≡◌, refl}
use Rattle.rules.specs.Flows.{other}
use Rattle.checks.specs.Ports.{port_at}
use mathlib.Core.Logic.{◌≢◌}
use Rattle.calls.specs.Sides.{side_of}
use Rattle.checks.proofs.Framed.{of_flows}
use Rattle.entries.proofs.Found.{run_flow, port_told, port_within, used_start, used_most, used_idle, used_on}
use Rattle.entries.proofs.uses_of.Goals as goal
use Rattle.entries.proofs.uses_of.Goals.{then-entry-ne0, else-entry-ne0}

pub loop-entry-init : goal.loop-entry-init
loop-entry-init c = used_start _ _ _

pub flow-flow-requires : goal.flow-flow-requires
flow-flow-requires c =
    let frame = c.args.frame.now in
    run_flow (of_flows frame) c.requires c.slot-entry-items.ensures.run c.loop-entry-test.true c.from.ensures (omega (arith, c.if-entry-ne0.true, c.from.ensures))

pub overflow_add-uses : goal.overflow_add-uses
overflow_add-uses c =
    let low = c.flow-flow.ensures.low in
    let at : c.port.result < 16 = port_within _ c.port.ensures low in
    record { fits = omega (arith, used_most (side_of c.args.side) c.loop-entry.invariant c.port.result at, c.loop-entry-test.true, c.slot-entry-items.ensures.len, low) }

pub loop-entry-preserved : goal.loop-entry-preserved
loop-entry-preserved c =
    elim c.if-entry-ne0.branch [
      | then-entry-ne0 w ↦
          let flow = w.flow-flow.ensures in
          let frame = c.args.frame.now in
          let some : w.from.result ≢ 0 = omega (arith, w.if-entry-ne0.true, w.from.ensures) in
          let low = run_flow (of_flows frame) c.requires c.slot-entry-items.ensures.run c.loop-entry-test.true w.from.ensures some in
          let across : w.port.result ≡ port_at (other (side_of c.args.side)) w.flow-flow.result.input w.flow-flow.result.output = search rules in
          rw w.uses-is (used_on (side_of c.args.side) c.loop-entry.invariant w.from.ensures some low
          (port_told _ _ (other (side_of c.args.side)) across flow.input flow.output) (port_within _ w.port.ensures flow.low))
      | else-entry-ne0 w ↦ rw w.uses-is (used_idle (side_of c.args.side) c.loop-entry.invariant refl w.if-entry-ne0.false)
    ]
