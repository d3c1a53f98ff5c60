use Rattle.rules.specs.Flows.{other}
use Rattle.calls.specs.Sides.{side_of}
use Rattle.turning.proofs.Putting.{Filled}
use Rattle.turning.proofs.turn_slot.Given as goal

abbrev pub invariant-loop-entry : goal.invariant-loop-entry
invariant-loop-entry l = Filled (other (side_of l.side)) l.of.ports l.of.list.now l.slot l.entry-index l.new
