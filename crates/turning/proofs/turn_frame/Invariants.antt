use Rattle.calls.specs.Sides.{side_of}
use Rattle.turning.proofs.Turning.{Turned}
use Rattle.turning.proofs.turn_frame.Given as goal

abbrev pub invariant-loop-s : goal.invariant-loop-s
invariant-loop-s l = Turned (side_of l.side) l.frame.of.ports l.frame.of.slots l.frame.of.list.now l.frame.entries.now l.s l.second
