use Rattle.entries.proofs.Read.{SlotReading}
use Rattle.entries.proofs.usable.slot_clashes.Given as goal

abbrev pub invariant-loop-i : goal.invariant-loop-i
invariant-loop-i l = SlotReading l.frame.frame.of.ports l.words l.frame.frame.entries.now l.slot l.initial.columns l.i l.columns l.sum l.seen
