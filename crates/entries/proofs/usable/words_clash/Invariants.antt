use Rattle.entries.proofs.Read.{FrameReading}
use Rattle.entries.proofs.usable.words_clash.Given as goal

abbrev pub invariant-loop-slot : goal.invariant-loop-slot
invariant-loop-slot l = FrameReading l.frame.frame.of.ports l.frame.frame.of.slots l.words l.frame.frame.entries.now l.slot l.columns
