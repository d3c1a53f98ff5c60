use lib.ListN.{length}
use Rattle.schedule.proofs.Written.{Writing}
use Rattle.schedule.proofs.slots.write.Given as goal

abbrev pub invariant-loop-w : goal.invariant-loop-w
invariant-loop-w l = Writing l.ends l.planes.words.now (length l.initial.slot) l.w l.slot
