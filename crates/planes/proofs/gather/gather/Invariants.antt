use Rattle.planes.proofs.Placed.{Gathering}
use Rattle.planes.proofs.gather.gather.Given as goal

abbrev pub invariant-loop-w : goal.invariant-loop-w
invariant-loop-w l = Gathering l.planes.words.now l.initial.list l.w l.list l.k
