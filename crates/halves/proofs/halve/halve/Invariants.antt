use Rattle.halves.proofs.Halved.{Halving}
use Rattle.halves.proofs.halve.halve.Given as goal

abbrev pub invariant-loop-w : goal.invariant-loop-w
invariant-loop-w l = Halving l.m l.planes.positions l.planes.words.now l.mask l.initial.half l.w l.half
