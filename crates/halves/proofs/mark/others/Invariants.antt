use Rattle.halves.proofs.Marked.{Complementing}
use Rattle.halves.proofs.mark.others.Given as goal

abbrev pub invariant-loop-w : goal.invariant-loop-w
invariant-loop-w l = Complementing l.planes.positions l.planes.words.now l.initial.mask l.w l.mask
