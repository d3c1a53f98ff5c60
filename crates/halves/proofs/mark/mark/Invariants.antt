use Rattle.halves.proofs.Marked.{Marking}
use Rattle.halves.proofs.mark.mark.Given as goal

abbrev pub invariant-loop-w : goal.invariant-loop-w
invariant-loop-w g l = Marking l.planes.words.now (g.F.FavourTable.numbers l.favoured) l.initial.mask l.w l.mask
