use Rattle.halves.proofs.Marked.{Picking}
use Rattle.halves.proofs.mark.pick.Given as goal

abbrev pub invariant-loop-t : goal.invariant-loop-t
invariant-loop-t g l = Picking l.x l.base (g.F.FavourTable.numbers l.favoured) l.t-iterator.word l.picked
