use Rattle.planes.proofs.Placed.{Placing}
use Rattle.planes.proofs.gather.place.Given as goal

abbrev pub invariant-loop-t : goal.invariant-loop-t
invariant-loop-t l = Placing l.base l.x l.k l.initial.list l.list l.t-iterator.word l.at
