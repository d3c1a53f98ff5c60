use Rattle.planes.proofs.Stored.{Storing}
use Rattle.planes.proofs.store.store_ones.Given as goal

abbrev pub invariant-loop-b : goal.invariant-loop-b
invariant-loop-b l = Storing l.x l.b-iterator.word l.p l.initial.planes l.planes
