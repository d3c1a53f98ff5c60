use Rattle.planes.proofs.Stored.{Loading}
use Rattle.planes.proofs.store.store_list.Given as goal

abbrev pub invariant-loop-f : goal.invariant-loop-f
invariant-loop-f l = Loading l.list l.f-end l.f l.planes
