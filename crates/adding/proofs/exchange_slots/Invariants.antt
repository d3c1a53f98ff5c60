use Rattle.adding.proofs.Swapping.{Swapping}
use Rattle.adding.proofs.exchange_slots.Given as goal

abbrev pub invariant-loop-n : goal.invariant-loop-n
invariant-loop-n l = Swapping l.of.ports l.of.slots l.of.list.now l.initial.frame l.former l.other l.f l.frame l.last l.moved l._n
