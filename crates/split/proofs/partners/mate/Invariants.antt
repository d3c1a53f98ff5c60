use Rattle.split.proofs.Joined.{MatingRest}
use Rattle.split.proofs.partners.mate.Given as goal

abbrev pub invariant-loop-o : goal.invariant-loop-o
invariant-loop-o l = MatingRest l.table.ends l.odds l.table.multi_link l.o-iterator.word l.initial.mates l.mates
