use Rattle.split.proofs.Mated.{Mating}
use Rattle.split.proofs.partners.mate_all.Given as goal

abbrev pub invariant-loop-p : goal.invariant-loop-p
invariant-loop-p l = Mating l.ends l.odds l.p-index l.initial.mates l.mates l.at_inputs l.pending_at_inputs l.latest l.pending
