use Rattle.admission.proofs.Adding.{Summed}
use Rattle.admission.proofs.add_loads.Given as goal

abbrev pub invariant-loop-f : goal.invariant-loop-f
invariant-loop-f l = Summed l.of.list.now l.f l.loads
