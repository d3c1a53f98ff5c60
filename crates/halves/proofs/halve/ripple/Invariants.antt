use Rattle.halves.proofs.Halved.{Rippling}
use Rattle.halves.proofs.halve.ripple.Given as goal

abbrev pub invariant-loop-b : goal.invariant-loop-b
invariant-loop-b l = Rippling l.planes l.w l.extra l.b l.initial.half l.half l.carry
