use Rattle.std.proofs.Common.{rules}
use native.Mathlib.Omega.{arith}
use Rattle.bits.proofs.Lowest.{ones_first, ones_fewer, places_none}
use Rattle.bits.proofs.OnesIterator.next.Goals as goal

pub returns-then-self-eq0-clause-steps : goal.returns-then-self-eq0-clause-steps
returns-then-self-eq0-clause-steps c = rw c.if-self-eq0.true (places_none 0 64, places_none 0 64)

pub returns-clause-steps : goal.returns-clause-steps
returns-clause-steps c = let first = ones_first c.if-self-eq0.false (omega arith) in search rules

pub returns-clause-goes : goal.returns-clause-goes
returns-clause-goes c = let fewer = ones_fewer c.if-self-eq0.false (omega arith) in record { on = λ finite. (tt, finite, omega arith); keeps = tt; rests = λ _. tt }
