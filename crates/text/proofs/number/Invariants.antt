use Rattle.std.proofs.Common.{length}
use Rattle.text.proofs.Numbers.{Counted}
use Rattle.text.proofs.number.Given as goal

abbrev pub invariant-loop-d : goal.invariant-loop-d
invariant-loop-d l = Counted l.most l.bytes l.read.value l.read.rest.now

abbrev pub decreases-loop-d : goal.decreases-loop-d
decreases-loop-d l = length l.read.rest.now
