-- Each turn takes the bytes of one read.
use Rattle.std.proofs.Common.{◌*◌}
use Rattle.frame.specs.Streams.{TakesAtMost}
use Rattle.frame.proofs.skip_rest.Given as goal

abbrev pub invariant-loop : goal.invariant-loop
invariant-loop g l = TakesAtMost (l.counter * 4096) (g.R.Read.remaining l.initial.input) (g.R.Read.remaining l.input)
