-- What the output got so far is the bytes before the rest.
use Rattle.std.proofs.Common.{◌-◌, length, take}
use Rattle.std.specs.Io.KnownBytes.{Appends}
use Rattle.frame.proofs.Moves.{Rest}
use Rattle.frame.proofs.write_whole.Given as goal

abbrev pub invariant-loop-rest : goal.invariant-loop-rest
invariant-loop-rest g l = record {
  of : Rest l.bytes l.rest;
  put : Appends (g.W.Write.contents l.initial.output) (g.W.Write.contents l.output) (take (length l.bytes - length l.rest) l.bytes);
}

abbrev pub decreases-loop-rest : goal.decreases-loop-rest
decreases-loop-rest g l = length l.rest
