use Prim.Native.Nat.{◌*◌, ◌-◌}
use Rattle.split.proofs.Joined.{Joining}
use Rattle.split.proofs.partners.mate_singles.Given as goal

abbrev pub invariant-loop-link : goal.invariant-loop-link
invariant-loop-link l = Joining l.latest l.pending (l.output * 4) (l.link - l.output * 4) l.initial.mates l.mates l.alone
