use Prim.Native.Nat.{◌-◌}
use Rattle.depth.specs.Steps.{BothPeaks}
use Rattle.depth.proofs.Load.stray.Given as goal

abbrev pub invariant-loop-size : goal.invariant-loop-size
invariant-loop-size l = BothPeaks l.self.slots l.self.cells l.size l.peaks.low l.peaks.high

abbrev pub decreases-loop-size : goal.decreases-loop-size
decreases-loop-size l = l.self.slots - l.size
