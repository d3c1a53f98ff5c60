use Prim.Native.Nat.{◌^◌}
use Rattle.schedule.proofs.+block.Given as goal

-- the slots of the block
abbrev pub decreases-block : goal.decreases-block
decreases-block l = 2 ^ l.m
