-- The total of built frames: each end of a run is off one way only.
use Rattle.std.specs.Prelude.{ℕ, ◌+◌, ◌*◌, ◌^◌, ◌≤◌, List, length}
use Rattle.rules.specs.Flows.{total}
use Rattle.strays.specs.Stray.{stray}
use Rattle.wire.specs.Wire.{Carried, cells_in, share, EveryChain}
use Rattle.wire.specs.Loads.{load_of, Touches}

-- Of the cells of a block the one over goes to the first half. So the cells of a run are above their share by at most the stray of the
-- frame that it ends in, and below it by at most that of the frame that it begins in.
pub record TotalRun (k : ℕ) (frames : List Carried) (start len : ℕ) : Type 0 where
  pub above : (b : ℕ) → Touches k b (start + len) → 2 ^ k * cells_in total frames start len ≤ share total 0 frames start len + stray k (load_of total frames b)
  pub below : (a : ℕ) → Touches k a start → share total 0 frames start len ≤ 2 ^ k * cells_in total frames start len + stray k (load_of total frames a)

-- For the chains of demand 3. Frames that others made may be balanced and have the one over in either half.
abbrev pub Totals : Type 0
Totals = EveryChain (λ ports k frames. (start len : ℕ) → start + len ≤ length frames * 2 ^ k → TotalRun k frames start len)
