-- What the steps of Depth are lent: the peaks of the blocks of a load, from one slot up to the whole frame.
use Rattle.std.specs.Prelude.{ℕ, suc, ◌+◌, ◌*◌, ◌-◌, ◌/◌, ◌^◌, ◌≤◌, ◌≡◌}
use Rattle.rules.specs.Frames.{Power}
use Rattle.strays.specs.Stray.{earliest, largest}

-- The furthest that the first slots of a block of 2 ^ j slots with x cells get above their share, where the frame has m cells in so many slots.
unfoldable pub peak : ℕ → ℕ → ℕ → ℕ → ℕ
peak slots m j x = largest (suc (2 ^ j)) (λ t. slots * earliest j x t - t * m)

-- A load that a frame of 2 ^ k slots has room for.
pub record LoadWithin (slots m : ℕ) : Type 0 where
  pub power : Power slots
  pub fits : m ≤ slots

-- A block of 2 ^ j slots has m × size / slots cells or one more. Both peaks.
pub record BothPeaks (slots m size low high : ℕ) : Type 0 where
  pub j : ℕ
  pub size_is : size ≡ 2 ^ j
  pub inside : size ≤ slots
  pub low_is : low ≡ peak slots m j (m * size / slots)
  pub high_is : high ≡ peak slots m j (m * size / slots + 1)
