-- What is said of strays: how those of different loads hang together, and how far a load of few powers of two strays.
use Rattle.std.specs.Prelude.{ℕ, suc, ◌+◌, ◌*◌, ◌^◌, ◌≤◌, ◌≡◌}
use Rattle.strays.specs.Stray.{stray}
use Rattle.strays.specs.Deviation.{deviation}

-- No load strays further than the deviation, and some load that fits the slots strays as far.
abbrev pub WithinDeviation : Type 0
WithinDeviation = (k m : ℕ) → stray k m ≤ deviation k

abbrev pub DeviationReached : Type 0
DeviationReached = (k : ℕ) → (m : ℕ) × (m ≤ 2 ^ k) × (stray k m ≡ deviation k)

-- Twice the cells in twice the slots stray by twice as many parts, which are half as large: by as many cells.
abbrev pub Doubles : Type 0
Doubles = (k m : ℕ) → stray (suc k) (2 * m) ≡ 2 * stray k m

-- As many cells as a load leaves slots free stray as far as it does.
abbrev pub Mirrors : Type 0
Mirrors = (k m n : ℕ) → m + n ≡ 2 ^ k → stray k n ≡ stray k m

-- A power of two in 2 ^ k slots: 2 ^ k less the power.
abbrev pub OfPower : Type 0
OfPower = (a i : ℕ) → stray (a + i) (2 ^ a) + 2 ^ a ≡ 2 ^ (a + i)

-- The sum of two powers of two, 2 ^ c and 2 ^ (c + d), in 2 ^ k slots, where k is c + d + i: twice 2 ^ k less both of them and less
-- 2 ^ c / 2 ^ (c + d) of the slots, which is 2 ^ (c + i).
abbrev pub OfTwoPowers : Type 0
OfTwoPowers =
    (c d i : ℕ) → 1 ≤ d → 1 ≤ i → let k = c + (d + i) in stray k (2 ^ c + 2 ^ (c + d)) + (2 ^ c + 2 ^ (c + d) + 2 ^ (c + i)) ≡ 2 * 2 ^ k
