-- Plane b has digit b of every count, 64 counts to a word and 9 words to a plane.
use Rattle.std.specs.Prelude.{ℕ, suc, ◌+◌, ◌*◌, ◌/◌, ◌%◌, ◌^◌, ◌≤◌, ◌<◌, ◌≡◌, Bool, List, map, eqb, length, get_or}
use Rattle.rules.specs.Words.{keep, up_from}
use Rattle.bits.specs.Digits.{digit, binary}

-- The digit of plane b at a position.
unfoldable pub digit_in : List ℕ → ℕ → ℕ → ℕ
digit_in planes p b = digit (get_or planes (b * 9 + p / 64) 0) (p % 64)

-- The digit of a mask at a position, or of the lowest plane, which is the mask of the odd counts.
abbrev pub digit_at : List ℕ → ℕ → ℕ
digit_at mask p = digit (get_or mask (p / 64) 0) (p % 64)

-- The count at a position, by the first k planes.
unfoldable pub count_at : ℕ → List ℕ → ℕ → ℕ
count_at k planes p = binary k (digit_in planes p)

-- The first n counts.
unfoldable pub counts_in : ℕ → List ℕ → ℕ → List ℕ
counts_in k planes n = map (count_at k planes) (up_from 0 n)

-- Whether the count at a position is odd, and which of the first n are, rising.
abbrev pub odd_at : List ℕ → ℕ → Bool
odd_at planes p = eqb (digit_at planes p) 1

abbrev pub odds_in : ℕ → List ℕ → List ℕ
odds_in n planes = keep (odd_at planes) (up_from 0 n)

-- How many words have the first n positions, and how many positions those words have.
abbrev pub words_of : ℕ → ℕ
words_of n = (n + 63) / 64

abbrev pub span_of : ℕ → ℕ
span_of n = words_of n * 64

-- The lowest plane has nothing behind the first n positions.
pub record Ends (n : ℕ) (planes : List ℕ) : Type 0 where
  pub few : n ≤ 528
  pub past : (p : ℕ) → n ≤ p → p < span_of n → digit_at planes p ≡ 0

-- The counts of a block of 2 ^ m slots: none has more cells, and there is nothing behind the first n.
pub record BlockPlanes (m n : ℕ) (planes : List ℕ) : Type 0 where
  pub few : n ≤ 528
  pub most : (p : ℕ) → p < n → count_at (suc m) planes p ≤ 2 ^ m
  pub past : (p : ℕ) → n ≤ p → p < span_of n → count_at (suc m) planes p ≡ 0

-- A mask of some of the odd counts.
pub record Mask (n : ℕ) (planes mask : List ℕ) : Type 0 where
  pub len : length mask ≡ 9
  pub only : (p : ℕ) → p < span_of n → digit_at mask p ≤ digit_at planes p
