-- What each function does with the planes, masks and lists that it is lent.
use Rattle.std.specs.Prelude.{ℕ, ◌+◌, ◌^◌, ◌≤◌, ◌<◌, max, ◌≡◌, List, ◌++◌, eqb, length, get_or, take}
use Rattle.rules.specs.Words.{if}
use Rattle.rules.specs.Flows.{flows, number_of, counts_of}
use Rattle.bits.specs.Digits.{digit, places}
use Rattle.planes.specs.Planes.{digit_in, count_at, counts_in, odds_in}

-- ---- store
-- Nothing is in the planes.
pub record Blank (planes : List ℕ) : Type 0 where
  pub len : length planes ≡ 99
  pub none : (j : ℕ) → get_or planes j 0 ≡ 0

-- Each of the eleven planes has its digit of x put at position p.
pub record Stored (x p : ℕ) (old planes : List ℕ) : Type 0 where
  pub len : length planes ≡ 99
  pub put : (q b : ℕ) → q < 576 → b < 11 → digit_in planes q b ≡ max (digit_in old q b) (if (eqb q p) (digit x b) 0)

-- The planes have the cells of every flow of a list, as many planes as their digits take, and nothing behind them.
pub record Loaded (list planes : List ℕ) : Type 0 where
  pub len : length planes ≡ 99
  pub same : (k : ℕ) → k ≤ 11 → ((f : ℕ) → f < flows list → number_of 2 list f < 2 ^ k) → counts_in k planes (flows list) ≡ counts_of list
  pub past : (k p : ℕ) → k ≤ 11 → flows list ≤ p → p < 576 → count_at k planes p ≡ 0

-- ---- gather
-- From place k on, a list has the places of the digits of a word, and before and behind them what it had.
pub record PlacesListed (base x k : ℕ) (old list : List ℕ) (r : ℕ) : Type 0 where
  pub len : length list ≡ 528
  pub number : r ≡ k + length (places base 64 x)
  pub same : take r list ≡ take k old ++ places base 64 x
  pub kept : (j : ℕ) → r ≤ j → get_or list j 0 ≡ get_or old j 0

-- The first r of a list are the positions of the odd counts among the first n, and behind them stands what it had.
pub record Gathered (n : ℕ) (planes old list : List ℕ) (r : ℕ) : Type 0 where
  pub len : length list ≡ 528
  pub number : r ≡ length (odds_in n planes)
  pub same : take r list ≡ odds_in n planes
  pub behind : (j : ℕ) → r ≤ j → get_or list j 0 ≡ get_or old j 0
