-- What each function does with the masks and halves that it is lent.
use Rattle.std.specs.Prelude.{ℕ, suc, ◌+◌, ◌-◌, ◌*◌, ◌/◌, ◌%◌, ◌^◌, ◌≤◌, ◌<◌, ◌≡◌, ◌≢◌, List, map, length, get_or}
use Rattle.rules.specs.Words.{up_from}
use Rattle.bits.specs.Digits.{digit, binary}
use Rattle.planes.specs.Planes.{digit_in, digit_at, count_at, words_of, span_of}

-- ---- mark
-- Of the digits of a word, r has those whose position favours the first half.
pub record Picked (x base : ℕ) (favoured : List ℕ) (r : ℕ) : Type 0 where
  pub has : (i : ℕ) → digit x i ≡ 1 → digit r i ≡ get_or favoured (base + i) 0 % 2
  pub none : (i : ℕ) → digit x i ≡ 0 → digit r i ≡ 0

-- Of the odd counts, a mask has those that favour the first half, and behind the words that n positions take what it had.
pub record Marked (n : ℕ) (planes favoured old mask : List ℕ) : Type 0 where
  pub len : length mask ≡ 9
  pub has : (p : ℕ) → p < span_of n → digit_at planes p ≡ 1 → digit_at mask p ≡ get_or favoured p 0 % 2
  pub none : (p : ℕ) → p < span_of n → digit_at planes p ≡ 0 → digit_at mask p ≡ 0
  pub behind : (w : ℕ) → words_of n ≤ w → get_or mask w 0 ≡ get_or old w 0

-- A mask has the odd counts that it did not have, and behind the words that n positions take what it had.
pub record Others (n : ℕ) (planes old mask : List ℕ) : Type 0 where
  pub len : length mask ≡ 9
  pub has : (p : ℕ) → p < span_of n → digit_at mask p ≡ digit_at planes p - digit_at old p
  pub kept : (w : ℕ) → words_of n ≤ w → get_or mask w 0 ≡ get_or old w 0

-- ---- halve
-- Half of each of the first n counts, and one cell more where a mask has it.
unfoldable pub halves : ℕ → List ℕ → List ℕ → ℕ → List ℕ
halves m planes mask n = map (λ p. count_at (suc m) planes p / 2 + digit_at mask p) (up_from 0 n)

-- Each count of word w of a half is what the planes above the lowest have, and one more where `extra` has it, if that has room. Every
-- other word, and every plane from m on, is what it was.
pub record Grown (planes : List ℕ) (w extra m : ℕ) (old half : List ℕ) : Type 0 where
  pub len : length half ≡ 99
  pub sum : (p : ℕ) → p / 64 ≡ w → binary m (λ b. digit_in planes p (suc b)) + digit extra (p % 64) < 2 ^ m
      → count_at m half p ≡ binary m (λ b. digit_in planes p (suc b)) + digit extra (p % 64)
  pub rest : (p : ℕ) → p < 576 → p / 64 ≢ w → count_at m half p ≡ count_at m old p
  pub others : (j : ℕ) → j % 9 ≢ w → get_or half j 0 ≡ get_or old j 0
  pub upward : (j : ℕ) → m * 9 ≤ j → get_or half j 0 ≡ get_or old j 0

-- Half of each count, and one cell more where the mask has it. Behind the words that n positions take, and in every plane from m on, each
-- word is what it was.
pub record HalfPlanes (m n : ℕ) (planes mask old half : List ℕ) : Type 0 where
  pub each : (p : ℕ) → p < span_of n → count_at m half p ≡ count_at (suc m) planes p / 2 + digit_at mask p
  pub past : (j : ℕ) → words_of n ≤ j % 9 → get_or half j 0 ≡ get_or old j 0
  pub above : (j : ℕ) → m * 9 ≤ j → get_or half j 0 ≡ get_or old j 0
