-- Numbers by their binary digits.
use Rattle.std.specs.Prelude.{ℕ, suc, zero, ◌+◌, ◌*◌, ◌-◌, ◌/◌, ◌%◌, ◌^◌, max, ◌≡◌, ◌≢◌, List, [], ◌∷◌, eqb}
use Rattle.rules.specs.Words.{if}

-- Digit i of a number, 0 or 1.
unfoldable pub digit : ℕ → ℕ → ℕ
digit x i = x / 2 ^ i % 2

-- f 0 + 2 × f 1 + 4 × f 2 + .., k of them
unfoldable pub binary : ℕ → (ℕ → ℕ) → ℕ
binary zero f = 0
binary (suc k) f = binary k f + 2 ^ k * f k

-- Where the n lowest digits of a number are 1, rising, counted from base.
unfoldable pub places : ℕ → ℕ → ℕ → List ℕ
places base zero x = []
places base (suc n) x = if (eqb (x % 2) 1) (base ∷ places (suc base) n (x / 2)) (places (suc base) n (x / 2))

-- The word x with d put at digit i, where it had 0 or d, is r.
pub record PutAt (x i d r : ℕ) : Type 0 where
  pub put : (j : ℕ) → digit r j ≡ max (digit x j) (if (eqb j i) d 0)

-- The word x with digit i flipped is r.
pub record FlippedAt (x i r : ℕ) : Type 0 where
  pub here : digit r i ≡ 1 - digit x i
  pub others : (j : ℕ) → j ≢ i → digit r j ≡ digit x j
