-- The stray: how far the first slots of a frame may be from their share, by the load.
use Rattle.std.specs.Prelude.{ℕ, suc, zero, ◌+◌, ◌*◌, ◌-◌, ◌/◌, ◌^◌, max, eqb, leb}
use Rattle.rules.specs.Words.{if}

-- The most cells that the first t slots of a balanced block of 2 ^ k slots with m cells can have: of an odd number the first half gets
-- one more. The least that they can have is m less the most of the other slots.
unfoldable pub earliest : ℕ → ℕ → ℕ → ℕ
earliest zero m t = if (eqb t 0) 0 m
earliest (suc k) m t = if (leb t (2 ^ k)) (earliest k ((m + 1) / 2) t) ((m + 1) / 2 + earliest k (m / 2) (t - 2 ^ k))

-- The largest of f 0, f 1, .., f (n - 1), and 0 where there is none.
unfoldable pub largest : ℕ → (ℕ → ℕ) → ℕ
largest zero f = 0
largest (suc n) f = max (largest n f) (f n)

-- How far the cells of the first slots of a frame of 2 ^ k slots with m cells may be from their share, in parts of 1 / 2 ^ k of a cell. They
-- may be as far below it as above.
unfoldable pub stray : ℕ → ℕ → ℕ
stray k m = largest (suc (2 ^ k)) (λ t. 2 ^ k * earliest k m t - t * m)
