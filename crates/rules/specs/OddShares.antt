-- The odd counts of a load, split down to blocks of two slots. The contracts of inner functions cite this page, since they are asked for
-- counts that need not fit; nothing that a caller is told rests on it, and `work_built` says that for what Build accepts it is `work`.
use Rattle.std.specs.Prelude.{ℕ, suc, zero, ◌+◌, ◌/◌, ◌%◌, List, length, get_or}
use Rattle.rules.specs.Words.{sum_to}

-- How many odd counts the splits settle, from a block of 2 ^ k slots down to those of two. A count is odd or not; one half gets
-- its smaller half, the other its larger.
unfoldable pub odd_shares : ℕ → ℕ → ℕ
odd_shares zero c = 0
odd_shares (suc k) c = c % 2 + (odd_shares k (c / 2) + odd_shares k ((c + 1) / 2))

-- All counts of the block, each by itself.
unfoldable pub settled : ℕ → List ℕ → ℕ
settled k m = sum_to (length m) (λ p. odd_shares k (get_or m p 0))
