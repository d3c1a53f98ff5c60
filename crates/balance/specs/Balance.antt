-- What the comparison of two tallies and the search for a block promise.
use Rattle.std.specs.Prelude.{ℕ, suc, ◌*◌, ◌/◌, ◌^◌, List, [], ◌∷◌, Bool, not, Option, Some, None}
use Rattle.std.specs.List.{list_any, zip}
use Rattle.std.specs.Option.{option_map}
use Rattle.rules.specs.Words.{near, found}
use Rattle.calls.specs.Inspect.{unbalanced_number}
use Rattle.tally.specs.Tally.{flow_cells}
use Rattle.balance.specs.declared.Block.{Block}

-- Two lists have numbers at one place that differ by more than 1.
abbrev pub any_far : List ℕ → List ℕ → Bool
any_far a b = list_any (λ p. not (near 1 p.0 p.1)) (zip a b)

-- The first unbalanced block of those at a depth below the whole frame.
abbrev pub block_at : ℕ → ℕ → List ℕ → List ℕ → ℕ → Option Block
block_at ports slots list entries t =
    option_map (λ b. record { slot = suc (b * (slots / 2 ^ t)); size = slots / 2 ^ t })
    (found (unbalanced_number (flow_cells list) ports list entries (slots / 2 ^ suc t)) 0 (2 ^ t))

-- A block as a fault's numbers, and 0 where there is none.
abbrev pub block_numbers : Option Block → List ℕ
block_numbers None = 0 ∷ []
block_numbers (Some b) = 104 ∷ b.slot ∷ b.size ∷ []
