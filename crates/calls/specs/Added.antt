-- What Add answers, as numbers.
use Rattle.std.specs.Prelude.{ℕ, List, [], ◌∷◌, Option, Some, None, Result, Ok, Err}
use Rattle.calls.specs.Refusals.{refusal}
use Rattle.calls.specs.declared.Added.{Added}
use Rattle.calls.specs.declared.Refusal.{Refusal}

-- The other slot's number, 0 where no other slot changed.
abbrev pub other_number : Option ℕ → ℕ
other_number (Some slot) = slot
other_number None = 0

-- Acceptance's is 0, the two slots and the cells moved, a refusal's its own numbers.
abbrev pub add_numbers : Result Added Refusal → List ℕ
add_numbers (Ok a) = 0 ∷ a.slot ∷ other_number a.other ∷ a.moved ∷ []
add_numbers (Err r) = refusal r
