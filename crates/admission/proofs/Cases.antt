-- What is decided from some loads: outputs before links, and of a link by its own limit.
use mathlib.Core.Path.{◌≡◌, refl}
use mathlib.Core.List.{[], ◌∷◌}
use Rattle.admission.specs.Overloads.{decided}

-- in 4 slots, with 5 cells at output 2 and 3 on link 2 of output 1, whose limit is 2
output_decides : decided 4 (record { inputs = []; outputs = 0 ∷ 5 ∷ []; links = 0 ∷ 3 ∷ [] }) (4 ∷ 2 ∷ []) ≡ 6 ∷ 2 ∷ 5 ∷ []
output_decides = refl

-- without those of output 2, whose links may have 4
limit_decides : decided 4 (record { inputs = []; outputs = []; links = 0 ∷ 3 ∷ [] }) (4 ∷ 2 ∷ 4 ∷ 4 ∷ 4 ∷ 4 ∷ []) ≡ 24 ∷ 1 ∷ 2 ∷ 3 ∷ []
limit_decides = refl
