-- The half that a count favours, by its number.
use Rattle.std.specs.Prelude.{ℕ, List, map, eqb}
use Rattle.rules.specs.Words.{if}
use Rattle.planes.specs.declared.favours.Favour as told
use Rattle.planes.specs.declared.favours.Favour.TheVariants.{Unsettled, First, Second}

-- 1 and 2 for the halves, and 0 until the count is settled.
abbrev pub favour_number : told.Favour → ℕ
favour_number Unsettled = 0
favour_number First = 1
favour_number Second = 2

-- The same for each position.
abbrev pub favour_numbers : List told.Favour → List ℕ
favour_numbers l = map favour_number l

-- The half that is not h.
abbrev pub other_half : ℕ → ℕ
other_half h = if (eqb h 1) 2 1
