-- Lists with a number for each position, and tables with one for each end of each position.
use Rattle.std.specs.Prelude.{ℕ, ◌+◌, ◌≡◌, List, length, get_or}
use Rattle.rules.specs.Flows.{End, inputs, links}
use Rattle.planes.specs.declared.ends.End as told
use Rattle.planes.specs.declared.ends.End.TheVariants.{Input, Link}

-- A list has room for all positions; and one for both ends of each.
abbrev pub Wide : List ℕ → Type 0
Wide l = length l ≡ 528

abbrev pub WideEnds : List ℕ → Type 0
WideEnds l = length l ≡ 1056

-- What a table of both ends has for a position, at the end whose places begin at `first`.
abbrev pub lookup : List ℕ → ℕ → ℕ → ℕ
lookup table first p = get_or table (first + p) 0

-- The inputs of all positions come first, and then their links.
abbrev pub first_place : End → ℕ
first_place inputs = 0
first_place links = 528

abbrev pub tabled : List ℕ → End → ℕ → ℕ
tabled table s = lookup table (first_place s)

-- The end that a function is told, and the one across from an end.
abbrev pub end_of : told.End → End
end_of Input = inputs
end_of Link = links

abbrev pub across : End → End
across inputs = links
across links = inputs
