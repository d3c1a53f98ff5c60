-- Texts: words, decimal numbers, lines, and the numbers that stand in a line.
use Rattle.std.specs.Prelude.{ℕ, suc, zero, ◌+◌, ◌-◌, ◌*◌, ◌/◌, ◌%◌, List, [], ◌∷◌, ◌++◌, Bool, true, false, eqb, ltb, get_or}
use Prim.Native.String.{String}
use Prim.Native.String as string
use Prim.Native.Char.{code}
use Rattle.rules.specs.Words.{if, both, within}

-- The bytes of a text.
abbrev pub text : String → List ℕ
text string.[] = []
text (string.◌∷◌ c s) = code c ∷ text s

-- A number in decimal digits, without leading zeros.
unfoldable pub digits : ℕ → ℕ → List ℕ
digits zero n = []
digits (suc more) n = elim (ltb n 10) [ true ↦ (48 + n) ∷ [] | false ↦ digits more (n / 10) ++ ((48 + n % 10) ∷ []) ]

abbrev pub decimal : ℕ → List ℕ
decimal n = digits (suc n) n

-- The lines of some bytes, each with its byte 10; what is left at the end without it is a line too, of no form.
abbrev pub on_first : ℕ → List (List ℕ) → List (List ℕ)
on_first b [] = (b ∷ []) ∷ []
on_first b (l ∷ ls) = (b ∷ l) ∷ ls

unfoldable pub lines : List ℕ → List (List ℕ)
lines [] = []
lines (b ∷ bytes) = elim (eqb b 10) [ true ↦ (b ∷ []) ∷ lines bytes | false ↦ on_first b (lines bytes) ]

-- The numbers that stand in a line, from the left: the values of its stretches of digits. v is the value so far of the
-- stretch that the bytes continue, where inside is true.
unfoldable pub numbers_from : Bool → ℕ → List ℕ → List ℕ
numbers_from inside v [] = if inside (v ∷ []) []
numbers_from inside v (b ∷ line) =
    elim (within 48 57 b) [
      | true ↦ numbers_from true (10 * v + (b - 48)) line
      | false ↦ (let rest = numbers_from false 0 line in if inside (v ∷ rest) rest)
    ]

abbrev pub number_in : ℕ → List ℕ → ℕ
number_in n line = get_or (numbers_from false 0 line) n 0

abbrev pub same : List ℕ → List ℕ → Bool
same [] [] = true
same [] (y ∷ m) = false
same (x ∷ l) [] = false
same (x ∷ l) (y ∷ m) = both (eqb x y) (same l m)
