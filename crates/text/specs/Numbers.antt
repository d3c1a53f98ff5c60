-- What some bytes begin with: a digit, a word and a number up to a limit, a line of one number.
use Rattle.std.specs.Prelude.{ℕ, ◌+◌, ◌≤◌, ◌≡◌, List, ◌∷◌, ◌++◌, false, get_or, Some, None}
use Rattle.std.specs.declared.option.Option.{Option}
use Rattle.rules.specs.Words.{within}
use Rattle.sheets.specs.Text.{text, decimal}
use Rattle.text.specs.declared.NumberRead.{NumberRead}

-- The bytes begin with a digit.
pub record Digit (s : List ℕ) (d : ℕ) (rest : List ℕ) : Type 0 where
  pub stands : s ≡ (48 + d) ∷ rest
  pub low : d ≤ 9

-- The bytes begin with no digit.
abbrev pub NoDigit : List ℕ → Type 0
NoDigit s = within 48 57 (get_or s 0 0) ≡ false

abbrev pub DigitOf : List ℕ → Option NumberRead → Type 0
DigitOf s None = NoDigit s
DigitOf s (Some r) = Digit s r.value r.rest.now

-- A limit of numbers: one digit is never above it, and ten times it is a number.
pub record Limit (most : ℕ) : Type 0 where
  pub one_digit : 9 ≤ most
  pub million : most ≤ 1000000

-- A number ends before some bytes: 0 always does, since no other number begins with it, and any other where no digit stands there.
abbrev pub Ended : ℕ → List ℕ → Type 0
Ended v rest = 1 ≤ v → NoDigit rest

-- The bytes begin with a word and the number v, which is at most the limit and ends before the rest; they begin with no other number.
pub record Number (most : ℕ) (before s : List ℕ) (v : ℕ) (rest : List ℕ) : Type 0 where
  pub stands : s ≡ before ++ (decimal v ++ rest)
  pub low : v ≤ most
  pub ended : Ended v rest
  pub only : (u : ℕ) (t : List ℕ) → u ≤ most → Ended u t → s ≡ before ++ (decimal u ++ t) → u ≡ v

pub record NoNumber (most : ℕ) (before s : List ℕ) : Type 0 where
  pub never : (u : ℕ) (t : List ℕ) → u ≤ most → Ended u t → s ≡ before ++ (decimal u ++ t) → ⊥

abbrev pub NumberOf : ℕ → List ℕ → List ℕ → Option NumberRead → Type 0
NumberOf most before s None = NoNumber most before s
NumberOf most before s (Some r) = Number most before s r.value r.rest.now

-- The line of a word and one number.
abbrev pub one_line : List ℕ → ℕ → List ℕ
one_line before v = before ++ (decimal v ++ text ")\n")

-- The bytes begin with the line of a word and the number v, which is at most the limit.
pub record Line (most : ℕ) (before s : List ℕ) (v : ℕ) (rest : List ℕ) : Type 0 where
  pub stands : s ≡ one_line before v ++ rest
  pub low : v ≤ most

pub record NoLine (most : ℕ) (before s : List ℕ) : Type 0 where
  pub never : (u : ℕ) (t : List ℕ) → u ≤ most → s ≡ one_line before u ++ t → ⊥

abbrev pub LineOf : ℕ → List ℕ → List ℕ → Option NumberRead → Type 0
LineOf most before s None = NoLine most before s
LineOf most before s (Some r) = Line most before s r.value r.rest.now
