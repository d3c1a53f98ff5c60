-- An answer as numbers, which cross where an enum does not: its number and its values, 0 for none.
use Rattle.std.specs.Prelude.{ℕ, ◌≡◌, List, ℤ, get_or}
use Rattle.calls.specs.Service.{Reply}

-- The number of an answer and its first two values, one by one.
pub record Values2 (answer : List ℕ) (number first second : ℕ) : Type 0 where
  pub number_is : number ≡ get_or answer 0 0
  pub first_is : first ≡ get_or answer 1 0
  pub second_is : second ≡ get_or answer 2 0

-- The number of an answer and its first three values.
pub record Values3 (answer : List ℕ) (number first second third : ℕ) : Type 0 where
  pub three : Values2 answer number first second
  pub third_is : third ≡ get_or answer 3 0

-- Those of a count's answer: its number, the cells and the lead.
pub record Replied (answer : Reply) (number cells : ℕ) (lead : ℤ) : Type 0 where
  pub number_is : number ≡ get_or answer.numbers 0 0
  pub cells_is : cells ≡ get_or answer.numbers 1 0
  pub lead_is : lead ≡ answer.ahead
