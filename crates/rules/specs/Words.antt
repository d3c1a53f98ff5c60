-- The few words that the other pages share: choices, sums, searches, nearness.
use Rattle.std.specs.Prelude.{ℕ, suc, zero, ◌+◌, ◌≤◌, List, [], ◌∷◌, Bool, true, false, leb, Option, Some, None}

abbrev pub if : {A : Type 0} → Bool → A → A → A
if true a b = a
if false a b = b

abbrev pub both : Bool → Bool → Bool
both true b = b
both false b = false

-- 1 for true, 0 for false
abbrev pub bit : Bool → ℕ
bit b = if b 1 0

-- n is one of low, low + 1, .., high
abbrev pub within : ℕ → ℕ → ℕ → Bool
within low high n = both (leb low n) (leb n high)

abbrev pub Within : ℕ → ℕ → ℕ → Type 0
Within low high n = (low ≤ n) × (n ≤ high)

-- a and b differ by at most gap
abbrev pub Near : ℕ → ℕ → ℕ → Type 0
Near gap a b = (a ≤ b + gap) × (b ≤ a + gap)

abbrev pub near : ℕ → ℕ → ℕ → Bool
near gap a b = both (leb a (b + gap)) (leb b (a + gap))

-- the n numbers from a on, rising
abbrev pub up_from : ℕ → ℕ → List ℕ
up_from a zero = []
up_from a (suc n) = a ∷ up_from (suc a) n

-- those of a list that pass a test, in their order
abbrev pub keep : (ℕ → Bool) → List ℕ → List ℕ
keep t [] = []
keep t (x ∷ l) = if (t x) (x ∷ keep t l) (keep t l)

-- the first of the n numbers from a on that passes a test; a + n where none does
abbrev pub first : (ℕ → Bool) → ℕ → ℕ → ℕ
first t a zero = a
first t a (suc n) = if (t a) a (first t (suc a) n)

-- the first of the n numbers from a on that passes a test, where one does
abbrev pub found : (ℕ → Bool) → ℕ → ℕ → Option ℕ
found t a zero = None
found t a (suc n) = if (t a) (Some a) (found t (suc a) n)

-- f 0 + f 1 + .. + f (n - 1)
unfoldable pub sum_to : ℕ → (ℕ → ℕ) → ℕ
sum_to zero f = 0
sum_to (suc n) f = sum_to n f + f n

-- the same of those alone that pass a test
abbrev pub sum_if : ℕ → (ℕ → Bool) → (ℕ → ℕ) → ℕ
sum_if n t f = sum_to n (λ p. if (t p) (f p) 0)

-- P holds of each of a list
abbrev pub Every : {A : Type 0} → (A → Type 0) → List A → Type 0
Every P [] = Unit {0}
Every P (x ∷ l) = P x × Every P l
