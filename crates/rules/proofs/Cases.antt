-- A goal by cases on a test, each case with the fact that the test shows.
use Prim.Native.Nat.{ℕ, suc, zero, ◌≤◌, ◌<◌}
use mathlib.Core.Path.{◌≡◌, refl, sym, ◌∙◌}
use mathlib.Core.Logic.{◌≢◌}
use mathlib.Core.Bool.{Bool, true, false, true≢false}
use native.Mathlib.Omega.{arith}
use lib.Dec.{eqb, ltb, leb}
use borrow.Author.Tests.{eqb-true, eqb-false, eq-eqb, ne_eqb, ltb-true, ltb-false, leb-true, le-leb, lt-leb}
use Rattle.rules.specs.Words.{both, bit, within, Within}

pub by_bool : {P : Type 0} (b : Bool) → (b ≡ true → P) → (b ≡ false → P) → P
by_bool true f g = f refl
by_bool false f g = g refl

pub by_eq : {P : Type 0} (a b : ℕ) → (a ≡ b → P) → (a ≢ b → P) → P
by_eq a b f g = by_bool (eqb a b) (λ e. f (eqb-true a b e)) (λ e. g (eqb-false a b e))

pub by_lt : {P : Type 0} (a b : ℕ) → (a < b → P) → (b ≤ a → P) → P
by_lt a b f g = by_bool (ltb a b) (λ e. f (ltb-true a b e)) (λ e. g (ltb-false a b e))

pub both_true : (a b : Bool) → both a b ≡ true → (a ≡ true) × (b ≡ true)
both_true true b e = (refl, e)
both_true false b e = (e, absurd (true≢false (sym e)))

pub both_false : (a b : Bool) → both a b ≡ false → a ≡ true → b ≡ true → ⊥
both_false true true e f g = true≢false e
both_false true false e f g = true≢false (sym g)
both_false false b e f g = true≢false (sym f)

pub both_yes : (a b : Bool) → a ≡ true → b ≡ true → both a b ≡ true
both_yes a b e f = rw (e, f)

-- two tests of which either holds where the other does
pub eqb_alike : (a x b y : ℕ) → (a ≡ x → b ≡ y) → (b ≡ y → a ≡ x) → eqb a x ≡ eqb b y
eqb_alike a x b y f g = by_eq a x (λ d. eq-eqb a x d ∙ sym (eq-eqb b y (f d))) (λ d. ne_eqb a x d ∙ sym (ne_eqb b y (λ k. d (g k))))

-- ---- a test as a number
pub is_yes : (x h : ℕ) → x ≡ h → bit (eqb x h) ≡ 1
is_yes x h e = rw (eq-eqb x h e)

pub is_no : (x h : ℕ) → x ≢ h → bit (eqb x h) ≡ 0
is_no x h n = rw (ne_eqb x h n)

-- ---- a range
pub within_yes : (low high n : ℕ) → low ≤ n → n ≤ high → within low high n ≡ true
within_yes low high n a b = rw (le-leb low n a, le-leb n high b)

pub within_below : (low high n : ℕ) → n < low → within low high n ≡ false
within_below low high n a = rw (lt-leb low n a)

pub within_above : (low high n : ℕ) → low ≤ n → high < n → within low high n ≡ false
within_above low high n a b = rw (le-leb low n a, lt-leb n high b)

pub within_true : (low high n : ℕ) → within low high n ≡ true → Within low high n
within_true low high n e = let b = both_true (leb low n) (leb n high) e in (leb-true low n b.0, leb-true n high b.1)

-- a number from 1 to high is the next after one below high
pub from_one : (P : ℕ → Type 0) (high n : ℕ) → Within 1 high n → ((x : ℕ) → x < high → P (suc x)) → P n
from_one P high zero w f = absurd (omega arith)
from_one P high (suc n) w f = f n w.1
