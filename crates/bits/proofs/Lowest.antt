-- The lowest digit of a word that is 1, and the word without it.
use Prim.Native.Nat.{ℕ, suc, zero, ◌+◌, ◌-◌, ◌*◌, ◌/◌, ◌%◌, ◌^◌, ◌<◌}
use mathlib.Core.Path.{◌≡◌, refl, sym, ap, ◌∙◌}
use mathlib.Core.Logic.{◌≢◌}
use mathlib.Core.List.{List, [], ◌∷◌, map}
use mathlib.Core.Bool.{Bool}
use native.Mathlib.Omega.{arith}
use native.Mathlib.Nat.{pow-suc, min-zero}
use lib.Dec.{eqb, eqb-zero-suc, eqb-suc-zero, eqb-suc-suc}
use lib.ListN.{length}
use lib.Bits.{bit_and, and_step, and_self}
use lib.Count.{count_trailing_zeros}
use borrow.Author.Tests.{eq-eqb, ne_eqb}
use Rattle.rules.specs.Words.{if, up_from, keep, Every}
use Rattle.rules.proofs.Cases.{by_eq}
use Rattle.bits.specs.Digits.{digit, places}
use Rattle.bits.proofs.Digits.{digit_first, digit_half, if_same, if_other}

-- the word without its lowest digit
abbrev pub rest : ℕ → ℕ
rest x = bit_and x (x - 1)

-- of an odd number, and of an even one
rest_odd : (x : ℕ) → x % 2 ≡ 1 → rest x ≡ x / 2 * 2
rest_odd x e =
    let d : (x - 1) / 2 ≡ x / 2 = omega arith in
    let z : (x - 1) % 2 ≡ 0 = omega arith in
    and_step x (x - 1) ∙ rw (d, z, and_self (x / 2), min-zero (x % 2)) (omega arith)

rest_even : (x : ℕ) → 0 < x → x % 2 ≡ 0 → rest x ≡ rest (x / 2) * 2
rest_even x h e =
    let d : (x - 1) / 2 ≡ x / 2 - 1 = omega arith in
    and_step x (x - 1) ∙ rw (d, e) (omega arith)

zeros_odd : (n x : ℕ) → x % 2 ≡ 1 → count_trailing_zeros (suc n) x ≡ 0
unfolding count_trailing_zeros
zeros_odd n x e = rw e

zeros_even : (n x : ℕ) → x % 2 ≡ 0 → count_trailing_zeros (suc n) x ≡ suc (count_trailing_zeros n (x / 2))
unfolding count_trailing_zeros
zeros_even n x e = rw e

pub zeros_less : (n x : ℕ) → 0 < x → x < 2 ^ n → count_trailing_zeros n x < n
zeros_less zero x h l = absurd (omega arith)
zeros_less (suc n) x h l =
    by_eq (x % 2) 1
    (λ e. omega (arith, zeros_odd n x e))
    (λ e.
    let z : x % 2 ≡ 0 = omega arith in
    omega (arith, zeros_even n x z, zeros_less n (x / 2) (omega arith) (omega (arith, pow-suc 2 n))))

-- the lowest digit goes, and no other
pub rest_digit : (n x i : ℕ) → 0 < x → x < 2 ^ n → digit (rest x) i + if (eqb i (count_trailing_zeros n x)) 1 0 ≡ digit x i
rest_digit zero x i h l = absurd (omega arith)
rest_digit (suc n) x zero h l =
    by_eq (x % 2) 1
    (λ e. rw (zeros_odd n x e) (omega (arith, rest_odd x e, digit_first (rest x), digit_first x)))
    (λ e.
    let z : x % 2 ≡ 0 = omega arith in
    rw (zeros_even n x z, eqb-zero-suc (count_trailing_zeros n (x / 2))) (omega (arith, rest_even x h z, digit_first (rest x), digit_first x)))
rest_digit (suc n) x (suc i) h l =
    by_eq (x % 2) 1
    (λ e.
    let r = rest_odd x e in
    let half : rest x / 2 ≡ x / 2 = omega arith in
    rw (zeros_odd n x e, eqb-suc-zero i) (omega (arith, digit_half (rest x) i, digit_half x i, ap (λ (z : ℕ). digit z i) half)))
    (λ e.
    let z : x % 2 ≡ 0 = omega arith in
    let r = rest_even x h z in
    let half : rest x / 2 ≡ rest (x / 2) = omega arith in
    rw (zeros_even n x z, eqb-suc-suc i (count_trailing_zeros n (x / 2)))
    (omega (arith, digit_half (rest x) i, digit_half x i, ap (λ (y : ℕ). digit y i) half, rest_digit n (x / 2) i (omega arith) (omega (arith, pow-suc 2 n)))))

-- ---- the places of the digits
places_odd : (base n x : ℕ) → x % 2 ≡ 1 → places base (suc n) x ≡ base ∷ places (suc base) n (x / 2)
unfolding places
places_odd base n x e = rw (eq-eqb (x % 2) 1 e)

places_even : (base n x : ℕ) → x % 2 ≡ 0 → places base (suc n) x ≡ places (suc base) n (x / 2)
unfolding places
places_even base n x e = rw e

pub places_first : (base n x : ℕ) → 0 < x → x < 2 ^ n → places base n x ≡ (base + count_trailing_zeros n x) ∷ places base n (rest x)
places_first base zero x h l = absurd (omega arith)
places_first base (suc n) x h l =
    by_eq (x % 2) 1
    (λ e.
    let r = rest_odd x e in
    let half : rest x / 2 ≡ x / 2 = omega arith in
    let at : base + count_trailing_zeros (suc n) x ≡ base = omega (arith, zeros_odd n x e) in
    places_odd base n x e ∙ rw (places_even base n (rest x) (omega arith), half, at))
    (λ e.
    let z : x % 2 ≡ 0 = omega arith in
    let r = rest_even x h z in
    let half : rest x / 2 ≡ rest (x / 2) = omega arith in
    let at : base + count_trailing_zeros (suc n) x ≡ suc base + count_trailing_zeros n (x / 2) = omega (arith, zeros_even n x z) in
    places_even base n x z
    ∙ places_first (suc base) n (x / 2) (omega arith) (omega (arith, pow-suc 2 n))
    ∙ rw (places_even base n (rest x) (omega arith), half, at))

pub places_none : (base n : ℕ) → places base n 0 ≡ []
unfolding places
places_none base zero = refl
places_none base (suc n) = places_none (suc base) n

pub places_kept : (t : ℕ → Bool) (base n x : ℕ) → ((i : ℕ) → i < n → t (base + i) ≡ eqb (digit x i) 1) → places base n x ≡ keep t (up_from base n)
unfolding places
places_kept t base zero x h = refl
places_kept t base (suc n) x h =
    let here : t base ≡ eqb (x % 2) 1 = ap t (omega arith) ∙ h 0 (omega arith) ∙ ap (λ (z : ℕ). eqb z 1) (digit_first x) in
    rw (
      here,
      places_kept t (suc base) n (x / 2)
          (λ i l. ap t (omega arith) ∙ h (suc i) (omega arith) ∙ ap (λ (z : ℕ). eqb z 1) (sym (digit_half x i))),
    )

-- ---- the iterator over those places
module _ {x : ℕ} (some : x ≢ 0) (fits : x < 2 ^ 64) where
  pub ones_first : places 0 64 x ≡ count_trailing_zeros 64 x ∷ places 0 64 (rest x)
  ones_first = places_first 0 64 x (omega arith) fits ∙ ap (λ (t : ℕ). t ∷ places 0 64 (rest x)) (omega arith)

  pub ones_fewer : length (places 0 64 (rest x)) < length (places 0 64 x)
  ones_fewer = omega (arith, ap length ones_first)

-- ---- what a list of places says
places_below : (base n x : ℕ) → Every (λ p. p < base + n) (places base n x)
unfolding places
places_below base zero x = tt
places_below base (suc n) x =
    let high : suc base + n ≡ base + suc n = omega arith in
    let after : Every (λ p. p < base + suc n) (places (suc base) n (x / 2)) = rw high at (places_below (suc base) n (x / 2)) in
    by_eq (x % 2) 1
    (λ e. rw (eq-eqb (x % 2) 1 e) (omega arith, after))
    (λ e. rw (ne_eqb (x % 2) 1 e) after)

places_moved : (a base n x : ℕ) → places (a + base) n x ≡ map (λ p. a + p) (places base n x)
unfolding places
places_moved a base zero x = refl
places_moved a base (suc n) x =
    let next : suc (a + base) ≡ a + suc base = omega arith in
    let after : places (suc (a + base)) n (x / 2) ≡ map (λ p. a + p) (places (suc base) n (x / 2)) = ap (λ (b : ℕ). places b n (x / 2)) next ∙ places_moved a (suc base) n (x / 2) in
    by_eq (x % 2) 1
    (λ e. rw (eq-eqb (x % 2) 1 e) (ap (λ (l : List ℕ). (a + base) ∷ l) after))
    (λ e. rw (ne_eqb (x % 2) 1 e) after)

-- how many times a number stands in a list
many : ℕ → List ℕ → ℕ
many i [] = 0
many i (p ∷ l) = if (eqb i p) 1 0 + many i l

many_none : (i : ℕ) → many i [] ≡ 0
unfolding many
many_none i = refl

many_more : (i p : ℕ) (l : List ℕ) → many i (p ∷ l) ≡ if (eqb i p) 1 0 + many i l
unfolding many
many_more i p l = refl

many_below : (i base n x : ℕ) → i < base → many i (places base n x) ≡ 0
unfolding places
many_below i base zero x h = many_none i
many_below i base (suc n) x h =
    let after = many_below i (suc base) n (x / 2) (omega arith) in
    by_eq (x % 2) 1
    (λ e. rw (eq-eqb (x % 2) 1 e) (omega (arith, many_more i base (places (suc base) n (x / 2)), if_other i base 1 (omega arith), after)))
    (λ e. rw (ne_eqb (x % 2) 1 e) after)

many_places : (base n x i p : ℕ) → i < n → p ≡ base + i → many p (places base n x) ≡ digit x i
unfolding places
many_places base zero x i p h at = absurd (omega arith)
many_places base (suc n) x zero p h at =
    let none = many_below p (suc base) n (x / 2) (omega arith) in
    by_eq (x % 2) 1
    (λ e. rw (eq-eqb (x % 2) 1 e) (omega (arith, many_more p base (places (suc base) n (x / 2)), if_same p base 1 (omega arith), none, digit_first x)))
    (λ e. rw (ne_eqb (x % 2) 1 e) (omega (arith, none, digit_first x)))
many_places base (suc n) x (suc i) p h at =
    let after = many_places (suc base) n (x / 2) i p (omega arith) (omega arith) ∙ digit_half x i in
    by_eq (x % 2) 1
    (λ e. rw (eq-eqb (x % 2) 1 e) (omega (arith, many_more p base (places (suc base) n (x / 2)), if_other p base 1 (omega arith), after)))
    (λ e. rw (ne_eqb (x % 2) 1 e) after)

many_at : (x i : ℕ) → i < 64 → many i (places 0 64 x) ≡ digit x i
many_at x i h = many_places 0 64 x i i h (omega arith)

-- ---- a loop over the digits of a word: t comes, and then those of another word
module _ (x : ℕ) {t : ℕ} (y : ℕ) (e : places 0 64 x ≡ t ∷ places 0 64 y) where
  pub turn_below : t < 64
  turn_below = (rw e at (places_below 0 64 x)).0

  pub turn_place : (base : ℕ) → places base 64 x ≡ (base + t) ∷ places base 64 y
  turn_place base =
      let at : base ≡ base + 0 = omega arith in
      ap (λ (b : ℕ). places b 64 x) at ∙ places_moved base 0 64 x ∙ ap (map (λ p. base + p)) e
      ∙ ap (λ (l : List ℕ). (base + t) ∷ l) (sym (places_moved base 0 64 y) ∙ ap (λ (b : ℕ). places b 64 y) (sym at))

  pub turn_digit : (i : ℕ) → i < 64 → digit y i + if (eqb i t) 1 0 ≡ digit x i
  turn_digit i h = omega (arith, many_at x i h, many_at y i h, ap (many i) e, many_more i t (places 0 64 y))

-- none is left
module _ (x : ℕ) (e : places 0 64 x ≡ []) where
  pub end_place : (base : ℕ) → places base 64 x ≡ []
  end_place base =
      let at : base ≡ base + 0 = omega arith in
      ap (λ (b : ℕ). places b 64 x) at ∙ places_moved base 0 64 x ∙ ap (map (λ p. base + p)) e

  pub end_digit : (i : ℕ) → i < 64 → digit x i ≡ 0
  end_digit i h = sym (many_at x i h) ∙ ap (many i) e ∙ many_none i
