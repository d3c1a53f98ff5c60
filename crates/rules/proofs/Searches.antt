-- A search: the first of some numbers that passes a test.
use Prim.Native.Nat.{ℕ, suc, zero, ◌+◌, ◌≤◌, ◌<◌}
use mathlib.Core.Path.{◌≡◌, refl, sym, ◌∙◌}
use mathlib.Core.Bool.{Bool, true, false}
use native.Mathlib.Omega.{arith}
use Rattle.rules.specs.Words.{first}
use Rattle.rules.proofs.Cases.{by_bool, by_eq}

module _ (t : ℕ → Bool) where
  pub first_low : (n a : ℕ) → a ≤ first t a n
  first_low zero a = omega arith
  first_low (suc n) a = by_bool (t a) (λ e. rw e (omega arith)) (λ e. rw e (omega (arith, first_low n (suc a))))

  pub first_high : (n a : ℕ) → first t a n ≤ a + n
  first_high zero a = omega arith
  first_high (suc n) a = by_bool (t a) (λ e. rw e (omega arith)) (λ e. rw e (omega (arith, first_high n (suc a))))

  -- what it finds passes
  pub first_found : (n a : ℕ) → first t a n < a + n → t (first t a n) ≡ true
  first_found zero a = λ h. absurd (omega arith)
  first_found (suc n) a =
      by_bool (t a) (λ e. rw e (λ h. e)) (λ e. rw e (λ h. first_found n (suc a) (omega arith)))

  -- what stands before it fails
  pub first_before : (n a x : ℕ) → a ≤ x → x < first t a n → t x ≡ false
  first_before zero a x l = λ h. absurd (omega arith)
  first_before (suc n) a x l =
      by_bool (t a) (λ e. rw e (λ h. absurd (omega arith)))
      (λ e. rw e (λ h. by_eq x a (λ d. rw d e) (λ d. first_before n (suc a) x (omega arith) h)))

  -- x passes, and nothing before it does
  pub first_is : (n a x : ℕ) → a ≤ x → x < a + n → t x ≡ true → ((y : ℕ) → a ≤ y → y < x → t y ≡ false) → first t a n ≡ x
  first_is zero a x l h e b = absurd (omega arith)
  first_is (suc n) a x l h e b =
      by_eq x a (λ d. rw (rw d at e) (sym d))
      (λ d. rw (b a (omega arith) (omega arith)) (first_is n (suc a) x (omega arith) (omega arith) e (λ y k. b y (omega arith))))

  -- none passes
  pub first_none : (n a : ℕ) → ((y : ℕ) → a ≤ y → y < a + n → t y ≡ false) → first t a n ≡ a + n
  first_none zero a b = omega arith
  first_none (suc n) a b =
      rw (b a (omega arith) (omega arith)) (first_none n (suc a) (λ y k h. b y (omega arith) (omega arith)) ∙ omega arith)

-- two tests that agree find the same
pub first_ext : (s t : ℕ → Bool) (n a : ℕ) → ((y : ℕ) → a ≤ y → y < a + n → s y ≡ t y) → first s a n ≡ first t a n
first_ext s t zero a h = refl
first_ext s t (suc n) a h =
    let e : s a ≡ t a = h a (omega arith) (omega arith) in
    by_bool (t a)
    (λ b. rw (e, b))
    (λ b. rw (e, b) (first_ext s t n (suc a) (λ y l k. h y (omega arith) (omega arith))))

-- ---- a search on its way: of the n numbers from a on, those before q fail
pub record Passed (t : ℕ → Bool) (a n q : ℕ) : Type 0 where
  pub low : a ≤ q
  pub high : q ≤ a + n
  pub none : (y : ℕ) → a ≤ y → y < q → t y ≡ false

pub passed_start : (t : ℕ → Bool) (a n : ℕ) → Passed t a n a
passed_start t a n = record { low = omega arith; high = omega arith; none = λ y l h. absurd (omega arith) }

pub passed_on : {t : ℕ → Bool} {a n q : ℕ} → Passed t a n q → q < a + n → t q ≡ false → Passed t a n (q + 1)
passed_on {t} {a} {n} {q} p h e =
    record { low = (let l = p.low in omega arith); high = omega arith; none = λ y l k. by_eq y q (λ d. rw d e) (λ d. p.none y l (omega arith)) }

pub passed_found : {t : ℕ → Bool} {a n q : ℕ} → Passed t a n q → q < a + n → t q ≡ true → q ≡ first t a n
passed_found {t} {a} {n} {q} p h e = sym (first_is t n a q p.low h e p.none)

pub passed_end : {t : ℕ → Bool} {a n q : ℕ} → Passed t a n q → a + n ≤ q → q ≡ first t a n
passed_end {t} {a} {n} {q} p h =
    let k = p.high in
    let e : q ≡ a + n = omega arith in
    e ∙ sym (first_none t n a (λ y l g. p.none y l (omega arith)))

pub passed_done : {t : ℕ → Bool} {n q : ℕ} → Passed t 0 n q → n ≤ q → q ≡ first t 0 n
passed_done p h = passed_end p (omega arith)
