-- What is kept of a list: the numbers from a on that pass a test, their number, and sums over them.
use Prim.Native.Nat.{ℕ, suc, zero, ◌+◌, ◌≤◌, ◌<◌}
use mathlib.Core.Path.{◌≡◌, refl, sym, ap, ◌∙◌}
use mathlib.Core.List.{List, [], ◌∷◌, ◌++◌}
use mathlib.Core.Bool.{Bool, true, false, not}
use native.Mathlib.Omega.{arith}
use lib.ListN.{length}
use Rattle.rules.specs.Words.{if, both, bit, up_from, keep, sum_to, sum_if, Every}
use Rattle.rules.proofs.Cases.{by_bool}
use Rattle.rules.proofs.Lists.{Rising, rising_weaken}
use Rattle.rules.proofs.Sums.{sum_ext, sum_shift, sum_zero}

-- the numbers from a on, in two parts
pub up_add : (a n k : ℕ) → up_from a (n + k) ≡ up_from a n ++ up_from (a + n) k
up_add a zero k =
    let e : 0 + k ≡ k = omega arith in
    let f : a + 0 ≡ a = omega arith in
    rw (e, f)
up_add a (suc n) k =
    let e : suc n + k ≡ suc (n + k) = omega arith in
    let f : a + suc n ≡ suc a + n = omega arith in
    rw (e, f, up_add (suc a) n k)

pub keep_same : (t u : ℕ → Bool) (a n : ℕ) → ((p : ℕ) → p < a + n → t p ≡ u p) → keep t (up_from a n) ≡ keep u (up_from a n)
keep_same t u a zero f = refl
keep_same t u a (suc n) f = rw (f a (omega arith), keep_same t u (suc a) n (λ p h. f p (omega arith)))

pub keep_none : (t : ℕ → Bool) (a n : ℕ) → ((p : ℕ) → a ≤ p → p < a + n → t p ≡ false) → keep t (up_from a n) ≡ []
keep_none t a zero h = refl
keep_none t a (suc n) h = rw (h a (omega arith) (omega arith)) (keep_none t (suc a) n (λ p l k. h p (omega arith) (omega arith)))

pub keep_keep : (t u : ℕ → Bool) (l : List ℕ) → keep u (keep t l) ≡ keep (λ p. both (t p) (u p)) l
keep_keep t u [] = refl
keep_keep t u (x ∷ l) =
    by_bool (t x)
    (λ e. by_bool (u x) (λ f. rw (e, f, keep_keep t u l)) (λ f. rw (e, f, keep_keep t u l)))
    (λ e. rw (e, keep_keep t u l))

-- what is kept by tests that agree on the list
pub keep_alike : (t u : ℕ → Bool) (l : List ℕ) → Every (λ p. t p ≡ u p) l → keep t l ≡ keep u l
keep_alike t u [] al = refl
keep_alike t u (x ∷ l) al = rw (al.0, keep_alike t u l al.1)

-- what is kept of two lists, and of two stretches of numbers
keep_append : (t : ℕ → Bool) (l k : List ℕ) → keep t (l ++ k) ≡ keep t l ++ keep t k
keep_append t [] k = refl
keep_append t (x ∷ l) k = by_bool (t x) (λ e. rw (e, keep_append t l k)) (λ e. rw (e, keep_append t l k))

pub keep_add : (t : ℕ → Bool) (a n k : ℕ) → keep t (up_from a (n + k)) ≡ keep t (up_from a n) ++ keep t (up_from (a + n) k)
keep_add t a n k = ap (keep t) (up_add a n k) ∙ keep_append t (up_from a n) (up_from (a + n) k)

pub keep_most : (t : ℕ → Bool) (a n : ℕ) → length (keep t (up_from a n)) ≤ n
keep_most t a zero = omega arith
keep_most t a (suc n) = let h = keep_most t (suc a) n in by_bool (t a) (λ e. rw e (omega arith)) (λ e. rw e (omega arith))

-- what passes a test and what does not are all of a list
pub keep_parts : (t : ℕ → Bool) (l : List ℕ) → length (keep t l) + length (keep (λ p. not (t p)) l) ≡ length l
keep_parts t [] = refl
keep_parts t (x ∷ l) = let r = keep_parts t l in by_bool (t x) (λ e. rw e (omega arith)) (λ e. rw e (omega arith))

-- what is kept of the numbers from a on rises, passes, and is below the end
pub keep_rising : (t : ℕ → Bool) (a n : ℕ) → Rising a (keep t (up_from a n))
keep_rising t a zero = tt
keep_rising t a (suc n) =
    by_bool (t a) (λ e. rw e (omega arith, keep_rising t (suc a) n))
    (λ e. rw e (rising_weaken a (suc a) (keep t (up_from (suc a) n)) (omega arith) (keep_rising t (suc a) n)))

pub keep_every : (t : ℕ → Bool) (m a n : ℕ) → a + n ≤ m → Every (λ p. (t p ≡ true) × (p < m)) (keep t (up_from a n))
keep_every t m a zero h = tt
keep_every t m a (suc n) h =
    let more = keep_every t m (suc a) n (omega arith) in
    by_bool (t a) (λ e. rw e ((e, omega arith), more)) (λ e. rw e more)

-- ---- sums over what is kept
abbrev pub sum_over : (ℕ → ℕ) → List ℕ → ℕ
sum_over f [] = 0
sum_over f (p ∷ l) = f p + sum_over f l

pub over_append : (f : ℕ → ℕ) (l r : List ℕ) → sum_over f (l ++ r) ≡ sum_over f l + sum_over f r
over_append f [] r = omega arith
over_append f (p ∷ l) r = omega (arith, over_append f l r)

keep_sum : (t : ℕ → Bool) (f : ℕ → ℕ) (a n : ℕ) → sum_over f (keep t (up_from a n)) ≡ sum_to n (λ p. if (t (a + p)) (f (a + p)) 0)
keep_sum t f a zero = sym (sum_zero 0 (λ p. if (t (a + p)) (f (a + p)) 0) (λ p h. absurd (omega arith)))
keep_sum t f a (suc n) =
    let r = keep_sum t f (suc a) n in
    let z : a + 0 ≡ a = omega arith in
    let rest : sum_to n (λ p. if (t (suc a + p)) (f (suc a + p)) 0) ≡ sum_to n (λ p. if (t (a + suc p)) (f (a + suc p)) 0) =
    sum_ext n _ _ (λ p h. let e : suc a + p ≡ a + suc p = omega arith in ap (λ (q : ℕ). if (t q) (f q) 0) e) in
    by_bool (t a)
    (λ e. rw e (omega (arith, sum_shift n (λ p. if (t (a + p)) (f (a + p)) 0), first e)))
    (λ e. rw e (omega (arith, sum_shift n (λ p. if (t (a + p)) (f (a + p)) 0), first' e)))
  where
    first : t a ≡ true → if (t (a + 0)) (f (a + 0)) 0 ≡ f a
    first e = let z : a + 0 ≡ a = omega arith in rw (z, e)

    first' : t a ≡ false → if (t (a + 0)) (f (a + 0)) 0 ≡ 0
    first' e = let z : a + 0 ≡ a = omega arith in rw (z, e)

pub kept_sum : (t : ℕ → Bool) (f : ℕ → ℕ) (n : ℕ) → sum_over f (keep t (up_from 0 n)) ≡ sum_if n t f
kept_sum t f n = keep_sum t f 0 n ∙ sum_ext n _ _ (λ p h. let e : 0 + p ≡ p = omega arith in rw e)

-- how many are kept
over_ones : (l : List ℕ) → sum_over (λ p. 1) l ≡ length l
over_ones [] = refl
over_ones (x ∷ l) = omega (arith, over_ones l)

pub kept_length : (t : ℕ → Bool) (n : ℕ) → length (keep t (up_from 0 n)) ≡ sum_to n (λ p. bit (t p))
kept_length t n = sym (over_ones (keep t (up_from 0 n))) ∙ kept_sum t (λ p. 1) n
