-- Sums: f 0 + .. + f (n - 1).
use Prim.Native.Nat.{ℕ, suc, zero, ◌+◌, ◌*◌, ◌≤◌, ◌<◌}
use mathlib.Core.Path.{◌≡◌, refl, ap, ap₂, sym, ◌∙◌}
use mathlib.Core.Logic.{◌≢◌}
use native.Mathlib.Nat.{add-zero, add-suc}
use native.Mathlib.Omega.{arith}
use lib.Dec.{eqb}
use borrow.Author.Tests.{eq-eqb, ne_eqb}
use Rattle.rules.specs.Words.{if, sum_to}
use Rattle.rules.proofs.Cases.{by_eq}

pub sum_none : (f : ℕ → ℕ) → sum_to 0 f ≡ 0
unfolding sum_to
sum_none f = refl

pub sum_more : (n : ℕ) (f : ℕ → ℕ) → sum_to (suc n) f ≡ sum_to n f + f n
unfolding sum_to
sum_more n f = refl

pub sum_ext : (n : ℕ) (f g : ℕ → ℕ) → ((t : ℕ) → t < n → f t ≡ g t) → sum_to n f ≡ sum_to n g
unfolding sum_to
sum_ext zero f g h = refl
sum_ext (suc n) f g h = ap₂ ◌+◌ (sum_ext n f g (λ t l. h t (omega arith))) (h n (omega arith))

-- the first term apart
pub sum_shift : (n : ℕ) (f : ℕ → ℕ) → sum_to (suc n) f ≡ f 0 + sum_to n (λ p. f (suc p))
unfolding sum_to
sum_shift zero f = omega arith
sum_shift (suc n) f = let r = sum_shift n f in omega arith

pub sum_append : (a b : ℕ) (f : ℕ → ℕ) → sum_to (a + b) f ≡ sum_to a f + sum_to b (λ t. f (a + t))
unfolding sum_to
sum_append a zero f = rw add-zero (omega arith)
sum_append a (suc b) f = rw add-suc (omega (arith, sum_append a b f))

pub sum_add : (n : ℕ) (f g : ℕ → ℕ) → sum_to n (λ t. f t + g t) ≡ sum_to n f + sum_to n g
unfolding sum_to
sum_add zero f g = omega arith
sum_add (suc n) f g = omega (arith, sum_add n f g)

pub sum_le : (n : ℕ) (f g : ℕ → ℕ) → ((t : ℕ) → t < n → f t ≤ g t) → sum_to n f ≤ sum_to n g
unfolding sum_to
sum_le zero f g h = omega arith
sum_le (suc n) f g h = omega (arith, sum_le n f g (λ t l. h t (omega arith)), h n (omega arith))

pub sum_times : (n m : ℕ) (f : ℕ → ℕ) → sum_to n (λ t. m * f t) ≡ m * sum_to n f
unfolding sum_to
sum_times zero m f = omega arith
sum_times (suc n) m f = omega (arith, sum_times n m f)

pub sum_ones : (n : ℕ) → sum_to n (λ t. 1) ≡ n
unfolding sum_to
sum_ones zero = refl
sum_ones (suc n) = omega (arith, sum_ones n)

-- a sum of terms that are at most m
pub sum_most : (n m : ℕ) (f : ℕ → ℕ) → ((t : ℕ) → t < n → f t ≤ m) → sum_to n f ≤ n * m
unfolding sum_to
sum_most zero m f h = omega arith
sum_most (suc n) m f h = omega (arith, sum_most n m f (λ t l. h t (omega arith)), h n (omega arith))

pub sum_zero : (n : ℕ) (f : ℕ → ℕ) → ((t : ℕ) → t < n → f t ≡ 0) → sum_to n f ≡ 0
unfolding sum_to
sum_zero zero f h = refl
sum_zero (suc n) f h = omega (arith, sum_zero n f (λ t l. h t (omega arith)), h n (omega arith))

-- a sum of which one term alone is not 0
pub sum_one : (n x : ℕ) (f : ℕ → ℕ) → x < n → ((t : ℕ) → t < n → t ≢ x → f t ≡ 0) → sum_to n f ≡ f x
unfolding sum_to
sum_one zero x f l h = absurd (omega arith)
sum_one (suc n) x f l h =
    by_eq n x
    (λ e. omega (arith, sum_zero n f (λ t k. h t (omega arith) (omega arith)), ap f e))
    (λ e. omega (arith, sum_one n x f (omega arith) (λ t k. h t (omega arith)), h n (omega arith) e))

-- a term is at most the sum, and two terms are
pub sum_has : (n x : ℕ) (f : ℕ → ℕ) → x < n → f x ≤ sum_to n f
unfolding sum_to
sum_has zero x f l = absurd (omega arith)
sum_has (suc n) x f l = by_eq n x (λ e. omega (arith, ap f e)) (λ e. omega (arith, sum_has n x f (omega arith)))

pub sum_has_two : (n x y : ℕ) (f : ℕ → ℕ) → x < n → y < n → x ≢ y → f x + f y ≤ sum_to n f
unfolding sum_to
sum_has_two zero x y f l k d = absurd (omega arith)
sum_has_two (suc n) x y f l k d =
    by_eq n x
    (λ e. omega (arith, ap f e, sum_has n y f (omega arith)))
    (λ e. by_eq n y
    (λ g. omega (arith, ap f g, sum_has n x f (omega arith)))
    (λ g. omega (arith, sum_has_two n x y f (omega arith) (omega arith) d)))

-- sums of sums, in either order
pub sum_swap : (n m : ℕ) (f : ℕ → ℕ → ℕ) → sum_to n (λ s. sum_to m (λ t. f s t)) ≡ sum_to m (λ t. sum_to n (λ s. f s t))
unfolding sum_to
sum_swap zero m f = sym (sum_zero m (λ t. 0) (λ t l. refl))
sum_swap (suc n) m f =
    ap (λ z. z + sum_to m (λ t. f n t)) (sum_swap n m f) ∙ sym (sum_add m (λ t. sum_to n (λ s. f s t)) (λ t. f n t))

-- over the rows of a rectangle, the cells of it end to end
pub sum_rows : (n w : ℕ) (f : ℕ → ℕ) → sum_to (n * w) f ≡ sum_to n (λ s. sum_to w (λ i. f (s * w + i)))
unfolding sum_to
sum_rows zero w f = let e : 0 * w ≡ 0 = omega arith in ap (λ z. sum_to z f) e
sum_rows (suc n) w f =
    let e : suc n * w ≡ n * w + w = omega arith in
    ap (λ z. sum_to z f) e ∙ sum_append (n * w) w f ∙ ap (λ z. z + sum_to w (λ i. f (n * w + i))) (sum_rows n w f)

-- ---- sums that differ at one place, or at two
pub sum_at : (n x : ℕ) (f g : ℕ → ℕ) → x < n → ((u : ℕ) → u < n → u ≢ x → f u ≡ g u) → sum_to n f + g x ≡ sum_to n g + f x
sum_at n x f g h same =
    ap (λ z. sum_to n f + z) (sym (at (g x)))
    ∙ sym (sum_add n f (λ u. if (eqb u x) (g x) 0))
    ∙ sum_ext n _ _ (λ u l. by_eq u x (λ d. rw (d, eq-eqb x x refl) (omega arith)) (λ d. rw (ne_eqb u x d, same u l d)))
    ∙ sum_add n g (λ u. if (eqb u x) (f x) 0)
    ∙ ap (λ z. sum_to n g + z) (at (f x))
  where
    at : (v : ℕ) → sum_to n (λ u. if (eqb u x) v 0) ≡ v
    at v = sum_one n x (λ u. if (eqb u x) v 0) h (λ u _ d. rw (ne_eqb u x d)) ∙ rw (eq-eqb x x refl)

pub sum_two : (n x y : ℕ) (f g : ℕ → ℕ) → x < n → y < n → y ≢ x → ((u : ℕ) → u < n → u ≢ x → u ≢ y → f u ≡ g u)
    → sum_to n f + (g x + g y) ≡ sum_to n g + (f x + f y)
sum_two n x y f g hx hy apart same =
    let h : ℕ → ℕ = λ u. if (eqb u x) (f x) (g u) in
    let first = sum_at n y f h hy (λ u l d. by_eq u x (λ z. rw (z, eq-eqb x x refl)) (λ z. rw (ne_eqb u x z) (same u l z d))) in
    let second = sum_at n x h g hx (λ u l d. rw (ne_eqb u x d)) in
    let at_y : h y ≡ g y = rw (ne_eqb y x apart) in
    let at_x : h x ≡ f x = rw (eq-eqb x x refl) in
    omega arith
