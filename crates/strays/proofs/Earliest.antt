-- The earliest cells of a block: of the halves that balance allows, the larger first is never less.
use Prim.Native.Nat.{ℕ, suc, zero, ◌+◌, ◌-◌, ◌*◌, ◌/◌, ◌%◌, ◌^◌, ◌≤◌, ◌<◌}
use mathlib.Core.Path.{◌≡◌, refl, ap, ap₂, ◌∙◌}
use native.Mathlib.Omega.{arith}
use native.Mathlib.Nat.{add-zero, add-suc, mul-le-mul_left}
use lib.Pow.{pow_pos}
use borrow.Author.Tests.{eq-eqb, ne_eqb, le-leb, lt-leb}
use Rattle.rules.proofs.Cases.{by_eq, by_lt}
use Rattle.rules.proofs.Levels.{double}
use Rattle.strays.specs.Stray.{earliest}

-- ---- no slots, and all of them
pub earliest_none : (k m : ℕ) → earliest k m 0 ≡ 0
unfolding earliest
earliest_none zero m = refl
earliest_none (suc k) m = rw (le-leb 0 (2 ^ k) (omega arith)) (earliest_none k ((m + 1) / 2))

-- the first half
pub earliest_near : (k m t : ℕ) → t ≤ 2 ^ k → earliest (suc k) m t ≡ earliest k ((m + 1) / 2) t
unfolding earliest
earliest_near k m t h = rw (le-leb t (2 ^ k) h)

earliest_later : (k m t : ℕ) → 2 ^ k < t → earliest (suc k) m t ≡ (m + 1) / 2 + earliest k (m / 2) (t - 2 ^ k)
unfolding earliest
earliest_later k m t h = rw (lt-leb t (2 ^ k) h)

pub earliest_all : (k m : ℕ) → earliest k m (2 ^ k) ≡ m
unfolding earliest
earliest_all zero m = refl
earliest_all (suc k) m =
    let e : 2 ^ suc k - 2 ^ k ≡ 2 ^ k = omega (arith, double k) in
    earliest_later k m (2 ^ suc k) (omega (arith, double k, pow_pos k))
    ∙ ap (λ z. (m + 1) / 2 + earliest k (m / 2) z) e ∙ omega (arith, earliest_all k (m / 2))

-- and the other
pub earliest_far : (k m t : ℕ) → earliest (suc k) m (2 ^ k + t) ≡ (m + 1) / 2 + earliest k (m / 2) t
earliest_far k m zero =
    ap (earliest (suc k) m) (add-zero (2 ^ k)) ∙ earliest_near k m (2 ^ k) (omega arith) ∙ omega (arith, earliest_all k ((m + 1) / 2), earliest_none k (m / 2))
earliest_far k m (suc t) =
    let e : 2 ^ k + suc t - 2 ^ k ≡ suc t = omega arith in
    earliest_later k m (2 ^ k + suc t) (omega arith) ∙ ap (λ z. (m + 1) / 2 + earliest k (m / 2) z) e

-- every number of slots up to 2 ^ (k + 1) is in the one half or in the other
pub by_half : (P : ℕ → Type 0) (k : ℕ) → ((t : ℕ) → t ≤ 2 ^ k → P t) → ((t : ℕ) → t ≤ 2 ^ k → P (2 ^ k + t)) → (t : ℕ) → t ≤ 2 ^ suc k → P t
by_half P k near far t h =
    by_lt (2 ^ k) t
    (λ l. let e : 2 ^ k + (t - 2 ^ k) ≡ t = omega arith in rw e at (far (t - 2 ^ k) (omega (arith, double k))))
    (λ l. near t l)

-- one slot
pub earliest_slot : (m t : ℕ) → t ≤ 1 → earliest 0 m t ≡ t * m
earliest_slot m zero h = omega (arith, earliest_none 0 m)
earliest_slot m (suc zero) h = omega (arith, earliest_all 0 m)
earliest_slot m (suc (suc t)) h = absurd (omega arith)

-- ---- one cell more is never less in the first slots, and at most one more
-- of one cell more the one half or the other has one more
one_more : (P : ℕ → ℕ → Type 0) (m : ℕ) → P (suc ((m + 1) / 2)) (m / 2) → P ((m + 1) / 2) (suc (m / 2)) → P ((suc m + 1) / 2) (suc m / 2)
one_more P m p q =
    by_eq (m % 2) 0
    (λ e.
    let a : suc ((m + 1) / 2) ≡ (suc m + 1) / 2 = omega arith in
    let b : m / 2 ≡ suc m / 2 = omega arith in
    rw (a, b) at p)
    (λ e.
    let a : (m + 1) / 2 ≡ (suc m + 1) / 2 = omega arith in
    let b : suc (m / 2) ≡ suc m / 2 = omega arith in
    rw (a, b) at q)

abbrev pub Steps : ℕ → ℕ → Type 0
Steps a b = (a ≤ b) × (b ≤ suc a)

pub earliest_step : (k m t : ℕ) → t ≤ 2 ^ k → Steps (earliest k m t) (earliest k (suc m) t)
unfolding earliest
earliest_step zero m t h =
    by_eq t 0
    (λ e. rw (eq-eqb t 0 e) (omega arith, omega arith))
    (λ e. rw (ne_eqb t 0 e) (omega arith, omega arith))
earliest_step (suc k) m t h =
    by_half (λ t. Steps (earliest (suc k) m t) (earliest (suc k) (suc m) t)) k
    (λ t l. rw (earliest_near k m t l, earliest_near k (suc m) t l)
    (one_more (λ x y. Steps (earliest k ((m + 1) / 2) t) (earliest k x t)) m (earliest_step k ((m + 1) / 2) t l) (omega arith, omega arith)))
    (λ t l. rw (earliest_far k m t, earliest_far k (suc m) t)
    (one_more (λ x y. Steps ((m + 1) / 2 + earliest k (m / 2) t) (x + earliest k y t)) m (omega arith, omega arith)
    (let r = earliest_step k (m / 2) t l in (omega arith, omega arith))))
    t h

-- so of so many cells more at least none are there and at most all of them
rises_by : (k m t x : ℕ) → t ≤ 2 ^ k → (earliest k m t ≤ earliest k (m + x) t) × (earliest k (m + x) t ≤ earliest k m t + x)
rises_by k m t zero h = rw (add-zero m) (omega arith, omega arith)
rises_by k m t (suc x) h =
    let r = rises_by k m t x h in
    let s = earliest_step k (m + x) t h in
    rw (add-suc m x) (omega arith, omega arith)

pub earliest_rises : (k m n t : ℕ) → t ≤ 2 ^ k → m ≤ n → (earliest k m t ≤ earliest k n t) × (earliest k n t + m ≤ earliest k m t + n)
earliest_rises k m n t h l =
    let e : m + (n - m) ≡ n = omega arith in
    let r = rises_by k m t (n - m) h in
    (omega (arith, ap (λ z. earliest k z t) e, r.0), omega (arith, ap (λ z. earliest k z t) e, r.1))

-- ---- the first slots have no more than all, and never less than their share
pub earliest_most : (k m t : ℕ) → t ≤ 2 ^ k → earliest k m t ≤ m
earliest_most zero m t h = by_eq t 0 (λ e. omega (arith, ap (earliest 0 m) e, earliest_none 0 m)) (λ e. let x : t ≡ 1 = omega arith in omega (arith, ap (earliest 0 m) x, earliest_all 0 m))
earliest_most (suc k) m t h =
    by_half (λ t. earliest (suc k) m t ≤ m) k
    (λ t l. omega (arith, earliest_near k m t l, earliest_most k ((m + 1) / 2) t l))
    (λ t l. omega (arith, earliest_far k m t, earliest_most k (m / 2) t l))
    t h

pub earliest_least : (k m t : ℕ) → t ≤ 2 ^ k → t * m ≤ 2 ^ k * earliest k m t
earliest_least zero m t h = omega (arith, earliest_slot m t h)
earliest_least (suc k) m t h =
    let n = 2 ^ k in
    let a = (m + 1) / 2 in
    let b = m / 2 in
    by_half (λ t. t * m ≤ 2 ^ suc k * earliest (suc k) m t) k
    (λ t l.
    let e : 2 ^ suc k * earliest (suc k) m t ≡ 2 * (n * earliest k a t) = ap₂ ◌*◌ (double k) (earliest_near k m t l) ∙ omega arith in
    let half : m ≤ 2 * a = omega arith in
    omega (arith, earliest_least k a t l, mul-le-mul_left t half))
    (λ t l.
    let e : 2 ^ suc k * earliest (suc k) m (n + t) ≡ 2 * (n * a + n * earliest k b t) = ap₂ ◌*◌ (double k) (earliest_far k m t) ∙ omega arith in
    by_eq a b
    (λ g.
    let is : m ≡ 2 * b = omega arith in
    omega (arith, earliest_least k b t l, ap (λ z. n * z) g, ap (λ z. n * z) is, ap (λ z. t * z) is))
    (λ g.
    let is : m ≡ 2 * b + 1 = omega arith in
    let up : a ≡ b + 1 = omega arith in
    omega (arith, earliest_least k b t l, ap (λ z. n * z) up, ap (λ z. n * z) is, ap (λ z. t * z) is)))
    t h

-- ---- the load that fills the frame beside it: what its first slots have at most is what the other leaves them at least
pub earliest_mirror : (k m n t u : ℕ) → m + n ≡ 2 ^ k → t + u ≡ 2 ^ k → earliest k n t + m ≡ t + earliest k m u
earliest_mirror zero m n t u full parts =
    by_eq t 0
    (λ e. let x : u ≡ 2 ^ 0 = omega arith in omega (arith, ap (earliest 0 n) e, earliest_none 0 n, ap (earliest 0 m) x, earliest_all 0 m))
    (λ e.
    let x : t ≡ 2 ^ 0 = omega arith in
    let y : u ≡ 0 = omega arith in
    omega (arith, ap (earliest 0 n) x, earliest_all 0 n, ap (earliest 0 m) y, earliest_none 0 m))
earliest_mirror (suc k) m n t u full parts =
    let h = 2 ^ k in
    let twice = double k in
    by_lt h t
    (λ l.
    let s = t - h in
    let to : h + s ≡ t = omega arith in
    let r = earliest_mirror k ((m + 1) / 2) (n / 2) s u (omega arith) (omega arith) in
    omega (arith, ap (earliest (suc k) n) to, earliest_far k n s, earliest_near k m u (omega arith)))
    (λ l.
    let s = h - t in
    let to : h + s ≡ u = omega arith in
    let r = earliest_mirror k (m / 2) ((n + 1) / 2) t s (omega arith) (omega arith) in
    omega (arith, ap (earliest (suc k) m) to, earliest_far k m s, earliest_near k n t l))
