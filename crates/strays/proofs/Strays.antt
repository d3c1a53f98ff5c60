-- The stray of a load: what it is by the earliest cells, and how it goes with the load.
use Prim.Native.Nat.{ℕ, suc, zero, ◌+◌, ◌-◌, ◌*◌, ◌/◌, ◌^◌, ◌≤◌, ◌<◌}
use mathlib.Core.Path.{◌≡◌, ap, ap₂, ◌∙◌}
use native.Mathlib.Omega.{arith}
use Rattle.rules.proofs.Cases.{by_eq, by_lt}
use Rattle.rules.proofs.Levels.{double}
use Rattle.strays.specs.Stray.{earliest, largest, stray}
use Rattle.strays.specs.Forms.{Doubles, Mirrors}
use Rattle.strays.proofs.Earliest.{earliest_none, earliest_near, earliest_far, earliest_most, earliest_mirror, by_half}

-- ---- the largest of some numbers
module _ (f : ℕ → ℕ) where
  pub largest_has : (n t : ℕ) → t < n → f t ≤ largest n f
  unfolding largest
  largest_has zero t h = absurd (omega arith)
  largest_has (suc n) t h = by_eq t n (λ e. omega (arith, ap f e)) (λ e. omega (arith, largest_has n t (omega arith)))

  pub largest_most : (n b : ℕ) → ((t : ℕ) → t < n → f t ≤ b) → largest n f ≤ b
  unfolding largest
  largest_most zero b h = omega arith
  largest_most (suc n) b h = omega (arith, largest_most n b (λ t l. h t (omega arith)), h n (omega arith))

  -- it is one of them
  pub largest_is : (n : ℕ) → 1 ≤ n → (t : ℕ) × (t < n) × (f t ≡ largest n f)
  unfolding largest
  largest_is zero h = absurd (omega arith)
  largest_is (suc zero) h = (0, omega arith, omega arith)
  largest_is (suc (suc n)) h =
      let r = largest_is (suc n) (omega arith) in
      by_lt (largest (suc n) f) (f (suc n))
      (λ l. (suc n, omega arith, omega arith))
      (λ l. (r.0, omega (arith, r.1), omega (arith, r.2)))

-- ---- how far the first slots of a block of 2 ^ j with x cells get above m a slot, in parts of 1 / w of a cell
module _ (w m j x : ℕ) where
  abbrev pub furthest : ℕ
  furthest = largest (suc (2 ^ j)) (λ t. w * earliest j x t - t * m)

  -- none gets further,
  pub furthest_has : (t : ℕ) → t ≤ 2 ^ j → w * earliest j x t ≤ t * m + furthest
  furthest_has t h = omega (arith, largest_has (λ t. w * earliest j x t - t * m) (suc (2 ^ j)) t (omega arith))

  pub furthest_most : (b : ℕ) → ((t : ℕ) → t ≤ 2 ^ j → w * earliest j x t ≤ t * m + b) → furthest ≤ b
  furthest_most b h = largest_most (λ t. w * earliest j x t - t * m) (suc (2 ^ j)) b (λ t l. omega (arith, h t (omega arith)))

  -- and some as far
  pub record Peak : Type 0 where
    pub slots : ℕ
    pub most : slots ≤ 2 ^ j
    pub is : w * earliest j x slots ≡ slots * m + furthest

  pub furthest_is : Peak
  furthest_is =
      let f : ℕ → ℕ = λ t. w * earliest j x t - t * m in
      let r = largest_is f (suc (2 ^ j)) (omega arith) in
      by_lt 0 (largest (suc (2 ^ j)) f)
      (λ l. record { slots = r.0; most = omega (arith, r.1); is = omega (arith, r.2) })
      (λ l. record { slots = 0; most = omega arith; is = omega (arith, ap (λ z. w * z) (earliest_none j x)) })

-- ---- the stray
pub stray_has : (k m t : ℕ) → t ≤ 2 ^ k → 2 ^ k * earliest k m t ≤ t * m + stray k m
unfolding stray
stray_has k m = furthest_has (2 ^ k) m k m

pub stray_most : (k m b : ℕ) → ((t : ℕ) → t ≤ 2 ^ k → 2 ^ k * earliest k m t ≤ t * m + b) → stray k m ≤ b
unfolding stray
stray_most k m = furthest_most (2 ^ k) m k m

-- the slots that stray as far
pub record StrayPeak (k m : ℕ) : Type 0 where
  pub slots : ℕ
  pub most : slots ≤ 2 ^ k
  pub is : 2 ^ k * earliest k m slots ≡ slots * m + stray k m

pub stray_is : (k m : ℕ) → StrayPeak k m
unfolding stray
stray_is k m = let p = furthest_is (2 ^ k) m k m in record { slots = p.slots; most = p.most; is = p.is }

-- no cells do not stray
pub stray_none : (k : ℕ) → stray k 0 ≡ 0
stray_none k = omega (arith, stray_most k 0 0 (λ t h. let e : earliest k 0 t ≡ 0 = omega (arith, earliest_most k 0 t h) in omega (arith, ap (λ z. 2 ^ k * z) e)))

-- ---- twice the load in twice the slots
double_near : (k m t : ℕ) → t ≤ 2 ^ k → 2 ^ suc k * earliest (suc k) (2 * m) t ≡ 2 * (2 ^ k * earliest k m t)
double_near k m t h =
    let half : (2 * m + 1) / 2 ≡ m = omega arith in
    let e : earliest (suc k) (2 * m) t ≡ earliest k m t = earliest_near k (2 * m) t h ∙ ap (λ z. earliest k z t) half in
    ap₂ ◌*◌ (double k) e ∙ omega arith

double_far : (k m t : ℕ) → 2 ^ suc k * earliest (suc k) (2 * m) (2 ^ k + t) ≡ 2 * (2 ^ k * m + 2 ^ k * earliest k m t)
double_far k m t =
    let half : (2 * m + 1) / 2 ≡ m = omega arith in
    let other : 2 * m / 2 ≡ m = omega arith in
    let e : earliest (suc k) (2 * m) (2 ^ k + t) ≡ m + earliest k m t = earliest_far k (2 * m) t ∙ ap₂ (λ x y. x + earliest k y t) half other in
    ap₂ ◌*◌ (double k) e ∙ omega arith

pub stray_double : Doubles
stray_double k m =
    let p = stray_is k m in
    let below = stray_most (suc k) (2 * m) (2 * stray k m)
    (by_half (λ t. 2 ^ suc k * earliest (suc k) (2 * m) t ≤ t * (2 * m) + 2 * stray k m) k
    (λ t h. omega (arith, double_near k m t h, stray_has k m t h))
    (λ t h. omega (arith, double_far k m t, stray_has k m t h))) in
    let above = stray_has (suc k) (2 * m) p.slots (omega (arith, double k, p.most)) in
    omega (arith, double_near k m p.slots p.most, p.is)

-- ---- the load that fills the frame beside it
mirror_most : (k m n : ℕ) → m + n ≡ 2 ^ k → stray k n ≤ stray k m
mirror_most k m n full =
    stray_most k n (stray k m) (λ t h.
    let u = 2 ^ k - t in
    let parts : t + u ≡ 2 ^ k = omega arith in
    let e = ap (λ z. 2 ^ k * z) (earliest_mirror k m n t u full parts) in
    let a = ap (λ z. z * m) parts in
    let b = ap (λ z. t * z) full in
    omega (arith, stray_has k m u (omega arith)))

pub stray_mirror : Mirrors
stray_mirror k m n full = omega (arith, mirror_most k m n full, mirror_most k n m (omega arith))
