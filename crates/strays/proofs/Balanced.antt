-- Balanced counts: how many cells a run inside a block has, by the earliest of a load that the block has at least, or at most.
use Prim.Native.Nat.{ℕ, suc, zero, ◌+◌, ◌-◌, ◌*◌, ◌/◌, ◌^◌, ◌≤◌}
use mathlib.Core.Path.{◌≡◌, ap, ◌∙◌}
use native.Mathlib.Omega.{arith}
use native.Mathlib.Nat.{mul-le-mul_left}
use Rattle.rules.specs.Words.{Near}
use Rattle.rules.specs.Frames.{Block, front, back}
use Rattle.rules.proofs.Cases.{by_eq, by_lt}
use Rattle.rules.proofs.Levels.{double}
use Rattle.strays.specs.Stray.{earliest}
use Rattle.strays.proofs.Earliest.{earliest_none, earliest_all, earliest_near, earliest_far, earliest_slot, earliest_rises}

-- f is the count of what comes before each slot. The halves of a block, half slots each from slot start on, differ by at most 1.
pub record TwoHalves (f : ℕ → ℕ) (start half : ℕ) : Type 0 where
  pub first : ℕ
  pub second : ℕ
  pub first_is : f (start + half) ≡ f start + first
  pub second_is : f (start + half + half) ≡ f (start + half) + second
  pub near : Near 1 first second

abbrev pub BalancedCount : ℕ → (ℕ → ℕ) → Type 0
BalancedCount slots f = (start half : ℕ) → Block slots start (2 * half) → TwoHalves f start half

-- A run of len slots of a block of 2 ^ j with all cells, with t slots of the block before it and u behind it. Where the block has at least m
-- cells, the run has no fewer than m less the earliest of the slots before it and of those behind it; where at most m, no more than the
-- earliest of what ends with it and of what begins with it, less m.
abbrev pub RunIn : (ℕ → ℕ) → ℕ → ℕ → ℕ → ℕ → ℕ → ℕ → ℕ → Type 0
RunIn f j m all lo t len u =
    (m ≤ all → f (lo + t) + m ≤ f (lo + t + len) + earliest j m t + earliest j m u)
    × (all ≤ m → f (lo + t + len) + m ≤ f (lo + t) + earliest j m (t + len) + earliest j m (len + u))

-- one slot
slot_run : (f : ℕ → ℕ) (m all lo t len u : ℕ) → f (lo + 1) ≡ f lo + all → t + len + u ≡ 1 → RunIn f 0 m all lo t len u
slot_run f m all lo t len u is parts =
    let share = ap (λ z. z * m) parts in
    let before = earliest_slot m t (omega arith) in
    let behind = earliest_slot m u (omega arith) in
    let ends = earliest_slot m (t + len) (omega arith) in
    let begins = earliest_slot m (len + u) (omega arith) in
    by_eq len 0
    (λ e.
    let at : lo + t + len ≡ lo + t = omega arith in
    let none = ap (λ z. z * m) e in
    let same = ap f at in
    ((λ h. omega arith), λ h. omega arith))
    (λ e.
    let one : len ≡ 1 = omega arith in
    let from : lo + t ≡ lo = omega arith in
    let to : lo + t + len ≡ lo + 1 = omega arith in
    let low = ap f from in
    let high = ap f to in
    let whole = ap (λ z. z * m) one in
    ((λ h. omega arith), λ h. omega arith))

-- the halves of m, the larger first
module _ (j m : ℕ) where
  abbrev larger : ℕ
  larger = (m + 1) / 2

  abbrev smaller : ℕ
  smaller = m / 2

  rises : (t : ℕ) → t ≤ 2 ^ j → (earliest j smaller t ≤ earliest j larger t) × (earliest j larger t + smaller ≤ earliest j smaller t + larger)
  rises t h = earliest_rises j smaller larger t h (omega arith)

  -- a run in the first half, and one in the second
  first_run : (f : ℕ → ℕ) (a b lo t len u : ℕ) → Near 1 a b → t + len + u ≡ 2 ^ j
      → RunIn f j smaller a lo t len u → RunIn f j larger a lo t len u → RunIn f (suc j) m (a + b) lo t len (2 ^ j + u)
  first_run f a b lo t len u near parts low high =
      let before = earliest_near j m t (omega arith) in
      let behind = earliest_far j m u in
      let ends = earliest_near j m (t + len) (omega arith) in
      let to : len + (2 ^ j + u) ≡ 2 ^ j + (len + u) = omega arith in
      let begins = ap (earliest (suc j) m) to ∙ earliest_far j m (len + u) in
      let x = rises t (omega arith) in
      let y = rises (len + u) (omega arith) in
      ((λ h. omega (arith, low.0 (omega arith))), λ h. omega (arith, high.1 (omega arith)))

  second_run : (f : ℕ → ℕ) (a b lo t len u : ℕ) → Near 1 a b → t + len + u ≡ 2 ^ j
      → RunIn f j smaller b (lo + 2 ^ j) t len u → RunIn f j larger b (lo + 2 ^ j) t len u → RunIn f (suc j) m (a + b) lo (2 ^ j + t) len u
  second_run f a b lo t len u near parts low high =
      let from : lo + (2 ^ j + t) ≡ lo + 2 ^ j + t = omega arith in
      let before = earliest_far j m t in
      let behind = earliest_near j m u (omega arith) in
      let to : 2 ^ j + t + len ≡ 2 ^ j + (t + len) = omega arith in
      let ends = ap (earliest (suc j) m) to ∙ earliest_far j m (t + len) in
      let begins = earliest_near j m (len + u) (omega arith) in
      let x = rises u (omega arith) in
      let y = rises (t + len) (omega arith) in
      let p = ap f from in
      let q = ap (λ z. f (z + len)) from in
      ((λ h. omega (arith, low.0 (omega arith))), λ h. omega (arith, high.1 (omega arith)))

  -- one over the middle, of which `head` slots are in the first half and `tail` in the second
  over_run : (f : ℕ → ℕ) (a b lo t head tail u : ℕ) → Near 1 a b → t + head ≡ 2 ^ j → tail + u ≡ 2 ^ j
      → ((n : ℕ) → RunIn f j n a lo t head 0) → ((n : ℕ) → RunIn f j n b (lo + 2 ^ j) 0 tail u) → RunIn f (suc j) m (a + b) lo t (head + tail) u
  over_run f a b lo t head tail u near first-full second-full fore aft =
      let mid : lo + t + head ≡ lo + 2 ^ j = omega arith in
      let start : lo + 2 ^ j + 0 ≡ lo + 2 ^ j = omega arith in
      let end : lo + t + (head + tail) ≡ lo + 2 ^ j + 0 + tail = omega arith in
      let p = ap f mid in
      let q = ap f start in
      let r = ap f end in
      let before = earliest_near j m t (omega arith) in
      let behind = earliest_near j m u (omega arith) in
      let to : t + (head + tail) ≡ 2 ^ j + tail = omega arith in
      let from : head + tail + u ≡ 2 ^ j + head = omega arith in
      let ends = ap (earliest (suc j) m) to ∙ earliest_far j m tail in
      let begins = ap (earliest (suc j) m) from ∙ earliest_far j m head in
      let none : (n : ℕ) → (earliest j n 0 ≡ 0) = earliest_none j in
      let whole : (n : ℕ) → (earliest j n (t + head) ≡ n) × (earliest j n (head + 0) ≡ earliest j n head)
      × (earliest j n (0 + tail) ≡ earliest j n tail) × (earliest j n (tail + u) ≡ n)
      = λ n. (ap (earliest j n) first-full ∙ earliest_all j n, ap (earliest j n) (omega arith), ap (earliest j n) (omega arith), ap (earliest j n) second-full ∙ earliest_all j n) in
      let x = rises t (omega arith) in
      let y = rises u (omega arith) in
      let v = rises head (omega arith) in
      let w = rises tail (omega arith) in (
        (λ h. by_lt a larger
            (λ l. omega (arith, (fore smaller).0 (omega arith), (aft larger).0 (omega arith), none smaller, none larger))
            (λ l. omega (arith, (fore larger).0 (omega arith), (aft smaller).0 (omega arith), none smaller, none larger))),
        (λ h. by_lt smaller a
            (λ l. omega (arith, (fore larger).1 (omega arith), (aft smaller).1 (omega arith), whole larger, whole smaller))
            (λ l. omega (arith, (fore smaller).1 (omega arith), (aft larger).1 (omega arith), whole larger, whole smaller))),
      )

-- the law of a block
pub block_run : (slots : ℕ) (f : ℕ → ℕ) → BalancedCount slots f → (j lo all : ℕ) → Block slots lo (2 ^ j) → f (lo + 2 ^ j) ≡ f lo + all
    → (m t len u : ℕ) → t + len + u ≡ 2 ^ j → RunIn f j m all lo t len u
block_run slots f halves zero lo all block is m t len u parts = slot_run f m all lo t len u is parts
block_run slots f halves (suc j) lo all block is m t len u parts =
    let n = 2 ^ j in
    let twice = double j in
    let b2 : Block slots lo (2 * n) = rw twice at block in
    let h = halves lo n b2 in
    let a = h.first in
    let b = h.second in
    let end : lo + n + n ≡ lo + 2 ^ suc j = omega arith in
    let sum : a + b ≡ all = omega (arith, ap f end, h.first_is, h.second_is) in
    let fore : (m t len u : ℕ) → t + len + u ≡ n → RunIn f j m a lo t len u = block_run slots f halves j lo a (front lo n b2) h.first_is in
    let aft : (m t len u : ℕ) → t + len + u ≡ n → RunIn f j m b (lo + n) t len u = block_run slots f halves j (lo + n) b (back lo n b2) h.second_is in
    rw (← sum)
    (by_lt n (t + len)
    (λ l. by_lt t n
    (λ k.
    let head = n - t in
    let tail = t + len - n in
    let both : head + tail ≡ len = omega arith in
    rw both at (over_run j m f a b lo t head tail u h.near (omega arith) (omega arith) (λ x. fore x t head 0 (omega arith)) (λ x. aft x 0 tail u (omega arith))))
    (λ k.
    let s = t - n in
    let at : n + s ≡ t = omega arith in
    rw at at (second_run j m f a b lo s len u h.near (omega arith) (aft (m / 2) s len u (omega arith)) (aft ((m + 1) / 2) s len u (omega arith)))))
    (λ l.
    let v = u - n in
    let at : n + v ≡ u = omega arith in
    rw at at (first_run j m f a b lo t len v h.near (omega arith) (fore (m / 2) t len v (omega arith)) (fore ((m + 1) / 2) t len v (omega arith)))))

-- ---- by the stray
-- how far above their share the earliest of t slots may be
abbrev pub Point : ℕ → ℕ → ℕ → ℕ → Type 0
Point k m gap t = 2 ^ k * earliest k m t ≤ t * m + gap

pub at_none : (k m : ℕ) → Point k m 0 0
at_none k m = omega (arith, ap (λ z. 2 ^ k * z) (earliest_none k m))

pub at_all : (k m : ℕ) → Point k m 0 (2 ^ k)
at_all k m = omega (arith, ap (λ z. 2 ^ k * z) (earliest_all k m))

-- so the run is off by what its two ends are
pub run_off : (f : ℕ → ℕ) (k m all lo t len u n : ℕ) → RunIn f k m all lo t len u → t + len + u ≡ 2 ^ k → f (lo + t + len) ≡ f (lo + t) + n
    → (m ≤ all → (x y : ℕ) → Point k m x t → Point k m y u → len * m ≤ 2 ^ k * n + x + y)
    × (all ≤ m → (x y : ℕ) → Point k m x (t + len) → Point k m y (len + u) → 2 ^ k * n ≤ len * m + x + y)
run_off f k m all lo t len u n run parts is =
    let share = ap (λ z. z * m) parts in (
      (λ h x y p q. let r : m ≤ n + earliest k m t + earliest k m u = omega (arith, run.0 h) in omega (arith, mul-le-mul_left (2 ^ k) r)),
      (λ h x y p q. let r : n + m ≤ earliest k m (t + len) + earliest k m (len + u) = omega (arith, run.1 h) in omega (arith, mul-le-mul_left (2 ^ k) r)),
    )
