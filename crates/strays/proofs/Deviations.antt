-- The deviation: no load strays further, and one load strays as far.
use Prim.Native.Nat.{ℕ, suc, zero, ◌+◌, ◌-◌, ◌*◌, ◌/◌, ◌^◌, ◌≤◌, ◌<◌}
use mathlib.Core.Path.{◌≡◌, refl, ap, ap₂, subst, sym, ◌∙◌}
use mathlib.Core.Logic.{inl, inr}
use native.Mathlib.Nat.{mul-le-mul_left}
use native.Mathlib.Omega.{arith}
use native.Mathlib.Decide.{dec_le}
use lib.Pow.{pow-add}
use Rattle.rules.specs.Words.{Near}
use Rattle.rules.specs.Frames.{Block, whole, front, back}
use Rattle.rules.proofs.Blocks.{block_fits, block_one, Part, block_part}
use Rattle.rules.proofs.Levels.{double}
use Rattle.strays.specs.Stray.{earliest, stray}
use Rattle.strays.specs.Deviation.{deviation}
use Rattle.strays.specs.Forms.{WithinDeviation, DeviationReached}
use Rattle.strays.proofs.Earliest.{earliest_none, earliest_all, earliest_near, earliest_far}
use Rattle.strays.proofs.Strays.{stray_has, stray_most}

-- ---- the numbers
-- with each halving twice as much at least, so that in cells it rises, and by a cell at most
pub deviation_rises : (d : ℕ) → (2 * deviation d ≤ deviation (suc d)) × (deviation (suc d) ≤ 2 * deviation d + 2 ^ suc d)
unfolding deviation
deviation_rises zero = (omega arith, omega arith)
deviation_rises (suc d) = let r = deviation_rises d in (omega arith, omega (arith, double (suc d)))

-- at most (2 k + 1) / 6 cells
pub deviation_most : (k : ℕ) → 6 * deviation k ≤ (2 * k + 1) * 2 ^ k
unfolding deviation
deviation_most zero = omega arith
deviation_most (suc zero) = omega arith
deviation_most (suc (suc k)) =
    let n = 2 ^ k in
    let one : 2 ^ suc k ≡ 2 * n = double k in
    let two : 2 ^ suc (suc k) ≡ 4 * n = omega (arith, double (suc k)) in
    let a : 6 * deviation (suc k) ≤ (2 * suc k + 1) * (2 * n) = rw one at (deviation_most (suc k)) in
    rw (two, one) (omega (arith, deviation_most k))

-- at least half a cell from two slots on
pub deviation_least : (k : ℕ) → 2 ^ k ≤ deviation (suc k)
unfolding deviation
deviation_least zero = omega arith
deviation_least (suc k) = omega (arith, deviation_least k, (deviation_rises (suc k)).0, double k)

-- three times one is six times that before, and 2 ^ k, but for one part
pub deviation_third : (k : ℕ) → Near 1 (3 * deviation (suc k)) (6 * deviation k + 2 ^ suc k)
unfolding deviation
deviation_third zero = (omega arith, omega arith)
deviation_third (suc k) = let r = deviation_third k in let e = double (suc k) in (omega arith, omega arith)

-- in scale with a block of 2 ^ j slots, d halvings down a frame of 2 ^ (d + suc j)
deviation_next : (k j d : ℕ) → d + suc j ≡ k → 2 ^ j * deviation (suc (suc d)) ≡ 2 ^ j * deviation (suc d) + 2 ^ suc j * deviation d + 2 ^ k
unfolding deviation
deviation_next k j d e =
    let power : 2 ^ k ≡ 2 ^ j * 2 ^ suc d = ap (λ z. 2 ^ z) (omega arith) ∙ pow-add 2 j (suc d) in
    omega (arith, ap (λ z. z * deviation d) (double j))

-- ---- no load strays further
-- in the middle of a block the earliest are at most half a cell above the mean of its ends
abbrev Middle : ℕ → ℕ → ℕ → ℕ → Type 0
Middle k m start half = 2 * earliest k m (start + half) ≤ earliest k m start + earliest k m (start + half + half) + 1

middle_part : (k m start half : ℕ) → ((m start : ℕ) → Block (2 ^ k) start (2 * half) → Middle k m start half) → Part (2 ^ k) start (2 * half) → Middle (suc k) m start half
middle_part k m start half law (inl (e, g)) =
    let n = 2 ^ k in
    let x : start + half ≡ n + 0 = omega arith in
    let y : start + half + half ≡ 2 ^ suc k = omega (arith, double k) in
    omega (
      arith,
      ap (earliest (suc k) m) x,
      earliest_far k m 0,
      earliest_none k (m / 2),
      ap (earliest (suc k) m) y,
      earliest_all (suc k) m,
    )
middle_part k m start half law (inr (inl b)) =
    let l = block_fits (2 ^ k) start (2 * half) b in
    omega (
      arith,
      earliest_near k m start (omega arith),
      earliest_near k m (start + half) (omega arith),
      earliest_near k m (start + half + half) (omega arith),
      law ((m + 1) / 2) start b,
    )
middle_part k m start half law (inr (inr (t, e, b))) =
    let n = 2 ^ k in
    let x : start + half ≡ n + (t + half) = omega arith in
    let y : start + half + half ≡ n + (t + half + half) = omega arith in
    omega (
      arith,
      ap (earliest (suc k) m) e,
      ap (earliest (suc k) m) x,
      ap (earliest (suc k) m) y,
      earliest_far k m t,
      earliest_far k m (t + half),
      earliest_far k m (t + half + half),
      law (m / 2) t b,
    )

middle_early : (k m start half : ℕ) → Block (2 ^ k) start (2 * half) → Middle k m start half
middle_early zero m start half b = absurd (omega (arith, block_one start (2 * half) b))
middle_early (suc k) m start half b =
    middle_part k m start half (λ m start b. middle_early k m start half b) (block_part (2 ^ suc k) (2 ^ k) start (2 * half) (double k) b)

module _ (k m : ℕ) where
  -- the earliest of the first t slots are at most so much above their share
  abbrev Above : ℕ → ℕ → Type 0
  Above gap t = 2 ^ k * earliest k m t ≤ t * m + gap

  -- inside a block they are at most as far above it as its two ends allow, each by itself and both together
  inside_block : (j d lo hi : ℕ) → d + j ≡ k → Block (2 ^ k) lo (2 ^ j) → hi ≡ lo + 2 ^ j
      → Above (2 ^ j * deviation d) lo → Above (2 ^ j * deviation d) hi
      → 2 ^ k * earliest k m lo + 2 ^ k * earliest k m hi + 2 ^ k ≤ lo * m + hi * m + 2 ^ j * deviation (suc d)
      → (t : ℕ) → lo ≤ t → t ≤ hi → Above (deviation k) t
  inside_block zero d lo hi deep b at low high ends t from to =
      let e : deviation d ≡ deviation k = ap deviation (omega arith) in
      elim (dec_le t lo) as (λ _. Above (deviation k) t) [
        | yes h ↦ (let q : lo ≡ t = omega arith in subst (Above (deviation k)) q (omega arith))
        | no h ↦ (let q : hi ≡ t = omega arith in subst (Above (deviation k)) q (omega arith))
      ]
  inside_block (suc j) d lo hi deep b at low high ends t from to =
      let mid = lo + 2 ^ j in
      let b2 : Block (2 ^ k) lo (2 * 2 ^ j) = rw (double j) at b in
      let top : mid + 2 ^ j ≡ hi = omega (arith, double j) in
      let half = mul-le-mul_left (2 ^ k) (middle_early k m lo (2 ^ j) b2) in
      let last = ap (earliest k m) top in
      let new : 2 ^ suc j * deviation (suc d) ≡ 2 * (2 ^ j * deviation (suc d)) = omega (arith, ap (λ z. z * deviation (suc d)) (double j)) in
      let old : 2 ^ suc j * deviation d ≤ 2 ^ j * deviation (suc d)
      = omega (arith, ap (λ z. z * deviation d) (double j), mul-le-mul_left (2 ^ j) (deviation_rises d).0) in
      let next = deviation_next k j d deep in
      let middle : Above (2 ^ j * deviation (suc d)) mid = omega (arith, ap (λ z. 2 ^ k * z) last, ap (λ z. z * m) top) in
      elim (dec_le t mid) as (λ _. Above (deviation k) t) [
        | yes h ↦ inside_block j (suc d) lo mid (omega arith) (front lo (2 ^ j) b2) refl (omega arith) middle (omega (arith, ap (λ z. z * m) top)) t from h
        | no h ↦ inside_block j (suc d) mid hi (omega arith) (back lo (2 ^ j) b2) (sym top) middle (omega arith) (omega (arith, ap (λ z. z * m) top)) t (omega arith) to
      ]

pub stray_deviation : WithinDeviation
unfolding deviation
stray_deviation k m =
    let n = 2 ^ k in
    let none = ap (λ z. n * z) (earliest_none k m) in
    let all = ap (λ z. n * z) (earliest_all k m) in
    stray_most k m (deviation k) (λ t h.
    inside_block k m k 0 0 n (omega arith) whole (omega arith) (omega arith) (omega arith) (omega arith) t (omega arith) h)

-- ---- one load strays as far
-- the load: 0, 1, 1, 5, 5, 21, 21, 85, ..
unfoldable pub count : ℕ → ℕ
count zero = 0
count (suc j) = 2 ^ suc j - suc (2 * count j)

-- the slots that have the most above their share: 0, 1, 1, 3, 5, 11, 21, 43, ..
unfoldable pub edge : ℕ → ℕ
edge zero = 0
edge (suc j) = 2 ^ j - edge j

-- it does not fill the frame
pub count_less : (j : ℕ) → count j < 2 ^ j
unfolding count
count_less zero = omega arith
count_less (suc j) = omega (arith, count_less j)

-- the slots are inside the frame
edge_most : (j : ℕ) → edge j ≤ 2 ^ j
unfolding edge
edge_most zero = omega arith
edge_most (suc j) = omega (arith, edge_most j)

-- the deviation of a block by that of its half
deviation_more : (j : ℕ) → deviation (suc j) + edge j ≡ 2 * deviation j + 2 ^ j
unfolding deviation edge
deviation_more zero = omega arith
deviation_more (suc j) = omega (arith, deviation_more j, edge_most j)

-- where the slots are in the first half, and where they are in the other, by what load and slots leave of 2 ^ j
mutual
  unfolding count edge deviation

  peak : (j c e : ℕ) → c ≡ count j → e ≡ edge j → 2 ^ j * earliest j c e ≡ c * e + deviation j
  peak zero c e p q = rw (p, q) (omega (arith, earliest_none 0 0))
  peak (suc j) c e p q =
      let x = 2 ^ j - suc (count j) in
      let small = count_less j in
      let most = edge_most j in
      let c_is : c ≡ 2 * x + 1 = omega arith in
      let half : (2 * x + 1 + 1) / 2 ≡ x + 1 = omega arith in
      let near = ap (λ y. earliest (suc j) y e) c_is ∙ earliest_near j (2 * x + 1) e (omega arith) ∙ ap (λ y. earliest j y e) half in
      let r = peak_left j (x + 1) e (omega arith) (omega arith) in
      omega (arith, ap (λ y. y * earliest (suc j) c e) (double j), ap (λ y. 2 ^ j * y) near, ap (λ y. y * e) c_is, deviation_more j)

  peak_left : (j c e : ℕ) → c + count j ≡ 2 ^ j → e + edge j ≡ 2 ^ j → 2 ^ j * earliest j c e ≡ c * e + deviation j
  peak_left zero c e p q = let x : c ≡ 1 = omega arith in let y : e ≡ 1 = omega arith in rw (x, y) (omega (arith, earliest_all 0 1))
  peak_left (suc j) c e p q =
      let x = count j in
      let t = edge j in
      let small = count_less j in
      let most = edge_most j in
      let c_is : c ≡ 2 * x + 1 = omega arith in
      let e_is : e ≡ 2 ^ j + t = omega arith in
      let half : (2 * x + 1 + 1) / 2 ≡ x + 1 = omega arith in
      let other : (2 * x + 1) / 2 ≡ x = omega arith in
      let far = ap₂ (earliest (suc j)) c_is e_is ∙ earliest_far j (2 * x + 1) t ∙ ap₂ (λ y z. y + earliest j z t) half other in
      let r = peak j x t refl refl in
      omega (arith, ap (λ y. y * earliest (suc j) c e) (double j), ap (λ y. 2 ^ j * y) far, ap (λ y. y * e) c_is, ap (λ y. (2 * x + 1) * y) e_is, deviation_more j)

-- So the deviation is the stray of the load that strays the furthest.
pub worst : (k : ℕ) → stray k (count k) ≡ deviation k
worst k = omega (arith, stray_deviation k (count k), stray_has k (count k) (edge k) (edge_most k), peak k (count k) (edge k) refl refl)

pub deviation_reached : DeviationReached
deviation_reached k = (count k, omega (arith, count_less k), worst k)

-- the deviation at each k from 1 to 10
pub deviations : (deviation 1 ≡ 1) × (deviation 2 ≡ 3) × (deviation 3 ≡ 9) × (deviation 4 ≡ 23) × (deviation 5 ≡ 57)
    × (deviation 6 ≡ 135) × (deviation 7 ≡ 313) × (deviation 8 ≡ 711) × (deviation 9 ≡ 1593) × (deviation 10 ≡ 3527)
unfolding deviation
deviations = (refl, refl, refl, refl, refl, refl, refl, refl, refl, refl)
