-- Loads whose stray has a closed form: a power of two, and the sum of two.
use Prim.Native.Nat.{ℕ, suc, zero, ◌+◌, ◌-◌, ◌*◌, ◌/◌, ◌^◌, ◌≤◌}
use mathlib.Core.Path.{◌≡◌, ap, ap₂, ◌∙◌}
use native.Mathlib.Omega.{arith}
use native.Mathlib.Nat.{zero-add, mul-le-mul_left, mul-le-mul_right}
use lib.Pow.{pow_pos, pow-add}
use Rattle.rules.proofs.Cases.{by_eq, by_lt}
use Rattle.rules.proofs.Levels.{double}
use Rattle.strays.specs.Stray.{earliest, stray}
use Rattle.strays.specs.Forms.{OfPower, OfTwoPowers}
use Rattle.strays.proofs.Earliest.{earliest_none, earliest_all, earliest_near, earliest_far, earliest_step, earliest_most}
use Rattle.strays.proofs.Strays.{stray_has, stray_most, stray_double}

-- ---- a load 2 ^ a times as large in 2 ^ a times the slots
pub stray_scale : (a k m : ℕ) → stray (a + k) (2 ^ a * m) ≡ 2 ^ a * stray k m
stray_scale zero k m = let e : 2 ^ 0 * m ≡ m = omega arith in ap₂ stray (zero-add k) e ∙ omega arith
stray_scale (suc a) k m =
    let e : suc a + k ≡ suc (a + k) = omega arith in
    let f : 2 ^ suc a * m ≡ 2 * (2 ^ a * m) = omega (arith, ap (λ z. z * m) (double a)) in
    ap₂ stray e f ∙ stray_double (a + k) (2 ^ a * m) ∙ omega (arith, stray_scale a k m, ap (λ z. z * stray k m) (double a))

-- ---- one cell
pub earliest_one : (k : ℕ) → earliest k 1 1 ≡ 1
earliest_one zero = earliest_all 0 1
earliest_one (suc k) = earliest_near k 1 1 (pow_pos k) ∙ earliest_one k

pub stray_one : (k : ℕ) → stray k 1 + 1 ≡ 2 ^ k
stray_one k =
    let p = pow_pos k in
    let above = stray_has k 1 1 p in
    let below = stray_most k 1 (2 ^ k - 1) (λ t h.
    by_eq t 0
    (λ e. omega (arith, ap (λ z. 2 ^ k * z) (ap (earliest k 1) e ∙ earliest_none k 1)))
    (λ e. omega (arith, mul-le-mul_left (2 ^ k) (earliest_most k 1 t h)))) in
    omega (arith, ap (λ z. 2 ^ k * z) (earliest_one k))

-- a power of two, 2 ^ a in 2 ^ (a + k) slots: one cell, less 2 ^ a parts
pub stray_power : OfPower
stray_power a k =
    let e : 2 ^ a * 1 ≡ 2 ^ a = omega arith in
    omega (arith, ap (stray (a + k)) e, stray_scale a k 1, ap (λ z. 2 ^ a * z) (stray_one k), pow-add 2 a k)

-- ---- a power of two and one more
-- the first block of 2 ^ j slots has two cells
two_first : (b j t : ℕ) → t ≤ 2 ^ j → earliest (b + j) (2 ^ b + 1) t ≡ earliest j 2 t
two_first zero j t h = ap (λ z. earliest z 2 t) (zero-add j)
two_first (suc b) j t h =
    let e : suc b + j ≡ suc (b + j) = omega arith in
    let half : (2 ^ suc b + 1 + 1) / 2 ≡ 2 ^ b + 1 = omega (arith, double b) in
    let long : 2 ^ j ≤ 2 ^ (b + j) = omega (arith, pow-add 2 b j, mul-le-mul_right (2 ^ j) (pow_pos b)) in
    ap (λ z. earliest z (2 ^ suc b + 1) t) e ∙ earliest_near (b + j) (2 ^ suc b + 1) t (omega arith)
    ∙ ap (λ z. earliest (b + j) z t) half ∙ two_first b j t h

-- and the next begins with a third
two_third : (b j : ℕ) → earliest (suc b + j) (2 ^ suc b + 1) (2 ^ j + 1) ≡ 3
two_third zero j =
    let e : suc 0 + j ≡ suc j = omega arith in
    ap (λ z. earliest z 3 (2 ^ j + 1)) e ∙ earliest_far j 3 1 ∙ omega (arith, earliest_one j)
two_third (suc b) j =
    let e : suc (suc b) + j ≡ suc (suc b + j) = omega arith in
    let half : (2 ^ suc (suc b) + 1 + 1) / 2 ≡ 2 ^ suc b + 1 = omega (arith, double (suc b)) in
    let long : 2 * 2 ^ j ≤ 2 ^ (suc b + j) = omega (arith, pow-add 2 (suc b) j, mul-le-mul_right (2 ^ j) (pow_pos b), ap (λ z. z * 2 ^ j) (double b)) in
    ap (λ z. earliest z (2 ^ suc (suc b) + 1) (2 ^ j + 1)) e ∙ earliest_near (suc b + j) (2 ^ suc (suc b) + 1) (2 ^ j + 1) (omega (arith, pow_pos j))
    ∙ ap (λ z. earliest (suc b + j) z (2 ^ j + 1)) half ∙ two_third b j

module _ (b i : ℕ) where
  abbrev all : ℕ
  all = suc b + suc i

  -- the numbers
  two_size : (2 ^ all ≡ 2 ^ suc b * 2 ^ suc i) × (2 * 2 ^ suc i ≤ 2 ^ all) × (2 ^ suc b * 2 ≤ 2 ^ all) × (2 * (2 ^ i * 2 ^ suc b) ≡ 2 ^ all)
  two_size =
      let power = pow-add 2 (suc b) (suc i) in
      let p : 2 ≤ 2 ^ suc b = omega (arith, double b, pow_pos b) in
      let n : 2 ≤ 2 ^ suc i = omega (arith, double i, pow_pos i) in (
        power,
        omega (arith, mul-le-mul_right (2 ^ suc i) p),
        omega (arith, mul-le-mul_left (2 ^ suc b) n),
        omega (arith, ap (λ z. 2 ^ suc b * z) (double i)),
      )

  two_most : (t : ℕ) → t ≤ 2 ^ all → 2 ^ all * earliest all (2 ^ suc b + 1) t ≤ t * (2 ^ suc b + 1) + (2 * 2 ^ all - (2 ^ suc i + 2 ^ suc b + 1))
  two_most t h =
      let size = two_size in
      let w = 2 ^ all in
      let p = 2 ^ suc b in
      let n = 2 ^ suc i in
      let x = earliest all (p + 1) t in
      by_lt n t
      (λ l.
      let next : p + 1 ≡ suc p = omega arith in
      let few : x ≤ suc (earliest all p t) = omega (arith, earliest_step all p t h, ap (λ z. earliest all z t) next) in
      omega (arith, size, mul-le-mul_left w few, stray_has all p t h, stray_power (suc b) (suc i)))
      (λ l.
      let e : x ≡ earliest (suc i) 2 t = two_first (suc b) (suc i) t l in
      by_lt (2 ^ i) t
      (λ g.
      let few : x ≤ 2 = omega (arith, earliest_most (suc i) 2 t l) in
      omega (arith, size, mul-le-mul_left w few, mul-le-mul_right (p + 1) g, double i))
      (λ g.
      by_eq t 0
      (λ z.
      let zero : x ≡ 0 = e ∙ ap (earliest (suc i) 2) z ∙ earliest_none (suc i) 2 in
      omega (arith, size, ap (λ y. w * y) zero))
      (λ z.
      let few : x ≤ 1 = omega (arith, earliest_near i 2 t g, earliest_most i 1 t g) in
      let one : 1 ≤ t = omega arith in
      omega (arith, size, mul-le-mul_left w few, mul-le-mul_right (p + 1) one))))

  pub stray_two : stray all (2 ^ suc b + 1) + 2 ^ suc i + 2 ^ suc b + 1 ≡ 2 * 2 ^ all
  stray_two =
      let size = two_size in
      let below = stray_most all (2 ^ suc b + 1) _ two_most in
      let long : 2 ^ suc i + 1 ≤ 2 ^ all = omega (arith, size, pow_pos (suc i)) in
      let above = stray_has all (2 ^ suc b + 1) (2 ^ suc i + 1) long in
      omega (arith, ap (λ z. 2 ^ all * z) (two_third b (suc i)))

-- the sum of two, of which the smaller is 2 ^ c
pub stray_powers : OfTwoPowers
stray_powers c (suc b) (suc i) some more =
    let j = suc b + suc i in
    let m : 2 ^ c + 2 ^ (c + suc b) ≡ 2 ^ c * (2 ^ suc b + 1) = omega (arith, pow-add 2 c (suc b)) in
    omega (
      arith,
      ap (stray (c + j)) m,
      stray_scale c j (2 ^ suc b + 1),
      ap (λ z. 2 ^ c * z) (stray_two b i),
      pow-add 2 c j,
      pow-add 2 c (suc b),
      pow-add 2 c (suc i),
    )
stray_powers c zero i some more = absurd (omega (arith, some))
stray_powers c (suc b) zero some more = absurd (omega (arith, more))
