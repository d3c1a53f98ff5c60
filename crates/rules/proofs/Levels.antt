-- Levels: the k of slots that are 2 ^ k.
use Prim.Native.Nat.{ℕ, suc, ◌+◌, ◌-◌, ◌*◌, ◌/◌, ◌^◌, ◌≤◌, ◌<◌}
use mathlib.Core.Path.{◌≡◌, refl, sym, ap, ◌∙◌}
use mathlib.Core.Logic.{◌≢◌}
use mathlib.Core.Bool.{Bool}
use native.Mathlib.Omega.{arith}
use native.Mathlib.Nat.{pow-le-pow_right, two-pow-succ}
use lib.Dec.{eqb}
use lib.Pow.{pow_pos, pow-add, shl-shr}
use borrow.Author.Tests.{eqb-true, eq-eqb, ne_eqb}
use Rattle.rules.specs.Frames.{levels, Power}
use Rattle.rules.proofs.Cases.{by_lt}
use Rattle.rules.proofs.Searches.{first_high, first_found, first_is}

-- a further power of two is twice the one before
pub double : (k : ℕ) → 2 ^ suc k ≡ 2 * 2 ^ k
double k = omega (arith, two-pow-succ k)

-- powers of two rise
pub pow_less : (j k : ℕ) → j < k → 2 ^ j < 2 ^ k
pow_less j k h =
    let a : 2 ^ suc j ≤ 2 ^ k = pow-le-pow_right (omega arith) h in
    let b = two-pow-succ j in
    let c = pow_pos j in
    omega arith

pub pow_only : (j k : ℕ) → 2 ^ j ≡ 2 ^ k → j ≡ k
pow_only j k e =
    by_lt j k (λ h. absurd (let p = pow_less j k h in omega arith))
    (λ h. by_lt k j (λ l. absurd (let p = pow_less k j l in omega arith)) (λ l. omega arith))

pub levels_most : (slots : ℕ) → levels slots ≤ 11
levels_most slots = omega (arith, first_high (λ k. eqb slots (2 ^ k)) 11 0)

pub levels_power : (slots : ℕ) → levels slots ≢ 11 → slots ≡ 2 ^ levels slots
levels_power slots n =
    let h = levels_most slots in
    let t : ℕ → Bool = λ k. eqb slots (2 ^ k) in
    eqb-true slots (2 ^ levels slots) (first_found t 11 0 (omega arith))

pub levels_of : (k : ℕ) → k ≤ 10 → levels (2 ^ k) ≡ k
levels_of k h =
    first_is (λ j. eqb (2 ^ k) (2 ^ j)) 11 0 k (omega arith) (omega arith) (eq-eqb (2 ^ k) (2 ^ k) refl)
    (λ j _ l. ne_eqb (2 ^ k) (2 ^ j) (λ e. let p = pow_less j k l in omega arith))

-- a power of two is no other number, and its k is its level
pub power_level : {slots : ℕ} (p : Power slots) → levels slots ≡ p.k
power_level p = ap levels p.is ∙ levels_of p.k p.most

pub level_is : {slots k : ℕ} → Power slots → slots ≡ 2 ^ k → levels slots ≡ k
level_is {slots} {k} p e = power_level p ∙ pow_only p.k k (sym p.is ∙ e)

pub power_known : {slots : ℕ} → Power slots → levels slots ≢ 11
power_known p e = let l = power_level p in let m = p.most in omega arith

pub power_most : {slots : ℕ} → Power slots → slots ≤ 1024
power_most p =
    let b : 2 ^ p.k ≤ 2 ^ 10 = pow-le-pow_right (omega arith) {j = 10} p.most in
    omega (arith, p.is)

pub known_power : (slots : ℕ) → levels slots ≢ 11 → Power slots
known_power slots n =
    record { k = levels slots; most = (let m = levels_most slots in omega arith); is = levels_power slots n }

-- ---- blocks of 2 ^ k slots at depth t: 2 ^ t of 2 ^ (k - t) slots
pub depth_size : (k t : ℕ) → t ≤ k → 2 ^ k / 2 ^ t ≡ 2 ^ (k - t)
depth_size k t h =
    let e : k ≡ (k - t) + t = omega arith in
    ap (λ z. 2 ^ z / 2 ^ t) e ∙ ap (λ z. z / 2 ^ t) (pow-add 2 (k - t) t) ∙ shl-shr (2 ^ (k - t)) t

-- twice the half of a block is the block
pub depth_half : (k t : ℕ) → t < k → 2 * (2 ^ k / 2 ^ suc t) ≡ 2 ^ k / 2 ^ t
depth_half k t h =
    let e : k - t ≡ suc (k - suc t) = omega arith in
    let d = two-pow-succ (k - suc t) in
    omega (arith, depth_size k (suc t) h, depth_size k t (omega arith), ap (λ z. 2 ^ z) e)

-- the blocks of a depth fill the frame
pub depth_fill : (k t : ℕ) → t ≤ k → 2 ^ t * (2 ^ k / 2 ^ t) ≡ 2 ^ k
depth_fill k t h =
    let e : k ≡ t + (k - t) = omega arith in
    ap (λ z. 2 ^ t * z) (depth_size k t h) ∙ sym (ap (λ z. 2 ^ z) e ∙ pow-add 2 t (k - t))
