-- Digits under the operations on words, and a number by its digits.
use Prim.Native.Nat.{ℕ, suc, zero, ◌+◌, ◌*◌, ◌/◌, ◌%◌, ◌^◌, ◌≤◌, ◌<◌, max}
use mathlib.Core.Path.{◌≡◌, refl, sym, ap, ◌∙◌}
use mathlib.Core.Logic.{◌≢◌}
use native.Mathlib.Omega.{arith}
use native.Mathlib.Nat.{mod-lt, zero-lt-suc, mul-add, mul_left_comm, mul_assoc, mul_comm, pow-suc}
use native.Mathlib.Numerals.{one-add}
use lib.Dec.{eqb, eqb-zero-suc, eqb-suc-zero, eqb-suc-suc}
use lib.Bits.{bit_and, bit_or, bit_xor, and_shr, or_shr, xor_shr, and_mod, xor_mod, or_step, xor_add_and, shifted_half, shifted_even}
use lib.Pow.{shr-shr, shl_exact}
use borrow.Author.Tests.{eq-eqb, ne_eqb}
use Rattle.rules.specs.Words.{if}
use Rattle.bits.specs.Digits.{digit, binary, PutAt, FlippedAt}

-- ---- one digit
pub digit_most : (x i : ℕ) → digit x i ≤ 1
unfolding digit
digit_most x i = omega (arith, mod-lt (x / 2 ^ i) (zero-lt-suc 1))

pub digit_first : (x : ℕ) → digit x 0 ≡ x % 2
unfolding digit
digit_first x = omega arith

pub digit_half : (x i : ℕ) → digit (x / 2) i ≡ digit x (suc i)
unfolding digit
digit_half x i = ap (λ (z : ℕ). z % 2) (shr-shr x 1 i ∙ ap (λ (z : ℕ). x / 2 ^ z) (one-add i))

pub digit_none : (i : ℕ) → digit 0 i ≡ 0
digit_none zero = digit_first 0
digit_none (suc i) = sym (digit_half 0 i) ∙ digit_none i

-- behind those that a number takes
pub digit_past : (k x i : ℕ) → x < 2 ^ k → k ≤ i → digit x i ≡ 0
digit_past zero x i h l = let z : x ≡ 0 = omega arith in ap (λ (y : ℕ). digit y i) z ∙ digit_none i
digit_past (suc k) x zero h l = absurd (omega arith)
digit_past (suc k) x (suc i) h l = sym (digit_half x i) ∙ digit_past k (x / 2) i (omega (arith, pow-suc 2 k)) (omega arith)

-- ---- a choice by a position
pub if_same : (q p d : ℕ) → q ≡ p → if (eqb q p) d 0 ≡ d
if_same q p d e = rw (eq-eqb q p e)

pub if_other : (q p d : ℕ) → q ≢ p → if (eqb q p) d 0 ≡ 0
if_other q p d n = rw (ne_eqb q p n)

-- ---- operations on words
sum_first : (x y : ℕ) → bit_xor x y % 2 + 2 * (bit_and x y % 2) ≡ x % 2 + y % 2
sum_first x y =
    let a : bit_xor x y % 2 ≡ bit_xor (x % 2) (y % 2) = xor_mod x y 1 in
    let b : bit_and x y % 2 ≡ bit_and (x % 2) (y % 2) = and_mod x y 1 in
    omega (arith, xor_add_and (x % 2) (y % 2))

-- the digit of a sum, and what it carries
pub digit_sum : (x y i : ℕ) → digit (bit_xor x y) i + 2 * digit (bit_and x y) i ≡ digit x i + digit y i
unfolding digit
digit_sum x y i = rw (xor_shr x y i, and_shr x y i) (sum_first (x / 2 ^ i) (y / 2 ^ i))

or_first : (x y : ℕ) → bit_or x y % 2 ≡ max (x % 2) (y % 2)
or_first x y = omega (arith, or_step x y)

pub digit_or : (x y i : ℕ) → digit (bit_or x y) i ≡ max (digit x i) (digit y i)
unfolding digit
digit_or x y i = rw (or_shr x y i) (or_first (x / 2 ^ i) (y / 2 ^ i))

pub digit_shifted : (d j i : ℕ) → d ≤ 1 → digit (d * 2 ^ j) i ≡ if (eqb i j) d 0
digit_shifted d zero zero h = digit_first (d * 1) ∙ omega arith
digit_shifted d zero (suc i) h =
    let e : d * 1 / 2 ≡ 0 = omega arith in
    rw (eqb-suc-zero i) (sym (digit_half (d * 1) i) ∙ ap (λ (z : ℕ). digit z i) e ∙ digit_none i)
digit_shifted d (suc j) zero h = rw (eqb-zero-suc j) (digit_first (d * 2 ^ suc j) ∙ shifted_even d j)
digit_shifted d (suc j) (suc i) h =
    rw (eqb-suc-suc i j) (sym (digit_half (d * 2 ^ suc j) i) ∙ ap (λ (z : ℕ). digit z i) (shifted_half d j) ∙ digit_shifted d j i h)

pub put_at_is : {x i d : ℕ} → i < 64 → d ≤ 1 → PutAt x i d (bit_or x ((d * 2 ^ i) % 2 ^ 64))
put_at_is {x} {i} {d} h l =
    let fits : (d * 2 ^ i) % 2 ^ 64 ≡ d * 2 ^ i = shl_exact 1 i 64 (omega arith) (omega arith) in
    record { put = λ j. ap (λ (z : ℕ). digit (bit_or x z) j) fits ∙ digit_or x (d * 2 ^ i) j ∙ ap (max (digit x j)) (digit_shifted d i j l) }

pub turn_at : {x i : ℕ} → i < 64 → FlippedAt x i (bit_xor x ((1 * 2 ^ i) % 2 ^ 64))
turn_at {x} {i} h =
    let fits : (1 * 2 ^ i) % 2 ^ 64 ≡ 1 * 2 ^ i = shl_exact 1 i 64 (omega arith) (omega arith) in
    record {
      here = ap (λ (z : ℕ). digit (bit_xor x z) i) fits
          ∙ omega (arith, turned i, digit_shifted 1 i i (omega arith), if_same i i 1 refl, digit_most x i, digit_most (bit_xor x (1 * 2 ^ i)) i);
      others = λ j n. ap (λ (z : ℕ). digit (bit_xor x z) j) fits
          ∙ omega (arith, turned j, digit_shifted 1 i j (omega arith), if_other j i 1 n, digit_most x j);
    }
  where
    turned : (j : ℕ) → digit (bit_xor x (1 * 2 ^ i)) j + 2 * digit (bit_and x (1 * 2 ^ i)) j ≡ digit x j + digit (1 * 2 ^ i) j
    turned j = digit_sum x (1 * 2 ^ i) j

-- ---- a number by its digits
pub twice_pow : (k y : ℕ) → 2 ^ suc k * y ≡ 2 * (2 ^ k * y)
twice_pow k y = ap (λ (z : ℕ). z * y) (pow-suc 2 k ∙ mul_comm (2 ^ k) 2) ∙ mul_assoc 2 (2 ^ k) y

pub binary_suc : (k : ℕ) (f : ℕ → ℕ) → binary (suc k) f ≡ binary k f + 2 ^ k * f k
unfolding binary
binary_suc k f = refl

pub binary_same : (k : ℕ) (f g : ℕ → ℕ) → ((b : ℕ) → b < k → f b ≡ g b) → binary k f ≡ binary k g
unfolding binary
binary_same zero f g h = refl
binary_same (suc k) f g h = rw (binary_same k f g (λ b l. h b (omega arith)), h k (omega arith))

-- the lowest digit, and the rest
pub binary_up : (k : ℕ) (f : ℕ → ℕ) → binary (suc k) f ≡ f 0 + 2 * binary k (λ b. f (suc b))
unfolding binary
binary_up zero f = omega arith
binary_up (suc k) f = omega (arith, binary_up k f, twice_pow k (f (suc k)))

pub binary_none : (k : ℕ) (f : ℕ → ℕ) → ((b : ℕ) → b < k → f b ≡ 0) → binary k f ≡ 0
unfolding binary
binary_none zero f h = refl
binary_none (suc k) f h = omega (arith, binary_none k f (λ b l. h b (omega arith)), ap (λ (z : ℕ). 2 ^ k * z) (h k (omega arith)))

pub binary_digits : (k x : ℕ) → x < 2 ^ k → binary k (digit x) ≡ x
unfolding binary
binary_digits zero x h = omega arith
binary_digits (suc k) x h =
    let rest = binary_digits k (x / 2) (omega (arith, pow-suc 2 k)) in
    let same = binary_same k (λ b. digit x (suc b)) (digit (x / 2)) (λ b l. sym (digit_half x b)) in
    omega (arith, binary_up k (digit x), digit_first x)

below_pow : (x : ℕ) → x < 2 ^ x
below_pow zero = omega arith
below_pow (suc x) = omega (arith, below_pow x, pow-suc 2 x)

-- numbers with the same digits
pub digits_same : (x y : ℕ) → ((i : ℕ) → digit x i ≡ digit y i) → x ≡ y
digits_same x y h =
    let k = x + y in
    let high = below_pow k in
    sym (binary_digits k x (omega arith)) ∙ binary_same k (digit x) (digit y) (λ b _. h b) ∙ binary_digits k y (omega arith)

-- one digit of a sum, times a power
pub scaled : (p x a d c : ℕ) → x + 2 * a ≡ d + c → p * x + 2 * (p * a) ≡ p * d + p * c
scaled p x a d c e =
    let l : p * (x + 2 * a) ≡ p * x + p * (2 * a) = mul-add p x (2 * a) in
    let r : p * (d + c) ≡ p * d + p * c = mul-add p d c in
    omega (arith, mul_left_comm p 2 a, ap (λ (z : ℕ). p * z) e)
