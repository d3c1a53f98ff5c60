-- Integers: what a difference of two natural numbers is, on either side of zero.
use Prim.Native.Nat.{ℕ, suc, zero, ◌+◌, ◌-◌, ◌≤◌}
use mathlib.Core.Path.{◌≡◌, ap}
use native.Mathlib.Omega.{arith}
use lib.Dec.{leb→le}
use lib.IntN.{pos, negsuc, neg_ℤ, ◌-ℤ◌, nat_abs}
use lib.Signed.{◌≤ℤ◌}
use borrow.Author.Tests.{lt-ltb, le-ltb}
use Rattle.rules.specs.Words.{Near}
use Rattle.rules.proofs.Cases.{by_lt}

-- n, where the first is n more
pub minus_ahead : (a b n : ℕ) → a ≡ b + n → pos a -ℤ pos b ≡ pos n
minus_ahead a zero n e = ap pos (omega arith)
minus_ahead a (suc b) n e = rw (le-ltb a (suc b) (omega arith)) (ap pos (omega arith))

-- −(n + 1), which is negsuc n, where it is n + 1 less
pub minus_behind : (a b n : ℕ) → a + suc n ≡ b → pos a -ℤ pos b ≡ negsuc n
minus_behind a zero n e = absurd (omega arith)
minus_behind a (suc b) n e = rw (lt-ltb a (suc b) (omega arith)) (ap negsuc (omega arith))

pub minus_same : (a b : ℕ) → a ≡ b → pos a -ℤ pos b ≡ pos 0
minus_same a b e = minus_ahead a b 0 (omega arith)

-- no farther from zero than the two are apart
pub minus_near : (gap a b : ℕ) → Near gap a b → nat_abs (pos a -ℤ pos b) ≤ gap
minus_near gap a b n =
    let x = n.0 in
    let y = n.1 in
    by_lt a b (λ l. rw (minus_behind a b (b - suc a) (omega arith)) (omega arith)) (λ l. rw (minus_ahead a b (a - b) (omega arith)) (omega arith))

-- not below −gap: the first is at most gap less
below : (gap n : ℕ) → neg_ℤ (pos gap) ≤ℤ negsuc n → suc n ≤ gap
below zero n h = absurd h.le
below (suc gap) n h = let l = leb→le n gap h.le in omega arith

pub minus_least : (gap a b : ℕ) → neg_ℤ (pos gap) ≤ℤ (pos a -ℤ pos b) → b ≤ a + gap
minus_least gap a b h =
    by_lt a b
    (λ l. let far = below gap (b - suc a) (rw (minus_behind a b (b - suc a) (omega arith)) at h) in omega arith)
    (λ l. omega arith)
