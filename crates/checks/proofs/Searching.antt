-- The level of slots, by their binary digits.
use Prim.Native.Nat.{ℕ, suc, ◌*◌, ◌%◌, ◌^◌, ◌≤◌, ◌<◌}
use mathlib.Core.Path.{◌≡◌, refl, ap, ◌∙◌}
use native.Mathlib.Omega.{arith}
use native.Mathlib.Nat.{pow-le-pow_right}
use lib.Dec.{eqb}
use borrow.Author.Tests.{eq-eqb, ne_eqb}
use Rattle.std.specs.Prelude.{Some, None}
use Rattle.rules.specs.Words.{if}
use Rattle.rules.specs.Frames.{levels}
use Rattle.rules.proofs.Cases.{by_eq, by_lt}
use Rattle.rules.proofs.Levels.{levels_of, levels_power, levels_most, pow_less, double}

-- a shift of 1 that stays within a word
pub shifted : (k : ℕ) → k ≤ 10 → (1 * 2 ^ k) % 18446744073709551616 ≡ 2 ^ k
shifted k h =
    let p : 2 ^ k ≤ 2 ^ 10 = pow-le-pow_right (omega arith) {j = 10} h in
    omega arith

pub level_some : (slots k : ℕ) → slots ≡ 2 ^ k → k ≤ 10 → Some k ≡ if (eqb (levels slots) 11) None (Some (levels slots))
level_some slots k e h =
    let l : levels slots ≡ k = rw e (levels_of k h) in
    rw (l, ne_eqb k 11 (omega arith))

module _ (slots k : ℕ) (low : 2 ^ k ≤ slots) (high : slots < 2 * 2 ^ k) where
  -- no other number is the level
  other_level : (j : ℕ) → slots ≡ 2 ^ j → j ≡ k
  other_level j e =
      by_lt j k (λ h. absurd (let p = pow_less j k h in omega arith))
      (λ h. by_lt k j (λ l. absurd (let p : 2 ^ suc k ≤ 2 ^ j = pow-le-pow_right (omega arith) l in omega (arith, double k))) (λ l. omega arith))

  pub level_none : (slots ≡ 2 ^ k → k ≤ 10 → ⊥) → None ≡ if (eqb (levels slots) 11) None (Some (levels slots))
  level_none n =
      by_eq (levels slots) 11
      (λ e. rw (eq-eqb (levels slots) 11 e) refl)
      (λ d. let p = levels_power slots d in let l = other_level (levels slots) p in
      absurd (n (p ∙ ap (λ z. 2 ^ z) l) (omega (arith, levels_most slots))))
