-- How many counts favour a half, and how many are not settled, which is how many have 0.
use Prim.Native.Nat.{ℕ, suc, zero, ◌+◌, ◌≤◌, ◌<◌}
use mathlib.Core.Path.{◌≡◌, refl, sym, ◌∙◌}
use mathlib.Core.Logic.{◌≢◌}
use mathlib.Core.List.{List, [], ◌∷◌}
use native.Mathlib.Omega.{arith}
use lib.Dec.{eqb}
use lib.ListN.{length, get_or, set, replicate}
use Rattle.rules.specs.Words.{bit, sum_to}
use Rattle.rules.specs.Schedule.{favouring}
use Rattle.rules.proofs.Cases.{by_eq, is_yes, is_no}
use Rattle.rules.proofs.Sums.{sum_none, sum_shift}

pub favouring_sum : (h : ℕ) (c : List ℕ) → favouring h c ≡ sum_to (length c) (λ q. bit (eqb (get_or c q 0) h))
favouring_sum h [] = sym (sum_none _)
favouring_sum h (x ∷ c) = omega (arith, favouring_sum h c, sum_shift (length c) (λ q. bit (eqb (get_or (x ∷ c) q 0) h)))

pub none_favour : (h n : ℕ) → h ≢ 0 → favouring h (replicate n 0) ≡ 0
none_favour h zero n = refl
none_favour h (suc k) n = omega (arith, none_favour h k n, is_no 0 h (λ e. n (sym e)))

pub unsettled_most : (c : List ℕ) → favouring 0 c ≤ length c
unsettled_most [] = omega arith
unsettled_most (x ∷ c) =
    let r = unsettled_most c in
    by_eq x 0 (λ e. omega (arith, is_yes x 0 e)) (λ e. omega (arith, is_no x 0 e))

pub unsettled_less : (c : List ℕ) (q : ℕ) → get_or c q 0 ≢ 0 → favouring 0 c < length c
unsettled_less [] q n = absurd (n refl)
unsettled_less (x ∷ c) zero n = omega (arith, unsettled_most c, is_no x 0 n)
unsettled_less (x ∷ c) (suc q) n =
    let r = unsettled_less c q n in
    by_eq x 0 (λ e. omega (arith, is_yes x 0 e)) (λ e. omega (arith, is_no x 0 e))

-- ---- one count changed
favouring_set : (h : ℕ) (c : List ℕ) (q v : ℕ) → q < length c → favouring h (set c q v) + bit (eqb (get_or c q 0) h) ≡ favouring h c + bit (eqb v h)
favouring_set h [] q v l = absurd (omega arith)
favouring_set h (x ∷ c) zero v l = omega arith
favouring_set h (x ∷ c) (suc q) v l = omega (arith, favouring_set h c q v (omega arith))

-- a count newly settled is one less that is not settled,
pub settled_less : (c : List ℕ) (q v : ℕ) → q < length c → get_or c q 0 ≡ 0 → v ≢ 0 → suc (favouring 0 (set c q v)) ≡ favouring 0 c
settled_less c q v l z n = omega (arith, favouring_set 0 c q v l, is_yes (get_or c q 0) 0 z, is_no v 0 n)

-- and one more for its half, and none for another
module _ (h : ℕ) (c : List ℕ) (q v : ℕ) (l : q < length c) (z : get_or c q 0 ≡ 0) (n : h ≢ 0) where
  was_none : bit (eqb (get_or c q 0) h) ≡ 0
  was_none = is_no (get_or c q 0) h (λ e. n (sym e ∙ z))

  pub favouring_more : v ≡ h → favouring h (set c q v) ≡ favouring h c + 1
  favouring_more e = omega (arith, favouring_set h c q v l, was_none, is_yes v h e)

  pub favouring_same : v ≢ h → favouring h (set c q v) ≡ favouring h c
  favouring_same e = omega (arith, favouring_set h c q v l, was_none, is_no v h e)
