-- An i64 that is the difference of two numbers that fit one.
use Prim.Native.Nat.{ℕ, suc, ◌-◌, ◌^◌, ◌<◌}
use mathlib.Core.Path.{◌≡◌, ◌∙◌}
use native.Mathlib.Omega.{arith}
use lib.IntN.{pos, ◌-ℤ◌}
use lib.Signed.{mag}
use mir.Syntax.{w64}
use mir.Val.{SFits, of_z, to_z}
use mir.ValLaws.{to_z_pos, to_z-of_z}
use Rattle.rules.proofs.Cases.{by_lt}
use Rattle.rules.proofs.Integers.{minus_ahead, minus_behind}

module _ (a b : ℕ) (x : a < 2 ^ 63) (y : b < 2 ^ 63) where
  minus_small : mag (pos a -ℤ pos b) < 2 ^ 63
  minus_small =
      by_lt a b (λ l. rw (minus_behind a b (b - suc a) (omega arith)) (omega arith)) (λ l. rw (minus_ahead a b (a - b) (omega arith)) (omega arith))

  pub minus_fits : SFits w64 (to_z w64 a -ℤ to_z w64 b)
  minus_fits = rw (to_z_pos w64 a x, to_z_pos w64 b y) (record { sfits = minus_small })

  pub minus_is : to_z w64 (of_z w64 (to_z w64 a -ℤ to_z w64 b)) ≡ pos a -ℤ pos b
  minus_is = to_z-of_z w64 (to_z w64 a -ℤ to_z w64 b) minus_fits ∙ rw (to_z_pos w64 a x, to_z_pos w64 b y)
