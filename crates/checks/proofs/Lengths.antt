-- A length of so many rows of so many columns, by dividing.
use Prim.Native.Nat.{ℕ, ◌*◌, ◌/◌, ◌%◌}
use mathlib.Core.Path.{◌≡◌, ap, ◌∙◌}
use mathlib.Core.Logic.{◌≢◌}
use mathlib.Core.Bool.{true, not}
use native.Mathlib.Omega.{arith}
use native.Mathlib.Nat.{mul-mod_left, div-eq_of_eq-mul_left, div-add-mod'}
use lib.Dec.{eqb}
use borrow.Author.Tests.{eq-eqb, ne_eqb}
use Rattle.rules.proofs.Cases.{by_eq}

module _ (length rows columns : ℕ) where
  pub no_columns : columns ≡ 0 → not (eqb length 0) ≡ not (eqb length (rows * columns))
  no_columns e = let z : 0 ≡ rows * columns = omega (arith, ap (λ x. rows * x) e) in ap (λ x. not (eqb length x)) z

  pub rest_left : length % columns ≢ 0 → true ≡ not (eqb length (rows * columns))
  rest_left n = rw (ne_eqb length (rows * columns) (λ e. n (ap (λ x. x % columns) e ∙ mul-mod_left rows columns)))

  pub whole_rows : columns ≢ 0 → length % columns ≡ 0 → not (eqb (length / columns) rows) ≡ not (eqb length (rows * columns))
  whole_rows n z =
      by_eq length (rows * columns)
      (λ e. rw (eq-eqb length (rows * columns) e, eq-eqb (length / columns) rows (div-eq_of_eq-mul_left (omega arith) e)))
      (λ d. rw (ne_eqb length (rows * columns) d, ne_eqb (length / columns) rows (λ e. d (omega (arith, div-add-mod' length columns, ap (λ x. x * columns) e)))))
