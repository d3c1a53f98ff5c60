-- Numbers of the halves that are favoured, place by place.
use Prim.Native.Nat.{ℕ, suc, zero, ◌<◌}
use mathlib.Core.Path.{◌≡◌, ◌∙◌, refl, sym, ap}
use mathlib.Core.Logic.{◌≢◌}
use mathlib.Core.List.{List, ◌∷◌}
use mathlib.Core.Bool.{Bool, true, false, not, true≢false}
use native.Mathlib.Omega.{arith}
use lib.Dec.{eqb}
use lib.ListN.{length, get_or, set, replicate, length-map, length-set}
use borrow.Author.Tests.{eq-eqb, ne_eqb}
use Rattle.std.proofs.lemmas.List.{get_or-map, map-set}
use Rattle.rules.proofs.Cases.{by_eq}
use Rattle.planes.specs.declared.favours.Favour as told
use Rattle.planes.specs.declared.favours.Favour.TheVariants.{Unsettled, First, Second}
use Rattle.planes.specs.Tables.{Wide}
use Rattle.planes.specs.Favours.{favour_number, favour_numbers}

pub number_at : (l : List told.Favour) (i : ℕ) (d : told.Favour) → i < length l → get_or (favour_numbers l) i 0 ≡ favour_number (get_or l i d)
number_at l i d h = get_or-map favour_number l i d 0 h

pub numbers_set : (l : List told.Favour) (i : ℕ) (f : told.Favour) → favour_numbers (set l i f) ≡ set (favour_numbers l) i (favour_number f)
numbers_set l i f = map-set favour_number l i f

pub numbers_length : (l : List told.Favour) → length (favour_numbers l) ≡ length l
numbers_length l = length-map l favour_number

pub wide_set : (l : List told.Favour) (i : ℕ) (f : told.Favour) → Wide (favour_numbers l) → Wide (favour_numbers (set l i f))
wide_set l i f w = ap length (numbers_set l i f) ∙ length-set (favour_numbers l) i (favour_number f) ∙ w

-- what `is_settled` says of a place
module _ (l : List told.Favour) (wide : Wide (favour_numbers l)) (q : ℕ) (h : q < 528) (d : told.Favour) {b : Bool} (e : b ≡ not (eqb (favour_number (get_or l q d)) 0)) where
  here : get_or (favour_numbers l) q 0 ≡ favour_number (get_or l q d)
  here = number_at l q d (omega (arith, wide, numbers_length l))

  pub settled_yes : b ≡ true → get_or (favour_numbers l) q 0 ≢ 0
  settled_yes t z =
      let no : b ≡ false = e ∙ ap not (eq-eqb (favour_number (get_or l q d)) 0 (sym here ∙ z)) in
      absurd (true≢false (sym t ∙ no))

  pub settled_no : b ≡ false → get_or (favour_numbers l) q 0 ≡ 0
  settled_no t =
      by_eq (favour_number (get_or l q d)) 0 (λ z. here ∙ z)
      (λ n. let yes : b ≡ true = e ∙ ap not (ne_eqb (favour_number (get_or l q d)) 0 n) in absurd (true≢false (sym yes ∙ t)))

-- halves of one number are one half
pub favour_same : (f g : told.Favour) → favour_number f ≡ favour_number g → f ≡ g
favour_same Unsettled Unsettled e = refl
favour_same Unsettled First e = absurd (omega arith)
favour_same Unsettled Second e = absurd (omega arith)
favour_same First Unsettled e = absurd (omega arith)
favour_same First First e = refl
favour_same First Second e = absurd (omega arith)
favour_same Second Unsettled e = absurd (omega arith)
favour_same Second First e = absurd (omega arith)
favour_same Second Second e = refl

-- before any is settled
pub none_settled : (n : ℕ) → favour_numbers (replicate n Unsettled) ≡ replicate n 0
none_settled zero = refl
none_settled (suc n) = ap (λ (l : List ℕ). 0 ∷ l) (none_settled n)
