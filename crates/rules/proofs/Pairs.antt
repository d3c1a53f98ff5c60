-- Pairs: the lists of a matrix, where each flow stands in the matrix, and the list that leaves out no pair.
use Prim.Native.Nat.{ℕ, suc, zero, ◌+◌, ◌*◌, ◌/◌, ◌%◌, ◌≤◌, ◌<◌}
use mathlib.Core.Path.{◌≡◌, refl, sym, ap, ◌∙◌}
use mathlib.Core.Logic.{◌≢◌}
use mathlib.Core.List.{List, [], ◌∷◌}
use native.Mathlib.Omega.{arith}
use lib.ListN.{length, get_or, get_or-eq_default}
use lib.Seq.{ext_get_or}
use Rattle.rules.specs.Words.{Within}
use Rattle.rules.specs.Flows.{stride, flows, number_of, inputs, links, output_of, port_of, counts_of}
use Rattle.rules.specs.Pairs.{ListOf, at_end, named, left_out, flows_from, in_matrix_order}
use Rattle.rules.proofs.Cases.{by_lt}
use Rattle.rules.proofs.Flows.{counts_length, counts_at}
use Rattle.rules.proofs.Spread.{Places, Spread}

-- ---- the lists of a matrix
module _ (ports : ℕ) where
  -- the place of each flow in the matrix; the numbers past the list have the places past it
  abbrev pub place_in : {p : ℕ} {matrix list : List ℕ} → ListOf ports p matrix list → ℕ → ℕ
  place_in (at_end) f = f
  place_in (named l) zero = 0
  place_in (named l) (suc f) = suc (place_in l f)
  place_in (left_out l) f = suc (place_in l f)

  place_rises : {p : ℕ} {matrix list : List ℕ} (l : ListOf ports p matrix list) (f g : ℕ) → f < g → place_in l f < place_in l g
  place_rises (at_end) f g h = h
  place_rises (named l) f zero h = absurd (omega arith)
  place_rises (named l) zero (suc g) h = omega arith
  place_rises (named l) (suc f) (suc g) h = omega (arith, place_rises l f g (omega arith))
  place_rises (left_out l) f g h = omega (arith, place_rises l f g h)

  place_inside : {p : ℕ} {matrix list : List ℕ} (l : ListOf ports p matrix list) (f : ℕ) → f < flows list → place_in l f < length matrix
  place_inside (at_end) f h = h
  place_inside (named l) zero h = omega arith
  place_inside (named l) (suc f) h = omega (arith, place_inside l f (omega arith))
  place_inside (left_out l) f h = omega (arith, place_inside l f h)

  place_only : {p : ℕ} {matrix list : List ℕ} (l : ListOf ports p matrix list) (f : ℕ) → place_in l f < length matrix → f < flows list
  place_only (at_end) f h = h
  place_only (named l) zero h = omega arith
  place_only (named l) (suc f) h = omega (arith, place_only l f (omega arith))
  place_only (left_out l) f h = place_only l f (omega arith)

  -- a position that is no flow's place has no cells
  place_off : {p : ℕ} {matrix list : List ℕ} (l : ListOf ports p matrix list) (q : ℕ) → ((f : ℕ) → place_in l f ≢ q) → get_or matrix q 0 ≡ 0
  place_off (at_end) q none = refl
  place_off (named l) zero none = absurd (none 0 refl)
  place_off (named l) (suc q) none = place_off l q (λ f d. none (suc f) (ap suc d))
  place_off (left_out l) zero none = omega arith
  place_off (left_out l) (suc q) none = place_off l q (λ f d. none f (ap suc d))

  -- the four numbers of flow f
  place_numbers : {p : ℕ} {matrix list : List ℕ} (l : ListOf ports p matrix list) (f : ℕ) → f < flows list
      → (number_of 0 list f ≡ suc ((p + place_in l f) / ports)) × (number_of 1 list f ≡ suc ((p + place_in l f) % ports))
      × (number_of 2 list f ≡ get_or matrix (place_in l f) 0) × (number_of 3 list f ≡ 1)
  place_numbers (at_end) f h = absurd (omega arith)
  place_numbers (named {p = p} l) zero h = let e : p + 0 ≡ p = omega arith in rw e (refl, refl, refl, refl)
  place_numbers (named {p = p} l) (suc f) h =
      let e : p + suc (place_in l f) ≡ suc p + place_in l f = omega arith in
      let at : (j : ℕ) → suc f * stride + j ≡ suc (suc (suc (suc (f * stride + j)))) = λ j. omega arith in
      rw (e, at 0, at 1, at 2, at 3) (place_numbers l f (omega arith))
  place_numbers (left_out {p = p} l) f h =
      let e : p + suc (place_in l f) ≡ suc p + place_in l f = omega arith in
      rw e (place_numbers l f h)

  -- ---- of the whole matrix
  module _ {matrix list : List ℕ} (l : ListOf ports 0 matrix list) where
    pub list_places : Places (flows list) (length matrix) (place_in l)
    list_places = record { rising = place_rises l; inside = place_inside l; only = place_only l }

    numbers_at : (f : ℕ) → f < flows list
        → (number_of 0 list f ≡ suc (place_in l f / ports)) × (number_of 1 list f ≡ suc (place_in l f % ports))
        × (number_of 2 list f ≡ get_or matrix (place_in l f) 0) × (number_of 3 list f ≡ 1)
    numbers_at f h = let e : 0 + place_in l f ≡ place_in l f = omega arith in rw e at (place_numbers l f h)

    -- the input of flow f, and its link, the first of its output
    pub list_input : (f : ℕ) → f < flows list → port_of list inputs f ≡ place_in l f / ports
    unfolding port_of
    list_input f h = omega (arith, (numbers_at f h).0)

    pub list_link : (f : ℕ) → f < flows list → port_of list links f ≡ place_in l f % ports * 4
    unfolding port_of
    list_link f h = let r = numbers_at f h in omega (arith, r.1, r.3)

    -- its counts stand in the matrix at the places of its flows
    pub list_spread : Spread (flows list) (length matrix) (place_in l) (counts_of list) matrix
    list_spread =
        record {
          size = counts_length list;
          spread_size = refl;
          count = λ f. by_lt f (flows list)
              (λ h. sym (counts_at list f h ∙ (numbers_at f h).2))
              (λ h. get_or-eq_default matrix 0 (past f h) ∙ sym (get_or-eq_default (counts_of list) 0 (omega (arith, counts_length list))));
          off = place_off l;
        }
      where
        past : (f : ℕ) → flows list ≤ f → length matrix ≤ place_in l f
        past f h = by_lt (place_in l f) (length matrix) (λ k. absurd (omega (arith, place_only l f k))) (λ k. k)

  -- ---- the list that leaves out none
  pub order_of : (p : ℕ) (m : List ℕ) → ListOf ports p m (flows_from ports p m)
  unfolding flows_from
  order_of p [] = at_end
  order_of p (x ∷ m) = named (order_of (suc p) m)

  order_place : (p : ℕ) (m : List ℕ) (f : ℕ) → place_in (order_of p m) f ≡ f
  unfolding flows_from order_of
  order_place p [] f = refl
  order_place p (x ∷ m) zero = refl
  order_place p (x ∷ m) (suc f) = ap suc (order_place (suc p) m f)

  from_length : (p : ℕ) (m : List ℕ) → length (flows_from ports p m) ≡ length m * stride
  unfolding flows_from
  from_length p [] = refl
  from_length p (x ∷ m) = omega (arith, from_length (suc p) m)

module _ (ports : ℕ) (m : List ℕ) where
  abbrev list : List ℕ
  list = in_matrix_order ports m

  pub order_length : length list ≡ length m * stride
  order_length = from_length ports 0 m

  pub order_flows : flows list ≡ length m
  order_flows = let l = order_length in omega arith

  numbers : (f : ℕ) → f < length m
      → (number_of 0 list f ≡ suc (f / ports)) × (number_of 1 list f ≡ suc (f % ports)) × (number_of 2 list f ≡ get_or m f 0) × (number_of 3 list f ≡ 1)
  numbers f h = rw (order_place ports 0 m f) at (numbers_at ports (order_of ports 0 m) f (omega (arith, order_flows)))

  -- the input, the output and the link of flow f
  pub order_number : (f : ℕ) → f < length m
      → (number_of 0 list f ≡ suc (f / ports)) × (number_of 1 list f ≡ suc (f % ports)) × (number_of 3 list f ≡ 1)
  order_number f h = let r = numbers f h in (r.0, r.1, r.3)

  pub order_counts : counts_of list ≡ m
  order_counts =
      ext_get_or 0 (counts_of list) m (counts_length list ∙ order_flows)
      (λ f h. let l : f < length m = omega (arith, counts_length list, order_flows) in
      counts_at list f (omega (arith, order_flows)) ∙ (numbers f l).2)

  -- the links are 1 to 4
  pub order_linked : (f : ℕ) → f < flows list → Within 1 4 (number_of 3 list f)
  order_linked f h = let r = order_number f (omega (arith, order_flows)) in (omega (arith, r.2), omega (arith, r.2))

  pub order_input : (f : ℕ) → f < length m → port_of list inputs f ≡ f / ports
  unfolding port_of
  order_input f h = omega (arith, (order_number f h).0)

  -- all are on the first link of their output
  pub order_link : (f : ℕ) → f < length m → port_of list links f ≡ f % ports * 4
  unfolding port_of
  order_link f h = let r = order_number f h in omega (arith, r.1, r.2)

  pub order_output : (f : ℕ) → f < length m → output_of (port_of list links f) ≡ f % ports
  order_output f h = omega (arith, order_link f h)
