-- How many entries pass a test, as the cells of whom a count is for.
use Prim.Native.Nat.{ℕ, suc, zero, ◌+◌, ◌-◌, ◌*◌, ◌%◌, ◌≤◌, ◌<◌}
use mathlib.Core.Path.{◌≡◌, refl, sym, ap, ◌∙◌}
use mathlib.Core.List.{List, [], ◌∷◌}
use mathlib.Core.Bool.{Bool, true, false, not, true≢false}
use native.Mathlib.Omega.{arith}
use native.Mathlib.Nat.{mul-le-mul_right}
use lib.Dec.{eqb}
use lib.ListN.{length, get_or}
use denote.Enum.Bare.{sameb}
use borrow.Author.Tests.{eq-eqb, ne_eqb}
use Rattle.std.specs.Prelude.{sum_by}
use Rattle.std.specs.List.{range_with_len}
use Rattle.std.proofs.lemmas.List.Sums.{sum_by-cons}
use Rattle.rules.specs.Words.{both, bit, sum_to}
use Rattle.rules.specs.Flows.{flows, Side, input, output, same, Class, flow, port_on}
use Rattle.rules.specs.Frames.{is_flow_of, counts_on, cells_on, run_of}
use Rattle.rules.proofs.Sums.{sum_none, sum_shift, sum_ext, sum_one}
use Rattle.rules.proofs.Flows.{same_side, flow_counts}
use Rattle.rules.proofs.Cells.{cells_slot, run_length}
use Rattle.rules.proofs.Runs.{sum_bits, cells_slots}
use Rattle.calls.specs.Sides.{side_of}
use Rattle.calls.specs.contracts.Side.{the_type}
use Rattle.calls.specs.declared.Side as told
use Rattle.calls.specs.declared.Side.TheVariants.{Input, Output}

-- ---- a sum over a list and over a range
module _ (h : ℕ → ℕ) where
  listed : (l : List ℕ) → sum_by h l ≡ sum_to (length l) (λ q. h (get_or l q 0))
  listed [] = sym (sum_none (λ q. h (get_or [] q 0)))
  listed (x ∷ l) = omega (arith, sum_by-cons h x l, listed l, sum_shift (length l) (λ q. h (get_or (x ∷ l) q 0)))

  in_range : (n a : ℕ) → sum_by h (range_with_len a n) ≡ sum_to n (λ i. h (a + i))
  in_range zero a = sym (sum_none (λ i. h (a + i)))
  in_range (suc n) a =
      let rest : sum_to n (λ i. h (a + suc i)) ≡ sum_to n (λ i. h (a + 1 + i)) = sum_ext n _ _ (λ i l. ap h (omega arith)) in
      let here : h (a + 0) ≡ h a = ap h (omega arith) in
      omega (arith, sum_by-cons h a (range_with_len (a + 1) n), in_range n (a + 1), sum_shift n (λ i. h (a + i)), rest, here)

pub few_pass : (t : ℕ → Bool) (a n : ℕ) → sum_by (λ s. bit (t s)) (range_with_len a n) ≤ n
few_pass t a n = omega (arith, in_range (λ s. bit (t s)) n a, sum_bits n (λ i. t (a + i)))

-- ---- whom a count is for
module _ (side : Side) (ports : ℕ) (list : List ℕ) where
  -- the cells of a class, where it is known what an entry counts for it
  cells_counted : (c : Class) (h : ℕ → ℕ) → ((at e : ℕ) → h e ≡ bit (counts_on side c list at e)) → (entries : List ℕ) → sum_by h entries ≡ cells_on side ports list c entries
  unfolding cells_on
  cells_counted c h same entries = listed h entries ∙ sum_ext (length entries) _ _ (λ q l. same (q % ports) (get_or entries q 0))

  -- a flow, by its number
  pub flow_counted : (f : ℕ) → 1 ≤ f → f ≤ flows list → (entries : List ℕ) → sum_by (λ e. bit (eqb e f)) entries ≡ cells_on side ports list (flow (f - 1)) entries
  flow_counted f low high =
      let number : f ≡ suc (f - 1) = omega arith in
      cells_counted (flow (f - 1)) (λ e. bit (eqb e f)) (λ at e. ap (λ z. bit (eqb e z)) number ∙ sym (flow_counts side list (f - 1) at e (omega arith)))

  -- a port of the other side, by the flows of the entries
  pub other_counted : (of : Side) (x : ℕ) → same side of ≡ false → (entries : List ℕ)
      → sum_by (λ e. bit (is_flow_of (port_on of x) list e)) entries ≡ cells_on side ports list (port_on of x) entries
  other_counted of x apart = cells_counted (port_on of x) (λ e. bit (is_flow_of (port_on of x) list e)) (λ at e. rw apart refl)

  -- a port of the frame's own side, by its entry of each slot
  own_slot : (slot : List ℕ) → length slot ≡ ports → (x : ℕ) → x < ports → cells_on side ports list (port_on side x) slot ≡ bit (not (eqb (get_or slot x 0) 0))
  own_slot slot size x low =
      cells_slot side ports list (port_on side x) slot size
      ∙ sum_ext ports _ (λ i. bit (both (eqb i x) (not (eqb (get_or slot i 0) 0)))) (λ i l. rw (same_side side) refl)
      ∙ sum_one ports x _ low (λ i l n. rw (ne_eqb i x n) refl)
      ∙ rw (eq-eqb x x refl) refl

  pub own_counted : (slots : ℕ) (entries : List ℕ) → length entries ≡ slots * ports → (start len x : ℕ) → start + len ≤ slots → x < ports
      → sum_by (λ s. bit (not (eqb (get_or (run_of ports s 1 entries) x 0) 0))) (range_with_len start len)
      ≡ cells_on side ports list (port_on side x) (run_of ports start len entries)
  own_counted slots entries size start len x inside low =
      in_range (λ s. bit (not (eqb (get_or (run_of ports s 1 entries) x 0) 0))) len start
      ∙ sum_ext len _ _ (λ t h. sym (own_slot (run_of ports (start + t) 1 entries) (slot_length (start + t) (omega arith)) x low))
      ∙ sym (cells_slots side ports slots list entries size (port_on side x) start len inside)
    where
      slot_length : (s : ℕ) → s < slots → length (run_of ports s 1 entries) ≡ ports
      slot_length s h = let m = mul-le-mul_right {m = suc s} {n = slots} ports h in run_length ports s 1 entries (omega arith) ∙ omega arith

-- ---- the two sides
told_same : (s of : told.Side) → sameb the_type s of ≡ same (side_of s) (side_of of)
told_same Input Input = refl
told_same Input Output = refl
told_same Output Input = refl
told_same Output Output = refl

one_side : (s t : Side) → same s t ≡ true → s ≡ t
one_side input input e = refl
one_side input output e = absurd (true≢false (sym e))
one_side output input e = absurd (true≢false (sym e))
one_side output output e = refl

module _ (s of : told.Side) {b : Bool} (is : b ≡ sameb the_type s of) where
  pub sides_same : b ≡ true → side_of s ≡ side_of of
  sides_same e = one_side (side_of s) (side_of of) (sym (told_same s of) ∙ sym is ∙ e)

  pub sides_apart : b ≡ false → same (side_of s) (side_of of) ≡ false
  sides_apart e = sym (told_same s of) ∙ sym is ∙ e
