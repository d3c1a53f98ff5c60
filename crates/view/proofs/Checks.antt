-- The checks of a question about a frame in their order, and the part that Slot view shows.
use Prim.Native.Nat.{ℕ, suc, ◌+◌, ◌-◌, ◌*◌, ◌≤◌}
use mathlib.Core.Path.{◌≡◌, refl, sym, ap, ◌∙◌}
use mathlib.Core.List.{List, [], ◌∷◌}
use mathlib.Core.Bool.{Bool, true, false, not}
use native.Mathlib.Omega.{arith}
use native.Mathlib.Nat.{mul-le-mul_right}
use mir.Syntax.{w64}
use mir.Val.{Fits}
use lib.Dec.{eqb}
use lib.ListN.{length, get_or}
use borrow.Author.Tests.{eqb-false}
use Rattle.rules.specs.Words.{within, Within}
use Rattle.rules.specs.Frames.{levels}
use Rattle.calls.specs.Refusals.{none_holds, accepted, refusal}
use Rattle.calls.specs.Service.{view_checks, view_number, view_start, view_size}
use Rattle.calls.specs.declared.Refusal.{Refusal}
use Rattle.rules.proofs.Cases.{by_bool}
use Rattle.calls.proofs.Reports.{clear_none, clear_some, clear_passes, first_reported, other_reported, ports_tells, slots_tells, frame_tells, slot_tells, refusal_number}
use Rattle.checks.specs.Fits.{FrameFits}
use Rattle.checks.proofs.Fits.{entries_most}
use Rattle.view.specs.Asked.{checked}

-- ---- the answers in their order
module _ (ports slots : ℕ) (entries : List ℕ) (slot : ℕ) where
  module _ {a : Bool} (p : a ≡ not (within 1 16 ports)) where
    pub ports_refused : a ≡ true → 1 ∷ [] ≡ checked ports slots entries slot
    unfolding checked view_checks
    ports_refused e = first_reported 0 (view_checks ports slots entries slot) accepted tt (sym p ∙ e)

    module _ (p' : a ≡ false) {b : Bool} (s : b ≡ eqb (levels slots) 11) where
      pub slots_refused : b ≡ true → 2 ∷ [] ≡ checked ports slots entries slot
      unfolding checked view_checks
      slots_refused e = first_reported 1 (view_checks ports slots entries slot) accepted (sym p ∙ p', tt) (sym s ∙ e)

      module _ (s' : b ≡ false) {c : Bool} (l : c ≡ not (eqb (length entries) (slots * ports))) where
        pub size_refused : c ≡ true → 4 ∷ [] ≡ checked ports slots entries slot
        unfolding checked view_checks
        size_refused e = first_reported 2 (view_checks ports slots entries slot) accepted (sym p ∙ p', (sym s ∙ s', tt)) (sym l ∙ e)

        module _ (l' : c ≡ false) {d : Bool} (t : d ≡ not (within 1 slots slot)) where
          pub slot_refused : d ≡ true → 11 ∷ [] ≡ checked ports slots entries slot
          unfolding checked view_checks
          slot_refused e =
              first_reported 3 (view_checks ports slots entries slot) accepted (sym p ∙ p', (sym s ∙ s', (sym l ∙ l', tt))) (sym t ∙ e)

          pub none_refused : d ≡ false → accepted ≡ checked ports slots entries slot
          unfolding checked view_checks
          none_refused e =
              other_reported (view_checks ports slots entries slot) accepted (sym p ∙ p', (sym s ∙ s', (sym l ∙ l', (sym t ∙ e, tt))))

-- ---- what is known where none holds
module _ (ports slots : ℕ) (entries : List ℕ) (slot : ℕ) (none : none_holds (view_checks ports slots entries slot) ≡ true) where
  open_frame : FrameFits ports slots entries
  unfolding view_checks
  open_frame =
      let passed = clear_passes (view_checks ports slots entries slot) none in
      record {
        most = ((ports_tells ports).known passed.0).1;
        power = (slots_tells slots).known passed.1.0;
        size = (frame_tells ports slots entries).known passed.1.1.0;
      }

  open_slot : Within 1 slots slot
  unfolding view_checks
  open_slot = (slot_tells slots slot).known (clear_passes (view_checks ports slots entries slot) none).1.1.1.0

  -- the slot's entries are within the frame
  open_inside : (slot - 1) * ports + ports ≤ length entries
  open_inside =
      let least = open_slot.0 in
      let is : slot ≡ suc (slot - 1) = omega arith in
      omega (arith, open_frame.size, mul-le-mul_right ports open_slot.1, ap (λ z. z * ports) is)

-- ---- the part that Slot view shows
-- an end of a part: within a frame, and a number
record Upto (end size : ℕ) : Type 0 where
  pub inside : end ≤ size
  pub low : end ≤ 16384

module _ (ports slots : ℕ) (entries : List ℕ) (slot : ℕ) where
  -- a question that is refused, and how
  module _ (r : Refusal) (is : refusal r ≡ checked ports slots entries slot) where
    pub number_shut : get_or (refusal r) 0 0 ≡ view_number ports slots entries slot
    unfolding checked
    number_shut = ap (λ l. get_or l 0 0) is

    some_hold : none_holds (view_checks ports slots entries slot) ≡ false
    unfolding checked
    some_hold = clear_some (view_checks ports slots entries slot) accepted refl (λ n. refusal_number r (number_shut ∙ n))

    pub start_shut : 0 ≡ view_start ports slots entries slot
    start_shut = rw some_hold

    pub size_shut : 0 ≡ view_size ports slots entries slot
    size_shut = rw some_hold

  -- one that is not
  module _ (is : accepted ≡ checked ports slots entries slot) where
    pub number_open : 0 ≡ view_number ports slots entries slot
    unfolding checked
    number_open = ap (λ l. get_or l 0 0) is

    none_hold : none_holds (view_checks ports slots entries slot) ≡ true
    unfolding view_checks
    none_hold =
        clear_none (view_checks ports slots entries slot) accepted
        (eqb-false 1 0 refl, (eqb-false 2 0 refl, (eqb-false 4 0 refl, (eqb-false 11 0 refl, tt)))) (sym number_open)

    pub start_open : (slot - 1) * ports ≡ view_start ports slots entries slot
    start_open = rw none_hold

    pub size_open : ports ≡ view_size ports slots entries slot
    size_open = rw none_hold

    pub slot_from_one : 1 ≤ slot
    slot_from_one = (open_slot ports slots entries slot none_hold).0

    pub start_fits : Fits w64 ((slot - 1) * ports)
    start_fits =
        record { fits = omega (arith, open_inside ports slots entries slot none_hold, entries_most (open_frame ports slots entries slot none_hold)) }

-- wherever the part is, it is within the frame, and the frame is short or the part begins and ends at 0
part_inside : (ports slots : ℕ) (entries : List ℕ) (slot : ℕ)
    → Upto (view_start ports slots entries slot + view_size ports slots entries slot) (length entries)
part_inside ports slots entries slot =
    by_bool (none_holds (view_checks ports slots entries slot))
    (λ e. rw e (record { inside = open_inside ports slots entries slot e; low = omega (arith, open_inside ports slots entries slot e, entries_most (open_frame ports slots entries slot e)) }))
    (λ e. rw e (record { inside = omega arith; low = omega arith }))

module _ (ports slots : ℕ) (entries : List ℕ) (slot : ℕ) {start size : ℕ} (s : start ≡ view_start ports slots entries slot) (z : size ≡ view_size ports slots entries slot) where
  pub end_inside : start + size ≤ length entries
  end_inside = omega (arith, s, z, (part_inside ports slots entries slot).inside)

  pub end_fits : Fits w64 (start + size)
  end_fits = record { fits = omega (arith, s, z, (part_inside ports slots entries slot).low) }

  pub offset_fits : Fits w64 (start * 2)
  offset_fits = record { fits = omega (arith, s, z, (part_inside ports slots entries slot).low) }
