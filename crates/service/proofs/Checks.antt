-- The checks of Service count in their order, and the answer where none holds.
use Prim.Native.Nat.{ℕ, ◌-◌, ◌*◌}
use mathlib.Core.Path.{◌≡◌, sym, ap, ◌∙◌}
use mathlib.Core.List.{List, [], ◌∷◌}
use mathlib.Core.Bool.{Bool, true, false, not}
use lib.Dec.{ltb}
use lib.ListN.{length}
use borrow.Author.Tests.{eq-eqb}
use Rattle.rules.specs.Words.{within}
use Rattle.rules.specs.Flows.{Side}
use Rattle.rules.specs.Frames.{repeated, cells_on}
use Rattle.calls.specs.Refusals.{Check, report, none_holds, refusal, accepted, list_checks, bad_frame, bad_slot}
use Rattle.calls.specs.Service.{class_of, who_within, bad_who, bad_length, lead_on, served, count_checks, service}
use Rattle.calls.specs.declared.Refusal.{Refusal}
use Rattle.calls.specs.declared.Refusal.TheVariants.{SlotNumber, FlowOrPort, RunLength}
use Rattle.calls.specs.declared.Who.{Who}
use Rattle.calls.specs.declared.Count.{Count}
use Rattle.std.specs.Prelude.{Ok, Err}
use Rattle.calls.proofs.Reports.{clear_then, passes_clear, report_on, first_reported, refusal_number}
use Rattle.calls.proofs.Replies.{count, reply_refused, reply_counted}
use Rattle.checks.specs.Fits.{Clear}
use Rattle.checks.proofs.Listed.{list_refused}
use Rattle.checks.proofs.Framed.{frame_refused, after_list}

module _ (side : Side) (ports slots : ℕ) (list frame : List ℕ) (who : Who) (start len : ℕ) where
  -- what comes after the checks of the list and of the frame
  abbrev rest : List Check
  rest = bad_slot slots start ∷ bad_who ports list who ∷ bad_length len ∷ []

  abbrev asked : List ℕ
  asked = count side ports slots list frame who start len

  pub list_shut : (r : Refusal) → refusal r ≡ report (list_checks ports slots list) accepted → served (Err r) ≡ service side ports slots list frame who start len
  unfolding count_checks
  list_shut r e = reply_refused side ports slots list frame who start len (sym (list_refused ports slots list r e (bad_frame ports slots frame ∷ rest) asked)) (refusal_number r)

  module _ {p s : ℕ} {l : List ℕ} (passed : Clear p s l) (told : (p ≡ ports) × (s ≡ slots) × (l ≡ list)) where
    clear : Clear ports slots list
    clear = rw (told.0, told.1, told.2) at passed

    pub frame_shut : (r : Refusal) → refusal r ≡ report (bad_frame p s frame ∷ []) accepted → served (Err r) ≡ service side ports slots list frame who start len
    unfolding count_checks
    frame_shut r e = reply_refused side ports slots list frame who start len (sym (frame_refused frame clear r (rw (told.0, told.1) at e) rest asked)) (refusal_number r)

    module _ {q t : ℕ} {m e : List ℕ} (size : length e ≡ t * q) (kept : (q ≡ p) × (t ≡ s) × (m ≡ l) × (e ≡ frame)) where
      framed : (bad_frame ports slots frame).0 ≡ false
      framed = ap not (eq-eqb (length frame) (slots * ports) (rw (kept.0, kept.1, kept.3, told.0, told.1) at size))

      refused_by : (r : Refusal) → refusal r ≡ report rest asked → served (Err r) ≡ service side ports slots list frame who start len
      unfolding count_checks
      refused_by r e =
          reply_refused side ports slots list frame who start len
          (after_list clear (bad_frame ports slots frame ∷ rest) asked ∙ report_on (bad_frame ports slots frame) rest asked framed ∙ sym e) (refusal_number r)

      module _ {b : Bool} (o : b ≡ not (within 1 slots start)) where
        pub start_shut : b ≡ true → served (Err SlotNumber) ≡ service side ports slots list frame who start len
        start_shut e = refused_by SlotNumber (first_reported 0 rest asked tt (sym o ∙ e))

        module _ (o' : b ≡ false) {d : Bool} (w : d ≡ not (who_within ports list who)) where
          pub who_shut : d ≡ true → served (Err FlowOrPort) ≡ service side ports slots list frame who start len
          who_shut e = refused_by FlowOrPort (first_reported 1 rest asked (sym o ∙ o', tt) (sym w ∙ e))

          module _ (w' : d ≡ false) {f : Bool} (n : f ≡ ltb 1000000 len) where
            pub length_shut : f ≡ true → served (Err RunLength) ≡ service side ports slots list frame who start len
            length_shut e = refused_by RunLength (first_reported 2 rest asked (sym o ∙ o', (sym w ∙ w', tt)) (sym n ∙ e))

            module _ (n' : f ≡ false) (r : Count) where
              pub run_counted : r.cells ≡ cells_on side q m (class_of who) (repeated q t e (start - 1) len)
                  → r.lead ≡ lead_on side (class_of who) q t m e (start - 1) len
                  → served (Ok r) ≡ service side ports slots list frame who start len
              unfolding count_checks
              run_counted g h =
                  let none : none_holds (count_checks ports slots list frame who start len) ≡ true
                  = clear_then (list_checks ports slots list) (bad_frame ports slots frame ∷ rest) clear.none
                  ∙ passes_clear (bad_frame ports slots frame ∷ rest) (framed, (sym o ∙ o', (sym w ∙ w', (sym n ∙ n', tt)))) in
                  let cells : r.cells ≡ cells_on side ports list (class_of who) (repeated ports slots frame (start - 1) len) = rw (kept.0, kept.1, kept.2, kept.3, told.0, told.1, told.2) at g in
                  let lead : r.lead ≡ lead_on side (class_of who) ports slots list frame (start - 1) len = rw (kept.0, kept.1, kept.2, kept.3, told.0, told.1, told.2) at h in
                  rw (cells, lead) (reply_counted side ports slots list frame who start len none)
