-- What Add answers and leaves, refusal by refusal.
use Prim.Native.Nat.{ℕ, ◌*◌}
use mathlib.Core.Path.{◌≡◌, refl, sym, ap, ◌∙◌}
use mathlib.Core.Logic.{◌≢◌}
use mathlib.Core.List.{List, [], ◌∷◌, ◌++◌}
use mathlib.Core.Bool.{Bool, true, false, not}
use lib.Dec.{ltb}
use lib.ListN.{length, get_or}
use borrow.Author.Tests.{eq-eqb}
use Rattle.rules.specs.Words.{within, Within}
use Rattle.rules.specs.Flows.{flows, input}
use Rattle.rules.proofs.Cases.{by_bool}
use Rattle.calls.specs.Refusals.{Check, report, none_holds, refusal, accepted, list_checks, bad_frame}
use Rattle.calls.specs.Inspect.{bad_entries}
use Rattle.calls.specs.Service.{bad_who}
use Rattle.calls.specs.declared.Who.TheVariants.{Flow}
use Rattle.calls.specs.declared.Refusal.{Refusal}
use Rattle.calls.specs.declared.Refusal.TheVariants.{FlowOrPort, FrameEntries}
use Rattle.calls.proofs.Reports.{report_on, report_then, report_stops, clear_then, first_reported, clear_some, refusal_number, within_known}
use Rattle.usable_frames.specs.Usable.{Usable}
use Rattle.usable_frames.proofs.Slots.{usable_clear}
use Rattle.checks.specs.Fits.{Clear, FrameFits}
use Rattle.checks.proofs.Listed.{list_refused, list_well, list_fits}
use Rattle.checks.proofs.Framed.{frame_refused, frame_fits, after_list, clear_power}
use Rattle.entries.proofs.Told.{bad_reported, bad_usable}
use Rattle.exchange.specs.Add.{lowest_both, addition, add_checks, add_answer, add_leaves}
use Rattle.adding.specs.Placed.{Placed, idle_checks}

-- the answer is Add's, and so are the entries of the frame
abbrev pub Done : ℕ → ℕ → List ℕ → List ℕ → ℕ → List ℕ → List ℕ → Type 0
Done ports slots list frame e answer new = (answer ≡ add_answer ports slots list frame e) × (new ≡ add_leaves ports slots list frame e)

module _ (ports slots : ℕ) (list frame : List ℕ) (e : ℕ) where
  -- the tests between that of the frame and those of the slots
  abbrev middle : List Check
  middle = bad_who ports list (Flow e) ∷ bad_entries 16 input ports slots list frame

  -- all after that of the frame
  abbrev rest : List Check
  rest = middle ++ idle_checks ports slots list frame e

  abbrev asked : List ℕ
  asked = addition ports slots list frame e

  asked_number : get_or asked 0 0 ≡ 0
  asked_number = by_bool (ltb (lowest_both ports slots list frame e) slots) (λ b. rw b) (λ b. rw b)

  -- a refusal leaves the frame
  refused : (x : Refusal) → refusal x ≡ add_answer ports slots list frame e → Done ports slots list frame e (refusal x) frame
  refused x is =
      let some : get_or (add_answer ports slots list frame e) 0 0 ≢ 0 = rw is at (refusal_number x) in
      (is, rw (clear_some (add_checks ports slots list frame e) asked asked_number some))

  pub list_done : (x : Refusal) → refusal x ≡ report (list_checks ports slots list) accepted → Done ports slots list frame e (refusal x) frame
  unfolding add_checks
  list_done x d = refused x (list_refused ports slots list x d (bad_frame ports slots frame ∷ rest) asked)

  module _ {p s : ℕ} {l : List ℕ} (passed : Clear p s l) (told : (p ≡ ports) × (s ≡ slots) × (l ≡ list)) where
    clear : Clear ports slots list
    clear = rw (told.0, told.1, told.2) at passed

    pub frame_done : (x : Refusal) → refusal x ≡ report (bad_frame p s frame ∷ []) accepted → Done ports slots list frame e (refusal x) frame
    unfolding add_checks
    frame_done x d = refused x (frame_refused frame clear x (rw (told.0, told.1) at d) rest asked)

    module _ {q t : ℕ} {m es : List ℕ} (size : length es ≡ t * q) (kept : (q ≡ p) × (t ≡ s) × (m ≡ l) × (es ≡ frame)) where
      frame_size : length frame ≡ slots * ports
      frame_size = rw (kept.0, kept.1, kept.3, told.0, told.1) at size

      framed : FrameFits ports slots frame
      framed = frame_fits (list_fits clear) (clear_power clear) frame_size

      past : report rest asked ≡ add_answer ports slots list frame e
      unfolding add_checks
      past = sym (after_list clear (bad_frame ports slots frame ∷ rest) asked ∙ report_on (bad_frame ports slots frame) rest asked (ap not (eq-eqb (length frame) (slots * ports) frame_size)))

      module _ {n : ℕ} {r : Bool} (counted : n ≡ flows l) (r_is : r ≡ not (within 1 n e)) where
        who_is : r ≡ (bad_who ports list (Flow e)).0
        who_is = r_is ∙ ap (λ m. not (within 1 m e)) (counted ∙ ap flows told.2)

        pub flow_done : r ≡ true → Done ports slots list frame e (12 ∷ []) frame
        flow_done h = refused FlowOrPort (first_reported 0 rest asked tt (sym who_is ∙ h) ∙ past)

        module _ (listed : r ≡ false) {bad : Bool} (told_bad : bad ≡ not (none_holds (bad_entries 14 input q t m es))) where
          bad_is : bad ≡ not (none_holds (bad_entries 14 input ports slots list frame))
          bad_is = rw (kept.0, kept.1, kept.2, kept.3, told.0, told.1, told.2) at told_bad

          pub entries_done : bad ≡ true → Done ports slots list frame e (16 ∷ []) frame
          entries_done h =
              refused FrameEntries (report_stops middle (idle_checks ports slots list frame e) asked FrameEntries
              (sym (rw (sym who_is ∙ listed) (bad_reported 16 input ports slots list frame bad_is h accepted))) ∙ past)

          module _ (none : bad ≡ false) where
            usable_here : Usable input ports slots list frame
            usable_here = bad_usable input (list_well clear) framed bad_is none

            -- as the code names them
            pub usable : Usable input p s l frame
            usable = rw (told.0, told.1, told.2) usable_here

            pub flow_within : Within 1 (flows l) e
            flow_within = rw counted at (within_known {n = e} {most = n} r_is listed)

            middle_clear : none_holds middle ≡ true
            middle_clear = rw (sym who_is ∙ listed) (usable_clear 16 input ports slots list frame usable_here)

            pub place_done : {answer new : List ℕ} → Placed p s l frame e answer new → Done ports slots list frame e answer new
            unfolding add_checks
            place_done {answer} {new} given =
                let placed : Placed ports slots list frame e answer new = rw (told.0, told.1, told.2) at given in (
                  placed.answers ∙ sym (report_then middle (idle_checks ports slots list frame e) asked middle_clear) ∙ past,
                  placed.leaves ∙ sym (rw (
                    clear_then (list_checks ports slots list) (bad_frame ports slots frame ∷ rest) clear.none,
                    eq-eqb (length frame) (slots * ports) frame_size,
                    clear_then middle (idle_checks ports slots list frame e) middle_clear,
                  ) refl),
                )
