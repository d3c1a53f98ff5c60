-- What Build answers and leaves, refusal by refusal.
use Prim.Native.Nat.{ℕ, ◌*◌}
use mathlib.Core.Path.{◌≡◌, refl, sym, ap, ◌∙◌}
use mathlib.Core.Logic.{◌≢◌}
use mathlib.Core.List.{List, [], ◌∷◌}
use mathlib.Core.Bool.{true}
use native.Mathlib.Omega.{arith}
use lib.ListN.{length, get_or}
use Rattle.rules.specs.Flows.{counts_of}
use Rattle.rules.specs.Frames.{levels}
use Rattle.rules.specs.OddShares.{settled}
use Rattle.calls.specs.Refusals.{report, refusal, accepted, list_checks, bad_frame, overloads}
use Rattle.calls.specs.Build.{build_checks, build_accepts, frame_for, acceptance, built, frame_after}
use Rattle.calls.specs.Demand2.{Accepts}
use Rattle.calls.specs.declared.Refusal.{Refusal}
use Rattle.calls.proofs.Reports.{report_clear, report_stops, clear_none, clear_some, refusal_number}
use Rattle.calls.proofs.Demand2.{past_frame, clear_allows, accepts_yes}
use Rattle.calls.proofs.Work.{work_built}
use Rattle.checks.specs.Fits.{Clear}
use Rattle.checks.proofs.Listed.{list_refused, list_well, list_fits}
use Rattle.checks.proofs.Framed.{frame_refused, frame_fits, clear_power}
use Rattle.admission.specs.declared.Loads.{Loads}
use Rattle.admission.specs.Overloads.{EveryLoad, decided}
use Rattle.admission.proofs.Deciding.{decided_loads}
use Rattle.schedule.specs.Steps.{Fillable}

module _ (ports slots : ℕ) (list limits buffer : List ℕ) where
  -- a refusal leaves the entries
  pub leaves : (x : Refusal) → refusal x ≡ built ports slots list limits buffer → buffer ≡ frame_after ports slots list limits buffer
  leaves x e =
      let some : get_or (built ports slots list limits buffer) 0 0 ≢ 0 = rw e at (refusal_number x) in
      rw (clear_some (build_checks ports slots list limits buffer) (acceptance ports slots list limits buffer) refl some)

  -- one of the list
  pub list_answer : (x : Refusal) → refusal x ≡ report (list_checks ports slots list) accepted → refusal x ≡ built ports slots list limits buffer
  unfolding build_checks
  list_answer x e =
      list_refused ports slots list x e (bad_frame ports slots buffer ∷ overloads ports slots list limits) (acceptance ports slots list limits buffer)

  -- the list that has passed, as it is lent on
  module _ {p s : ℕ} {l : List ℕ} (same : (p ≡ ports) × (s ≡ slots) × (l ≡ list)) (passed : Clear p s l) where
    clear : Clear ports slots list
    clear = rw (same.0, same.1, same.2) at passed

    -- one of the frame
    pub frame_answer : (x : Refusal) → refusal x ≡ report (bad_frame p s buffer ∷ []) accepted → refusal x ≡ built ports slots list limits buffer
    unfolding build_checks
    frame_answer x e =
        frame_refused buffer clear x (rw (same.0, same.1) at e) (overloads ports slots list limits) (acceptance ports slots list limits buffer)

    -- and the frame
    module _ {q r : ℕ} {m entries : List ℕ} (framed : (q ≡ p) × (r ≡ s) × (m ≡ l) × (entries ≡ buffer)) (sized : length entries ≡ r * q)
        {loads : Loads} (every : EveryLoad p l loads) where
      size : length buffer ≡ slots * ports
      size = rw (framed.3, framed.0, framed.1, same.0, same.1) at sized

      -- 5, 6 and 24 are decided by the loads and the limits
      loads_decide : decided slots loads limits ≡ report (overloads ports slots list limits) accepted
      loads_decide = decided_loads slots loads limits (list_fits clear) (rw (same.0, same.2) at every)

      pub load_answer : (x : Refusal) → refusal x ≡ decided slots loads limits → refusal x ≡ built ports slots list limits buffer
      unfolding build_checks
      load_answer x e =
          report_stops (overloads ports slots list limits) [] (acceptance ports slots list limits buffer) x (e ∙ loads_decide)
          ∙ sym (past_frame ports slots list (list_well clear) buffer size (overloads ports slots list limits) (acceptance ports slots list limits buffer))

      module _ (none : accepted ≡ decided slots loads limits) where
        accepts : Accepts ports slots list limits buffer
        accepts =
            let e : get_or (report (overloads ports slots list limits) accepted) 0 0 ≡ 0 = ap (λ (l : List ℕ). get_or l 0 0) (sym (none ∙ loads_decide)) in
            let c = clear_allows ports slots list limits (clear_none (overloads ports slots list limits) accepted (omega arith, (omega arith, (omega arith, tt))) e) in
            record { well = list_well clear; size = size; fits = c.0; allowed = c.1 }

        yes : build_accepts ports slots list limits buffer ≡ true
        yes = accepts_yes ports slots list limits buffer accepts

        -- what is filled
        pub fillable : Fillable p s l buffer
        fillable =
            rw (same.0, same.1, same.2)
            (record { listed = list_fits clear; framed = frame_fits (list_fits clear) (clear_power clear) size; fits = accepts.fits })

        pub filled_answer : {n : ℕ} → n ≡ settled (levels s) (counts_of l) → 0 ∷ n ∷ [] ≡ built ports slots list limits buffer
        filled_answer {n} e =
            let told : n ≡ settled (levels slots) (counts_of list) = e ∙ rw (same.1, same.2) refl in
            ap (λ (j : ℕ). 0 ∷ j ∷ []) (told ∙ sym (work_built ports slots list limits buffer yes))
            ∙ sym (report_clear (build_checks ports slots list limits buffer) (acceptance ports slots list limits buffer) yes)

        pub filled_leaves : {entries : List ℕ} → entries ≡ frame_for p s l → entries ≡ frame_after ports slots list limits buffer
        filled_leaves {entries} e =
            let told : entries ≡ frame_for ports slots list = e ∙ rw (same.0, same.1, same.2) refl in told ∙ rw yes
