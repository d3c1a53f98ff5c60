-- Demand 2: a well-formed load is refused as overloaded exactly where it does not fit or the limits do not allow it, with the lowest such
-- port or link and its load; every other one is accepted, and Build leaves the rules' only frame.
use Prim.Native.Nat.{ℕ, ◌*◌, ◌^◌, ◌≤◌, ◌<◌}
use mathlib.Core.Path.{◌≡◌, refl, sym, ◌∙◌, subst, ap}
use mathlib.Core.List.{List, [], ◌∷◌, ◌++◌}
use mathlib.Core.Bool.{true, false, not}
use native.Mathlib.Omega.{arith}
use lib.ListN.{length, get_or}
use borrow.Author.Tests.{not-true, eq-eqb}
use Rattle.rules.specs.Flows.{flows, number_of, inputs, links, port_of, counts_of, Side, on_side, port_on, input, output, Fits}
use Rattle.rules.specs.Frames.{Legal, Balanced, levels}
use Rattle.calls.specs.Demand2.{Ported, Linked, WellFormed, OverloadAnswers, Accepts, Light, Allows, Demand2}
use Rattle.calls.specs.Refusals.{Check, report, none_holds, accepted, bad_ports, bad_slots, bad_list, too_many_flows, port_outside, link_outside, list_checks, bad_frame, overload, port_overloads, link_overload, overloads, admitted}
use Rattle.rules.specs.Rules.{Scheduled}
use Rattle.rules.specs.Schedule.{frame_of}
use Rattle.calls.specs.Build.{build_checks, acceptance, built, build_accepts, frame_after, AcceptedWith0}
use Rattle.rules.proofs.Cases.{both_true}
use Rattle.rules.proofs.Levels.{levels_power, power_known}
use Rattle.rules.proofs.Flows.{counts_length, counts_at, output_is}
use Rattle.rules.proofs.Halves.{load_has}
use Rattle.rules.proofs.Slots.{AtInputs}
use Rattle.rules.proofs.OneFrame.{frame_is, one_frame}
use Rattle.rules.specs.OneFrame.{OneFrame}
use Rattle.calls.proofs.Reports.{report_found, report_on, report_clear, report_then, clear_then, clear_parts, clear_none, ports_tells, slots_tells, list_tells, flows_tells, flow_tells, link_tells, frame_tells}
use Rattle.calls.proofs.Overloads.{over_reported, overload_tells, link_reported, limits_tell}

-- the first n flows are at inputs of the switch
pub ported_placed : {ports : ℕ} (list : List ℕ) → Ported ports list → AtInputs ports (port_of list) (flows list)
unfolding port_of
ported_placed list ported f h = let p = ported inputs f h in omega arith

-- and the ports of a flow on either side are ports of the switch
pub ported_on : {ports : ℕ} (list : List ℕ) → Ported ports list → Linked list → (side : Side) (f : ℕ) → f < flows list → on_side side (port_of list) f < ports
ported_on list ported linked input f h = ported_placed list ported f h
ported_on list ported linked output f h = let p = ported links f h in omega (arith, output_is list f (linked f h))

-- the cells of a flow are at most the load of its input, and so at most the slots of a frame that they fit
pub flow_most : {ports slots : ℕ} (list : List ℕ) → Ported ports list → Fits ports slots (port_of list) (counts_of list) → (f : ℕ) → f < flows list
    → number_of 2 list f ≤ slots
flow_most list ported fits f h =
    let i = port_of list inputs f in
    let own = load_has (port_on input i) (port_of list) (counts_of list) f (omega (arith, counts_length list)) (eq-eqb i i refl) in
    omega (arith, own, (fits i (ported_placed list ported f h)).0, counts_at list f h)

module _ (ports slots : ℕ) (list : List ℕ) where
  -- a load fits where its inputs and its outputs are light
  pub light_fits : Light (port_on input) ports slots list → Light (port_on output) ports slots list → Fits ports slots (port_of list) (counts_of list)
  light_fits i o x h = (i x h, o x h)

  -- a load fits exactly where neither 5 nor 6 holds
  pub clear_fits : none_holds (port_overloads ports slots list) ≡ true → Fits ports slots (port_of list) (counts_of list)
  clear_fits e =
      let i = both_true (not (overload 5 (port_on input) ports slots list).0) (none_holds (overload 6 (port_on output) ports slots list ∷ [])) e in
      let o = both_true (not (overload 6 (port_on output) ports slots list).0) true i.1 in
      light_fits ((overload_tells 5 (port_on input) ports slots list).known (not-true _ i.0)) ((overload_tells 6 (port_on output) ports slots list).known (not-true _ o.0))

  pub fits_clear : Fits ports slots (port_of list) (counts_of list) → none_holds (port_overloads ports slots list) ≡ true
  fits_clear fits =
      rw ((overload_tells 5 (port_on input) ports slots list).met (λ x h. (fits x h).0), (overload_tells 6 (port_on output) ports slots list).met (λ x h. (fits x h).1))

  -- and the limits allow it too exactly where 24 does not hold either
  pub clear_allows : (limits : List ℕ) → none_holds (overloads ports slots list limits) ≡ true
      → Fits ports slots (port_of list) (counts_of list) × Allows ports list limits
  clear_allows limits e =
      let a = clear_parts (port_overloads ports slots list) (link_overload ports list limits ∷ []) e in
      let b = both_true (not (link_overload ports list limits).0) true a.1 in
      (clear_fits a.0, (limits_tell ports list limits).known (not-true _ b.0))

  pub allows_clear : (limits : List ℕ) → Fits ports slots (port_of list) (counts_of list) → Allows ports list limits
      → none_holds (overloads ports slots list limits) ≡ true
  allows_clear limits fits allowed =
      clear_then (port_overloads ports slots list) (link_overload ports list limits ∷ []) (fits_clear fits)
      ∙ rw ((limits_tell ports list limits).met allowed)

  -- 5, then 6, then 24, answer as they should
  overload_answers : (limits taken : List ℕ)
      → OverloadAnswers ports slots list limits taken (report (overloads ports slots list limits) taken)
  overload_answers limits taken =
      record {
        accepts = λ fits allowed. report_clear (overloads ports slots list limits) taken (allows_clear limits fits allowed);
        fits = λ e. (none e).0;
        allowed = λ e. (none e).1;
        input_over = λ x o. report_found fifth (sixth ∷ last ∷ []) taken (over_reported 5 (port_on input) ports slots list x o);
        output_over = λ i x o.
            report_on fifth (sixth ∷ last ∷ []) taken ((overload_tells 5 (port_on input) ports slots list).met i)
            ∙ report_found sixth (last ∷ []) taken (over_reported 6 (port_on output) ports slots list x o);
        link_over = λ i o x p.
            report_then (port_overloads ports slots list) (last ∷ []) taken (fits_clear (light_fits i o))
            ∙ report_found last [] taken (link_reported ports list limits x p);
      }
    where
      fifth : Check
      fifth = overload 5 (port_on input) ports slots list

      sixth : Check
      sixth = overload 6 (port_on output) ports slots list

      last : Check
      last = link_overload ports list limits

      none : get_or (report (overloads ports slots list limits) taken) 0 0 ≡ 0
          → Fits ports slots (port_of list) (counts_of list) × Allows ports list limits
      none e = clear_allows limits (clear_none (overloads ports slots list limits) taken (omega arith, (omega arith, (omega arith, tt))) e)

  -- a list is well-formed exactly where none of 1, 2, 3, 21, 22 and 23 holds
  pub well_clear : WellFormed ports slots list → none_holds (list_checks ports slots list) ≡ true
  well_clear w =
      rw (
        (ports_tells ports).met w.rack,
        (slots_tells slots).met w.power,
        (list_tells list).met w.whole,
        (flows_tells list).met w.few,
        (flow_tells ports list).met w.ported,
        (link_tells list).met w.linked,
      )

  pub clear_well : none_holds (list_checks ports slots list) ≡ true → WellFormed ports slots list
  clear_well e =
      let a = both_true (not (bad_ports ports).0) _ e in
      let b = both_true (not (bad_slots slots).0) _ a.1 in
      let c = both_true (not (bad_list list).0) _ b.1 in
      let d = both_true (not (too_many_flows list).0) _ c.1 in
      let f = both_true (not (port_outside ports list).0) _ d.1 in
      let g = both_true (not (link_outside list).0) _ f.1 in
      record {
        rack = (ports_tells ports).known (not-true _ a.0);
        power = (slots_tells slots).known (not-true _ b.0);
        whole = (list_tells list).known (not-true _ c.0);
        few = (flows_tells list).known (not-true _ d.0);
        ported = (flow_tells ports list).known (not-true _ f.0);
        linked = (link_tells list).known (not-true _ g.0);
      }

  module _ (w : WellFormed ports slots list) where
    -- 1, 2, 3, 21, 22 and 23 are past
    pub past_load : (cs : List Check) (asked : List ℕ) → report (list_checks ports slots list ++ cs) asked ≡ report cs asked
    past_load cs asked = report_then (list_checks ports slots list) cs asked (well_clear w)

    -- 4 is past too where the frame has its size
    pub past_frame : (entries : List ℕ) → length entries ≡ slots * ports → (cs : List Check) (asked : List ℕ)
        → report (list_checks ports slots list ++ (bad_frame ports slots entries ∷ cs)) asked ≡ report cs asked
    past_frame entries e cs asked =
        past_load (bad_frame ports slots entries ∷ cs) asked ∙ report_on (bad_frame ports slots entries) cs asked ((frame_tells ports slots entries).met e)

    -- Admit's answer
    pub admit_answers : (limits : List ℕ) → OverloadAnswers ports slots list limits accepted (admitted ports slots list limits)
    unfolding admitted
    admit_answers limits =
        subst (OverloadAnswers ports slots list limits accepted) (sym (past_load (overloads ports slots list limits) accepted))
        (overload_answers limits accepted)

    -- Build's answer
    pub build_answers : (limits buffer : List ℕ) → length buffer ≡ slots * ports
        → OverloadAnswers ports slots list limits (acceptance ports slots list limits buffer) (built ports slots list limits buffer)
    unfolding build_checks
    build_answers limits buffer e =
        let taken = acceptance ports slots list limits buffer in
        subst (OverloadAnswers ports slots list limits taken) (sym (past_frame buffer e (overloads ports slots list limits) taken))
        (overload_answers limits taken)

-- the rules' frame of a well-formed load that fits
pub well_frame : (ports slots : ℕ) (list : List ℕ) (w : WellFormed ports slots list) → Fits ports slots (port_of list) (counts_of list)
    → Scheduled ports (port_of list) w.power.k (counts_of list) (frame_of ports (port_of list) w.power.k (counts_of list))
well_frame ports slots list w fits =
    frame_is ports (port_of list) w.power.k (counts_of list) (rw (counts_length list) (ported_placed list w.ported))
    (subst (λ (n : ℕ). Fits ports n (port_of list) (counts_of list)) w.power.is fits)

-- ---- Build
-- it is accepted exactly there
pub accepts_is : (ports slots : ℕ) (list limits buffer : List ℕ) → build_accepts ports slots list limits buffer ≡ true
    → Accepts ports slots list limits buffer
unfolding build_checks
accepts_is ports slots list limits buffer e =
    let a = clear_parts (list_checks ports slots list) (bad_frame ports slots buffer ∷ overloads ports slots list limits) e in
    let b = both_true (not (bad_frame ports slots buffer).0) _ a.1 in
    let c = clear_allows ports slots list limits b.1 in
    record {
      well = clear_well ports slots list a.0;
      size = (frame_tells ports slots buffer).known (not-true _ b.0);
      fits = c.0;
      allowed = c.1;
    }

pub accepts_yes : (ports slots : ℕ) (list limits buffer : List ℕ) → Accepts ports slots list limits buffer
    → build_accepts ports slots list limits buffer ≡ true
unfolding build_checks
accepts_yes ports slots list limits buffer a =
    clear_then (list_checks ports slots list) (bad_frame ports slots buffer ∷ overloads ports slots list limits)
    (well_clear ports slots list a.well)
    ∙ rw ((frame_tells ports slots buffer).met a.size) (allows_clear ports slots list limits a.fits a.allowed)

-- an accepted Build leaves the rules' only frame, and a refused one the entries that it was lent
pub build_frame : (ports slots : ℕ) (list limits buffer : List ℕ) → build_accepts ports slots list limits buffer ≡ true
    → OneFrame ports (levels slots) list (frame_after ports slots list limits buffer) × (slots ≡ 2 ^ levels slots)
build_frame ports slots list limits buffer e =
    let a = accepts_is ports slots list limits buffer e in
    let p = levels_power slots (power_known a.well.power) in
    (rw e (one_frame ports (levels slots) list (ported_placed list a.well.ported) (subst (λ (n : ℕ). Fits ports n (port_of list) (counts_of list)) p a.fits)), p)

pub build_sound : (ports slots : ℕ) (list limits buffer : List ℕ) → build_accepts ports slots list limits buffer ≡ true
    → Legal ports slots list (frame_after ports slots list limits buffer) × Balanced ports slots list (frame_after ports slots list limits buffer)
build_sound ports slots list limits buffer e =
    let b = build_frame ports slots list limits buffer e in
    let entries = frame_after ports slots list limits buffer in
    subst (λ (n : ℕ). Legal ports n list entries × Balanced ports n list entries) (sym b.1) (b.0.legal, b.0.balanced)

pub build_keeps : (ports slots : ℕ) (list limits buffer : List ℕ) → build_accepts ports slots list limits buffer ≡ false
    → frame_after ports slots list limits buffer ≡ buffer
build_keeps ports slots list limits buffer e = rw e

pub accepted_with_0 : AcceptedWith0
unfolding build_checks
accepted_with_0 ports slots list limits buffer =
    let checks = build_checks ports slots list limits buffer in
    let taken = acceptance ports slots list limits buffer in (
      λ a. ap (λ (l : List ℕ). get_or l 0 0) (report_clear checks taken a),
      λ e. clear_none checks taken
          (omega arith, (omega arith, (omega arith, (omega arith, (omega arith, (omega arith, (omega arith, (omega arith, (omega arith, (omega arith, tt)))))))))) e,
    )

-- All of demand 2.
pub demand2 : Demand2
demand2 =
    record {
      admit = admit_answers;
      build = build_answers;
      accepts = accepts_yes;
      accepted_only = accepts_is;
      frame = build_frame;
      keeps = build_keeps;
    }
