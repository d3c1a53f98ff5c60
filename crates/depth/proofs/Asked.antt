-- What Depth is asked: the load of a flow or a port, and the refusals in their order.
use Prim.Native.Nat.{ℕ, ◌-◌, ◌*◌, ◌^◌, ◌≤◌, ◌<◌}
use mathlib.Core.Path.{◌≡◌, sym, ap, ap₂, ◌∙◌}
use mathlib.Core.List.{List, [], ◌∷◌, ◌++◌, append-nil}
use mathlib.Core.Bool.{Bool, true, false, not}
use native.Mathlib.Nat.{mul-le-mul_left, mul-le-mul_right}
use native.Mathlib.Omega.{arith}
use lib.ListN.{get_or}
use borrow.Author.Tests.{not-false}
use Rattle.rules.specs.Flows.{flows, number_of, port_of, counts_of, load, Fits as LoadFits}
use Rattle.rules.specs.Frames.{levels}
use Rattle.strays.specs.Stray.{stray}
use Rattle.calls.specs.Refusals.{Check, report, none_holds, refusal, accepted, answered, list_checks, port_overloads}
use Rattle.calls.specs.Service.{class_of, who_within, bad_who}
use Rattle.calls.specs.Depth.{farthest, most_waiting, depth_checks, depth}
use Rattle.calls.specs.Demand2.{WellFormed}
use Rattle.calls.specs.declared.Refusal.{Refusal}
use Rattle.std.specs.Prelude.{Result, Ok, Err, ⊤}
use Rattle.calls.specs.declared.Who.{Who}
use Rattle.calls.specs.declared.Who.TheVariants.{Flow, Input, Output}
use Rattle.checks.specs.Fits.{Clear}
use Rattle.admission.specs.declared.Loads.{Loads}
use Rattle.admission.specs.Overloads.{EveryLoad, decided_ports}
use Rattle.depth.specs.Steps.{LoadWithin}
use Rattle.rules.proofs.Cases.{within_true}
use Rattle.rules.proofs.Halves.{load_flow}
use Rattle.rules.proofs.Flows.{counts_at}
use Rattle.rules.proofs.Levels.{power_level}
use Rattle.strays.proofs.Earliest.{earliest_most}
use Rattle.strays.proofs.Strays.{stray_most}
use Rattle.calls.proofs.Reports.{report_then, report_stops, first_reported, other_reported, clear_none}
use Rattle.calls.proofs.Demand2.{clear_fits, flow_most}
use Rattle.checks.proofs.Listed.{list_refused, list_well, list_fits}
use Rattle.checks.proofs.Framed.{after_list, clear_power}
use Rattle.admission.proofs.Deciding.{ports_decided}
use Rattle.depth.proofs.Peaks.{whole_low}

-- ---- the load of a flow that is asked about
pub flow_load : (ports : ℕ) (list : List ℕ) {who : Who} {f : ℕ} → who_within ports list who ≡ true → who ≡ Flow f → {r : ℕ} → r ≡ number_of 2 list (f - 1) → r ≡ load (class_of who) list
flow_load ports list {who} {f} within is e =
    let w = within_true 1 (flows list) f (sym (ap (who_within ports list) is) ∙ within) in
    rw is (e ∙ sym (load_flow (f - 1) (port_of list) (counts_of list) ∙ counts_at list (f - 1) (omega (arith, w.0, w.1))))

-- ---- the answer for a load that fits
module _ {slots m : ℕ} (room : LoadWithin slots m) where
  -- the numbers that it is made of
  pub record BoundLow : Type 0 where
    pub some_slot : 1 ≤ slots
    pub few_slots : slots ≤ 1024
    pub few_cells : m ≤ 1024
    pub low_stray : stray (levels slots) m ≤ 1048576

  pub bound_low : BoundLow
  bound_low =
      let whole = whole_low room in
      let k = room.power.k in
      let size = room.power.is in
      let under = stray_most k m (2 ^ k * m) (λ t h. omega (arith, mul-le-mul_left (2 ^ k) (earliest_most k m t h))) in
      record {
        some_slot = whole.some_slot;
        few_slots = whole.few_slots;
        few_cells = omega (arith, whole.few_slots, room.fits);
        low_stray = omega (
          arith,
          ap (λ z. stray z m) (power_level room.power),
          under,
          ap (λ z. z * m) size,
          mul-le-mul_right m whole.few_slots,
          room.fits,
          whole.few_slots,
        );
      }

-- no load that fits is above the slots
load_under : (ports slots : ℕ) (list : List ℕ) (who : Who) → WellFormed ports slots list → LoadFits ports slots (port_of list) (counts_of list)
    → who_within ports list who ≡ true → load (class_of who) list ≤ slots
load_under ports slots list (Flow f) w fits e =
    let in_List = within_true 1 (flows list) f e in
    omega (arith, load_flow (f - 1) (port_of list) (counts_of list), counts_at list (f - 1) (omega arith), flow_most list w.ported fits (f - 1) (omega arith))
load_under ports slots list (Input i) w fits e = let port = within_true 1 ports i e in (fits (i - 1) (omega arith)).0
load_under ports slots list (Output o) w fits e = let port = within_true 1 ports o e in (fits (o - 1) (omega arith)).1

-- ---- the refusals in their order
module _ (ports slots : ℕ) (list : List ℕ) (who : Who) where
  -- 5, 6 and 12, and what is answered where none holds
  abbrev rest : List Check
  rest = port_overloads ports slots list ++ (bad_who ports list who ∷ [])

  abbrev asked : List ℕ
  asked = 0 ∷ farthest slots (load (class_of who) list) ∷ most_waiting slots (load (class_of who) list) ∷ []

  pub list_shut : (x : Refusal) → refusal x ≡ report (list_checks ports slots list) accepted → refusal x ≡ depth ports slots list who
  unfolding depth depth_checks
  list_shut x e = list_refused ports slots list x e rest asked

  module _ {p s : ℕ} {l : List ℕ} (passed : Clear p s l) (told : (p ≡ ports) × (s ≡ slots) × (l ≡ list)) {loads : Loads} (every : EveryLoad p l loads) where
    clear : Clear ports slots list
    clear = rw (told.0, told.1, told.2) at passed

    pub list_power : levels slots < 11
    list_power = clear_power clear

    -- 5 and 6 as the loads decide them
    ports_is : (b : Result ⊤ Refusal) → answered b ≡ decided_ports slots loads → answered b ≡ report (port_overloads ports slots list) accepted
    ports_is b over =
        over ∙ ports_decided slots loads (list_fits clear) (rw (told.0, told.2) at every) []
        ∙ ap (λ (cs : List Check). report cs accepted) (append-nil (port_overloads ports slots list))

    past_list : report rest asked ≡ depth ports slots list who
    unfolding depth depth_checks
    past_list = sym (after_list clear rest asked)

    pub ports_shut : (x : Refusal) → refusal x ≡ decided_ports slots loads → refusal x ≡ depth ports slots list who
    ports_shut x over = report_stops (port_overloads ports slots list) (bad_who ports list who ∷ []) asked x (ports_is (Err x) over) ∙ past_list

    module _ (over : accepted ≡ decided_ports slots loads) {q : Bool} (bad : q ≡ not (who_within ports list who)) where
      -- where they accept, neither holds
      ports_clear : none_holds (port_overloads ports slots list) ≡ true
      ports_clear =
          clear_none (port_overloads ports slots list) accepted (omega arith, (omega arith, tt))
          (ap (λ (n : List ℕ). get_or n 0 0) (sym (ports_is (Ok tt) over)))

      past_ports : report (bad_who ports list who ∷ []) asked ≡ depth ports slots list who
      past_ports = sym (report_then (port_overloads ports slots list) (bad_who ports list who ∷ []) asked ports_clear) ∙ past_list

      pub who_shut : q ≡ true → 12 ∷ [] ≡ depth ports slots list who
      who_shut t = first_reported 0 (bad_who ports list who ∷ []) asked tt (sym bad ∙ t) ∙ past_ports

      module _ (good : q ≡ false) where
        who_in : who_within ports list who ≡ true
        who_in = not-false (who_within ports list who) (sym bad ∙ good)

        pub who_open : who_within p l who ≡ true
        who_open = rw (told.0, told.2) who_in

        module _ {m : ℕ} (is : m ≡ load (class_of who) l) where
          load_is : m ≡ load (class_of who) list
          load_is = is ∙ ap (load (class_of who)) told.2

          pub who_room : m ≤ slots
          who_room = rw load_is (load_under ports slots list who (list_well clear) (clear_fits ports slots list ports_clear) who_in)

          pub bound_is : {parts cells : ℕ} → parts ≡ farthest slots m → cells ≡ most_waiting slots m → 0 ∷ parts ∷ cells ∷ [] ≡ depth ports slots list who
          bound_is a b =
              ap₂ (λ y z. 0 ∷ y ∷ z ∷ []) (a ∙ ap (farthest slots) load_is) (b ∙ ap (most_waiting slots) load_is)
              ∙ other_reported (bad_who ports list who ∷ []) asked (sym bad ∙ good, tt) ∙ past_ports
