-- Each call's definition answers by its cases.
use Prim.Native.Nat.{ℕ, suc, ◌+◌, ◌-◌, ◌*◌, ◌/◌, ◌≤◌, ◌<◌}
use mathlib.Core.Path.{◌≡◌, refl, sym, ap, ap₂, ◌∙◌}
use mathlib.Core.List.{List, [], ◌∷◌, ◌++◌}
use mathlib.Core.Bool.{true, false}
use native.Mathlib.Nat.{mod-lt, div-add-mod', div-eq_of_lt-le}
use native.Mathlib.Omega.{arith}
use lib.Pow.{pow_pos}
use lib.IntN.{ℤ, pos, ◌-ℤ◌}
use lib.ListN.{length, get_or}
use borrow.Author.Tests.{not-false}
use Rattle.rules.specs.Flows.{flows, port_of, counts_of, Side, Class, flow, port_on, input, output, load, Fits}
use Rattle.rules.specs.Frames.{cells_on, repeated, Power}
use Rattle.strays.specs.Stray.{stray}
use Rattle.calls.specs.Refusals.{Check, report, none_holds, bad_ports, bad_slots, bad_list, too_many_flows, port_outside, link_outside, list_checks, bad_frame, bad_slot, overload, overloads, admitted}
use Rattle.rules.specs.Schedule.{frame_of}
use Rattle.calls.specs.Work.{work}
use Rattle.calls.specs.Build.{frame_after, build_checks, acceptance, built}
use Rattle.calls.specs.Inspect.{fault_checks, inspected}
use Rattle.calls.specs.Service.{view_checks, view_number, view_start, view_size, viewed, class_of, bad_who, bad_length, lead_on, Reply, count_checks, service}
use Rattle.calls.specs.Depth.{depth_checks, farthest, most_waiting, depth}
use Rattle.calls.specs.declared.Who.{Who}
use Rattle.calls.specs.declared.Who.TheVariants.{Flow, Input, Output}
use Rattle.rules.proofs.Cases.{from_one, by_lt, within_yes, within_true}
use Rattle.rules.specs.Words.{Within}
use Rattle.rules.proofs.Levels.{power_level}
use Rattle.rules.proofs.OneFrame.{only_frame}
use Rattle.calls.proofs.Reports.{Tells, report_found, report_on, ports_tells, slots_tells, list_tells, flows_tells, flow_tells, link_tells, frame_tells, clear_then, clear_none, clear_some, broken, by_fact, slot_tells, length_tells}
use Rattle.calls.proofs.Replies.{count, reply_refused, reply_counted}
use Rattle.rules.proofs.Integers.{minus_ahead, minus_behind}
use Rattle.strays.proofs.Strays.{stray_has, stray_most, stray_is}
use Rattle.calls.proofs.Overloads.{over_reported, overload_tells, by_over, by_past}
use Rattle.calls.specs.Demand2.{WellFormed}
use Rattle.calls.proofs.Demand2.{well_clear, past_load, past_frame, well_frame, light_fits, admit_answers, build_answers, accepts_yes, build_keeps}
use Rattle.calls.specs.Answers.{Exactly, RackRefused, ports_1, slots_2, LoadRefused, FrameRefused, SlotRefused, rack, list_3, flows_21, flow_22, link_23, load_refused, frame_4, slot_11, SlotFound, Admits, refused, input_5, output_6, link_24, accepted, Builds, Inspects, found, Views, seen, Names, of_flow, of_input, of_output, RunFound, Counts, start_11, who_12, length_13, counted_ahead, counted_behind, Depths, bound, ByCases}
use Rattle.calls.proofs.Answers.{exactly}
use Rattle.calls.proofs.Clean.{find_only, fault_means}

-- ---- 1 to 4, 11, 21, 22 and 23, which calls have in common
-- what a case says is reported, whatever conditions come after
module _ (ports slots : ℕ) (cs : List Check) (asked : List ℕ) where
  rack_reported : {n : ℕ} → RackRefused ports slots n → report (bad_ports ports ∷ bad_slots slots ∷ cs) asked ≡ n ∷ []
  rack_reported (ports_1 b) = rw (broken (ports_tells ports) b)
  rack_reported (slots_2 p b) = rw ((ports_tells ports).met p, broken (slots_tells slots) b)

module _ (ports slots : ℕ) (list : List ℕ) (cs : List Check) (asked : List ℕ) where
  load_reported : {n : ℕ} → LoadRefused ports slots list n → report (list_checks ports slots list ++ cs) asked ≡ n ∷ []
  load_reported (rack r) = rack_reported ports slots (bad_list list ∷ too_many_flows list ∷ port_outside ports list ∷ link_outside list ∷ cs) asked r
  load_reported (list_3 p s b) = rw ((ports_tells ports).met p, (slots_tells slots).met s, broken (list_tells list) b)
  load_reported (flows_21 p s e b) = rw ((ports_tells ports).met p, (slots_tells slots).met s, (list_tells list).met e, broken (flows_tells list) b)
  load_reported (flow_22 p s e f b) =
      rw ((ports_tells ports).met p, (slots_tells slots).met s, (list_tells list).met e, (flows_tells list).met f, broken (flow_tells ports list) b)
  load_reported (link_23 p s e f w b) =
      rw (
        (ports_tells ports).met p,
        (slots_tells slots).met s,
        (list_tells list).met e,
        (flows_tells list).met f,
        (flow_tells ports list).met w,
        broken (link_tells list) b,
      )

module _ (ports slots : ℕ) (list entries : List ℕ) (cs : List Check) (asked : List ℕ) where
  pub frame_reported : {n : ℕ} → FrameRefused ports slots list entries n → report (list_checks ports slots list ++ (bad_frame ports slots entries ∷ cs)) asked ≡ n ∷ []
  frame_reported (load_refused r) = load_reported ports slots list (bad_frame ports slots entries ∷ cs) asked r
  frame_reported (frame_4 w b) = past_load ports slots list w (bad_frame ports slots entries ∷ cs) asked ∙ rw (broken (frame_tells ports slots entries) b)

-- each number is above 0
rack_low : {ports slots n : ℕ} → RackRefused ports slots n → 0 < n
rack_low (ports_1 b) = omega arith
rack_low (slots_2 p b) = omega arith

pub frame_low : {ports slots : ℕ} {list entries : List ℕ} {n : ℕ} → FrameRefused ports slots list entries n → 0 < n
frame_low (load_refused (rack r)) = rack_low r
frame_low (load_refused (list_3 p s b)) = omega arith
frame_low (load_refused (flows_21 p s e b)) = omega arith
frame_low (load_refused (flow_22 p s e f b)) = omega arith
frame_low (load_refused (link_23 p s e f w b)) = omega arith
frame_low (frame_4 w b) = omega arith

slot_low : {ports slots : ℕ} {entries : List ℕ} {slot n : ℕ} → SlotRefused ports slots entries slot n → 0 < n
slot_low (rack r) = rack_low r
slot_low (frame_4 p s b) = omega arith
slot_low (slot_11 p s e b) = omega arith

module _ (ports slots : ℕ) (entries : List ℕ) (slot : ℕ) where
  -- 1, 2, 4, 11, and what comes after
  abbrev slot_checks : List Check → List Check
  slot_checks cs = bad_ports ports ∷ bad_slots slots ∷ bad_frame ports slots entries ∷ bad_slot slots slot ∷ cs

  slot_reported : (cs : List Check) (asked : List ℕ) {n : ℕ} → SlotRefused ports slots entries slot n → report (slot_checks cs) asked ≡ n ∷ []
  slot_reported cs asked (rack r) = rack_reported ports slots (bad_frame ports slots entries ∷ bad_slot slots slot ∷ cs) asked r
  slot_reported cs asked (frame_4 p s b) = rw ((ports_tells ports).met p, (slots_tells slots).met s, broken (frame_tells ports slots entries) b)
  slot_reported cs asked (slot_11 p s f b) =
      rw ((ports_tells ports).met p, (slots_tells slots).met s, (frame_tells ports slots entries).met f, broken (slot_tells slots slot) b)

  -- none of 1, 2, 4 and 11 holds where the slot is found
  slot_met : {s : ℕ} → SlotFound ports slots entries slot s
      → ((bad_ports ports).0 ≡ false) × ((bad_slots slots).0 ≡ false) × ((bad_frame ports slots entries).0 ≡ false) × ((bad_slot slots slot).0 ≡ false)
  slot_met f = (
    (ports_tells ports).met f.rack,
    (slots_tells slots).met f.power,
    (frame_tells ports slots entries).met f.size,
    (slot_tells slots slot).met (let l = f.low in let e = f.number in (omega arith, omega arith)),
  )

  slot_clear : {s : ℕ} → SlotFound ports slots entries slot s → (cs : List Check) (asked : List ℕ) → report (slot_checks cs) asked ≡ report cs asked
  slot_clear f cs asked = let m = slot_met f in rw (m.0, m.1, m.2, m.3)

-- one of them holds, or none
by_rack : {P : Type 0} (ports slots : ℕ) → ((n : ℕ) → RackRefused ports slots n → P) → (Within 1 16 ports → Power slots → P) → P
by_rack ports slots off on =
    by_fact (ports_tells ports) (λ b. off 1 (ports_1 b))
    (λ p. by_fact (slots_tells slots) (λ b. off 2 (slots_2 p b)) (λ s. on p s))

by_load_case : {P : Type 0} (ports slots : ℕ) (list : List ℕ) → ((n : ℕ) → LoadRefused ports slots list n → P) → (WellFormed ports slots list → P) → P
by_load_case ports slots list off on =
    by_rack ports slots (λ n r. off n (rack r))
    (λ p s. by_fact (list_tells list) (λ b. off 3 (list_3 p s b))
    (λ e. by_fact (flows_tells list) (λ b. off 21 (flows_21 p s e b))
    (λ f. by_fact (flow_tells ports list) (λ b. off 22 (flow_22 p s e f b))
    (λ w. by_fact (link_tells list) (λ b. off 23 (link_23 p s e f w b))
    (λ l. on (record { rack = p; power = s; whole = e; few = f; ported = w; linked = l }))))))

pub by_frame : {P : Type 0} (ports slots : ℕ) (list entries : List ℕ) → ((n : ℕ) → FrameRefused ports slots list entries n → P)
    → (WellFormed ports slots list → length entries ≡ slots * ports → P) → P
by_frame ports slots list entries off on =
    by_load_case ports slots list (λ n r. off n (load_refused r))
    (λ w. by_fact (frame_tells ports slots entries) (λ b. off 4 (frame_4 w b)) (λ e. on w e))

by_slot_case : {P : Type 0} (ports slots : ℕ) (entries : List ℕ) (slot : ℕ) → ((n : ℕ) → SlotRefused ports slots entries slot n → P)
    → ((s : ℕ) → SlotFound ports slots entries slot s → P) → P
by_slot_case ports slots entries slot off on =
    by_rack ports slots (λ n r. off n (rack r))
    (λ p s. by_fact (frame_tells ports slots entries) (λ b. off 4 (frame_4 p s b))
    (λ e. by_fact (slot_tells slots slot) (λ b. off 11 (slot_11 p s e b))
    (λ h. on (slot - 1) (record { rack = p; power = s; size = e; low = omega arith; number = omega arith }))))

-- ---- Admit
module _ (ports slots : ℕ) (list limits : List ℕ) where
  -- what a case says is Admit's answer
  admit_only : (given : List ℕ) → Admits ports slots list limits given → given ≡ admitted ports slots list limits
  unfolding admitted
  admit_only given (refused r) = sym (load_reported ports slots list (overloads ports slots list limits) (0 ∷ []) r)
  admit_only given (input_5 w x o) = sym ((admit_answers ports slots list w limits).input_over x o)
  admit_only given (output_6 w l x o) = sym ((admit_answers ports slots list w limits).output_over l x o)
  admit_only given (link_24 w i o x p) = sym ((admit_answers ports slots list w limits).link_over i o x p)
  admit_only given (accepted w f a) = sym ((admit_answers ports slots list w limits).accepts f a)

  pub admit_exactly : Exactly (Admits ports slots list limits) (admitted ports slots list limits)
  admit_exactly =
      by_load_case ports slots list (λ n r. exactly admit_only (refused r))
      (λ w. by_over 5 (port_on input) ports slots list (λ x o. exactly admit_only (input_5 w x o))
      (λ i. by_over 6 (port_on output) ports slots list (λ x o. exactly admit_only (output_6 w i x o))
      (λ o. by_past ports list limits (λ x p. exactly admit_only (link_24 w i o x p))
      (λ a. exactly admit_only (accepted w (light_fits ports slots list i o) a)))))

-- ---- Build
module _ (ports slots : ℕ) (list limits buffer : List ℕ) where
  -- Build's answer, and the entries that it leaves
  abbrev pub build : List ℕ × List ℕ
  build = (built ports slots list limits buffer, frame_after ports slots list limits buffer)

  -- an answer that begins with a number other than 0 leaves the entries that were lent
  kept : {n : ℕ} {values : List ℕ} → 0 < n → built ports slots list limits buffer ≡ n ∷ values
      → ◌≡◌ {A = List ℕ × List ℕ} (n ∷ values, buffer) build
  kept {n} {values} h e =
      ap₂ (λ (a b : List ℕ). (a, b)) (sym e)
      (sym (build_keeps ports slots list limits buffer
      (clear_some (build_checks ports slots list limits buffer) (acceptance ports slots list limits buffer) refl
      (λ z. let y = ap (λ (l : List ℕ). get_or l 0 0) e in omega arith))))

  -- what a case says is Build's answer and what it leaves
  build_only : (given : List ℕ × List ℕ) → Builds ports slots list limits buffer given → given ≡ build
  unfolding build_checks
  build_only given (refused r) =
      kept (frame_low r)
      (frame_reported ports slots list buffer (overloads ports slots list limits) (acceptance ports slots list limits buffer) r)
  build_only given (input_5 w e x o) = kept (omega arith) ((build_answers ports slots list w limits buffer e).input_over x o)
  build_only given (output_6 w e l x o) = kept (omega arith) ((build_answers ports slots list w limits buffer e).output_over l x o)
  build_only given (link_24 w e i o x p) = kept (omega arith) ((build_answers ports slots list w limits buffer e).link_over i o x p)
  build_only given (accepted a entries s) =
      let leaves : entries ≡ frame_after ports slots list limits buffer
      = only_frame ports (port_of list) a.well.power.k (counts_of list) entries s
      ∙ rw (accepts_yes ports slots list limits buffer a, power_level a.well.power) in
      ap₂ (λ (x y : List ℕ). (x, y))
      (ap (λ (l : List ℕ). 0 ∷ work ports slots list l ∷ []) leaves
      ∙ sym ((build_answers ports slots list a.well limits buffer a.size).accepts a.fits a.allowed))
      leaves

  pub build_exactly : Exactly (Builds ports slots list limits buffer) build
  build_exactly =
      by_frame ports slots list buffer (λ n r. exactly build_only (refused r))
      (λ w e. by_over 5 (port_on input) ports slots list (λ x o. exactly build_only (input_5 w e x o))
      (λ i. by_over 6 (port_on output) ports slots list (λ x o. exactly build_only (output_6 w e i x o))
      (λ o. by_past ports list limits (λ x p. exactly build_only (link_24 w e i o x p))
      (λ a. let fits = light_fits ports slots list i o in
      exactly build_only (accepted (record { well = w; size = e; fits = fits; allowed = a })
      (frame_of ports (port_of list) w.power.k (counts_of list)) (well_frame ports slots list w fits))))))

-- ---- Inspect
module _ (side : Side) (ports slots : ℕ) (list entries : List ℕ) where
  -- what a case says is Inspect's answer
  inspect_only : (given : List ℕ) → Inspects side ports slots list entries given → given ≡ inspected side ports slots list entries
  unfolding inspected
  inspect_only given (refused r) = sym (frame_reported ports slots list entries (fault_checks side ports slots list entries) (0 ∷ []) r)
  inspect_only given (found w e f) = find_only side ports slots list entries w e given f

  pub inspect_exactly : Exactly (Inspects side ports slots list entries) (inspected side ports slots list entries)
  inspect_exactly =
      by_frame ports slots list entries (λ n r. exactly inspect_only (refused r))
      (λ w e. exactly inspect_only (found w e (fault_means side ports slots list entries w e)))

-- ---- Slot view
module _ (ports slots : ℕ) (entries : List ℕ) (slot : ℕ) where
  -- Slot view's four results
  abbrev pub view : ℕ × ℕ × ℕ × List ℕ
  view = (view_number ports slots entries slot, view_start ports slots entries slot, view_size ports slots entries slot, viewed ports slots entries slot)

  -- what a case says is what is viewed
  view_only : (given : ℕ × ℕ × ℕ × List ℕ) → Views ports slots entries slot given → given ≡ view
  unfolding view_checks
  view_only given (refused r) =
      let e = ap (λ (l : List ℕ). get_or l 0 0) (slot_reported ports slots entries slot [] (0 ∷ []) r) in
      let c : none_holds (view_checks ports slots entries slot) ≡ false = clear_some (slot_checks ports slots entries slot []) (0 ∷ []) refl (λ z. let h = slot_low r in omega arith) in
      rw (c, e)
  view_only given (seen s f) =
      let e = ap (λ (l : List ℕ). get_or l 0 0) (slot_clear ports slots entries slot f [] (0 ∷ [])) in
      let c : none_holds (view_checks ports slots entries slot) ≡ true = clear_none (slot_checks ports slots entries slot []) (0 ∷ []) (omega arith, (omega arith, (omega arith, (omega arith, tt)))) e in
      let h : slot - 1 ≡ s = (let n = f.number in omega arith) in
      let start : view_start ports slots entries slot ≡ s * ports = rw c (omega (arith, ap (λ x. x * ports) h)) in
      let size : view_size ports slots entries slot ≡ ports = rw c in
      rw (start, size, e)

  pub view_exactly : Exactly (Views ports slots entries slot) view
  view_exactly = by_slot_case ports slots entries slot (λ n r. exactly view_only (refused r)) (λ s f. exactly view_only (seen s f))

-- ---- Service count
-- the class that is named
names_class : {ports : ℕ} {list : List ℕ} {who : Who} {c : Class} → Names ports list who c → class_of who ≡ c
names_class (of_flow a) = ap flow (omega arith)
names_class (of_input a) = ap (port_on input) (omega arith)
names_class (of_output a) = ap (port_on output) (omega arith)

-- 12: what is named is a flow of the list or a port of the switch
who_tells : (ports : ℕ) (list : List ℕ) (who : Who) → Tells (bad_who ports list who) ((c : Class) × Names ports list who c)
who_tells ports list who = record { met = λ n. met_of who n.0 n.1; known = known_of who }
  where
    met_of : (who : Who) (c : Class) → Names ports list who c → (bad_who ports list who).0 ≡ false
    met_of who c (of_flow {f} a) = rw (within_yes 1 (flows list) (suc f) (omega arith) a)
    met_of who c (of_input {i} a) = rw (within_yes 1 ports (suc i) (omega arith) a)
    met_of who c (of_output {o} a) = rw (within_yes 1 ports (suc o) (omega arith) a)

    known_of : (who : Who) → (bad_who ports list who).0 ≡ false → (c : Class) × Names ports list who c
    known_of (Flow f) e = from_one (λ f. (c : Class) × Names ports list (Flow f) c) (flows list) f (within_true 1 (flows list) f (not-false _ e)) (λ x l. (flow x, of_flow l))
    known_of (Input i) e = from_one (λ i. (c : Class) × Names ports list (Input i) c) ports i (within_true 1 ports i (not-false _ e)) (λ x l. (port_on input x, of_input l))
    known_of (Output o) e = from_one (λ o. (c : Class) × Names ports list (Output o) c) ports o (within_true 1 ports o (not-false _ e)) (λ x l. (port_on output x, of_output l))

module _ (side : Side) (ports slots : ℕ) (list entries : List ℕ) (who : Who) (start len : ℕ) where
  -- 11, then 12, then 13
  abbrev start_checks : List Check
  start_checks = bad_slot slots start ∷ bad_who ports list who ∷ bad_length len ∷ []

  abbrev last_checks : List Check
  last_checks = bad_who ports list who ∷ bad_length len ∷ []

  abbrev asked : List ℕ
  asked = count side ports slots list entries who start len

  reply : {n : ℕ} → report (list_checks ports slots list ++ (bad_frame ports slots entries ∷ start_checks)) asked ≡ n ∷ [] → 0 < n
      → ◌≡◌ {A = Reply} (record { numbers = n ∷ []; ahead = pos 0 }) (service side ports slots list entries who start len)
  unfolding count_checks
  reply e h = reply_refused side ports slots list entries who start len e (λ z. omega arith)

  run_met : {s : ℕ} → RunFound ports slots list entries start s → (bad_slot slots start).0 ≡ false
  run_met f = (slot_tells slots start).met (let l = f.low in let e = f.number in (omega arith, omega arith))

  -- what is reported where the run is found
  run_clear : {s : ℕ} → RunFound ports slots list entries start s
      → report (list_checks ports slots list ++ (bad_frame ports slots entries ∷ start_checks)) asked ≡ report last_checks asked
  run_clear f = past_frame ports slots list f.well entries f.size start_checks asked ∙ rw (run_met f)

  -- a run that is counted: its cells, and its lead
  found_counted : {s : ℕ} → RunFound ports slots list entries start s → {c : Class} → Names ports list who c → len ≤ 1000000 → {z : ℤ}
      → pos (slots * cells_on side ports list c (repeated ports slots entries s len)) -ℤ pos (len * cells_on side ports list c entries) ≡ z
      → ◌≡◌ {A = Reply} (record { numbers = 0 ∷ cells_on side ports list c (repeated ports slots entries s len) ∷ []; ahead = z }) (service side ports slots list entries who start len)
  unfolding count_checks lead_on
  found_counted {s} f {c} n l e =
      let at : start - 1 ≡ s = (let h = f.number in omega arith) in
      let none : none_holds (count_checks ports slots list entries who start len) ≡ true
      = clear_then (list_checks ports slots list) (bad_frame ports slots entries ∷ start_checks) (well_clear ports slots list f.well)
      ∙ rw ((frame_tells ports slots entries).met f.size, run_met f, (who_tells ports list who).met (c, n), (length_tells len).met l) in
      rw (sym e, sym at, sym (names_class n)) (reply_counted side ports slots list entries who start len none)

  -- what a case says is Service count's answer
  count_only : (given : Reply) → Counts side ports slots list entries who start len given → given ≡ service side ports slots list entries who start len
  count_only given (refused r) = reply (frame_reported ports slots list entries start_checks asked r) (frame_low r)
  count_only given (start_11 w e b) = reply (past_frame ports slots list w entries e start_checks asked ∙ rw (broken (slot_tells slots start) b)) (omega arith)
  count_only given (who_12 f b) = reply (run_clear f ∙ rw (broken (who_tells ports list who) (λ n. b n.0 n.1))) (omega arith)
  count_only given (length_13 {s} f {c} n b) =
      reply (run_clear f ∙ rw ((who_tells ports list who).met (c, n), broken (length_tells len) (λ l. omega arith))) (omega arith)
  count_only given (counted_ahead f n l m e) = found_counted f n l (minus_ahead _ _ m e)
  count_only given (counted_behind f n l m e) = found_counted f n l (minus_behind _ _ m e)

  pub count_exactly : Exactly (Counts side ports slots list entries who start len) (service side ports slots list entries who start len)
  count_exactly =
      by_frame ports slots list entries (λ n r. exactly count_only (refused r))
      (λ w e. by_fact (slot_tells slots start) (λ b. exactly count_only (start_11 w e b))
      (λ h.
      let f : RunFound ports slots list entries start (start - 1) = record { well = w; size = e; low = omega arith; number = omega arith } in
      by_fact (who_tells ports list who) (λ b. exactly count_only (who_12 f (λ c n. b (c, n))))
      (λ n. by_fact (length_tells len) (λ b. exactly count_only (length_13 f n.1 (by_lt 1000000 len (λ l. l) (λ l. absurd (b l)))))
      (λ l.
      let had = slots * cells_on side ports list n.0 (repeated ports slots entries (start - 1) len) in
      let share = len * cells_on side ports list n.0 entries in
      by_lt had share (λ h. exactly count_only (counted_behind f n.1 l (share - suc had) (omega arith)))
      (λ h. exactly count_only (counted_ahead f n.1 l (had - share) (omega arith)))))))

-- ---- Depth
module _ (ports slots : ℕ) (list : List ℕ) (who : Who) where
  abbrev fifth : Check
  fifth = overload 5 (port_on input) ports slots list

  abbrev sixth : Check
  sixth = overload 6 (port_on output) ports slots list

  abbrev last : Check
  last = bad_who ports list who

  -- what is answered where none holds
  abbrev asked_depth : List ℕ
  asked_depth = 0 ∷ farthest slots (load (class_of who) list) ∷ most_waiting slots (load (class_of who) list) ∷ []

  -- a list that is well-formed comes to 5, 6 and 12, and one that fits to 12
  depth_well : WellFormed ports slots list → depth ports slots list who ≡ report (fifth ∷ sixth ∷ last ∷ []) asked_depth
  unfolding depth depth_checks
  depth_well w = past_load ports slots list w (fifth ∷ sixth ∷ last ∷ []) asked_depth

  depth_fits : WellFormed ports slots list → Fits ports slots (port_of list) (counts_of list) → depth ports slots list who ≡ report (last ∷ []) asked_depth
  depth_fits w fits =
      depth_well w
      ∙ rw ((overload_tells 5 (port_on input) ports slots list).met (λ x h. (fits x h).0), (overload_tells 6 (port_on output) ports slots list).met (λ x h. (fits x h).1))

  -- what a case says is Depth's answer
  depth_only : (given : List ℕ) → Depths ports slots list who given → given ≡ depth ports slots list who
  unfolding depth depth_checks
  depth_only given (refused r) = sym (load_reported ports slots list (fifth ∷ sixth ∷ last ∷ []) asked_depth r)
  depth_only given (input_5 w x o) = sym (depth_well w ∙ report_found fifth (sixth ∷ last ∷ []) asked_depth (over_reported 5 (port_on input) ports slots list x o))
  depth_only given (output_6 w i x o) =
      sym (depth_well w ∙ report_on fifth (sixth ∷ last ∷ []) asked_depth ((overload_tells 5 (port_on input) ports slots list).met i)
      ∙ report_found sixth (last ∷ []) asked_depth (over_reported 6 (port_on output) ports slots list x o))
  depth_only given (who_12 w f b) = sym (depth_fits w f ∙ rw (broken (who_tells ports list who) (λ n. b n.0 n.1)))
  depth_only given (bound w f {c} n far furthest cells low high) =
      let m = load c list in
      let k = w.power.k in
      let level = power_level w.power in
      let some : 1 ≤ slots = omega (arith, w.power.is, pow_pos k) in
      let is : far ≡ stray k m = omega (
        arith,
        stray_most k m far furthest.none_further,
        stray_has k m furthest.slots furthest.inside,
        furthest.as_far,
      ) in
      let size : cells ≡ (slots - 1 + 2 * far + m) / slots = sym (div-eq_of_lt-le slots (omega arith) (omega arith)) in
      sym (depth_fits w f ∙ rw ((who_tells ports list who).met (c, n))
      (rw (names_class n, level) (ap₂ (λ x y. 0 ∷ x ∷ y ∷ []) (ap (λ z. 2 * z) (sym is)) (sym (size ∙ ap (λ z. (slots - 1 + 2 * z + m) / slots) is)))))

  pub depth_exactly : Exactly (Depths ports slots list who) (depth ports slots list who)
  depth_exactly =
      by_load_case ports slots list (λ n r. exactly depth_only (refused r))
      (λ w. by_over 5 (port_on input) ports slots list (λ x o. exactly depth_only (input_5 w x o))
      (λ i. by_over 6 (port_on output) ports slots list (λ x o. exactly depth_only (output_6 w i x o))
      (λ o. let fits = light_fits ports slots list i o in
      by_fact (who_tells ports list who) (λ b. exactly depth_only (who_12 w fits (λ c n. b (c, n))))
      (λ n.
      let m = load n.0 list in
      let k = w.power.k in
      let far = stray k m in
      let peak = stray_is k m in
      let some : 1 ≤ slots = omega (arith, w.power.is, pow_pos k) in
      let all = slots - 1 + 2 * far + m in
      let whole = div-add-mod' all slots in
      let part = mod-lt all some in
      exactly depth_only (bound w fits n.1 far
      (record { none_further = stray_has k m; slots = peak.slots; inside = peak.most; as_far = peak.is }) (all / slots) (omega arith) (omega arith))))))

-- ---- all of them
-- Every call answers by its cases.
pub by_cases : ByCases
by_cases =
    record {
      admit = admit_exactly;
      build = build_exactly;
      inspect = inspect_exactly;
      view = view_exactly;
      count = count_exactly;
      depth_of = depth_exactly;
    }
