-- Reports: the first condition that holds.
use Prim.Native.Nat.{ℕ, suc, zero, ◌*◌, ◌%◌, ◌≤◌, ◌<◌}
use mathlib.Core.Path.{◌≡◌, refl, sym, ap, ◌∙◌}
use mathlib.Core.Logic.{◌≢◌}
use mathlib.Core.List.{List, [], ◌∷◌, ◌++◌}
use mathlib.Core.Bool.{Bool, true, false, not, true≢false}
use native.Mathlib.Omega.{arith}
use lib.Dec.{eqb, ltb}
use lib.ListN.{length, get_or, take}
use borrow.Author.Tests.{eqb-true, eqb-false, eq-eqb, ne_eqb, le-ltb, ltb-false, not-false}
use Rattle.rules.specs.Words.{within, first, Every, Within}
use Rattle.rules.specs.Flows.{stride, flows, number_of, End, inputs, links, place_of}
use Rattle.calls.specs.Demand2.{Ported, Linked}
use Rattle.calls.specs.Refusals.{Check, report, none_holds, refusal, accepted, bad_ports, bad_slots, bad_list, too_many_flows, ports_within, port_outside, link_within, link_outside, bad_frame, bad_slot}
use Rattle.rules.specs.Frames.{levels, Power}
use Rattle.calls.specs.Service.{bad_length}
use Rattle.calls.specs.declared.Refusal.{Refusal}
use Rattle.calls.specs.declared.Refusal.TheVariants.{Ports, Slots, ListLength, FrameLength, InputLoad, OutputLoad, LineForm, LinePort, SheetLength, SlotNumber, FlowOrPort, RunLength, Entries, SecondLength, FrameEntries, InputFull, OutputFull, TooManyFlows, FlowPort, FlowLink, LinkLoad}
use Rattle.rules.proofs.Cases.{by_bool, within_yes, within_true, both_true, both_yes}
use Rattle.rules.proofs.Searches.{first_none, first_before}
use Rattle.rules.proofs.Levels.{power_known, known_power}

module _ (c : Check) (cs : List Check) (asked : List ℕ) where
  pub report_found : {answer : List ℕ} → c ≡ (true, answer) → report (c ∷ cs) asked ≡ answer
  report_found e = rw e

  pub report_on : c.0 ≡ false → report (c ∷ cs) asked ≡ report cs asked
  report_on e = rw e

-- where none holds, what is asked for is reported
pub report_clear : (cs : List Check) (asked : List ℕ) → none_holds cs ≡ true → report cs asked ≡ asked
report_clear [] asked = λ e. refl
report_clear (c ∷ cs) asked =
    by_bool c.0 (λ b. rw b (λ e. absurd (true≢false (sym e)))) (λ b. rw b (λ e. report_clear cs asked e))

-- where none of the first holds, the others decide
pub clear_then : (cs ds : List Check) → none_holds cs ≡ true → none_holds (cs ++ ds) ≡ none_holds ds
clear_then [] ds = λ e. refl
clear_then (c ∷ cs) ds =
    by_bool c.0 (λ b. rw b (λ e. absurd (true≢false (sym e)))) (λ b. rw b (λ e. clear_then cs ds e))

pub report_then : (cs ds : List Check) (asked : List ℕ) → none_holds cs ≡ true → report (cs ++ ds) asked ≡ report ds asked
report_then [] ds asked = λ e. refl
report_then (c ∷ cs) ds asked =
    by_bool c.0 (λ b. rw b (λ e. absurd (true≢false (sym e)))) (λ b. rw b (λ e. report_then cs ds asked e))

-- none of all holds where none of the first does and none of the others
pub clear_parts : (cs ds : List Check) → none_holds (cs ++ ds) ≡ true → (none_holds cs ≡ true) × (none_holds ds ≡ true)
clear_parts [] ds = λ e. (refl, e)
clear_parts (c ∷ cs) ds =
    by_bool c.0 (λ b. rw b (λ e. absurd (true≢false (sym e)))) (λ b. rw b (λ e. clear_parts cs ds e))

-- where one holds, it does not matter what is asked for
pub report_refused : (cs : List Check) (asked other : List ℕ) → none_holds cs ≡ false → report cs asked ≡ report cs other
report_refused [] asked other = λ e. absurd (true≢false e)
report_refused (c ∷ cs) asked other =
    by_bool c.0 (λ b. rw b (λ e. refl)) (λ b. rw b (λ e. report_refused cs asked other e))

-- ---- tests in order
-- A test that does not hold.
abbrev pub Passes : Check → Type 0
Passes c = c.0 ≡ false

-- none of some holds exactly where each passes
pub passes_clear : (cs : List Check) → Every Passes cs → none_holds cs ≡ true
passes_clear [] p = refl
passes_clear (c ∷ cs) p = rw p.0 (passes_clear cs p.1)

pub clear_passes : (cs : List Check) → none_holds cs ≡ true → Every Passes cs
clear_passes [] = λ e. tt
clear_passes (c ∷ cs) =
    by_bool c.0 (λ b. rw b (λ e. absurd (true≢false (sym e)))) (λ b. rw b (λ e. (refl, clear_passes cs e)))

-- the first test that holds is the one reported, that after n others
pub first_reported : (n : ℕ) (cs : List Check) (asked : List ℕ) → Every Passes (take n cs) → (get_or cs n (false, [])).0 ≡ true
    → (get_or cs n (false, [])).1 ≡ report cs asked
first_reported n [] asked p h = absurd (true≢false (sym h))
first_reported zero (c ∷ cs) asked p h = rw h
first_reported (suc n) (c ∷ cs) asked p h = rw p.0 (first_reported n cs asked p.1 h)

-- where all pass, it is the other answer
pub other_reported : (cs : List Check) (asked : List ℕ) → Every Passes cs → asked ≡ report cs asked
other_reported cs asked p = sym (report_clear cs asked (passes_clear cs p))

-- a refusal's number is not 0
pub refusal_number : (x : Refusal) → get_or (refusal x) 0 0 ≢ 0
refusal_number Ports = omega arith
refusal_number Slots = omega arith
refusal_number ListLength = omega arith
refusal_number FrameLength = omega arith
refusal_number (InputLoad port cells) = omega arith
refusal_number (OutputLoad port cells) = omega arith
refusal_number (LineForm line) = omega arith
refusal_number (LinePort line) = omega arith
refusal_number SheetLength = omega arith
refusal_number SlotNumber = omega arith
refusal_number FlowOrPort = omega arith
refusal_number RunLength = omega arith
refusal_number Entries = omega arith
refusal_number SecondLength = omega arith
refusal_number FrameEntries = omega arith
refusal_number InputFull = omega arith
refusal_number OutputFull = omega arith
refusal_number TooManyFlows = omega arith
refusal_number FlowPort = omega arith
refusal_number FlowLink = omega arith
refusal_number (LinkLoad output link cells) = omega arith

-- a check whose answer is a refusal's: its number is not 0
abbrev pub Refuses : Check → Type 0
Refuses c = get_or c.1 0 0 ≢ 0

-- what is reported of such checks has the number 0, as what is asked for has, where none holds, and only there
pub clear_none : (cs : List Check) (asked : List ℕ) → Every Refuses cs → get_or (report cs asked) 0 0 ≡ 0 → none_holds cs ≡ true
clear_none [] asked r = λ e. refl
clear_none (c ∷ cs) asked r =
    by_bool c.0 (λ b. rw b (λ e. absurd (r.0 e))) (λ b. rw b (λ e. clear_none cs asked r.1 e))

pub clear_some : (cs : List Check) (asked : List ℕ) → get_or asked 0 0 ≡ 0 → get_or (report cs asked) 0 0 ≢ 0 → none_holds cs ≡ false
clear_some [] asked z = λ n. absurd (n z)
clear_some (c ∷ cs) asked z = by_bool c.0 (λ b. rw b (λ n. refl)) (λ b. rw b (λ n. clear_some cs asked z n))

-- a refusal by the first of them is that of all, whatever is asked for
pub report_stops : (cs ds : List Check) (asked : List ℕ) (x : Refusal) → refusal x ≡ report cs accepted → refusal x ≡ report (cs ++ ds) asked
report_stops [] ds asked x = λ e. absurd (refusal_number x (ap (λ (l : List ℕ). get_or l 0 0) e))
report_stops (c ∷ cs) ds asked x = by_bool c.0 (λ b. rw b (λ e. e)) (λ b. rw b (λ e. report_stops cs ds asked x e))

-- ---- conditions in words
-- A check tells a fact: it holds exactly where that is not so.
pub record Tells (c : Check) (fact : Type 0) : Type 0 where
  pub met : fact → c.0 ≡ false
  pub known : c.0 ≡ false → fact

-- it holds where the fact does not
pub broken : {c : Check} {fact : Type 0} → Tells c fact → (fact → ⊥) → c.0 ≡ true
broken {c} t n = by_bool c.0 (λ e. e) (λ e. absurd (n (t.known e)))

-- a goal by cases on the fact
pub by_fact : {P : Type 0} {c : Check} {fact : Type 0} → Tells c fact → ((fact → ⊥) → P) → (fact → P) → P
by_fact {P} {c} t off on = by_bool c.0 (λ e. off (λ f. true≢false (sym e ∙ t.met f))) (λ e. on (t.known e))

-- a range, a size, a limit
pub range_tells : (low high n : ℕ) (answer : List ℕ) → Tells (not (within low high n), answer) (Within low high n)
range_tells low high n answer =
    record {
      met = λ f. ap not (within_yes low high n f.0 f.1);
      known = λ e. within_true low high n (not-false (within low high n) e);
    }

size_tells : (size n : ℕ) (answer : List ℕ) → Tells (not (eqb size n), answer) (size ≡ n)
size_tells size n answer =
    record { met = λ f. ap not (eq-eqb size n f); known = λ e. eqb-true size n (not-false (eqb size n) e) }

pub most_tells : (most n : ℕ) (answer : List ℕ) → Tells (ltb most n, answer) (n ≤ most)
most_tells most n answer = record { met = le-ltb most n; known = ltb-false most n }

-- a search among n that finds none
pub search_tells : (t : ℕ → Bool) (n : ℕ) (answer : List ℕ) → Tells (ltb (first t 0 n) n, answer) ((x : ℕ) → x < n → t x ≡ false)
search_tells t n answer =
    record {
      met = λ f. le-ltb (first t 0 n) n (omega (arith, first_none t n 0 (λ x _ h. f x (omega arith))));
      known = λ e x h. first_before t n 0 x (omega arith) (omega (arith, ltb-false (first t 0 n) n e));
    }

-- 1: ports are 1 to 16
pub ports_tells : (ports : ℕ) → Tells (bad_ports ports) (Within 1 16 ports)
ports_tells ports = range_tells 1 16 ports _

-- 2: slots are a power of two from 1 to 1,024
pub slots_tells : (slots : ℕ) → Tells (bad_slots slots) (Power slots)
slots_tells slots =
    record { met = λ f. ne_eqb (levels slots) 11 (power_known f); known = λ e. known_power slots (eqb-false (levels slots) 11 e) }

-- 3: the list is whole flows
pub list_tells : (list : List ℕ) → Tells (bad_list list) (length list % stride ≡ 0)
list_tells list = size_tells (length list % stride) 0 _

-- 21: it has at most 512
pub flows_tells : (list : List ℕ) → Tells (too_many_flows list) (flows list ≤ 512)
flows_tells list = most_tells 512 (flows list) _

-- 22: the ports of each of them are 1 to ports
pub ports_within_each : (ports : ℕ) (list : List ℕ) (f : ℕ) → ports_within ports list f ≡ true → (s : End) → Within 1 ports (number_of (place_of s) list f)
ports_within_each ports list f e inputs = within_true 1 ports (number_of 0 list f) (both_true (within 1 ports (number_of 0 list f)) (within 1 ports (number_of 1 list f)) e).0
ports_within_each ports list f e links = within_true 1 ports (number_of 1 list f) (both_true (within 1 ports (number_of 0 list f)) (within 1 ports (number_of 1 list f)) e).1

pub within_ports : (ports : ℕ) (list : List ℕ) (f : ℕ) → ((s : End) → Within 1 ports (number_of (place_of s) list f)) → ports_within ports list f ≡ true
within_ports ports list f w =
    both_yes _ _ (within_yes 1 ports (number_of 0 list f) (w inputs).0 (w inputs).1) (within_yes 1 ports (number_of 1 list f) (w links).0 (w links).1)

pub flow_tells : (ports : ℕ) (list : List ℕ) → Tells (port_outside ports list) (Ported ports list)
flow_tells ports list =
    let t = search_tells (λ f. not (ports_within ports list f)) (flows list) (22 ∷ []) in
    record {
      met = λ w. t.met (λ f h. ap not (within_ports ports list f (λ s. w s f h)));
      known = λ e s f h. ports_within_each ports list f (not-false _ (t.known e f h)) s;
    }

-- 23: the link of each of them is 1 to 4
pub link_tells : (list : List ℕ) → Tells (link_outside list) (Linked list)
link_tells list =
    let t = search_tells (λ f. not (link_within list f)) (flows list) (23 ∷ []) in
    record {
      met = λ w. t.met (λ f h. ap not (within_yes 1 4 (number_of 3 list f) (w f h).0 (w f h).1));
      known = λ e f h. within_true 1 4 (number_of 3 list f) (not-false _ (t.known e f h));
    }

-- 4: the frame has slots × ports entries
pub frame_tells : (ports slots : ℕ) (entries : List ℕ) → Tells (bad_frame ports slots entries) (length entries ≡ slots * ports)
frame_tells ports slots entries = size_tells (length entries) (slots * ports) _

-- 11: the slot is 1 to slots
pub slot_tells : (slots slot : ℕ) → Tells (bad_slot slots slot) (Within 1 slots slot)
slot_tells slots slot = range_tells 1 slots slot _

-- 13: the run has at most 1,000,000 slots
pub length_tells : (len : ℕ) → Tells (bad_length len) (len ≤ 1000000)
length_tells len = most_tells 1000000 len _

-- ---- what holds where a condition does not
pub within_known : {n most : ℕ} {r : Bool} → r ≡ not (within 1 most n) → r ≡ false → Within 1 most n
within_known {n} {most} e f = (range_tells 1 most n []).known (sym e ∙ f)
