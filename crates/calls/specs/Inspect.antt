-- Inspect: a frame from anywhere, of either side, is clean, or has a first fault.
use Rattle.std.specs.Prelude.{ℕ, suc, ◌+◌, ◌*◌, ◌/◌, ◌%◌, ◌^◌, List, [], ◌∷◌, ◌++◌, map, Bool, true, not, eqb, ltb, get_or, Result, Ok, Err}
use Rattle.rules.specs.Words.{both, near, up_from, first}
use Rattle.rules.specs.Flows.{flows, Side, other, Class, flow, port_on, input, output, link, total, load}
use Rattle.rules.specs.Frames.{right_on, cells_on, run_of, levels}
use Rattle.calls.specs.Refusals.{Check, report, refusal, list_checks, bad_frame}
use Rattle.calls.specs.declared.Inspection.{Inspection}
use Rattle.calls.specs.declared.Inspection.TheVariants.{Clean, WrongEntry, PortTwice, FlowCount, UnbalancedBlock}
use Rattle.calls.specs.declared.Refusal.{Refusal}

-- An answer as numbers: 0 for clean; a fault's number and its place. Document 01 orders the faults and does not number
-- them: 101 to 104, in its order, are ours, clear of the refusals.
abbrev pub finding : Inspection → List ℕ
finding Clean = 0 ∷ []
finding (WrongEntry s x) = 101 ∷ s ∷ x ∷ []
finding (PortTwice s x) = 102 ∷ s ∷ x ∷ []
finding (FlowCount f) = 103 ∷ f ∷ []
finding (UnbalancedBlock s size) = 104 ∷ s ∷ size ∷ []

abbrev pub inspection_numbers : Result Inspection Refusal → List ℕ
inspection_numbers (Ok found) = finding found
inspection_numbers (Err r) = refusal r

-- The first of n places that a test names wrong, by two numbers from 1: its row and its column in rows of some width.
abbrev pub first_place : ℕ → (ℕ → Bool) → ℕ → ℕ → Check
first_place number wrong width n =
    let q = first wrong 0 n in
    (ltb q n, number ∷ suc (q / width) ∷ suc (q % width) ∷ [])

-- A wrong entry: lowest slot, then port of the frame's side.
unfoldable pub is_wrong : Side → ℕ → List ℕ → List ℕ → ℕ → Bool
is_wrong side ports list entries q = not (right_on side list (q % ports) (get_or entries q 0))

abbrev pub wrong_entry : Side → ℕ → ℕ → List ℕ → List ℕ → Check
wrong_entry side ports slots list entries = first_place 101 (is_wrong side ports list entries) ports (slots * ports)

-- A port of the other side used twice in a slot: lowest slot, then port.
unfoldable pub twice_in : Side → ℕ → List ℕ → List ℕ → ℕ → Bool
twice_in side ports list slot x = ltb 1 (cells_on side ports list (port_on (other side) x) slot)

unfoldable pub used_twice : Side → ℕ → List ℕ → List ℕ → ℕ → Bool
used_twice side ports list entries q = twice_in side ports list (run_of ports (q / ports) 1 entries) (q % ports)

abbrev pub port_twice : Side → ℕ → ℕ → List ℕ → List ℕ → Check
port_twice side ports slots list entries = first_place 102 (used_twice side ports list entries) ports (slots * ports)

-- A flow in the wrong number of slots: the first in the list.
unfoldable pub wrong_count : Side → ℕ → List ℕ → List ℕ → ℕ → Bool
wrong_count side ports list entries f = not (eqb (cells_on side ports list (flow f) entries) (load (flow f) list))

abbrev pub flow_count : Side → ℕ → List ℕ → List ℕ → Check
flow_count side ports list entries =
    let f = first (wrong_count side ports list entries) 0 (flows list) in
    (ltb f (flows list), 103 ∷ suc f ∷ [])

-- All that is counted: each flow, each input, each output, each link, and the total.
abbrev pub classes : ℕ → List ℕ → List Class
classes ports list =
    map flow (up_from 0 (flows list))
    ++ (map (port_on input) (up_from 0 ports) ++ (map (port_on output) (up_from 0 ports) ++ (map link (up_from 0 (ports * 4)) ++ (total ∷ []))))

abbrev pub all : (Class → Bool) → List Class → Bool
all t [] = true
all t (c ∷ l) = both (t c) (all t l)

-- The two halves, half slots each from slot start on, differ by more than 1 for some flow, input, output or link, or in total, where `count`
-- has the cells of a class in some slots.
unfoldable pub unbalanced : (Class → List ℕ → ℕ) → ℕ → List ℕ → List ℕ → ℕ → ℕ → Bool
unbalanced count ports list entries start half =
    not (all (λ c. near 1 (count c (run_of ports start half entries)) (count c (run_of ports (start + half) half entries))) (classes ports list))

-- Block b of those of twice half slots, end to end.
unfoldable pub unbalanced_number : (Class → List ℕ → ℕ) → ℕ → List ℕ → List ℕ → ℕ → ℕ → Bool
unbalanced_number count ports list entries half b = unbalanced count ports list entries (b * (2 * half)) half

-- An unbalanced block: largest size first, then earliest; its first slot and size. At depth t below the whole frame
-- there are 2 ^ t blocks of slots / 2 ^ t slots.
abbrev pub first_at : (Class → List ℕ → ℕ) → ℕ → ℕ → List ℕ → List ℕ → ℕ → ℕ
first_at count ports slots list entries t = first (unbalanced_number count ports list entries (slots / 2 ^ suc t)) 0 (2 ^ t)

unfoldable pub unbalanced_at : (Class → List ℕ → ℕ) → ℕ → ℕ → List ℕ → List ℕ → ℕ → Bool
unbalanced_at count ports slots list entries t = ltb (first_at count ports slots list entries t) (2 ^ t)

abbrev pub unbalanced_block : (Class → List ℕ → ℕ) → ℕ → ℕ → List ℕ → List ℕ → Check
unbalanced_block count ports slots list entries =
    let t = first (unbalanced_at count ports slots list entries) 0 (levels slots) in
    let size = slots / 2 ^ t in
    (ltb t (levels slots), 104 ∷ suc (first_at count ports slots list entries t * size) ∷ size ∷ [])

-- The first two as a refusal: a wrong entry, or a port of the other side used twice in a slot.
abbrev pub bad_entries : ℕ → Side → ℕ → ℕ → List ℕ → List ℕ → List Check
bad_entries number side ports slots list entries =
    ((wrong_entry side ports slots list entries).0, number ∷ []) ∷ ((port_twice side ports slots list entries).0, number ∷ []) ∷ []

-- The faults, in their order over the whole frame.
abbrev pub fault_checks : Side → ℕ → ℕ → List ℕ → List ℕ → List Check
fault_checks side ports slots list entries =
    wrong_entry side ports slots list entries
    ∷ port_twice side ports slots list entries
    ∷ flow_count side ports list entries
    ∷ unbalanced_block (cells_on side ports list) ports slots list entries
    ∷ []

-- Inspect: 1, 2, 3, 21, 22, 23, 4; then the faults.
unfoldable pub inspected : Side → ℕ → ℕ → List ℕ → List ℕ → List ℕ
inspected side ports slots list entries =
    report (list_checks ports slots list ++ (bad_frame ports slots entries ∷ fault_checks side ports slots list entries)) (0 ∷ [])
