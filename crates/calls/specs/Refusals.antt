-- Refusals 1 to 18 and 21 to 24: each condition with its number and what it carries, and the number and values of each answer.
use Rattle.std.specs.Prelude.{ℕ, suc, ◌*◌, ◌%◌, List, [], ◌∷◌, ◌++◌, Bool, true, not, eqb, ltb, length, get_or, replicate, Result, Ok, Err, ⊤}
use Rattle.rules.specs.Words.{if, both, within, first}
use Rattle.rules.specs.Flows.{stride, flows, number_of, inputs, links, output_of, place_of, Class, port_on, input, output, link, load}
use Rattle.rules.specs.Frames.{levels}
use Rattle.calls.specs.declared.Refusal.{Refusal}
use Rattle.calls.specs.declared.Refusal.TheVariants.{Ports, Slots, ListLength, FrameLength, InputLoad, OutputLoad, LineForm, LinePort, SheetLength, SlotNumber, FlowOrPort, RunLength, Entries, SecondLength, FrameEntries, InputFull, OutputFull, TooManyFlows, FlowPort, FlowLink, LinkLoad}

-- An answer as numbers: a refusal's is its number and then its values, acceptance's is 0.
abbrev pub refusal : Refusal → List ℕ
refusal Ports = 1 ∷ []
refusal Slots = 2 ∷ []
refusal ListLength = 3 ∷ []
refusal FrameLength = 4 ∷ []
refusal (InputLoad port cells) = 5 ∷ port ∷ cells ∷ []
refusal (OutputLoad port cells) = 6 ∷ port ∷ cells ∷ []
refusal (LineForm line) = 7 ∷ line ∷ []
refusal (LinePort line) = 8 ∷ line ∷ []
refusal SheetLength = 10 ∷ []
refusal SlotNumber = 11 ∷ []
refusal FlowOrPort = 12 ∷ []
refusal RunLength = 13 ∷ []
refusal Entries = 14 ∷ []
refusal SecondLength = 15 ∷ []
refusal FrameEntries = 16 ∷ []
refusal InputFull = 17 ∷ []
refusal OutputFull = 18 ∷ []
refusal TooManyFlows = 21 ∷ []
refusal FlowPort = 22 ∷ []
refusal FlowLink = 23 ∷ []
refusal (LinkLoad o l cells) = 24 ∷ o ∷ l ∷ cells ∷ []

abbrev pub accepted : List ℕ
accepted = 0 ∷ []

abbrev pub answered : Result ⊤ Refusal → List ℕ
answered (Ok _) = accepted
answered (Err r) = refusal r

-- A condition, with the answer where it holds.
abbrev pub Check : Type 0
Check = Bool × List ℕ

-- The first condition that holds is the one reported; if none holds, the answer is the other one.
abbrev pub report : List Check → List ℕ → List ℕ
report [] otherwise = otherwise
report (c ∷ cs) otherwise = if c.0 c.1 (report cs otherwise)

-- No condition holds.
abbrev pub none_holds : List Check → Bool
none_holds [] = true
none_holds (c ∷ cs) = both (not c.0) (none_holds cs)

-- 1: ports not 1 to 16.
abbrev pub bad_ports : ℕ → Check
bad_ports ports = (not (within 1 16 ports), 1 ∷ [])

-- 2: slots not a power of two from 1 to 1,024.
abbrev pub bad_slots : ℕ → Check
bad_slots slots = (eqb (levels slots) 11, 2 ∷ [])

-- 3: the list's length is not a whole number of flows.
abbrev pub bad_list : List ℕ → Check
bad_list list = (not (eqb (length list % stride) 0), 3 ∷ [])

-- 21: more than 512 flows.
abbrev pub too_many_flows : List ℕ → Check
too_many_flows list = (ltb 512 (flows list), 21 ∷ [])

-- 22: a flow's input or output outside 1 to ports.
abbrev pub ports_within : ℕ → List ℕ → ℕ → Bool
ports_within ports list f = both (within 1 ports (number_of (place_of inputs) list f)) (within 1 ports (number_of (place_of links) list f))

abbrev pub port_outside : ℕ → List ℕ → Check
port_outside ports list = (ltb (first (λ f. not (ports_within ports list f)) 0 (flows list)) (flows list), 22 ∷ [])

-- 23: a flow's link outside 1 to 4.
abbrev pub link_within : List ℕ → ℕ → Bool
link_within list f = within 1 4 (number_of 3 list f)

abbrev pub link_outside : List ℕ → Check
link_outside list = (ltb (first (λ f. not (link_within list f)) 0 (flows list)) (flows list), 23 ∷ [])

-- What is tried first wherever a list is taken: 1, 2, 3, 21, 22, 23.
abbrev pub list_checks : ℕ → ℕ → List ℕ → List Check
list_checks ports slots list = bad_ports ports ∷ bad_slots slots ∷ bad_list list ∷ too_many_flows list ∷ port_outside ports list ∷ link_outside list ∷ []

-- 4: frame length not slots × ports.
abbrev pub bad_frame : ℕ → ℕ → List ℕ → Check
bad_frame ports slots entries = (not (eqb (length entries) (slots * ports)), 4 ∷ [])

-- The lowest of so many ports whose load is above slots; their number where there is none.
abbrev pub lowest_above : ℕ → ℕ → (ℕ → ℕ) → ℕ
lowest_above ports slots loads = first (λ x. ltb slots (loads x)) 0 ports

-- A port's load is above slots, decided from the ports' loads and slots alone. Carries the lowest such port and its load.
abbrev pub above_slots : ℕ → ℕ → ℕ → (ℕ → ℕ) → Check
above_slots number ports slots loads =
    let x = lowest_above ports slots loads in
    (ltb x ports, number ∷ suc x ∷ loads x ∷ [])

-- 5, for inputs, and 6, for outputs: a port's load is above slots. Carries the lowest such port and its load.
abbrev pub overload : ℕ → (ℕ → Class) → ℕ → ℕ → List ℕ → Check
overload number kind ports slots list = above_slots number ports slots (λ x. load (kind x) list)

abbrev pub port_overloads : ℕ → ℕ → List ℕ → List Check
port_overloads ports slots list = overload 5 (port_on input) ports slots list ∷ overload 6 (port_on output) ports slots list ∷ []

-- The lowest of the links of so many outputs whose load is above its own cells per frame; their number where there is none. The 64
-- limits stand output by output, as links are numbered.
abbrev pub lowest_past : ℕ → List ℕ → (ℕ → ℕ) → ℕ
lowest_past ports limits loads = first (λ x. ltb (get_or limits x 0) (loads x)) 0 (ports * 4)

-- 24: a link is asked for more than its cells per frame, decided from the links' loads and the limits alone. Carries the lowest such
-- output, its lowest such link and that link's load.
abbrev pub above_limits : ℕ → List ℕ → (ℕ → ℕ) → Check
above_limits ports limits loads =
    let x = lowest_past ports limits loads in
    (ltb x (ports * 4), 24 ∷ suc (output_of x) ∷ suc (x % 4) ∷ loads x ∷ [])

abbrev pub link_overload : ℕ → List ℕ → List ℕ → Check
link_overload ports list limits = above_limits ports limits (λ x. load (link x) list)

-- Overload: 5, 6, 24.
abbrev pub overloads : ℕ → ℕ → List ℕ → List ℕ → List Check
overloads ports slots list limits = port_overloads ports slots list ++ (link_overload ports list limits ∷ [])

-- The limits of links that may have as many cells as the frame has slots.
abbrev pub slots_each : ℕ → List ℕ
slots_each slots = replicate 64 slots

-- 11: slot or start outside 1 to slots.
abbrev pub bad_slot : ℕ → ℕ → Check
bad_slot slots slot = (not (within 1 slots slot), 11 ∷ [])

-- Admit: 1, 2, 3, 21, 22, 23, 5, 6, 24.
unfoldable pub admitted : ℕ → ℕ → List ℕ → List ℕ → List ℕ
admitted ports slots list limits = report (list_checks ports slots list ++ overloads ports slots list limits) accepted
