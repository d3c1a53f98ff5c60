-- Slot view and Service count: what is asked about a frame.
use Rattle.std.specs.Prelude.{ℕ, ◌-◌, ◌*◌, List, [], ◌∷◌, ◌++◌, Bool, not, ltb, get_or, take, drop, ℤ, pos, ◌-ℤ◌, Result, Ok, Err}
use Rattle.rules.specs.Words.{if, within}
use Rattle.rules.specs.Flows.{flows, Side, Class, flow, port_on, input, output}
use Rattle.rules.specs.Frames.{cells_on, repeated}
use Rattle.calls.specs.Refusals.{Check, report, none_holds, accepted, refusal, bad_ports, bad_slots, list_checks, bad_frame, bad_slot}
use Rattle.calls.specs.declared.Who.{Who}
use Rattle.calls.specs.declared.Who.TheVariants.{Flow, Input, Output}
use Rattle.calls.specs.declared.Count.{Count}
use Rattle.calls.specs.declared.Refusal.{Refusal}

-- Slot view: 1, 2, 4, 11.
unfoldable pub view_checks : ℕ → ℕ → List ℕ → ℕ → List Check
view_checks ports slots entries slot = bad_ports ports ∷ bad_slots slots ∷ bad_frame ports slots entries ∷ bad_slot slots slot ∷ []

-- The refusal's number, 0 for none, which is written to the lent number.
abbrev pub view_number : ℕ → ℕ → List ℕ → ℕ → ℕ
view_number ports slots entries slot = get_or (report (view_checks ports slots entries slot) accepted) 0 0

-- Where in the caller's frame the part begins, and how many entries it has: the slot's, and none on refusal.
abbrev pub view_start : ℕ → ℕ → List ℕ → ℕ → ℕ
view_start ports slots entries slot = if (none_holds (view_checks ports slots entries slot)) ((slot - 1) * ports) 0

abbrev pub view_size : ℕ → ℕ → List ℕ → ℕ → ℕ
view_size ports slots entries slot = if (none_holds (view_checks ports slots entries slot)) ports 0

abbrev pub viewed : ℕ → ℕ → List ℕ → ℕ → List ℕ
viewed ports slots entries slot = take (view_size ports slots entries slot) (drop (view_start ports slots entries slot) entries)

-- Whom a count is for, as what is counted.
abbrev pub class_of : Who → Class
class_of (Flow f) = flow (f - 1)
class_of (Input i) = (port_on input) (i - 1)
class_of (Output o) = (port_on output) (o - 1)

abbrev pub who_within : ℕ → List ℕ → Who → Bool
who_within ports list (Flow f) = within 1 (flows list) f
who_within ports list (Input i) = within 1 ports i
who_within ports list (Output o) = within 1 ports o

-- 12: a flow that is not in the list, or a port outside 1 to ports.
abbrev pub bad_who : ℕ → List ℕ → Who → Check
bad_who ports list who = (not (who_within ports list who), 12 ∷ [])

-- 13: run length above 1,000,000.
abbrev pub bad_length : ℕ → Check
bad_length len = (ltb 1000000 len, 13 ∷ [])

-- How far ahead a run is: slots × its cells, less its length × the cells of one whole frame, as counted in that frame. An
-- integer, below 0 where the run is behind; over slots, it is the cells that the run has above its share.
unfoldable pub lead_on : Side → Class → ℕ → ℕ → List ℕ → List ℕ → ℕ → ℕ → ℤ
lead_on side c ports slots list entries start len =
    pos (slots * cells_on side ports list c (repeated ports slots entries start len)) -ℤ pos (len * cells_on side ports list c entries)

abbrev pub lead : Class → ℕ → ℕ → List ℕ → List ℕ → ℕ → ℕ → ℤ
lead c ports slots list entries start len = lead_on input c ports slots list entries start len

-- An answer: its numbers, and a lead.
pub record Reply : Type 0 where
  pub numbers : List ℕ
  pub ahead : ℤ

-- A count's answer is 0 and the cells, and the lead; a refusal's is its own numbers, and 0 for the lead.
abbrev pub served : Result Count Refusal → Reply
served (Ok c) = record { numbers = 0 ∷ c.cells ∷ []; ahead = c.lead }
served (Err r) = record { numbers = refusal r; ahead = pos 0 }

-- Service count: 1, 2, 3, 21, 22, 23, 4, 11, 12, 13.
unfoldable pub count_checks : ℕ → ℕ → List ℕ → List ℕ → Who → ℕ → ℕ → List Check
count_checks ports slots list entries who start len =
    list_checks ports slots list ++ (
    bad_frame ports slots entries
    ∷ bad_slot slots start
    ∷ bad_who ports list who
    ∷ bad_length len
    ∷ []
    )

-- The number is the count over the run's entries, and the lead is that run's.
unfoldable pub service : Side → ℕ → ℕ → List ℕ → List ℕ → Who → ℕ → ℕ → Reply
service side ports slots list entries who start len =
    let checks = count_checks ports slots list entries who start len in
    record {
      numbers = report checks (0 ∷ cells_on side ports list (class_of who) (repeated ports slots entries (start - 1) len) ∷ []);
      ahead = if (none_holds checks) (lead_on side (class_of who) ports slots list entries (start - 1) len) (pos 0);
    }
