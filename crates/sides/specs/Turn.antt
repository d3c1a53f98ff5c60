-- Turn: a frame by the other side, written to a second buffer.
use Rattle.std.specs.Prelude.{ℕ, suc, ◌+◌, ◌*◌, ◌/◌, ◌%◌, ◌<◌, ◌≡◌, ◌≢◌, List, [], ◌∷◌, ◌++◌, map, Bool, not, eqb, length, get_or}
use Rattle.rules.specs.Words.{if, up_from, first}
use Rattle.rules.specs.Flows.{Side, other, on_side, port_of, port_on}
use Rattle.rules.specs.Frames.{is_flow_of, run_of}
use Rattle.calls.specs.Refusals.{Check, report, none_holds, accepted, list_checks, bad_frame}
use Rattle.calls.specs.Inspect.{bad_entries}
use Rattle.calls.specs.Demand2.{WellFormed}
use Rattle.calls.specs.Answers.{Throughout, EntryRight, PortOnce}

-- What it is to have a frame's entries by a side: in each slot every flow that stands in the frame stands at its port of that side, and a
-- port of which no flow stands there is idle.
pub record BySide (side : Side) (ports slots : ℕ) (list entries new : List ℕ) : Type 0 where
  pub size : length new ≡ length entries
  pub stands : (s i f : ℕ) → s < slots → i < ports → get_or entries (s * ports + i) 0 ≡ suc f
      → get_or new (s * ports + on_side side (port_of list) f) 0 ≡ suc f
  pub idle : (s x : ℕ) → s < slots → x < ports
      → ((i f : ℕ) → i < ports → get_or entries (s * ports + i) 0 ≡ suc f → on_side side (port_of list) f ≢ x)
      → get_or new (s * ports + x) 0 ≡ 0

-- The entry of port x of a side, from those of a slot: the first that is a flow of x, or 0 where none is.
unfoldable pub entry_of : Side → ℕ → List ℕ → List ℕ → ℕ → ℕ
entry_of side ports list slot x = get_or slot (first (λ i. is_flow_of (port_on side x) list (get_or slot i 0)) 0 ports) 0

-- A frame's entries by a side, slot by slot. Of a frame that Turn accepts, nothing else is that.
unfoldable pub by_side : Side → ℕ → List ℕ → List ℕ → List ℕ
by_side side ports list entries =
    map (λ q. entry_of side ports list (run_of ports (q / ports) 1 entries) (q % ports)) (up_from 0 (length entries))

-- What Turn accepts, with a second buffer of its length: a frame of a well-formed list in which no entry is wrong and no slot uses a port
-- of the other side twice.
pub record Turnable (side : Side) (ports slots : ℕ) (list entries : List ℕ) : Type 0 where
  pub well : WellFormed ports slots list
  pub size : length entries ≡ slots * ports
  pub each_right : Throughout slots ports (EntryRight side ports list entries)
  pub each_once : Throughout slots ports (PortOnce side ports list entries)

-- 15: the second buffer's length differs from the frame's.
abbrev pub bad_second : List ℕ → List ℕ → Check
bad_second entries second = (not (eqb (length second) (length entries)), 15 ∷ [])

-- Turn: 1, 2, 3, 21, 22, 23, 4, 15, 14.
unfoldable pub turn_checks : Side → ℕ → ℕ → List ℕ → List ℕ → List ℕ → List Check
turn_checks side ports slots list entries second =
    list_checks ports slots list
    ++ (bad_frame ports slots entries ∷ bad_second entries second ∷ bad_entries 14 side ports slots list entries)

abbrev pub turn_accepts : Side → ℕ → ℕ → List ℕ → List ℕ → List ℕ → Bool
turn_accepts side ports slots list entries second = none_holds (turn_checks side ports slots list entries second)

abbrev pub turn_answer : Side → ℕ → ℕ → List ℕ → List ℕ → List ℕ → List ℕ
turn_answer side ports slots list entries second = report (turn_checks side ports slots list entries second) accepted

-- Its number alone: no answer of Turn has a value.
abbrev pub turn_number : Side → ℕ → ℕ → List ℕ → List ℕ → List ℕ → ℕ
turn_number side ports slots list entries second = get_or (turn_answer side ports slots list entries second) 0 0

-- The entries that Turn leaves in the second buffer: the frame by the other side where it accepts, and those that it was lent where it
-- refuses.
abbrev pub second_after : Side → ℕ → ℕ → List ℕ → List ℕ → List ℕ → List ℕ
second_after side ports slots list entries second =
    if (turn_accepts side ports slots list entries second) (by_side (other side) ports list entries) second
