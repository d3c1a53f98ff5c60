-- Frames: entries, slots, cells, and what legal and balanced mean. Nothing here speaks of splitting.
use Rattle.std.specs.Prelude.{ℕ, suc, zero, ◌+◌, ◌*◌, ◌-◌, ◌%◌, ◌^◌, ◌≤◌, ◌<◌, ◌≡◌, List, [], ◌++◌, Bool, true, not, eqb, length, get_or, take, drop}
use Rattle.rules.specs.Words.{if, both, bit, within, first, sum_to, Near}
use Rattle.rules.specs.Flows.{flows, port_of, Side, other, same, Class, flow, port_on, input, link, total, OnSwitch, is_of, load}

-- A frame is its slots, first slot first. It has a side, and a slot is one entry per port of that side: the number of the flow that the input
-- sends a cell of, or the output takes a cell of, from 1, or 0 for idle. So entry q of any whole slots, end to end, is that of port q % ports.
-- Build makes frames of the input side; what is said of a frame without a side is said of that one.

-- An entry is a flow if it is the number of one in the list; flow e - 1, as flows are numbered on these pages.
abbrev pub is_flow : List ℕ → ℕ → Bool
is_flow list e = within 1 (flows list) e

-- It is a flow of a class.
abbrev pub is_flow_of : Class → List ℕ → ℕ → Bool
is_flow_of c list e = both (is_flow list e) (is_of c (port_of list) (e - 1))

-- An entry is right at a port of the frame's side if it is 0 or the number of a flow of that port. A wrong one is above the number of
-- flows, or of another port's flow.
abbrev pub right_on : Side → List ℕ → ℕ → ℕ → Bool
right_on side list at e = if (eqb e 0) true (is_flow_of (port_on side at) list e)

abbrev pub right : List ℕ → ℕ → ℕ → Bool
right list at e = right_on input list at e

-- An entry that is a flow counts for that flow, its link, the total and its port of the other side, wherever it stands; for a port of the
-- frame's own side counts every entry of its own that is not 0. So one that is no flow counts for the port at whose place it stands only.
abbrev pub counts_on : Side → Class → List ℕ → ℕ → ℕ → Bool
counts_on side (flow f) list at e = is_flow_of (flow f) list e
counts_on side (port_on s x) list at e = if (same side s) (both (eqb at x) (not (eqb e 0))) (is_flow_of (port_on s x) list e)
counts_on side (link x) list at e = is_flow_of (link x) list e
counts_on side total list at e = is_flow_of total list e

abbrev pub counts : Class → List ℕ → ℕ → ℕ → Bool
counts c list at e = counts_on input c list at e

-- The cells of a class in the entries of whole slots: those that count for it.
unfoldable pub cells_on : Side → ℕ → List ℕ → Class → List ℕ → ℕ
cells_on side ports list c entries = sum_to (length entries) (λ q. bit (counts_on side c list (q % ports) (get_or entries q 0)))

abbrev pub cells : Class → ℕ → List ℕ → List ℕ → ℕ
cells c ports list entries = cells_on input ports list c entries

-- The entries of a run of len slots from slot start on.
unfoldable pub run_of : ℕ → ℕ → ℕ → List ℕ → List ℕ
run_of ports start len entries = take (len * ports) (drop (start * ports) entries)

-- The entries of a run of a frame that repeats for ever: after the last slot comes the first.
unfoldable pub repeated : ℕ → ℕ → List ℕ → ℕ → ℕ → List ℕ
repeated ports slots entries start zero = []
repeated ports slots entries start (suc len) = run_of ports (start % slots) 1 entries ++ repeated ports slots entries (suc start) len

-- Slots are a power of two from 1 to 1,024.
pub record Power (slots : ℕ) : Type 0 where
  pub k : ℕ
  pub most : k ≤ 10
  pub is : slots ≡ 2 ^ k

-- Slots are a power of two, 2 ^ k with k from 0 to 10: the k, and 11 for any other number.
abbrev pub levels : ℕ → ℕ
levels slots = first (λ k. eqb slots (2 ^ k)) 0 11

-- A frame of a list is legal if it has its size, no entry is wrong, each flow is in exactly its cells of slots, and no slot uses
-- a port of the other side twice.
pub record LegalOn (side : Side) (ports slots : ℕ) (list entries : List ℕ) : Type 0 where
  pub size : length entries ≡ slots * ports
  pub each_right : (q : ℕ) → q < length entries → right_on side list (q % ports) (get_or entries q 0) ≡ true
  pub exact : (f : ℕ) → f < flows list → cells_on side ports list (flow f) entries ≡ load (flow f) list
  pub once : (s x : ℕ) → s < slots → x < ports → cells_on side ports list (port_on (other side) x) (run_of ports s 1 entries) ≤ 1

abbrev pub Legal : ℕ → ℕ → List ℕ → List ℕ → Type 0
Legal ports slots list entries = LegalOn input ports slots list entries

-- Rule 1: a block is the whole frame, or either half of a block; it is named by its first slot and its size.
pub data Block (slots : ℕ) : ℕ → ℕ → Type 0 where
  whole : Block slots 0 slots
  front : (start half : ℕ) → Block slots start (2 * half) → Block slots start half
  back : (start half : ℕ) → Block slots start (2 * half) → Block slots (start + half) half

-- A frame is balanced if in every block that has halves they differ by at most 1 for each flow, input, output and link and for
-- the total.
abbrev pub BalancedOn : Side → ℕ → ℕ → List ℕ → List ℕ → Type 0
BalancedOn side ports slots list entries =
    (c : Class) → OnSwitch ports c → (start half : ℕ) → Block slots start (2 * half)
    → Near 1 (cells_on side ports list c (run_of ports start half entries)) (cells_on side ports list c (run_of ports (start + half) half entries))

abbrev pub Balanced : ℕ → ℕ → List ℕ → List ℕ → Type 0
Balanced ports slots list entries = BalancedOn input ports slots list entries
