-- The bound of demand 3 is reached, and a flow's queue is as deep as it allows, behind another switch too: document 01's seam
-- load, k = 1, two ports. A frame of the flow from input 1 to output 2 alone with 1 cell, then a frame of it and of one to output 1 with 1
-- each: the last slot of the first and the first slot of the second have no cell of it. For every k and every load the bound of the load is reached: Reached.
use Prim.Native.Nat.{ℕ, suc, zero, ◌+◌, ◌*◌, ◌-◌, ◌^◌, min}
use mathlib.Core.Path.{◌≡◌, refl}
use mathlib.Core.List.{List, [], ◌∷◌, map}
use native.Mathlib.Omega.{arith}
use lib.ListN.{length}
use Rattle.rules.specs.Words.{sum_to, Every}
use Rattle.rules.specs.Flows.{port_of, counts_of, load_in, load}
use Rattle.rules.specs.Frames.{cells_on, run_of}
use Rattle.calls.specs.Refusals.{slots_each}
use Rattle.rules.specs.Schedule.{walk, settle_at, favours, slot_of, frame_of}
use Rattle.calls.specs.Build.{build_checks}
use Rattle.wire.specs.Wire.{Call, Carried, none, chain, cells_at, cells_in, share, Shape}
use Rattle.strays.specs.Stray.{earliest, largest, stray}
use Rattle.queues.specs.Queue.{waiting, queue, arrived, Paced}
use Rattle.queues.specs.Wait.{by_demand3, by_stray, least_enough}
use Rattle.queues.specs.Row.{Hop, scheduled_at, Reserved, onward}
use Rattle.rules.proofs.Sums.{sum_append}
use Rattle.bounds.proofs.OneInput.{listed, second}

-- a call of two ports and two slots, carried once, and one that is refused, carried once more
abbrev pub once : List ℕ → Call
once list = record { ports = 2; slots = 2; list = list; limits = slots_each 2; times = 1 }

abbrev pub seam_calls : List Call
seam_calls = once (listed 3 0) ∷ once (listed 0 1) ∷ once (listed 1 1) ∷ once (listed 0 9) ∷ []

abbrev pub seam : List Carried
seam = chain none (7 ∷ 7 ∷ 7 ∷ 7 ∷ []) seam_calls

-- the wire: the first call is refused and nothing is carried; the last one is, and the frame before it is carried again
pub seam_wire : map (λ f. f.entries) seam ≡ (2 ∷ 0 ∷ 0 ∷ 0 ∷ []) ∷ (1 ∷ 0 ∷ 2 ∷ 0 ∷ []) ∷ (1 ∷ 0 ∷ 2 ∷ 0 ∷ []) ∷ []
unfolding chain build_checks sum_to port_of counts_of load_in walk settle_at favours slot_of frame_of
seam_wire = refl

-- three times the share, over 2 ^ k, is exactly (2 k + 1) × 2 ^ k above 3 × 2 ^ k × cells
pub tight : 3 * share second 0 seam 1 2 ≡ 3 * 2 ^ 1 * cells_in second seam 1 2 + (2 * 1 + 1) * 2 ^ 1
unfolding chain cells_at cells_in share cells_on run_of build_checks sum_to port_of counts_of load_in walk settle_at favours slot_of frame_of
tight = refl

-- the flow has 1 cell in each frame of the seam
pub seam_steady : Every (λ f. load second f.call.list ≡ 1) seam
unfolding chain build_checks sum_to port_of counts_of load_in walk settle_at favours slot_of frame_of
seam_steady = (refl, (refl, (refl, tt)))

-- one cell arrives in each of the two slots that have none of the flow
abbrev pub arriving : ℕ → ℕ
arriving t = min t 2 - min (t - 1) 2

arriving_first : (t : ℕ) → sum_to t arriving ≡ min (t - 1) 2
unfolding sum_to
arriving_first zero = refl
arriving_first (suc t) = omega (arith, arriving_first t)

-- in L slots at most L / 2 + 1 cells arrive
pub arriving_paced : Paced 1 2 (length seam * 2 ^ 1) (λ start len. len * 1) arriving
unfolding arrived
arriving_paced start len h =
    let sum = sum_append start len arriving in
    omega (arith, arriving_first (start + len), arriving_first start)

-- after the second of them a + 2 × stray k m parts of 1 / 2 ^ k of a cell wait, k = 1 and a = 2, which is one cell
pub deepest : 2 ^ 1 * waiting arriving (cells_at second seam) 3 ≡ 2 + 2 * stray 1 1
unfolding waiting chain cells_at cells_on run_of build_checks sum_to port_of counts_of load_in walk settle_at favours slot_of frame_of earliest largest stray
deepest = refl

-- the last of them is there still after two slots more, and by how long it may take it must have left in the third: 2 × m + 2 ^ k is as much as
-- a + 2 × stray k m, where m and k are 1
pub slowest : (queue arriving (cells_at second seam) 3 ≡ 0 ∷ 1 ∷ []) × (queue arriving (cells_at second seam) 5 ≡ 1 ∷ [])
    × (2 * 1 + 2 ^ 1 ≡ 2 + 2 * stray 1 1)
unfolding queue chain cells_at cells_on run_of build_checks sum_to port_of counts_of load_in walk settle_at favours slot_of frame_of earliest largest stray
slowest = (refl, refl, refl)

-- two cells arrive in the first slot, and one leaves in it
abbrev pub two_at_once : ℕ → ℕ
two_at_once t = 2 * (1 - t)

-- the other is then at the head of its queue, and is so still after two slots more, which is one fewer than the longest wait
pub latest : (queue two_at_once (cells_at second seam) 1 ≡ 1 ∷ []) × (queue two_at_once (cells_at second seam) 3 ≡ 1 ∷ [])
    × (least_enough (by_demand3 1 1) 1 1 1 ≡ 3) × (least_enough (by_stray 1 1) 1 1 1 ≡ 3)
unfolding queue chain cells_at cells_on run_of build_checks sum_to port_of counts_of load_in walk settle_at favours slot_of frame_of earliest largest stray
latest = (refl, refl, refl, refl)

-- A switch whose frames give the flow those two slots, and behind it, in step, one with the frames of the seam.
abbrev pub ahead : Hop
ahead = record { buffer = 7 ∷ 7 ∷ 7 ∷ 7 ∷ []; calls = once (listed 1 1) ∷ once (listed 0 1) ∷ []; ports = 2; flow = second; delay = 0 }

abbrev pub behind : Hop
behind = record { buffer = 7 ∷ 7 ∷ 7 ∷ 7 ∷ []; calls = seam_calls; ports = 2; flow = second; delay = 0 }

two_by_two : (f : Carried) → f.call.ports ≡ 2 → f.call.slots ≡ 2 → Shape 2 2 f
two_by_two f p s = record { ports_are = p; slots_are = s }

pub row_reserved : Every (Reserved 1 1) (ahead ∷ behind ∷ [])
unfolding chain build_checks sum_to port_of counts_of load_in walk settle_at favours slot_of frame_of
row_reserved = (
  record { shape = (two_by_two _ refl refl, (two_by_two _ refl refl, tt)); flow_of = tt; steady = (refl, (refl, tt)) },
  (record { shape = (two_by_two _ refl refl, (two_by_two _ refl refl, (two_by_two _ refl refl, tt))); flow_of = tt; steady = seam_steady }, tt),
)

-- after the second of them the other holds 4 × stray k m
pub deepest_behind : 2 ^ 1 * waiting (onward ahead arriving) (scheduled_at behind) 3 ≡ 4 * stray 1 1
unfolding waiting chain cells_at cells_on run_of build_checks sum_to port_of counts_of load_in walk settle_at favours slot_of frame_of earliest largest stray
deepest_behind = refl
