-- Each claim with a number in it, applied to one case: what it says there is less than what a weaker claim would say. The switch has two
-- ports, so that ports are not slots, and its frame of four slots is carried twice.
use Prim.Native.Nat.{ℕ, ◌+◌, ◌*◌, ◌≤◌}
use mathlib.Core.Path.{◌≡◌, refl, ap, ◌∙◌}
use mathlib.Core.List.{List, [], ◌∷◌}
use mathlib.Core.Bool.{true}
use native.Mathlib.Omega.{arith}
use lib.IntN.{nat_abs}
use lib.ListN.{replicate}
use Rattle.rules.specs.Words.{sum_to, Every}
use Rattle.rules.specs.Flows.{flow, total, port_of, counts_of, load_in, load, input}
use Rattle.rules.specs.Schedule.{walk, settle_at, favours, slot_of, frame_of}
use Rattle.calls.specs.Refusals.{slots_each}
use Rattle.calls.specs.Build.{build_checks, build_accepts, frame_after}
use Rattle.calls.specs.Work.{work}
use Rattle.calls.specs.Service.{lead, service}
use Rattle.calls.specs.declared.Who.TheVariants.{Flow}
use Rattle.strays.specs.Stray.{earliest, largest, stray}
use Rattle.strays.specs.Deviation.{deviation, repeat_deviation}
use Rattle.wire.specs.Wire.{Call, Carried, none, chain, cells_in, share, Shape}
use Rattle.wire.specs.Loads.{load_of}
use Rattle.bounds.specs.ByLoad.{NearShare, Strays, AtLeast, AtMost}
use Rattle.bounds.specs.Sharp.{Sharp}
use Rattle.bounds.specs.Total.{Totals}
use Rattle.bounds.specs.Budget.{WorkMost}
use Rattle.bounds.specs.Lead.{BuiltLead, AnsweredLead}

-- the flows from input 1 to output 1 with 2 cells, from 1 to 2 with 1, and from 2 to 2 with 3
abbrev pub asked : List ℕ
asked = 1 ∷ 1 ∷ 2 ∷ 1 ∷ 1 ∷ 2 ∷ 1 ∷ 1 ∷ 2 ∷ 2 ∷ 3 ∷ 1 ∷ []

-- the first of them with 1 cell
abbrev fewer : List ℕ
fewer = 1 ∷ 1 ∷ 1 ∷ 1 ∷ 1 ∷ 2 ∷ 1 ∷ 1 ∷ 2 ∷ 2 ∷ 3 ∷ 1 ∷ []

abbrev pub lent : List ℕ
lent = replicate 8 77

abbrev left : List ℕ
left = frame_after 2 4 asked (slots_each 4) lent

-- a call that is carried so many times
abbrev call : List ℕ → ℕ → Call
call list times = record { ports = 2; slots = 4; list = list; limits = slots_each 4; times = times }

abbrev pub calls : List Call
calls = call asked 2 ∷ []

abbrev pub wire : List Carried
wire = chain none lent calls

-- and one after which the load is another
abbrev seam_calls : List Call
seam_calls = call asked 1 ∷ call fewer 1 ∷ []

abbrev seam : List Carried
seam = chain none lent seam_calls

accepts : build_accepts 2 4 asked (slots_each 4) lent ≡ true
unfolding build_checks sum_to port_of counts_of load_in
accepts = refl

pub shapes : Every (Shape 2 4) wire
unfolding chain build_checks sum_to port_of counts_of load_in
shapes = (record { ports_are = refl; slots_are = refl }, (record { ports_are = refl; slots_are = refl }, tt))

seam_shapes : Every (Shape 2 4) seam
unfolding chain build_checks sum_to port_of counts_of load_in walk settle_at favours slot_of frame_of
seam_shapes = (record { ports_are = refl; slots_are = refl }, (record { ports_are = refl; slots_are = refl }, tt))

-- the first flow has 2 cells in each frame
pub steady : Every (λ f. load (flow 0) f.call.list ≡ 2) wire
unfolding chain build_checks sum_to port_of counts_of load_in
steady = (refl, (refl, tt))

-- the strays of 2 cells and of 1, and the deviations
pub two : stray 2 2 ≡ 2
unfolding stray largest earliest
two = refl

one : stray 2 1 ≡ 3
unfolding stray largest earliest
one = refl

three : deviation 2 ≡ 3
unfolding deviation
three = refl

four : repeat_deviation 2 ≡ 4
unfolding repeat_deviation deviation
four = refl

-- the load of the first flow in each frame of the seam, and that of the total
loads : (load_of (flow 0) seam 0 ≡ 2) × (load_of (flow 0) seam 1 ≡ 1) × (load_of total seam 0 ≡ 6) × (load_of total seam 1 ≡ 5)
unfolding load_of chain build_checks sum_to port_of counts_of load_in walk settle_at favours slot_of frame_of
loads = (refl, refl, refl, refl)

loads_stray : (stray 2 (load_of (flow 0) seam 0) ≡ 2) × (stray 2 (load_of (flow 0) seam 1) ≡ 3)
loads_stray = (ap (stray 2) loads.0 ∙ two, ap (stray 2) loads.1 ∙ one)

totals_stray : (stray 2 6 ≡ 2) × (stray 2 5 ≡ 3)
unfolding stray largest earliest
totals_stray = (refl, refl)

-- 2 ports × 4 slots × 2
pub work_case : WorkMost → work 2 4 asked left ≤ 16
work_case w = omega (arith, w 2 4 asked (slots_each 4) lent accepts 2 refl)

-- (2 × 2 + 1) × 4 slots
pub lead_case : BuiltLead → (start len : ℕ) → 3 * nat_abs (lead (flow 0) 2 4 asked left start len) ≤ 20
lead_case b start len = omega (arith, (b 2 4 asked (slots_each 4) lent accepts 2 refl (flow 0) tt start len).near)

-- two strays of 2, where one frame that repeats allows as much
pub lead_by_load_case : BuiltLead → (start len : ℕ) → nat_abs (lead (flow 0) 2 4 asked left start len) ≤ 4
unfolding load_in sum_to port_of counts_of stray largest earliest
lead_by_load_case b start len = omega (arith, (b 2 4 asked (slots_each 4) lent accepts 2 refl (flow 0) tt start len).by_load)

-- the second flow, which strays by 3, is within 4 too
pub lead_repeats_case : BuiltLead → (start len : ℕ) → nat_abs (lead (flow 1) 2 4 asked left start len) ≤ 4
lead_repeats_case b start len = omega (arith, four, (b 2 4 asked (slots_each 4) lent accepts 2 refl (flow 1) tt start len).repeats)

pub answered_case : AnsweredLead → (start len : ℕ) → 3 * nat_abs (service input 2 4 asked left (Flow 1) start len).ahead ≤ 20
answered_case a start len = omega (arith, a 2 4 asked (slots_each 4) lent accepts 2 refl (Flow 1) start len)

-- a run over the seam, one that begins with the second frame, and one that ends with the first
pub stray_case : Strays → NearShare 5 (flow 0) 2 seam 3 2 × NearShare 3 (flow 0) 2 seam 4 3 × NearShare 2 (flow 0) 2 seam 1 3
unfolding chain build_checks sum_to port_of counts_of load_in walk settle_at favours slot_of frame_of
stray_case s =
    let on = s lent seam_calls 2 2 seam_shapes in
    let any = (on 3 2 (omega arith) (flow 0) tt).any 0 1 (omega arith, omega arith) (omega arith, omega arith) in
    let begins = (on 4 3 (omega arith) (flow 0) tt).begins_frame 1 1 refl (omega arith, omega arith) in
    let ends = (on 1 3 (omega arith) (flow 0) tt).ends_frame 0 1 (omega arith, omega arith) refl in
    let a = loads_stray.0 in
    let b = loads_stray.1 in (
      (omega (arith, a, b, any.0), omega (arith, a, b, any.1)),
      (omega (arith, b, begins.0), omega (arith, b, begins.1)),
      (omega (arith, a, ends.0), omega (arith, a, ends.1)),
    )

-- the same whatever the loads
pub sharp_case : Sharp → NearShare 6 (flow 0) 2 wire 3 2 × NearShare 3 (flow 0) 2 wire 4 3 × NearShare 3 (flow 0) 2 wire 1 3
unfolding chain build_checks sum_to port_of counts_of load_in
sharp_case s =
    let on = s lent calls 2 2 shapes in
    let any = (on 3 2 (omega arith) (flow 0) tt).any in
    let begins = (on 4 3 (omega arith) (flow 0) tt).begins_frame 1 refl in
    let ends = (on 1 3 (omega arith) (flow 0) tt).ends_frame 1 refl in (
      (omega (arith, three, any.0), omega (arith, three, any.1)),
      (omega (arith, three, begins.0), omega (arith, three, begins.1)),
      (omega (arith, three, ends.0), omega (arith, three, ends.1)),
    )

-- both frames of the seam have at least 1 cell of the first flow and at most 2: in seven slots no fewer than 7 × 1 − 2 × 3 parts, and in
-- three no more than 3 × 2 + 2 × 2
pub least_case : AtLeast → 7 ≤ 4 * cells_in (flow 0) seam 1 7 + 6
unfolding chain build_checks sum_to port_of counts_of load_in walk settle_at favours slot_of frame_of
least_case a = omega (arith, one, a lent seam_calls 2 2 seam_shapes 1 7 (omega arith) (flow 0) tt 1 (omega arith, (omega arith, tt)))

pub most_case : AtMost → 4 * cells_in (flow 0) seam 3 3 ≤ 10
unfolding chain build_checks sum_to port_of counts_of load_in walk settle_at favours slot_of frame_of
most_case a = omega (arith, two, a lent seam_calls 2 2 seam_shapes 3 3 (omega arith) (flow 0) tt 2 (omega arith, (omega arith, tt)))

-- the total strays by 2 in the first frame of the seam and by 3 in the second: a run over it is above by at most 3 and below by at most 2
pub total_case : Totals → (4 * cells_in total seam 3 2 ≤ share total 0 seam 3 2 + 3) × (share total 0 seam 3 2 ≤ 4 * cells_in total seam 3 2 + 2)
unfolding chain build_checks sum_to port_of counts_of load_in walk settle_at favours slot_of frame_of
total_case s =
    let run = s lent seam_calls 2 2 seam_shapes 3 2 (omega arith) in
    let a = ap (stray 2) loads.2 ∙ totals_stray.0 in
    let b = ap (stray 2) loads.3 ∙ totals_stray.1 in
    (omega (arith, b, run.above 1 (omega arith, omega arith)), omega (arith, a, run.below 0 (omega arith, omega arith)))
