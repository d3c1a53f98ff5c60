-- Each claim with a number in it, applied to the case of `bounds`: what it says there is less than what a weaker claim would say.
use Prim.Native.Nat.{ℕ, suc, ◌+◌, ◌*◌, ◌≤◌, ◌<◌}
use mathlib.Core.Path.{◌≡◌, refl}
use mathlib.Core.List.{List, [], ◌∷◌}
use native.Mathlib.Omega.{arith}
use lib.IntN.{pos, neg_ℤ}
use lib.ListN.{length, replicate}
use lib.Signed.{◌≤ℤ◌}
use Rattle.rules.specs.Words.{sum_to, Every}
use Rattle.rules.specs.Flows.{flow, link, port_of, counts_of, load_in}
use Rattle.rules.specs.Frames.{cells, cells_on, repeated}
use Rattle.rules.specs.Schedule.{walk, settle_at, favours, slot_of, frame_of}
use Rattle.calls.specs.Build.{build_checks}
use Rattle.calls.specs.Service.{lead}
use Rattle.strays.specs.Stray.{stray}
use Rattle.wire.specs.Wire.{Call, Carried, none, chain, cells_at, share, Shape}
use Rattle.queues.specs.Queue.{waiting, sent, arrived, Paced, Buffers, BuffersByLead}
use Rattle.queues.specs.Line.{LinkBuffers}
use Rattle.queues.specs.Row.{Hop, scheduled_at, Reserved, onward, Row}
use Rattle.queues.specs.Wait.{HasAtLeast, Leaves, Suffices, BlockWait, PacedWait}
use Rattle.bounds.proofs.ByLoad.{same_within}
use Rattle.bounds.proofs.Cases.{asked, lent, calls, wire, shapes, steady, two}

has_two : HasAtLeast 2 (flow 0) 2 wire
unfolding chain cells_on build_checks sum_to port_of counts_of load_in walk settle_at favours slot_of frame_of
has_two = (omega arith, (omega arith, tt))

-- with an allowance of one cell, which is 4 parts, at most 4 + 2 × 2 parts wait, and at most 2 more before a cell leaves
pub held_case : Buffers → (arrive : ℕ → ℕ) → Paced 2 4 8 (λ start len. len * 2) arrive
    → (t : ℕ) → t < 8
    → (4 * waiting arrive (cells_at (flow 0) wire) (suc t) ≤ 8) × (4 * (waiting arrive (cells_at (flow 0) wire) t + arrive t) ≤ 10)
unfolding chain build_checks sum_to port_of counts_of load_in
held_case b arrive paced t h =
    let held = b lent calls 2 2 shapes (flow 0) tt 2 steady 4 arrive paced t h in
    (omega (arith, two, held.after), omega (arith, two, held.before))

-- the same by a lead of the frame itself that is never below −3
pub held_by_case : BuffersByLead → (entries : List ℕ) → length entries ≡ 8 → cells (flow 0) 2 asked entries ≡ 2
    → ((start len : ℕ) → neg_ℤ (pos 3) ≤ℤ lead (flow 0) 2 4 asked entries start len)
    → (arrive : ℕ → ℕ) → ((start len : ℕ) → 4 * arrived arrive start len ≤ len * 2 + 4)
    → (t : ℕ)
    → (4 * waiting arrive (λ s. cells (flow 0) 2 asked (repeated 2 4 entries s 1)) (suc t) ≤ 7)
    × (4 * (waiting arrive (λ s. cells (flow 0) 2 asked (repeated 2 4 entries s 1)) t + arrive t) ≤ 9)
held_by_case b entries size two never arrive paced t =
    let held = b (flow 0) 2 4 asked entries size (omega arith) 3 never 4 arrive (λ start len. rw two (paced start len)) t in
    (held.after, omega (arith, held.before, two))

-- the limit of link 1 of output 1 is 2 cells a frame, and its line takes as many, less an allowance of 5 parts
abbrev line_calls : List Call
line_calls = record { ports = 2; slots = 4; list = asked; limits = 2 ∷ replicate 63 4; times = 2 } ∷ []

abbrev line_wire : List Carried
line_wire = chain none lent line_calls

line_shapes : Every (Shape 2 4) line_wire
unfolding chain build_checks sum_to port_of counts_of load_in
line_shapes = (record { ports_are = refl; slots_are = refl }, (record { ports_are = refl; slots_are = refl }, tt))

pub line_case : LinkBuffers → (arrive line : ℕ → ℕ) → ((start len : ℕ) → start + len ≤ 8 → len * 2 ≤ 4 * arrived line start len + 5)
    → (t : ℕ) → t < 8
    → (4 * waiting (sent arrive (cells_at (link 0) line_wire)) line (suc t) ≤ 9)
    × (4 * (waiting (sent arrive (cells_at (link 0) line_wire)) line t + sent arrive (cells_at (link 0) line_wire) t) ≤ 11)
unfolding chain build_checks sum_to port_of counts_of load_in
line_case l arrive line takes t h =
    let held =
    l lent line_calls 2 2 line_shapes 0 2 (omega arith) (omega arith, (omega arith, tt)) 5 arrive line
    (λ start len inside. omega (arith, takes start len inside)) t h in
    (omega (arith, two, held.after), omega (arith, two, held.before))

-- blocks of two slots have a cell each, so that a run of three slots has one
pub block_case : BlockWait → Suffices (flow 0) 2 wire 1 3
unfolding chain build_checks sum_to port_of counts_of load_in
block_case b = b lent calls 2 2 shapes (flow 0) tt 1 1 (omega arith) (omega arith) has_two 3 (omega arith)

-- with an allowance of one cell every cell that waits has left three slots later: 4 + 2 × 2 is less than 3 × 2 + 4
pub paced_case : PacedWait → (arrive : ℕ → ℕ) → Paced 2 4 8 (share (flow 0) 0 wire) arrive
    → (t w : ℕ) → t + 3 ≤ 8 → 1 ≤ w → w ≤ waiting arrive (cells_at (flow 0) wire) t → Leaves arrive (cells_at (flow 0) wire) t w 3
unfolding chain build_checks sum_to port_of counts_of load_in
paced_case p arrive paced t w h = p lent calls 2 2 shapes (flow 0) tt (stray 2 2) (same_within 2 2 (flow 0) wire steady) 2 has_two 4 arrive paced 3 (omega (arith, two)) t w h

-- A row of three such switches, one slot from the first to the second and two to the third: at the third at most 4 + 2 × 2 parts wait, and
-- at most 2 more before a cell leaves, whatever comes to the first.
abbrev after : ℕ → Hop
after delay = record { buffer = lent; calls = calls; ports = 2; flow = flow 0; delay = delay }

reserved : (delay : ℕ) → Reserved 2 2 (after delay)
reserved delay = record { shape = shapes; flow_of = tt; steady = steady }

pub row_case : Row → (arrive : ℕ → ℕ) → (t : ℕ) → t < 8
    → (4 * waiting (onward (after 2) (onward (after 1) arrive)) (scheduled_at (after 0)) (suc t) ≤ 8)
    × (4 * (waiting (onward (after 2) (onward (after 1) arrive)) (scheduled_at (after 0)) t + onward (after 2) (onward (after 1) arrive) t) ≤ 10)
unfolding chain build_checks sum_to port_of counts_of load_in
row_case r arrive t h =
    let held = (r 2 2 (after 1) (after 2 ∷ after 0 ∷ []) (reserved 1, (reserved 2, (reserved 0, tt))) arrive).1.0 t h in
    (omega (arith, two, held.after), omega (arith, two, held.before))

-- what comes from a switch two slots away: nothing in the first two slots, and then what it sent in its first ones
pub delay_case : (arrive : ℕ → ℕ)
    → (onward (after 2) arrive 1 ≡ 0) × (onward (after 2) arrive 2 ≡ sent arrive (scheduled_at (after 2)) 0)
delay_case arrive = (refl, refl)
