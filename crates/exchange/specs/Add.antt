-- Add: one more cell of a flow in a frame of the input side.
use Rattle.std.specs.Prelude.{ℕ, suc, ◌+◌, ◌*◌, List, [], ◌∷◌, ◌++◌, Bool, not, eqb, ltb}
use Rattle.rules.specs.Words.{if, both, first}
use Rattle.rules.specs.Flows.{Side, input, output, port_on}
use Rattle.rules.specs.Frames.{cells, run_of}
use Rattle.calls.specs.Refusals.{Check, report, none_holds, list_checks, bad_frame}
use Rattle.calls.specs.Inspect.{bad_entries}
use Rattle.calls.specs.Service.{bad_who}
use Rattle.calls.specs.declared.Who.TheVariants.{Flow}
use Rattle.exchange.specs.Exchange.{port_to, cell_put, Exchanged, exchange}

-- The port on a side of flow number e is idle in slot s: the slot has no cell of it.
unfoldable pub idle : Side → ℕ → List ℕ → List ℕ → ℕ → ℕ → Bool
idle side ports list frame e s = eqb (cells (port_on side (port_to side list e)) ports list (run_of ports s 1 frame)) 0

-- The lowest slot in which it is; slots where there is none.
abbrev pub lowest_idle : Side → ℕ → ℕ → List ℕ → List ℕ → ℕ → ℕ
lowest_idle side ports slots list frame e = first (idle side ports list frame e) 0 slots

-- The lowest slot in which both ports of the flow are; slots where there is none.
abbrev pub lowest_both : ℕ → ℕ → List ℕ → List ℕ → ℕ → ℕ
lowest_both ports slots list frame e = first (λ s. both (idle input ports list frame e s) (idle output ports list frame e s)) 0 slots

-- 17, for the input, and 18, for the output: the flow's port has no idle slot.
abbrev pub no_idle : ℕ → Side → ℕ → ℕ → List ℕ → List ℕ → ℕ → Check
no_idle number side ports slots list frame e = (not (ltb (lowest_idle side ports slots list frame e) slots), number ∷ [])

-- Add: 1, 2, 3, 21, 22, 23, 4, 12, 16, 17, 18.
unfoldable pub add_checks : ℕ → ℕ → List ℕ → List ℕ → ℕ → List Check
add_checks ports slots list frame e =
    list_checks ports slots list
    ++ (bad_frame ports slots frame
    ∷ bad_who ports list (Flow e)
    ∷ (bad_entries 16 input ports slots list frame
    ++ (no_idle 17 input ports slots list frame e ∷ no_idle 18 output ports slots list frame e ∷ [])))

abbrev pub add_accepts : ℕ → ℕ → List ℕ → List ℕ → ℕ → Bool
add_accepts ports slots list frame e = none_holds (add_checks ports slots list frame e)

-- The frame with the cell, and how many cells were moved: into the lowest slot with both ports idle; where there is none, into the lowest slot
-- idle at the input, each displaced cell going to the other of that and the lowest slot idle at the output.
unfoldable pub added : ℕ → ℕ → List ℕ → List ℕ → ℕ → Exchanged
added ports slots list frame e =
    let s = lowest_both ports slots list frame e in
    if (ltb s slots)
    record { frame = cell_put ports list frame e s; moved = 0 }
    (exchange (2 * ports + 1) ports list frame e (lowest_idle input ports slots list frame e) (lowest_idle output ports slots list frame e))

-- Acceptance as numbers: 0, the slot that the cell was put into, the other slot, from 1, or 0 where there is one alone, and the cells moved.
abbrev pub addition : ℕ → ℕ → List ℕ → List ℕ → ℕ → List ℕ
addition ports slots list frame e =
    let s = lowest_both ports slots list frame e in
    if (ltb s slots)
    (0 ∷ suc s ∷ 0 ∷ 0 ∷ [])
    (0 ∷ suc (lowest_idle input ports slots list frame e) ∷ suc (lowest_idle output ports slots list frame e) ∷ (added ports slots list frame e).moved ∷ [])

abbrev pub add_answer : ℕ → ℕ → List ℕ → List ℕ → ℕ → List ℕ
add_answer ports slots list frame e = report (add_checks ports slots list frame e) (addition ports slots list frame e)

-- The entries that Add leaves: with the cell where it accepts, and those that it was lent where it refuses.
abbrev pub add_leaves : ℕ → ℕ → List ℕ → List ℕ → ℕ → List ℕ
add_leaves ports slots list frame e = if (add_accepts ports slots list frame e) (added ports slots list frame e).frame frame
