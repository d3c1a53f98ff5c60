-- Depth: how far from its share a flow, an input or an output can get, and how deep a buffer to order for it.
use Rattle.std.specs.Prelude.{ℕ, ◌+◌, ◌*◌, ◌-◌, ◌/◌, List, [], ◌∷◌, ◌++◌, Result, Ok, Err}
use Rattle.rules.specs.Flows.{load}
use Rattle.rules.specs.Frames.{levels}
use Rattle.strays.specs.Stray.{stray}
use Rattle.calls.specs.Refusals.{Check, report, refusal, list_checks, port_overloads}
use Rattle.calls.specs.Service.{class_of, bad_who}
use Rattle.calls.specs.declared.Who.{Who}
use Rattle.calls.specs.declared.Bound.{Bound}
use Rattle.calls.specs.declared.Refusal.{Refusal}

-- Depth: 1, 2, 3, 21, 22, 23, 5, 6, 12.
unfoldable pub depth_checks : ℕ → ℕ → List ℕ → Who → List Check
depth_checks ports slots list who = list_checks ports slots list ++ (port_overloads ports slots list ++ (bad_who ports list who ∷ []))

-- How far from its share a run can get, in parts of 1 / slots of a cell, where every frame has m cells: twice the stray of m.
abbrev pub farthest : ℕ → ℕ → ℕ
farthest slots m = 2 * stray (levels slots) m

-- How many cells can wait at once, where every frame has m of them and the source is even, so that in no run more arrive than the run's
-- share rounded up: slots - 1 parts of a cell that came early, what the frames can be behind, and the share of the slot itself.
abbrev pub most_waiting : ℕ → ℕ → ℕ
most_waiting slots m = (slots - 1 + farthest slots m + m) / slots

-- An answer as numbers: acceptance's is 0, the bound and the cells to order, a refusal's its own numbers.
abbrev pub depth_numbers : Result Bound Refusal → List ℕ
depth_numbers (Ok b) = 0 ∷ b.parts ∷ b.cells ∷ []
depth_numbers (Err r) = refusal r

-- By the load of the one that is asked about.
unfoldable pub depth : ℕ → ℕ → List ℕ → Who → List ℕ
depth ports slots list who =
    let m = load (class_of who) list in
    report (depth_checks ports slots list who) (0 ∷ farthest slots m ∷ most_waiting slots m ∷ [])
