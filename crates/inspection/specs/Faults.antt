-- The faults of Inspect.
use Rattle.std.specs.Prelude.{ℕ, List, [], ◌∷◌, Bool, not, eqb}
use Rattle.rules.specs.Flows.{Side, flow, load}
use Rattle.calls.specs.Refusals.{report}
use Rattle.calls.specs.Inspect.{fault_checks}
use Rattle.tally.specs.Tally.{flow_cells}

-- A flow is in the wrong number of slots. Its entries count for it wherever they stand, so that its cells are the same on either side.
unfoldable pub wrong_flow : List ℕ → List ℕ → ℕ → Bool
wrong_flow list entries f = not (eqb (flow_cells list (flow f) entries) (load (flow f) list))

-- The first fault, or clean.
abbrev pub faults : Side → ℕ → ℕ → List ℕ → List ℕ → List ℕ
faults side ports slots list entries = report (fault_checks side ports slots list entries) (0 ∷ [])
