-- Every port's and every link's load as one pass over the list gives it, and the three refusals that are decided from it.
use Rattle.std.specs.Prelude.{ℕ, ◌*◌, ◌≤◌, ◌<◌, ◌≡◌, List, [], ◌∷◌, length, get_or, replicate}
use Rattle.rules.specs.Flows.{port_on, input, output, link, load}
use Rattle.calls.specs.Refusals.{report, accepted, above_slots, above_limits}
use Rattle.admission.specs.declared.Loads.{Loads}

-- What stands at a place of a list.
abbrev pub value_at : List ℕ → ℕ → ℕ
value_at l x = get_or l x 0

-- So many numbers: those at the first places are given, and the others are 0.
pub record Given (size places : ℕ) (given : ℕ → ℕ) (sums : List ℕ) : Type 0 where
  pub len : length sums ≡ size
  pub each : (x : ℕ) → x < places → value_at sums x ≡ given x
  pub none : (x : ℕ) → places ≤ x → value_at sums x ≡ 0

-- Nothing is added yet.
pub record NoLoad (loads : Loads) : Type 0 where
  pub of_inputs : loads.inputs ≡ replicate 16 0
  pub of_outputs : loads.outputs ≡ replicate 16 0
  pub of_links : loads.links ≡ replicate 64 0

-- For every input, every output and every link, the number at its place is its load, of no width; at a place of no port it is 0.
pub record EveryLoad (ports : ℕ) (list : List ℕ) (loads : Loads) : Type 0 where
  pub of_inputs : Given 16 ports (λ i. load (port_on input i) list) loads.inputs
  pub of_outputs : Given 16 ports (λ o. load (port_on output o) list) loads.outputs
  pub of_links : Given 64 (ports * 4) (λ x. load (link x) list) loads.links

-- The answer of 5 and 6, in their order, from slots and the loads of sixteen inputs and sixteen outputs; accepted where neither holds.
abbrev pub decided_ports : ℕ → Loads → List ℕ
decided_ports slots loads =
    report (above_slots 5 16 slots (value_at loads.inputs) ∷ above_slots 6 16 slots (value_at loads.outputs) ∷ []) accepted

-- The answer of 5, 6 and 24, in their order, from slots, the loads of sixteen inputs, sixteen outputs and their links, and the limits;
-- accepted where none holds.
abbrev pub decided : ℕ → Loads → List ℕ → List ℕ
decided slots loads limits =
    report (
    above_slots 5 16 slots (value_at loads.inputs)
    ∷ above_slots 6 16 slots (value_at loads.outputs)
    ∷ above_limits 16 limits (value_at loads.links)
    ∷ []
    ) accepted
