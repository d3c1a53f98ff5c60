-- The last steps of Add, where all but 17 and 18 have passed.
use Rattle.std.specs.Prelude.{ℕ, ◌≡◌, List, [], ◌∷◌}
use Rattle.rules.specs.Words.{if}
use Rattle.rules.specs.Flows.{input, output}
use Rattle.calls.specs.Refusals.{Check, report, none_holds}
use Rattle.exchange.specs.Add.{no_idle, added, addition}

abbrev pub idle_checks : ℕ → ℕ → List ℕ → List ℕ → ℕ → List Check
idle_checks ports slots list frame e = no_idle 17 input ports slots list frame e ∷ no_idle 18 output ports slots list frame e ∷ []

-- 17, 18 or the addition is answered, and the frame is left with the cell or as it was.
pub record Placed (ports slots : ℕ) (list frame : List ℕ) (e : ℕ) (answer new : List ℕ) : Type 0 where
  pub answers : answer ≡ report (idle_checks ports slots list frame e) (addition ports slots list frame e)
  pub leaves : new ≡ if (none_holds (idle_checks ports slots list frame e)) (added ports slots list frame e).frame frame
