-- The ports of the other side that the flows of a slot's entries have.
use Rattle.std.specs.Prelude.{ℕ, ◌<◌, ◌≡◌, List, length, get_or}
use Rattle.rules.specs.Words.{bit, sum_to}
use Rattle.rules.specs.Flows.{Side, other, port_on}
use Rattle.rules.specs.Frames.{is_flow_of}

-- 1 for the port of the other side that the flow of an entry has, 0 for the others, and for all where it is idle.
unfoldable pub uses_port : Side → List ℕ → ℕ → ℕ → ℕ
uses_port side list e x = bit (is_flow_of (port_on (other side) x) list e)

-- The numbers are how often the first n entries of a slot use each port.
pub record Used (side : Side) (list slot : List ℕ) (n : ℕ) (uses : List ℕ) : Type 0 where
  pub size : length uses ≡ 16
  pub each : (x : ℕ) → x < 16 → get_or uses x 0 ≡ sum_to n (λ i. uses_port side list (get_or slot i 0) x)
