-- The port of a flow on a side, by its input and its output.
use Rattle.std.specs.Prelude.{ℕ}
use Rattle.rules.specs.Flows.{Side, input, output}

abbrev pub port_at : Side → ℕ → ℕ → ℕ
port_at input i o = i
port_at output i o = o
