-- Entries put at the ports of a side.
use Rattle.std.specs.Prelude.{ℕ, ◌-◌, List, eqb, set}
use Rattle.rules.specs.Words.{if}
use Rattle.rules.specs.Flows.{Side, on_side, port_of}

-- A slot with an entry put at its flow's port of a side, if it is not 0.
abbrev pub put : Side → List ℕ → ℕ → List ℕ → List ℕ
put side list e slot = if (eqb e 0) slot (set slot (on_side side (port_of list) (e - 1)) e)
