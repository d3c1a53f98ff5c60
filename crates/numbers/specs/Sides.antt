-- A side as a number, which crosses where an enum does not.
use Rattle.std.specs.Prelude.{ℕ, eqb}
use Rattle.rules.specs.Words.{if}
use Rattle.rules.specs.Flows.{Side, input, output}

-- 0 is the input side, and any other number the output side.
abbrev pub side_numbered : ℕ → Side
side_numbered n = if (eqb n 0) input output
