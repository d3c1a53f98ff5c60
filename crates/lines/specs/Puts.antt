-- What is written into the buffer of a line, from its place on.
use Rattle.std.specs.Prelude.{ℕ, List}
use Rattle.lines.specs.Lines.{Printed, PrintedIn}
use Rattle.lines.specs.declared.Line.{Line}

-- The bytes are written behind what was written before.
abbrev pub Puts : Line → List ℕ → Line → Type 0
Puts old bytes new = Printed old.out.now old.at bytes new.out.now new.at

-- The same, and no more than so many bytes.
abbrev pub PutsIn : ℕ → Line → List ℕ → Line → Type 0
PutsIn most old bytes new = PrintedIn most old.out.now old.at bytes new.out.now new.at
