-- What is taken from the input, and what a failure leaves on the output.
use Rattle.std.specs.Prelude.{ℕ, ◌≤◌, List, length, take, IfSome}
use Rattle.std.specs.declared.option.Option.{Option}
use Rattle.std.specs.Io.KnownBytes.{Appends, Consumes, Keeps}
use Rattle.sheets.specs.Sheet.{response}
use Rattle.frame.specs.declared.Failure.{Failure}
use Rattle.frame.specs.declared.Failure.TheVariants.{Input, Output}

-- Known bytes lose so many of their front at most.
abbrev pub TakesAtMost : ℕ → Option (List ℕ) → Option (List ℕ) → Type 0
TakesAtMost most old new = (bytes : List ℕ) × Consumes old new bytes × (length bytes ≤ most)

-- Known bytes grow by a front of some bytes, none to all of them.
abbrev pub AppendsFront : Option (List ℕ) → Option (List ℕ) → List ℕ → Type 0
AppendsFront old new bytes = (n : ℕ) × Appends old new (take n bytes)

-- A failed read leaves nothing new on the output, and a failed write a front of the response.
abbrev pub Leaves : Option (List ℕ) → Option (List ℕ) → Option (List ℕ) → Failure → Type 0
Leaves sheet old new (Input e) = Keeps old new
Leaves sheet old new (Output e) = IfSome sheet (λ bytes. AppendsFront old new (response bytes))
