-- The pieces that a printed frame is made of.
use Rattle.std.specs.Prelude.{ℕ, ◌*◌, ◌≤◌, ◌≡◌, List, [], ◌++◌, Bool, length, eqb, leb}
use Rattle.rules.specs.Words.{if, both}
use Rattle.sheets.specs.Text.{text, decimal}
use Rattle.sheets.specs.Sheet.{print_cells, print_frame}
use Rattle.lines.specs.Lines.{word_then}

-- A frame of its size.
pub record Sized (ports slots : ℕ) (entries : List ℕ) : Type 0 where
  pub most_ports : ports ≤ 16
  pub most_slots : slots ≤ 1024
  pub size : length entries ≡ slots * ports

-- The test of it.
abbrev pub of_size : ℕ → ℕ → ℕ → Bool
of_size ports slots n = both (leb ports 16) (both (leb slots 1024) (eqb n (slots * ports)))

-- What is written of a frame: nothing where it is not of its size.
abbrev pub frame_bytes : ℕ → ℕ → List ℕ → List ℕ
frame_bytes ports slots frame = if (of_size ports slots (length frame)) (print_frame ports slots frame) []

-- What is written for an entry of a slot.
abbrev pub cell_of : ℕ → List ℕ
cell_of e = if (eqb e 0) [] (word_then (text " ") e)

-- The line of a slot.
abbrev pub slot_line : ℕ → List ℕ → List ℕ
slot_line s slot = text "(slot " ++ (decimal s ++ (print_cells slot ++ text ")\n"))
