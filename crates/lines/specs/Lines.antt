-- What is written into a buffer from a place on.
use Rattle.std.specs.Prelude.{ℕ, ◌+◌, ◌≤◌, ◌≡◌, List, ◌++◌, length}
use Rattle.std.proofs.lemmas.List.Edits.{sets}
use Rattle.sheets.specs.Text.{text, decimal}

-- The bytes stand in the buffer from a place on, as far as they fit, and next is the place behind them.
pub record Printed (out : List ℕ) (at : ℕ) (bytes new : List ℕ) (next : ℕ) : Type 0 where
  pub is : new ≡ sets out at bytes
  pub place : next ≡ at + length bytes

-- The same, and no more than so many bytes.
pub record PrintedIn (most : ℕ) (out : List ℕ) (at : ℕ) (bytes new : List ℕ) (next : ℕ) : Type 0 where
  pub printed : Printed out at bytes new next
  pub most_bytes : next ≤ at + most

-- What is still to be written, from a place on, of what was to be written.
pub record Prints (out : List ℕ) (at : ℕ) (bytes new : List ℕ) (next : ℕ) (rest : List ℕ) : Type 0 where
  pub is : sets out at bytes ≡ sets new next rest
  pub place : at + length bytes ≡ next + length rest

abbrev pub word_then : List ℕ → ℕ → List ℕ
word_then w n = w ++ decimal n

-- A word and a number in brackets, of which the word has the first.
abbrev pub bracketed : List ℕ → ℕ → List ℕ
bracketed w n = word_then w n ++ text ")"
