-- What a sheet is answered with, and the response that is printed for it.
use Rattle.std.specs.Prelude.{ℕ, ◌*◌, ◌≤◌, ◌≡◌, List, ◌++◌, true, length, take, drop, Ok, Err}
use Rattle.std.specs.declared.result.Result.{Result}
use Rattle.rules.specs.Flows.{stride}
use Rattle.calls.specs.Refusals.{none_holds, list_checks, refusal}
use Rattle.calls.specs.declared.Refusal.{Refusal}
use Rattle.sheets.specs.Sheet.{Asked, printed, print_frame, print_refusal}
use Rattle.reading.specs.declared.Loads.{Loads}

-- The n flows read, at the front of a list, of which none of 1, 2, 3, 21, 22 and 23 holds, and the buffer that their frame is built
-- in.
pub record ReadLines (ports slots n : ℕ) (list frame : List ℕ) : Type 0 where
  pub fine : none_holds (list_checks ports slots (take (n * stride) list)) ≡ true
  pub few : n ≤ 512
  pub size : length list ≡ 2048
  pub room : length frame ≡ 16384

-- What is printed for an answer, the frame standing at the front of its buffer.
abbrev pub bytes_of : Result Loads Refusal → List ℕ → List ℕ
bytes_of (Ok l) frame = print_frame l.ports l.slots (take (l.slots * l.ports) frame)
bytes_of (Err r) frame = print_refusal (refusal r)

-- The frame of an answer lies in its buffer.
pub record Lies (ports slots : ℕ) (frame : List ℕ) : Type 0 where
  pub most_ports : ports ≤ 16
  pub most_slots : slots ≤ 1024
  pub inside : slots * ports ≤ length frame

abbrev pub Printable : Result Loads Refusal → List ℕ → Type 0
Printable (Ok l) frame = Lies l.ports l.slots frame
Printable (Err r) frame = Unit {0}

pub record Answered (asked : Asked) (frame : List ℕ) (r : Result Loads Refusal) : Type 0 where
  pub prints : printed asked ≡ bytes_of r frame
  pub printable : Printable r frame

-- The whole response stands at the front of a buffer, before the bytes that stood behind it; no response is longer than
-- 76,749 bytes.
pub record Whole (bytes out new : List ℕ) (r : ℕ) : Type 0 where
  pub size : r ≡ length bytes
  pub most : r ≤ 76749
  pub is : new ≡ bytes ++ drop r out
