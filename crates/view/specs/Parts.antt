-- What is answered of a slot's part, as numbers: a refused part is empty, at the beginning of the frame.
use Rattle.std.specs.Prelude.{ℕ, get_or, Result, Ok, Err}
use Rattle.calls.specs.Refusals.{refusal}
use Rattle.calls.specs.declared.Refusal.{Refusal}
use Rattle.view.specs.declared.Part.{Part}

-- The refusal's number, 0 for none.
abbrev pub part_number : Result Part Refusal → ℕ
part_number (Ok _) = 0
part_number (Err r) = get_or (refusal r) 0 0

-- Where the part begins.
abbrev pub part_start : Result Part Refusal → ℕ
part_start (Ok part) = part.start
part_start (Err _) = 0

-- How many entries it has.
abbrev pub part_size : Result Part Refusal → ℕ
part_size (Ok part) = part.size
part_size (Err _) = 0
