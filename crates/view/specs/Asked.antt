-- What is known where a question about a frame is not refused.
use Rattle.std.specs.Prelude.{ℕ, ◌+◌, ◌*◌, List}
use Rattle.calls.specs.Refusals.{report, accepted}
use Rattle.calls.specs.Service.{view_checks}

-- The answer of Slot view's checks.
unfoldable pub checked : ℕ → ℕ → List ℕ → ℕ → List ℕ
checked ports slots entries slot = report (view_checks ports slots entries slot) accepted

-- The place so many entries of two bytes on from a place.
abbrev pub onward : ℕ × ℕ → ℕ → ℕ × ℕ
onward place entries = (place.0, place.1 + 2 * entries)
