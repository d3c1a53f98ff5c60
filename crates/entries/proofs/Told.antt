-- What a caller of `bad_entries` knows of its own refusal, by whatever number it gives.
use Prim.Native.Nat.{ℕ}
use mathlib.Core.Path.{◌≡◌, refl, sym, ◌∙◌}
use mathlib.Core.List.{List, [], ◌∷◌}
use mathlib.Core.Bool.{Bool, true, false, not, true≢false}
use borrow.Author.Tests.{not-false}
use Rattle.rules.specs.Flows.{Side}
use Rattle.calls.specs.Refusals.{report, none_holds}
use Rattle.calls.specs.Inspect.{wrong_entry, port_twice, bad_entries}
use Rattle.calls.specs.Demand2.{WellFormed}
use Rattle.usable_frames.specs.Usable.{Usable}
use Rattle.usable_frames.proofs.Slots.{usable}
use Rattle.checks.specs.Fits.{FrameFits}

-- two checks that report the same
either_reported : (a b : Bool) (answer asked : List ℕ) → true ≡ not (none_holds ((a, answer) ∷ (b, answer) ∷ [])) → report ((a, answer) ∷ (b, answer) ∷ []) asked ≡ answer
either_reported true b answer asked e = refl
either_reported false true answer asked e = refl
either_reported false false answer asked e = absurd (true≢false e)

pub bad_reported : (number : ℕ) (side : Side) (ports slots : ℕ) (list frame : List ℕ) {r : Bool} → r ≡ not (none_holds (bad_entries 14 side ports slots list frame)) → r ≡ true
    → (asked : List ℕ) → report (bad_entries number side ports slots list frame) asked ≡ number ∷ []
bad_reported number side ports slots list frame told e asked = either_reported (wrong_entry side ports slots list frame).0 (port_twice side ports slots list frame).0 (number ∷ []) asked (sym e ∙ told)

-- a frame of a well-formed list in which nothing is bad
pub bad_usable : (side : Side) {ports slots : ℕ} {list frame : List ℕ} {r : Bool} → WellFormed ports slots list → FrameFits ports slots frame
    → r ≡ not (none_holds (bad_entries 14 side ports slots list frame)) → r ≡ false → Usable side ports slots list frame
bad_usable side {ports} {slots} {list} {frame} well framed told e = usable 14 side ports slots list frame well framed.size (not-false _ (sym told ∙ e))
