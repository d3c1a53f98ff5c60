-- What a list that passes the checks gives, and a refusal of one in a call that has others after them.
use Prim.Native.Nat.{ℕ}
use mathlib.Core.Path.{◌≡◌}
use mathlib.Core.List.{List, ◌++◌}
use Rattle.calls.specs.Refusals.{Check, report, refusal, accepted, list_checks}
use Rattle.calls.specs.declared.Refusal.{Refusal}
use Rattle.calls.proofs.Reports.{report_stops}
use Rattle.calls.specs.Demand2.{WellFormed}
use Rattle.calls.proofs.Demand2.{clear_well}
use Rattle.checks.specs.Fits.{Clear, ListFits}
use Rattle.checks.proofs.Fits.{well_fits}

module _ (ports slots : ℕ) (list : List ℕ) where
  pub list_refused : (x : Refusal) → refusal x ≡ report (list_checks ports slots list) accepted → (cs : List Check) (asked : List ℕ)
      → refusal x ≡ report (list_checks ports slots list ++ cs) asked
  list_refused x e cs asked = report_stops (list_checks ports slots list) cs asked x e

pub list_well : {ports slots : ℕ} {list : List ℕ} → Clear ports slots list → WellFormed ports slots list
list_well {ports} {slots} {list} c = clear_well ports slots list c.none

pub list_fits : {ports slots : ℕ} {list : List ℕ} → Clear ports slots list → ListFits ports list
list_fits c = well_fits (list_well c)
