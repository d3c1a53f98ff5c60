-- 12, of a flow, of an input and of an output.
use Prim.Native.Nat.{ℕ}
use mathlib.Core.Path.{◌≡◌}
use mathlib.Core.List.{List}
use mathlib.Core.Bool.{Bool, not}
use Rattle.rules.specs.Words.{within}
use Rattle.rules.specs.Flows.{flows}
use Rattle.calls.specs.Service.{who_within}
use Rattle.calls.specs.declared.Who.{Who}
use Rattle.calls.specs.declared.Who.TheVariants.{Flow, Input, Output}

pub flow_alone : (ports : ℕ) (list : List ℕ) {f n : ℕ} (who : Who) {a : Bool} → who ≡ Flow f → n ≡ flows list → a ≡ not (within 1 n f) → a ≡ not (who_within ports list who)
flow_alone ports list who is e p = rw (is, ← e) p

pub input_alone : (ports : ℕ) (list : List ℕ) {i : ℕ} (who : Who) {a : Bool} → who ≡ Input i → a ≡ not (within 1 ports i) → a ≡ not (who_within ports list who)
input_alone ports list who is p = rw is p

pub output_alone : (ports : ℕ) (list : List ℕ) {o : ℕ} (who : Who) {a : Bool} → who ≡ Output o → a ≡ not (within 1 ports o) → a ≡ not (who_within ports list who)
output_alone ports list who is p = rw is p
