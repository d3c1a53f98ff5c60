-- The flows in the wrong number of slots, by a tally of the whole frame.
use Prim.Native.Nat.{ℕ, ◌<◌}
use mathlib.Core.Path.{◌≡◌, sym, ap, ap₂, ◌∙◌}
use mathlib.Core.List.{List}
use mathlib.Core.Bool.{not}
use native.Mathlib.Omega.{arith}
use lib.Dec.{eqb}
use lib.ListN.{get_or}
use Rattle.std.specs.declared.option.Option.{Option}
use Rattle.rules.specs.Words.{found}
use Rattle.rules.specs.Flows.{flows, number_of, port_of, counts_of, flow}
use Rattle.rules.specs.Frames.{run_of}
use Rattle.rules.proofs.Halves.{load_flow}
use Rattle.rules.proofs.Flows.{counts_at}
use Rattle.rules.proofs.Cells.{run_all}
use Rattle.rules.proofs.Ranges.{found_ext}
use Rattle.checks.specs.Fits.{FlowFrame}
use Rattle.tally.specs.declared.Tally.{Tally}
use Rattle.tally.specs.Tally.{flow_cells, tally_of}
use Rattle.tally.proofs.Tallies.{tally_class}
use Rattle.inspection.specs.Faults.{wrong_flow}

module _ {ports slots : ℕ} {list frame : List ℕ} {tally : Tally} (r : FlowFrame ports slots list frame) (tallied : tally ≡ tally_of list (run_of ports 0 slots frame)) where
  counted : (f : ℕ) → f < flows list → not (eqb (get_or tally.flows f 0) (number_of 2 list f)) ≡ wrong_flow list frame f
  unfolding wrong_flow
  counted f h =
      ap not (ap₂ eqb
      (tally_class (run_of ports 0 slots frame) r.listed tallied (flow f) h ∙ ap (flow_cells list (flow f)) (run_all ports slots frame r.framed.size))
      (sym (load_flow f (port_of list) (counts_of list) ∙ counts_at list f h)))

  pub counts_told : {n : ℕ} {x : Option ℕ} → n ≡ flows list → x ≡ found (λ f. not (eqb (get_or tally.flows f 0) (number_of 2 list f))) 0 n → x ≡ found (wrong_flow list frame) 0 (flows list)
  counts_told {n} all e = e ∙ ap (found (λ f. not (eqb (get_or tally.flows f 0) (number_of 2 list f))) 0) all ∙ found_ext _ _ (flows list) 0 (λ f _ h. counted f (omega arith))
