-- The faults in their order.
use Prim.Native.Nat.{ℕ, ◌+◌, ◌*◌, ◌/◌, ◌%◌, ◌<◌}
use mathlib.Core.Path.{◌≡◌, refl, sym, ap, ◌∙◌}
use mathlib.Core.List.{List, [], ◌∷◌}
use mathlib.Core.Bool.{Bool, true, false}
use native.Mathlib.Omega.{arith}
use native.Mathlib.Nat.{div-le_self}
use native.Mathlib.Numerals.{add-one}
use mir.Syntax.{w64}
use mir.Val.{Fits}
use lib.Dec.{ltb}
use lib.ListN.{length}
use borrow.Author.Tests.{lt-ltb, le-ltb}
use Rattle.std.specs.declared.option.Option.{Option}
use Rattle.std.specs.declared.option.Option.TheVariants.{None, Some}
use Rattle.rules.specs.Words.{first, found}
use Rattle.rules.specs.Flows.{flows, Side}
use Rattle.rules.specs.Frames.{cells_on}
use Rattle.rules.proofs.Ranges.{first_of, found_ext}
use Rattle.calls.specs.Refusals.{Check, report, refusal, accepted, list_checks, bad_frame}
use Rattle.calls.specs.declared.Refusal.{Refusal}
use Rattle.calls.specs.Inspect.{first_place, is_wrong, used_twice, wrong_count, wrong_entry, port_twice, flow_count, unbalanced_block, fault_checks, inspected}
use Rattle.calls.proofs.Reports.{Passes, passes_clear, first_reported, report_then}
use Rattle.calls.proofs.Blocks.{block_same}
use Rattle.calls.proofs.Demand2.{past_frame}
use Rattle.checks.specs.Fits.{Clear, ListFits, FrameFits}
use Rattle.checks.proofs.Listed.{list_refused, list_well}
use Rattle.checks.proofs.Framed.{frame_refused}
use Rattle.checks.proofs.Fits.{frame_most}
use Rattle.tally.specs.Tally.{flow_cells}
use Rattle.tally.proofs.ByFlow.{cells_by_flow}
use Rattle.entries.proofs.Found.{none_wrong}
use Rattle.inspection.specs.Faults.{wrong_flow, faults}

-- the answer where there is none
abbrev clean_answer : List ℕ
clean_answer = 0 ∷ []

-- ---- one fault that is the first of some places
module _ (n : ℕ) (wrong : ℕ → Bool) where
  one : {q : ℕ} → Some q ≡ found wrong 0 n → ltb (first wrong 0 n) n ≡ true
  one {q} e = let f = first_of wrong n 0 (Some q) e in lt-ltb (first wrong 0 n) n (omega (arith, f))

  none : None ≡ found wrong 0 n → ltb (first wrong 0 n) n ≡ false
  none e = let f = first_of wrong n 0 None e in le-ltb (first wrong 0 n) n (omega (arith, f))

  place_is : (number width : ℕ) {q : ℕ} → Some q ≡ found wrong 0 n → number ∷ (q / width + 1) ∷ (q % width + 1) ∷ [] ≡ (first_place number wrong width n).1
  place_is number width {q} e = let f = first_of wrong n 0 (Some q) e in rw (f.0, add-one, add-one)

-- what is answered of them are numbers of the code
module _ {ports slots : ℕ} {frame : List ℕ} (f : FrameFits ports slots frame) (wrong : ℕ → Bool) {q : ℕ} (e : Some q ≡ found wrong 0 (slots * ports)) where
  low : q < slots * ports
  low = omega (arith, first_of wrong (slots * ports) 0 (Some q) e)

  pub row_fits : Fits w64 (q / ports + 1)
  row_fits = record { fits = (let k = frame_most f in let l = low in let d = div-le_self q ports in omega arith) }

pub flow_fits : {ports g : ℕ} {list : List ℕ} → ListFits ports list → (wrong : ℕ → Bool) → Some g ≡ found wrong 0 (flows list) → Fits w64 (g + 1)
flow_fits {ports} {g} {list} l wrong e = record { fits = omega (arith, l.few, first_of wrong (flows list) 0 (Some g) e) }

-- ---- the faults in their order
module _ (side : Side) (ports slots : ℕ) (list frame : List ℕ) (size : length frame ≡ slots * ports) where
  pub wrong_entry_found : {q : ℕ} → Some q ≡ found (is_wrong side ports list frame) 0 (slots * ports) → 101 ∷ (q / ports + 1) ∷ (q % ports + 1) ∷ [] ≡ faults side ports slots list frame
  wrong_entry_found e =
      place_is (slots * ports) (is_wrong side ports list frame) 101 ports e
      ∙ first_reported 0 (fault_checks side ports slots list frame) clean_answer tt (one (slots * ports) (is_wrong side ports list frame) e)

  module _ (right : None ≡ found (is_wrong side ports list frame) 0 (slots * ports)) where
    no_wrong : Passes (wrong_entry side ports slots list frame)
    no_wrong = none (slots * ports) (is_wrong side ports list frame) right

    pub twice : {q : ℕ} → Some q ≡ found (used_twice side ports list frame) 0 (slots * ports) → 102 ∷ (q / ports + 1) ∷ (q % ports + 1) ∷ [] ≡ faults side ports slots list frame
    twice e =
        place_is (slots * ports) (used_twice side ports list frame) 102 ports e
        ∙ first_reported 1 (fault_checks side ports slots list frame) clean_answer (no_wrong, tt) (one (slots * ports) (used_twice side ports list frame) e)

    module _ (once : None ≡ found (used_twice side ports list frame) 0 (slots * ports)) where
      no_twice : Passes (port_twice side ports slots list frame)
      no_twice = none (slots * ports) (used_twice side ports list frame) once

      -- a flow's cells go by its entries on either side
      either_side : {r : Option ℕ} → r ≡ found (wrong_flow list frame) 0 (flows list) → r ≡ found (wrong_count side ports list frame) 0 (flows list)
      unfolding wrong_flow wrong_count flow_cells cells_on
      either_side e = e ∙ found_ext _ _ (flows list) 0 (λ y _ _. refl)

      pub wrong_count_found : {f : ℕ} → Some f ≡ found (wrong_flow list frame) 0 (flows list) → 103 ∷ (f + 1) ∷ [] ≡ faults side ports slots list frame
      wrong_count_found {f} e =
          let is = first_of (wrong_count side ports list frame) (flows list) 0 (Some f) (either_side e) in
          rw (add-one f, ← is.0)
          (first_reported 2 (fault_checks side ports slots list frame) clean_answer (no_wrong, (no_twice, tt)) (one (flows list) (wrong_count side ports list frame) (either_side e)))

      -- where no entry is wrong, so do those of every class
      by_flow : unbalanced_block (flow_cells list) ports slots list frame ≡ unbalanced_block (cells_on side ports list) ports slots list frame
      by_flow =
          block_same (flow_cells list) (cells_on side ports list) ports slots list frame frame
          (λ c start len h. sym (cells_by_flow side ports slots list frame size (none_wrong side ports slots list frame size right) c start len h))

      pub last_fault : None ≡ found (wrong_flow list frame) 0 (flows list) → {r : List ℕ} → r ≡ report (unbalanced_block (flow_cells list) ports slots list frame ∷ []) clean_answer
          → r ≡ faults side ports slots list frame
      last_fault all d =
          let tried : List Check = wrong_entry side ports slots list frame ∷ port_twice side ports slots list frame ∷ flow_count side ports list frame ∷ [] in
          let passed = passes_clear tried (no_wrong, (no_twice, (none (flows list) (wrong_count side ports list frame) (either_side all), tt))) in
          d ∙ ap (λ z. report (z ∷ []) clean_answer) by_flow
          ∙ sym (report_then tried (unbalanced_block (cells_on side ports list) ports slots list frame ∷ []) clean_answer passed)

-- ---- Inspect
module _ (side : Side) (ports slots : ℕ) (list frame : List ℕ) where
  pub inspect_refused : (x : Refusal) → refusal x ≡ report (list_checks ports slots list) accepted → refusal x ≡ inspected side ports slots list frame
  unfolding inspected
  inspect_refused x e = list_refused ports slots list x e (bad_frame ports slots frame ∷ fault_checks side ports slots list frame) clean_answer

  module _ {p s : ℕ} {l : List ℕ} (same : (p ≡ ports) × (s ≡ slots) × (l ≡ list)) (clear : Clear p s l) where
    clear_here : Clear ports slots list
    clear_here = rw (sym same.0, sym same.1, sym same.2) clear

    pub inspect_frame : (x : Refusal) → refusal x ≡ report (bad_frame p s frame ∷ []) accepted → refusal x ≡ inspected side ports slots list frame
    unfolding inspected
    inspect_frame x e = frame_refused frame clear_here x (rw (same.0, same.1) at e) (fault_checks side ports slots list frame) clean_answer

    pub inspect_faults : {q t : ℕ} {m entries : List ℕ} → (q ≡ p) × (t ≡ s) × (m ≡ l) × (entries ≡ frame) → length entries ≡ t * q → (r : List ℕ) → r ≡ faults side q t m entries
        → r ≡ inspected side ports slots list frame
    unfolding inspected
    inspect_faults {q} {t} {m} {entries} e size r d =
        let a : q ≡ ports = e.0 ∙ same.0 in
        let b : t ≡ slots = e.1 ∙ same.1 in
        let c : m ≡ list = e.2 ∙ same.2 in
        let long : length frame ≡ slots * ports = rw (a, b, e.3) at size in
        let found : r ≡ faults side ports slots list frame = rw (a, b, c, e.3) at d in
        found ∙ sym (past_frame ports slots list (list_well clear_here) frame long (fault_checks side ports slots list frame) clean_answer)
