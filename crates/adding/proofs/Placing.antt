-- The cell put where its ports are idle, or refused.
use Prim.Native.Nat.{ℕ, suc, ◌+◌, ◌-◌, ◌*◌, ◌≤◌, ◌<◌}
use mathlib.Core.Path.{◌≡◌, sym, ap, ◌∙◌}
use mathlib.Core.List.{List, [], ◌∷◌}
use mathlib.Core.Bool.{Bool, true, true≢false}
use native.Mathlib.Omega.{arith}
use mir.Syntax.{w64}
use mir.Val.{Fits}
use borrow.Author.Tests.{lt-ltb, le-ltb}
use Rattle.std.specs.Prelude.{Some, None}
use Rattle.rules.specs.Words.{both, first, found, Within}
use Rattle.rules.specs.Flows.{flows, input, output, inputs, port_of}
use Rattle.rules.proofs.Cases.{by_lt, both_true}
use Rattle.rules.proofs.Searches.{first_found, first_before}
use Rattle.rules.proofs.Ranges.{first_of}
use Rattle.calls.specs.Refusals.{none_holds}
use Rattle.calls.proofs.Reports.{report_clear}
use Rattle.usable_frames.specs.Usable.{Usable}
use Rattle.checks.specs.Fits.{FrameFits, FlowFrame}
use Rattle.checks.proofs.Fits.{well_fits, slots_within}
use Rattle.exchange.specs.Exchange.{port_to, cell_put}
use Rattle.exchange.specs.Swaps.{swaps}
use Rattle.exchange.specs.Add.{idle, lowest_idle, lowest_both, added, addition}
use Rattle.exchange.proofs.Chosen.{each_flow, by_swaps}
use Rattle.adding.specs.Placed.{Placed, idle_checks}
use Rattle.adding.proofs.Swapping.{flow_put}

-- the entries of a frame that 16 lets pass
pub usable_flows : {ports slots : ℕ} {list frame : List ℕ} → Usable input ports slots list frame → FlowFrame ports slots list frame
usable_flows u =
    record {
      listed = well_fits u.well;
      framed = record { most = u.well.rack.1; power = u.well.power; size = u.size };
      each_flow = each_flow u;
    }

-- and with a cell put
pub put_flows : (ports slots : ℕ) (list frame : List ℕ) (e slot : ℕ) {new : List ℕ} → Usable input ports slots list frame → Within 1 (flows list) e
    → new ≡ cell_put ports list frame e slot → FlowFrame ports slots list new
put_flows ports slots list frame e slot u w is = rw is (flow_put (usable_flows u) (slot * ports + port_to input list e) e w.1)

-- what is found is one of the n numbers
pub found_under : (t : ℕ → Bool) {n b : ℕ} → Some b ≡ found t 0 n → b < n
found_under t {n} {b} e = omega (arith, (first_of t n 0 (Some b) e).1)

pub slot_fits : (t : ℕ → Bool) {ports slots b : ℕ} {entries : List ℕ} → FrameFits ports slots entries → Some b ≡ found t 0 slots → Fits w64 (b + 1)
slot_fits t f e = record { fits = omega (arith, found_under t e, slots_within f) }

-- one that passes is found
found_low : (t : ℕ → Bool) (n x : ℕ) → x < n → t x ≡ true → first t 0 n < n
found_low t n x h e =
    by_lt x (first t 0 n) (λ l. absurd (true≢false (sym e ∙ first_before t n 0 x (omega arith) l))) (λ l. omega arith)

both_low : (t u : ℕ → Bool) (n : ℕ) → first (λ s. both (t s) (u s)) 0 n < n → (first t 0 n < n) × (first u 0 n < n)
both_low t u n h =
    let x = first (λ s. both (t s) (u s)) 0 n in
    let f = both_true (t x) (u x) (first_found (λ s. both (t s) (u s)) n 0 (omega arith)) in
    (found_low t n x h f.0, found_low u n x h f.1)

module _ (ports slots : ℕ) (list frame : List ℕ) (e : ℕ) where
  abbrev former_is : ℕ
  former_is = lowest_idle input ports slots list frame e

  abbrev other_is : ℕ
  other_is = lowest_idle output ports slots list frame e

  passes : former_is < slots → other_is < slots → none_holds (idle_checks ports slots list frame e) ≡ true
  passes h k = rw (lt-ltb former_is slots h, lt-ltb other_is slots k)

  abbrev both_is : ℕ
  both_is = lowest_both ports slots list frame e

  -- a slot in which both ports are idle
  pub both_placed : {b : ℕ} → Some b ≡ found (λ s. both (idle input ports list frame e s) (idle output ports list frame e s)) 0 slots
      → {new : List ℕ} → new ≡ cell_put ports list frame e b → Placed ports slots list frame e (0 ∷ (b + 1) ∷ 0 ∷ 0 ∷ []) new
  unfolding added
  both_placed {b} to {new} put =
      let at = first_of (λ s. both (idle input ports list frame e s) (idle output ports list frame e s)) slots 0 (Some b) to in
      let is : b ≡ both_is = sym at.0 in
      let low : both_is < slots = omega (arith, at.0, at.1) in
      let l = both_low (idle input ports list frame e) (idle output ports list frame e) slots low in
      let yes = passes l.0 l.1 in
      let next : b + 1 ≡ suc both_is = omega arith in
      record {
        answers = sym (report_clear (idle_checks ports slots list frame e) (addition ports slots list frame e) yes ∙ rw (lt-ltb both_is slots low, next));
        leaves = put ∙ rw (yes, lt-ltb both_is slots low, is);
      }

  -- 17 and 18
  pub input_full : None ≡ found (idle input ports list frame e) 0 slots → Placed ports slots list frame e (17 ∷ []) frame
  input_full to =
      let l : slots ≤ former_is = omega (arith, first_of (idle input ports list frame e) slots 0 None to) in
      record { answers = rw (le-ltb former_is slots l); leaves = rw (le-ltb former_is slots l) }

  module _ {former : ℕ} (to_former : Some former ≡ found (idle input ports list frame e) 0 slots) where
    former_at : (former_is ≡ former) × (former < 0 + slots)
    former_at = first_of (idle input ports list frame e) slots 0 (Some former) to_former

    pub former_low : former < slots
    former_low = omega (arith, former_at.1)

    pub output_full : None ≡ found (idle output ports list frame e) 0 slots → Placed ports slots list frame e (18 ∷ []) frame
    output_full to =
        let k : former_is < slots = omega (arith, former_at.0, former_low) in
        let l : slots ≤ other_is = omega (arith, first_of (idle output ports list frame e) slots 0 None to) in
        record { answers = rw (lt-ltb former_is slots k, le-ltb other_is slots l); leaves = rw (lt-ltb former_is slots k, le-ltb other_is slots l) }

    -- the exchange of two slots
    pub two_placed : Usable input ports slots list frame → Within 1 (flows list) e → None ≡ found (λ s. both (idle input ports list frame e s) (idle output ports list frame e s)) 0 slots
        → {other : ℕ} → Some other ≡ found (idle output ports list frame e) 0 slots
        → {mid : List ℕ} → mid ≡ cell_put ports list frame e former → {i : ℕ} → i ≡ port_of list inputs (e - 1)
        → {moved : ℕ} {new : List ℕ}
        → (moved ≡ (swaps ports ports list mid former other i).moved) × (new ≡ (swaps ports ports list mid former other i).frame)
        → Placed ports slots list frame e (0 ∷ (former + 1) ∷ (other + 1) ∷ moved ∷ []) new
    unfolding added
    two_placed u w full {other} to_other {mid} put {i} numbered {moved} {new} ends =
        let at = first_of (idle output ports list frame e) slots 0 (Some other) to_other in
        let is_former : former ≡ former_is = sym former_at.0 in
        let is_other : other ≡ other_is = sym at.0 in
        let k : former_is < slots = omega (arith, former_at.0, former_low) in
        let l : other_is < slots = omega (arith, at.0, at.1) in
        let none : slots ≤ both_is = omega (arith, first_of (λ s. both (idle input ports list frame e s) (idle output ports list frame e s)) slots 0 None full) in
        let by : swaps ports ports list mid former other i ≡ added ports slots list frame e
        = rw (put, is_former, is_other, numbered, le-ltb both_is slots none) (sym (by_swaps ports slots list frame e u w k l none)) in
        let yes = passes k l in
        let a : former + 1 ≡ suc former_is = omega arith in
        let c : other + 1 ≡ suc other_is = omega arith in
        let m : moved ≡ (added ports slots list frame e).moved = ends.0 ∙ ap (λ x. x.moved) by in
        let two : addition ports slots list frame e ≡ (0 ∷ suc former_is ∷ suc other_is ∷ (added ports slots list frame e).moved ∷ []) = rw (le-ltb both_is slots none) in
        record {
          answers = sym (report_clear (idle_checks ports slots list frame e) (addition ports slots list frame e) yes ∙ two ∙ sym (rw (a, c, m)));
          leaves = ends.1 ∙ ap (λ x. x.frame) by ∙ rw yes;
        }
