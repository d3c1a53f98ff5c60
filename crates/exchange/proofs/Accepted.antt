-- What Add accepts, and what it then answers and leaves.
use Prim.Native.Nat.{ℕ, suc, ◌+◌, ◌*◌, ◌-◌, ◌≤◌, ◌<◌}
use mathlib.Core.Path.{◌≡◌, ap, ◌∙◌}
use mathlib.Core.List.{List, [], ◌∷◌, ◌++◌}
use mathlib.Core.Bool.{true, not}
use native.Mathlib.Omega.{arith}
use borrow.Author.Tests.{lt-ltb, le-ltb, ltb-true, not-false}
use Rattle.rules.specs.Words.{both, Within}
use Rattle.rules.specs.Flows.{flows, Side, input, output}
use Rattle.rules.proofs.Cases.{both_true}
use Rattle.rules.proofs.Searches.{first_found}
use Rattle.calls.specs.Refusals.{Check, none_holds, list_checks, bad_frame}
use Rattle.calls.specs.Inspect.{bad_entries}
use Rattle.calls.specs.Service.{bad_who}
use Rattle.calls.specs.declared.Who.TheVariants.{Flow}
use Rattle.calls.proofs.Reports.{Tells, range_tells, clear_then, clear_parts, passes_clear, clear_passes, report_clear, frame_tells}
use Rattle.calls.proofs.Demand2.{well_clear, clear_well}
use Rattle.usable_frames.proofs.Slots.{usable, usable_clear}
use Rattle.exchange.specs.Exchange.{cell_put}
use Rattle.exchange.specs.Add.{idle, lowest_idle, lowest_both, no_idle, add_checks, add_accepts, added, addition, add_answer, add_leaves}
use Rattle.exchange.specs.Promises.{Asked}
use Rattle.exchange.proofs.Walked.{Walk}
use Rattle.exchange.proofs.Chosen.{input_idle, output_idle, few_left, slots_differ, to_the_end}
use Rattle.exchange.proofs.Grown.{Grown, put_grown, ended_grown}

-- 12: e is the number of a flow
pub flow_tells : (ports : ℕ) (list : List ℕ) (e : ℕ) → Tells (bad_who ports list (Flow e)) (Within 1 (flows list) e)
flow_tells ports list e = range_tells 1 (flows list) e _

-- 17 and 18: a slot is found
pub idle_tells : (number : ℕ) (side : Side) (ports slots : ℕ) (list frame : List ℕ) (e : ℕ)
    → Tells (no_idle number side ports slots list frame e) (lowest_idle side ports slots list frame e < slots)
idle_tells number side ports slots list frame e =
    record {
      met = λ l. ap not (lt-ltb (lowest_idle side ports slots list frame e) slots l);
      known = λ h. ltb-true (lowest_idle side ports slots list frame e) slots (not-false _ h);
    }

-- What Add accepts.
pub record Addable (ports slots : ℕ) (list frame : List ℕ) (e : ℕ) : Type 0 where
  pub asked : Asked ports slots list frame e
  pub from : lowest_idle input ports slots list frame e < slots
  pub to : lowest_idle output ports slots list frame e < slots

module _ (ports slots : ℕ) (list frame : List ℕ) (e : ℕ) where
  abbrev pub idle_checks : List Check
  idle_checks = no_idle 17 input ports slots list frame e ∷ no_idle 18 output ports slots list frame e ∷ []

  abbrev pub entry_checks : List Check
  entry_checks = bad_entries 16 input ports slots list frame ++ (no_idle 17 input ports slots list frame e ∷ no_idle 18 output ports slots list frame e ∷ [])

  abbrev pub flow_checks : List Check
  flow_checks =
      bad_who ports list (Flow e)
      ∷ (bad_entries 16 input ports slots list frame ++ (no_idle 17 input ports slots list frame e ∷ no_idle 18 output ports slots list frame e ∷ []))

  pub accepts_addable : add_accepts ports slots list frame e ≡ true → Addable ports slots list frame e
  unfolding add_checks
  accepts_addable h =
      let parts = clear_parts (list_checks ports slots list) (bad_frame ports slots frame ∷ flow_checks) h in
      let p = clear_passes (bad_frame ports slots frame ∷ flow_checks) parts.1 in
      let last = clear_parts (bad_entries 16 input ports slots list frame) idle_checks (passes_clear entry_checks p.1.1) in
      let q = clear_passes idle_checks last.1 in
      record {
        asked = record {
          usable = usable 16 input ports slots list frame (clear_well ports slots list parts.0) ((frame_tells ports slots frame).known p.0) last.0;
          listed = (flow_tells ports list e).known p.1.0;
        };
        from = (idle_tells 17 input ports slots list frame e).known q.0;
        to = (idle_tells 18 output ports slots list frame e).known q.1.0;
      }

  pub addable_accepts : Addable ports slots list frame e → add_accepts ports slots list frame e ≡ true
  unfolding add_checks
  addable_accepts a =
      let u = a.asked.usable in
      let last : none_holds entry_checks ≡ true
      = clear_then (bad_entries 16 input ports slots list frame) idle_checks (usable_clear 16 input ports slots list frame u)
      ∙ passes_clear idle_checks ((idle_tells 17 input ports slots list frame e).met a.from, ((idle_tells 18 output ports slots list frame e).met a.to, tt)) in
      clear_then (list_checks ports slots list) (bad_frame ports slots frame ∷ flow_checks) (well_clear ports slots list u.well)
      ∙ passes_clear (bad_frame ports slots frame ∷ flow_checks)
      ((frame_tells ports slots frame).met u.size, ((flow_tells ports list e).met a.asked.listed, clear_passes entry_checks last))

  -- ---- where it is accepted
  module _ (taken : add_accepts ports slots list frame e ≡ true) where
    abbrev s : ℕ
    s = lowest_both ports slots list frame e

    abbrev former : ℕ
    former = lowest_idle input ports slots list frame e

    abbrev other : ℕ
    other = lowest_idle output ports slots list frame e

    -- into the lowest slot that has both ports idle
    module _ (l : lowest_both ports slots list frame e < slots) where
      pub one_answer : add_answer ports slots list frame e ≡ 0 ∷ suc (lowest_both ports slots list frame e) ∷ 0 ∷ 0 ∷ []
      one_answer = report_clear (add_checks ports slots list frame e) (addition ports slots list frame e) taken ∙ rw (lt-ltb s slots l)

      pub one_added : added ports slots list frame e ≡ record { frame = cell_put ports list frame e (lowest_both ports slots list frame e); moved = 0 }
      unfolding added
      one_added = rw (lt-ltb s slots l)

      pub one_grown : Grown ports slots list frame (cell_put ports list frame e (lowest_both ports slots list frame e)) e (λ v. v ≡ lowest_both ports slots list frame e)
      one_grown =
          let a = (accepts_addable taken).asked in
          let both_are_idle = both_true (idle input ports list frame e s) (idle output ports list frame e s)
          (first_found (λ s. both (idle input ports list frame e s) (idle output ports list frame e s)) slots 0 (omega arith)) in
          put_grown a.usable a.listed s l (input_idle a.usable a.listed s l both_are_idle.0) (output_idle a.usable a.listed s l both_are_idle.1)

    -- by the exchange of two slots
    module _ (l : slots ≤ lowest_both ports slots list frame e) where
      pub two_answer : add_answer ports slots list frame e
          ≡ 0 ∷ suc (lowest_idle input ports slots list frame e) ∷ suc (lowest_idle output ports slots list frame e) ∷ (added ports slots list frame e).moved ∷ []
      two_answer = report_clear (add_checks ports slots list frame e) (addition ports slots list frame e) taken ∙ rw (le-ltb s slots l)

      pub two_walk : Walk ports slots list frame e (lowest_idle input ports slots list frame e) (lowest_idle output ports slots list frame e) (ports - 2)
      two_walk = let a = accepts_addable taken in to_the_end a.asked.usable a.asked.listed a.from a.to l

      pub two_few : 2 ≤ ports
      two_few = let a = accepts_addable taken in omega (arith, few_left a.asked.usable a.asked.listed a.from a.to l)

      pub two_added : added ports slots list frame e ≡ record { frame = two_walk.new; moved = two_walk.moved }
      unfolding added
      two_added = rw (le-ltb s slots l) (two_walk.by_exchange (2 * ports + 1) (omega (arith, two_few)))

      pub two_grown : Grown ports slots list frame two_walk.new e
          (λ v. ((v ≡ lowest_idle input ports slots list frame e → ⊥) → (v ≡ lowest_idle output ports slots list frame e → ⊥) → ⊥))
      two_grown =
          let a = accepts_addable taken in
          ended_grown a.asked.usable a.asked.listed former other a.from a.to (slots_differ a.asked.usable a.asked.listed a.from a.to l) two_walk.ended

    pub leaves_added : add_leaves ports slots list frame e ≡ (added ports slots list frame e).frame
    leaves_added = rw taken
