-- Add case by case.
use Prim.Native.Nat.{ℕ, suc, ◌*◌, ◌≤◌, ◌<◌}
use mathlib.Core.Path.{◌≡◌, sym, ap, ap₂, ◌∙◌, subst}
use mathlib.Core.Logic.{inl, inr, ⊎_elim}
use mathlib.Core.List.{List, [], ◌∷◌}
use mathlib.Core.Bool.{Bool, true, false, true≢false}
use native.Mathlib.Omega.{arith}
use lib.Dec.{ltb}
use lib.ListN.{length, get_or}
use borrow.Author.Tests.{eq-eqb, ne_eqb, eqb-false}
use Rattle.rules.specs.Words.{both, first}
use Rattle.rules.specs.Flows.{Side, input, output, port_on}
use Rattle.rules.specs.Frames.{cells, run_of}
use Rattle.rules.proofs.Cases.{by_bool, by_lt, both_true, both_yes}
use Rattle.rules.proofs.Searches.{first_found, first_before, first_is, first_none}
use Rattle.calls.specs.Refusals.{report}
use Rattle.calls.specs.Demand2.{WellFormed}
use Rattle.calls.specs.Inspect.{wrong_entry, bad_entries}
use Rattle.calls.specs.Answers.{Exactly, FirstNot}
use Rattle.calls.proofs.Reports.{report_then, clear_some, broken, by_fact}
use Rattle.calls.proofs.Demand2.{past_frame}
use Rattle.calls.proofs.Faults.{entries_search, twice_search}
use Rattle.calls.proofs.Answers.{exactly}
use Rattle.calls.proofs.Answered.{frame_reported, frame_low, by_frame}
use Rattle.usable_frames.proofs.Slots.{usable_clear}
use Rattle.exchange.specs.Exchange.{port_to, cell_put, Exchanges, Exchanged}
use Rattle.exchange.specs.Add.{idle, lowest_idle, lowest_both, add_checks, add_accepts, added, addition, add_answer, add_leaves}
use Rattle.exchange.specs.Promises.{Busy, OneBusy, Asked, Adds, refused, flow_12, entry_16, twice_16, input_17, output_18, one_slot, two_slots, AddByCases}
use Rattle.exchange.proofs.Accepted.{flow_tells, idle_tells, idle_checks, flow_checks, addable_accepts, one_answer, one_added, two_answer, two_walk, two_added, leaves_added}

-- ---- idle ports, in plain arithmetic
module _ (side : Side) (ports : ℕ) (list frame : List ℕ) (e s : ℕ) where
  busy_idle : Busy side ports list frame e s → idle side ports list frame e s ≡ false
  unfolding idle
  busy_idle h = ne_eqb (cells (port_on side (port_to side list e)) ports list (run_of ports s 1 frame)) 0 (omega arith)

  not_busy : (Busy side ports list frame e s → ⊥) → idle side ports list frame e s ≡ true
  unfolding idle
  not_busy n =
      let x = cells (port_on side (port_to side list e)) ports list (run_of ports s 1 frame) in
      eq-eqb x 0 (by_lt 0 x (λ l. absurd (n (omega arith))) (λ l. omega arith))

  idle_free : idle side ports list frame e s ≡ true → Busy side ports list frame e s → ⊥
  idle_free y h = true≢false (sym y ∙ busy_idle h)

  idle_busy : idle side ports list frame e s ≡ false → Busy side ports list frame e s
  unfolding idle
  idle_busy y = omega (arith, eqb-false (cells (port_on side (port_to side list e)) ports list (run_of ports s 1 frame)) 0 y)

-- the lowest idle slot is the first that is not busy
lowest_is : (side : Side) (ports slots : ℕ) (list frame : List ℕ) (e s : ℕ) → FirstNot slots (Busy side ports list frame e) s
    → lowest_idle side ports slots list frame e ≡ s
lowest_is side ports slots list frame e s n =
    first_is (idle side ports list frame e) slots 0 s (omega arith) (omega (arith, n.low)) (not_busy side ports list frame e s n.wrong)
    (λ y _ h. busy_idle side ports list frame e y (n.before y h))

lowest_first : (side : Side) (ports slots : ℕ) (list frame : List ℕ) (e : ℕ) → lowest_idle side ports slots list frame e < slots
    → FirstNot slots (Busy side ports list frame e) (lowest_idle side ports slots list frame e)
lowest_first side ports slots list frame e l =
    let s = lowest_idle side ports slots list frame e in
    record {
      low = l;
      wrong = idle_free side ports list frame e s (first_found (idle side ports list frame e) slots 0 (omega arith));
      before = λ y h. idle_busy side ports list frame e y (first_before (idle side ports list frame e) slots 0 y (omega arith) (omega arith));
    }

-- there is none where all are busy
none_found : (side : Side) (ports slots : ℕ) (list frame : List ℕ) (e : ℕ) → ((s : ℕ) → s < slots → Busy side ports list frame e s)
    → lowest_idle side ports slots list frame e < slots → ⊥
none_found side ports slots list frame e busy l =
    (lowest_first side ports slots list frame e l).wrong (busy (lowest_idle side ports slots list frame e) l)

all_busy : (side : Side) (ports slots : ℕ) (list frame : List ℕ) (e : ℕ) → (lowest_idle side ports slots list frame e < slots → ⊥)
    → (s : ℕ) → s < slots → Busy side ports list frame e s
all_busy side ports slots list frame e n s h =
    idle_busy side ports list frame e s
    (by_lt (lowest_idle side ports slots list frame e) slots (λ l. absurd (n l)) (λ l. first_before (idle side ports list frame e) slots 0 s (omega arith) (omega arith)))

-- ---- both ports
module _ (ports : ℕ) (list frame : List ℕ) (e : ℕ) where
  abbrev both_idle : ℕ → Bool
  both_idle s = both (idle input ports list frame e s) (idle output ports list frame e s)

  one_busy : (s : ℕ) → OneBusy ports list frame e s → both_idle s ≡ false
  one_busy s h =
      ⊎_elim (λ b. rw (busy_idle input ports list frame e s b))
      (λ b. rw (busy_idle output ports list frame e s b) (by_bool (idle input ports list frame e s) (λ y. rw y) (λ y. rw y))) h

  none_busy : (s : ℕ) → (OneBusy ports list frame e s → ⊥) → both_idle s ≡ true
  none_busy s n = both_yes _ _ (not_busy input ports list frame e s (λ b. n (inl b))) (not_busy output ports list frame e s (λ b. n (inr b)))

  busy_one : (s : ℕ) → both_idle s ≡ false → OneBusy ports list frame e s
  busy_one s y =
      by_bool (idle input ports list frame e s)
      (λ i. inr (idle_busy output ports list frame e s (rw i at y)))
      (λ i. inl (idle_busy input ports list frame e s i))

  both_is : (slots s : ℕ) → FirstNot slots (OneBusy ports list frame e) s → lowest_both ports slots list frame e ≡ s
  both_is slots s n = first_is both_idle slots 0 s (omega arith) (omega (arith, n.low)) (none_busy s n.wrong) (λ y _ h. one_busy y (n.before y h))

  both_none : (slots : ℕ) → ((s : ℕ) → s < slots → OneBusy ports list frame e s) → slots ≤ lowest_both ports slots list frame e
  both_none slots busy = omega (arith, first_none both_idle slots 0 (λ s _ h. one_busy s (busy s (omega arith))))

  both_first : (slots : ℕ) → lowest_both ports slots list frame e < slots → FirstNot slots (OneBusy ports list frame e) (lowest_both ports slots list frame e)
  both_first slots l =
      let s = lowest_both ports slots list frame e in
      let p = both_true (idle input ports list frame e s) (idle output ports list frame e s) (first_found both_idle slots 0 (omega arith)) in
      record {
        low = l;
        wrong = λ h. ⊎_elim (idle_free input ports list frame e s p.0) (idle_free output ports list frame e s p.1) h;
        before = λ y h. busy_one y (first_before both_idle slots 0 y (omega arith) (omega arith));
      }

-- ---- the cases
module _ (ports slots : ℕ) (list frame : List ℕ) (e : ℕ) where
  abbrev asked_for : List ℕ
  asked_for = addition ports slots list frame e

  abbrev add : List ℕ × List ℕ
  add = (add_answer ports slots list frame e, add_leaves ports slots list frame e)

  acceptance_0 : get_or (addition ports slots list frame e) 0 0 ≡ 0
  acceptance_0 = by_bool (ltb (lowest_both ports slots list frame e) slots) (λ y. rw y) (λ y. rw y)

  -- an answer that begins with a number other than 0 leaves the frame as it was
  kept : {n : ℕ} → 0 < n → add_answer ports slots list frame e ≡ n ∷ [] → ◌≡◌ {A = List ℕ × List ℕ} (n ∷ [], frame) add
  kept {n} h is =
      let off : add_accepts ports slots list frame e ≡ false
      = clear_some (add_checks ports slots list frame e) asked_for acceptance_0 (λ z. let y = ap (λ (l : List ℕ). get_or l 0 0) is in omega arith) in
      ap₂ (λ (a b : List ℕ). (a, b)) (sym is) (rw off)

  -- the checks past 4, and past 16
  past_four : WellFormed ports slots list → length frame ≡ slots * ports → add_answer ports slots list frame e ≡ report (flow_checks ports slots list frame e) asked_for
  unfolding add_checks
  past_four w size = past_frame ports slots list w frame size (flow_checks ports slots list frame e) asked_for

  past_sixteen : Asked ports slots list frame e → add_answer ports slots list frame e ≡ report (idle_checks ports slots list frame e) asked_for
  past_sixteen a =
      past_four a.usable.well a.usable.size
      ∙ rw ((flow_tells ports list e).met a.listed)
      (report_then (bad_entries 16 input ports slots list frame) (idle_checks ports slots list frame e) asked_for (usable_clear 16 input ports slots list frame a.usable))

  -- one slot in which both ports are idle
  one_only : Asked ports slots list frame e → (s : ℕ) → FirstNot slots (OneBusy ports list frame e) s
      → ◌≡◌ {A = List ℕ × List ℕ} (0 ∷ suc s ∷ 0 ∷ 0 ∷ [], cell_put ports list frame e s) add
  one_only a s first =
      let is = both_is ports list frame e slots s first in
      let l : lowest_both ports slots list frame e < slots = omega (arith, first.low) in
      let taken = addable_accepts ports slots list frame e (record { asked = a; from = found input (λ b. first.wrong (inl b)); to = found output (λ b. first.wrong (inr b)) }) in
      ap₂ (λ (a b : List ℕ). (a, b))
      (sym (one_answer ports slots list frame e taken l ∙ ap (λ x. 0 ∷ suc x ∷ 0 ∷ 0 ∷ []) is))
      (sym (leaves_added ports slots list frame e taken ∙ ap (λ (x : Exchanged). x.frame) (one_added ports slots list frame e taken l) ∙ ap (cell_put ports list frame e) is))
    where
      found : (side : Side) → (Busy side ports list frame e s → ⊥) → lowest_idle side ports slots list frame e < slots
      found side n =
          by_lt (lowest_idle side ports slots list frame e) slots (λ l. l)
          (λ l. absurd (true≢false (sym (not_busy side ports list frame e s n) ∙ first_before (idle side ports list frame e) slots 0 s (omega arith) (omega (arith, first.low)))))

  -- two slots, and their exchange
  two_only : Asked ports slots list frame e → ((s : ℕ) → s < slots → OneBusy ports list frame e s)
      → (s t : ℕ) → FirstNot slots (Busy input ports list frame e) s → FirstNot slots (Busy output ports list frame e) t
      → (new : List ℕ) (moved : ℕ) → Exchanges ports list frame e s t new moved → ◌≡◌ {A = List ℕ × List ℕ} (0 ∷ suc s ∷ suc t ∷ moved ∷ [], new) add
  two_only a busy s t former other new moved x =
      let s_is = lowest_is input ports slots list frame e s former in
      let t_is = lowest_is output ports slots list frame e t other in
      let l = both_none ports list frame e slots busy in
      let taken = addable_accepts ports slots list frame e (record { asked = a; from = omega (arith, former.low); to = omega (arith, other.low) }) in
      let w = two_walk ports slots list frame e taken l in
      let here = subst (λ (y : ℕ). Exchanges ports list frame e (lowest_idle input ports slots list frame e) y new moved) (sym t_is) (subst (λ (y : ℕ). Exchanges ports list frame e y t new moved) (sym s_is) x) in
      let same = w.only new moved here in
      let is = two_added ports slots list frame e taken l in
      ap₂ (λ (a b : List ℕ). (a, b))
      (sym (two_answer ports slots list frame e taken l
      ∙ ap (λ y. 0 ∷ suc y ∷ suc (lowest_idle output ports slots list frame e) ∷ (added ports slots list frame e).moved ∷ []) s_is
      ∙ ap (λ y. 0 ∷ suc s ∷ suc y ∷ (added ports slots list frame e).moved ∷ []) t_is
      ∙ ap (λ y. 0 ∷ suc s ∷ suc t ∷ y ∷ []) (ap (λ (x : Exchanged). x.moved) is ∙ sym same.1)))
      (sym (leaves_added ports slots list frame e taken ∙ ap (λ (x : Exchanged). x.frame) is ∙ sym same.0))

  only : (given : List ℕ × List ℕ) → Adds ports slots list frame e given → given ≡ add
  unfolding add_checks
  only given (refused r) = kept (frame_low r) (frame_reported ports slots list frame (flow_checks ports slots list frame e) asked_for r)
  only given (flow_12 w size b) = kept (omega arith) (past_four w size ∙ rw (broken (flow_tells ports list e) b))
  only given (entry_16 w size l b) =
      kept (omega arith) (past_four w size ∙ rw ((flow_tells ports list e).met l, broken (entries_search input ports slots list frame).tells b))
  only given (twice_16 w size l b) =
      kept (omega arith) (past_four w size
      ∙ by_bool (wrong_entry input ports slots list frame).0
      (λ d. rw ((flow_tells ports list e).met l, d))
      (λ d. rw ((flow_tells ports list e).met l, d, broken (twice_search input ports slots list frame).tells b)))
  only given (input_17 a busy) =
      kept (omega arith) (past_sixteen a ∙ rw (broken (idle_tells 17 input ports slots list frame e) (none_found input ports slots list frame e busy)))
  only given (output_18 a {s} first busy) =
      kept (omega arith) (past_sixteen a
      ∙ rw (
        (idle_tells 17 input ports slots list frame e).met (let is = lowest_is input ports slots list frame e s first in omega (arith, first.low)),
        broken (idle_tells 18 output ports slots list frame e) (none_found output ports slots list frame e busy),
      ))
  only given (one_slot a {s} first) = one_only a s first
  only given (two_slots a busy {s} {t} former other {new} {moved} x) = two_only a busy s t former other new moved x

  -- where nothing up to 16 refuses it, some case holds
  some_case : Asked ports slots list frame e → Exactly (Adds ports slots list frame e) add
  some_case a =
      by_fact (idle_tells 17 input ports slots list frame e)
      (λ n. exactly only (input_17 a (all_busy input ports slots list frame e n)))
      (λ i. by_fact (idle_tells 18 output ports slots list frame e)
      (λ n. exactly only (output_18 a (lowest_first input ports slots list frame e i) (all_busy output ports slots list frame e n)))
      (λ o. by_lt (lowest_both ports slots list frame e) slots
      (λ l. exactly only (one_slot a (both_first ports list frame e slots l)))
      (λ l.
      let taken = addable_accepts ports slots list frame e (record { asked = a; from = i; to = o }) in
      exactly only (two_slots a (λ s h. busy_one ports list frame e s (first_before (λ s. both (idle input ports list frame e s) (idle output ports list frame e s)) slots 0 s (omega arith) (omega arith)))
      (lowest_first input ports slots list frame e i) (lowest_first output ports slots list frame e o) (two_walk ports slots list frame e taken l).meets))))

pub add_by_cases : AddByCases
add_by_cases ports slots list frame e =
    by_frame ports slots list frame (λ n r. exactly (only ports slots list frame e) (refused r))
    (λ w size. by_fact (flow_tells ports list e) (λ b. exactly (only ports slots list frame e) (flow_12 w size b))
    (λ l. by_fact (entries_search input ports slots list frame).tells (λ b. exactly (only ports slots list frame e) (entry_16 w size l b))
    (λ r. by_fact (twice_search input ports slots list frame).tells (λ b. exactly (only ports slots list frame e) (twice_16 w size l b))
    (λ o. some_case ports slots list frame e (record { usable = record { well = w; size = size; each_right = r; each_once = o }; listed = l })))))
