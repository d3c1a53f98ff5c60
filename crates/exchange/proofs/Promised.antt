-- What holds of what Add leaves.
use Prim.Native.Nat.{ℕ, suc, ◌+◌, ◌*◌, ◌-◌, ◌/◌, ◌%◌, ◌≤◌, ◌<◌}
use mathlib.Core.Path.{◌≡◌, refl, sym, ap, ◌∙◌, subst}
use mathlib.Core.Logic.{◌≢◌, inl, inr}
use mathlib.Core.List.{List}
use mathlib.Core.Bool.{true, false}
use native.Mathlib.Omega.{arith}
use lib.ListN.{length, get_or}
use borrow.Author.Tests.{eq-eqb, ne_eqb, eqb-false}
use Rattle.rules.specs.Words.{bit}
use Rattle.rules.specs.Flows.{flows, port_of, counts_of, Side, input, output, flow, port_on, is_of, load}
use Rattle.rules.specs.Frames.{cells, cells_on, right, run_of}
use Rattle.rules.proofs.Cases.{by_eq, by_lt}
use Rattle.rules.proofs.Sums.{sum_le, sum_ones}
use Rattle.rules.proofs.Searches.{first_before}
use Rattle.rules.proofs.Flows.{counts_length, exact_all}
use Rattle.rules.proofs.Halves.{load_flow}
use Rattle.rules.proofs.Cells.{run_all}
use Rattle.rules.proofs.Runs.{cells_slots}
use Rattle.rules.proofs.WithCells.{with_flows, with_right, with_counted, flow_load, own_load, with_load}
use Rattle.calls.proofs.Reports.{clear_none}
use Rattle.calls.proofs.Faults.{place_of}
use Rattle.calls.proofs.Demand2.{ported_on}
use Rattle.usable_frames.specs.Usable.{Usable}
use Rattle.usable_frames.proofs.Slots.{legal_usable}
use Rattle.exchange.specs.Exchange.{port_to, Exchanged}
use Rattle.exchange.specs.Add.{idle, lowest_idle, lowest_both, add_checks, add_accepts, added, addition, add_leaves}
use Rattle.exchange.specs.Promises.{Chosen, OnlyThose, StaysUsable, OneCellMore, with_one_more, StaysLegal, FitsAdds, FewMoved, AddedWith0}
use Rattle.exchange.proofs.Grown.{Grown, grown_usable, grown_cells, grown_slot}
use Rattle.exchange.proofs.Accepted.{accepts_addable, addable_accepts, one_answer, one_added, one_grown, two_answer, two_walk, two_few, two_added, two_grown, leaves_added}

-- ---- both cases of an accepted Add, as one
module _ {P : Type 0} (ports slots : ℕ) (list frame : List ℕ) (e : ℕ) (taken : add_accepts ports slots list frame e ≡ true)
    (then : (Changed : ℕ → Type 0) → Grown ports slots list frame (add_leaves ports slots list frame e) e Changed → ((v : ℕ) → Changed v → (Chosen ports slots list frame e v → ⊥) → ⊥)
    → (added ports slots list frame e).moved ≤ 2 * ports - 3 → P) where
  grown : P
  grown =
      by_lt (lowest_both ports slots list frame e) slots
      (λ l.
      let s = lowest_both ports slots list frame e in
      let leaves = leaves_added ports slots list frame e taken ∙ ap (λ (x : Exchanged). x.frame) (one_added ports slots list frame e taken l) in
      let none : (added ports slots list frame e).moved ≡ 0 = ap (λ (x : Exchanged). x.moved) (one_added ports slots list frame e taken l) in
      then (λ v. v ≡ s) (subst (λ (new : List ℕ). Grown ports slots list frame new e (λ v. v ≡ s)) (sym leaves) (one_grown ports slots list frame e taken l))
      (λ v d other. other (inl (ap (λ (a : List ℕ). get_or a 1 0) (one_answer ports slots list frame e taken l) ∙ ap suc (sym d))))
      (omega arith))
      (λ l.
      let s = lowest_idle input ports slots list frame e in
      let t = lowest_idle output ports slots list frame e in
      let w = two_walk ports slots list frame e taken l in
      let leaves = leaves_added ports slots list frame e taken ∙ ap (λ (x : Exchanged). x.frame) (two_added ports slots list frame e taken l) in
      let moved : (added ports slots list frame e).moved ≡ w.moved = ap (λ (x : Exchanged). x.moved) (two_added ports slots list frame e taken l) in
      let answer = two_answer ports slots list frame e taken l in
      then (λ v. (v ≢ s → v ≢ t → ⊥)) (subst (λ (new : List ℕ). Grown ports slots list frame new e (λ v. (v ≢ s → v ≢ t → ⊥))) (sym leaves) (two_grown ports slots list frame e taken l))
      (λ v d other. d
      (λ p. other (inl (ap (λ (a : List ℕ). get_or a 1 0) answer ∙ ap suc (sym p))))
      (λ p. other (inr (ap (λ (a : List ℕ). get_or a 2 0) answer ∙ ap suc (sym p)))))
      (omega (arith, w.few, two_few ports slots list frame e taken l)))

pub only_those : OnlyThose
only_those ports slots list frame e taken s h apart =
    let a = (accepts_addable ports slots list frame e taken).asked in
    grown ports slots list frame e taken (λ _ g chosen few. grown_slot a.usable a.listed g s h (λ d. chosen s d apart))

pub stays_usable : StaysUsable
stays_usable ports slots list frame e taken =
    let a = (accepts_addable ports slots list frame e taken).asked in
    grown ports slots list frame e taken (λ _ g chosen few. grown_usable a.usable a.listed g)

pub one_cell_more : OneCellMore
one_cell_more ports slots list frame e taken c =
    let a = (accepts_addable ports slots list frame e taken).asked in
    grown ports slots list frame e taken (λ _ g chosen few. grown_cells a.usable a.listed g c)

pub few_moved : FewMoved
few_moved ports slots list frame e taken = grown ports slots list frame e taken (λ _ g chosen few. few)

-- ---- legal frames
pub stays_legal : StaysLegal
stays_legal ports slots list frame e taken legal =
    let u = stays_usable ports slots list frame e taken in
    let l = (accepts_addable ports slots list frame e taken).asked.listed in
    let low : f < flows list = omega (arith, l.0, l.1) in
    record {
      size = u.size;
      each_right = λ q h.
          let d = place_of slots ports q (omega (arith, u.size)) in
          with_right list f more input (q % ports) (get_or new q 0)
          ∙ subst (λ (x : ℕ). right list (q % ports) (get_or new x 0) ≡ true) (sym d.2) (u.each_right (q / ports) (q % ports) d.0 d.1);
      exact = λ g h.
          let known : g < flows list = omega (arith, with_flows list f more) in
          with_counted list f more input ports (flow g) new
          ∙ one_cell_more ports slots list frame e taken (flow g)
          ∙ ap (λ n. n + bit (is_of (flow g) (port_of list) f)) (legal.exact g known)
          ∙ by_eq g f
          (λ d. rw (d, eq-eqb f f refl, own_load list f more low))
          (λ d. rw (ne_eqb f g (λ z. d (sym z)), flow_load list f more g known d) (omega arith));
      once = λ s x hs hx. rw (with_counted list f more input ports (port_on output x) (run_of ports s 1 new)) (u.each_once s x hs hx);
    }
  where
    f : ℕ
    f = e - 1

    more : ℕ
    more = load (flow (e - 1)) list + 1

    new : List ℕ
    new = add_leaves ports slots list frame e

-- where every slot has a cell of a port, the frame has at least as many as slots
busy_throughout : (ports slots : ℕ) (list frame : List ℕ) → length frame ≡ slots * ports → (side : Side) (e : ℕ)
    → ((s : ℕ) → s < slots → idle side ports list frame e s ≡ false) → slots ≤ cells (port_on side (port_to side list e)) ports list frame
unfolding idle
busy_throughout ports slots list frame size side e busy =
    let c = port_on side (port_to side list e) in
    let by_slot = ap (cells_on input ports list c) (sym (run_all ports slots frame size)) ∙ cells_slots input ports slots list frame size c 0 slots (omega arith) in
    let most = sum_le slots (λ _. 1) (λ t. cells c ports list (run_of ports (0 + t) 1 frame))
    (λ t h. let z : 0 + t ≡ t = omega arith in let some = eqb-false (cells c ports list (run_of ports t 1 frame)) 0 (busy t h) in rw z (omega arith)) in
    omega (arith, sum_ones slots)

pub fits_adds : FitsAdds
fits_adds ports slots list frame e well legal listed fits =
    let u = legal_usable well legal in
    addable_accepts ports slots list frame e
    (record { asked = record { usable = u; listed = listed }; from = found u input; to = found u output })
  where
    f : ℕ
    f = e - 1

    more : ℕ
    more = load (flow (e - 1)) list + 1

    low : f < flows list
    low = omega (arith, listed.0, listed.1)

    light : (side : Side) → load (port_on side (port_to side list e)) (with_one_more list e) ≤ slots
    light input = (fits (port_to input list e) (ported_on list well.ported well.linked input f low)).0
    light output = (fits (port_to output list e) (ported_on list well.ported well.linked output f low)).1

    of_its_port : (side : Side) → is_of (port_on side (port_to side list e)) (port_of list) f ≡ true
    of_its_port side = eq-eqb (port_to side list e) (port_to side list e) refl

    found : Usable input ports slots list frame → (side : Side) → lowest_idle side ports slots list frame e < slots
    found u side =
        let c = port_on side (port_to side list e) in
        by_lt (lowest_idle side ports slots list frame e) slots (λ l. l)
        (λ l.
        let all = busy_throughout ports slots list frame u.size side e (λ s h. first_before (idle side ports list frame e) slots 0 s (omega arith) (omega arith)) in
        let exact = exact_all input ports list frame legal.each_right (counts_of list) (counts_length list)
        (λ g h. legal.exact g h ∙ load_flow g (port_of list) (counts_of list)) c in
        let one = rw (of_its_port side) at (with_load list f more low c) in
        absurd (omega (arith, light side)))

-- ---- the number of acceptance
pub added_with_0 : AddedWith0
unfolding add_checks
added_with_0 ports slots list frame e =
    let checks = add_checks ports slots list frame e in (
      (λ taken. by_lt (lowest_both ports slots list frame e) slots
          (λ l. ap (λ (a : List ℕ). get_or a 0 0) (one_answer ports slots list frame e taken l))
          (λ l. ap (λ (a : List ℕ). get_or a 0 0) (two_answer ports slots list frame e taken l))),
      (λ z. clear_none checks (addition ports slots list frame e)
          (omega arith, (omega arith, (omega arith, (omega arith, (omega arith, (omega arith, (omega arith, (omega arith, (omega arith, (omega arith, (omega arith, (omega arith, tt)))))))))))) z),
    )
