-- Turn, Inspect and Service count of a frame and of what Turn leaves.
use Prim.Native.Nat.{ℕ, suc, ◌-◌, ◌<◌}
use mathlib.Core.Path.{◌≡◌, refl, sym, ap, ap₂, ◌∙◌, subst}
use mathlib.Core.List.{List, [], ◌∷◌}
use mathlib.Core.Bool.{true, false, not}
use native.Mathlib.Omega.{arith}
use lib.Dec.{eqb, ltb}
use lib.ListN.{length, get_or}
use borrow.Author.Tests.{eqb-true, eq-eqb, not-false}
use Rattle.rules.specs.Flows.{flows, Side, input, other, flow, load}
use Rattle.rules.specs.Frames.{cells_on, LegalOn}
use Rattle.rules.proofs.Cases.{by_bool}
use Rattle.rules.proofs.Searches.{first_ext}
use Rattle.rules.proofs.Flows.{other_twice}
use Rattle.calls.specs.Refusals.{Check, report, accepted, list_checks, bad_frame}
use Rattle.calls.specs.Demand2.{WellFormed}
use Rattle.calls.specs.Build.{frame_after}
use Rattle.calls.specs.Inspect.{wrong_entry, wrong_count, flow_count, bad_entries}
use Rattle.calls.specs.Service.{class_of, lead_on, count_checks, service}
use Rattle.calls.specs.declared.Who.{Who}
use Rattle.calls.proofs.Reports.{Tells, clear_then, clear_parts, passes_clear, clear_passes, report_clear, clear_none, clear_some, frame_tells, broken, by_fact}
use Rattle.calls.proofs.Demand2.{well_clear, clear_well, past_frame, accepts_is, build_sound}
use Rattle.calls.proofs.Faults.{entries_search, twice_search}
use Rattle.calls.proofs.Blocks.{block_same}
use Rattle.calls.proofs.Clean.{legal_entries, past_two, built_clean}
use Rattle.calls.proofs.Answers.{exactly}
use Rattle.calls.proofs.Answered.{frame_reported, frame_low, by_frame}
use Rattle.sides.specs.Turn.{by_side, Turnable, bad_second, turn_checks, turn_accepts, turn_answer, second_after}
use Rattle.sides.specs.Agreement.{TurnedTwice, InspectAgrees, CountAgrees, BuiltTurns, TurnedWith0, Turns, refused, second_15, entry_14, twice_14, accepted as turned-0, TurnByCases}
use Rattle.sides.proofs.Turned.{by_size, turned_turnable, turned_back, run_cells, repeated_cells, frame_cells, turned_by, only_turned}

-- 15: the two buffers have one length
second_tells : (entries second : List ℕ) → Tells (bad_second entries second) (length second ≡ length entries)
second_tells entries second =
    record { met = λ e. ap not (eq-eqb (length second) (length entries) e); known = λ e. eqb-true (length second) (length entries) (not-false _ e) }

-- ---- what Turn accepts
module _ (side : Side) (ports slots : ℕ) (list entries second : List ℕ) where
  abbrev last_checks : List Check
  last_checks = bad_second entries second ∷ bad_entries 14 side ports slots list entries

  pub accepts_turnable : turn_accepts side ports slots list entries second ≡ true → Turnable side ports slots list entries × (length second ≡ length entries)
  unfolding turn_checks
  accepts_turnable e =
      let parts = clear_parts (list_checks ports slots list) (bad_frame ports slots entries ∷ last_checks) e in
      let p = clear_passes (bad_frame ports slots entries ∷ last_checks) parts.1 in (
        record {
          well = clear_well ports slots list parts.0;
          size = (frame_tells ports slots entries).known p.0;
          each_right = (entries_search side ports slots list entries).tells.known p.1.1.0;
          each_once = (twice_search side ports slots list entries).tells.known p.1.1.1.0;
        },
        (second_tells entries second).known p.1.0,
      )

  pub turnable_accepts : Turnable side ports slots list entries → length second ≡ length entries → turn_accepts side ports slots list entries second ≡ true
  unfolding turn_checks
  turnable_accepts t e =
      clear_then (list_checks ports slots list) (bad_frame ports slots entries ∷ last_checks) (well_clear ports slots list t.well)
      ∙ passes_clear (bad_frame ports slots entries ∷ last_checks) (
        (frame_tells ports slots entries).met t.size,
        (
          (second_tells entries second).met e,
          ((entries_search side ports slots list entries).tells.met t.each_right, ((twice_search side ports slots list entries).tells.met t.each_once, tt)),
        ),
      )

-- ---- turned twice
pub turned_twice : TurnedTwice
turned_twice side ports slots list entries second third e size =
    let a = accepts_turnable side ports slots list entries second e in
    let t = a.0 in
    let new = by_side (other side) ports list entries in
    let again : turn_accepts (other side) ports slots list new third ≡ true
    = turnable_accepts (other side) ports slots list new third (turned_turnable t) (size ∙ sym (by_size (other side) ports slots list entries t.size)) in
    rw e (again, rw again (subst (λ (z : Side). by_side z ports list new ≡ entries) (sym (other_twice side)) (turned_back t)))

-- ---- Inspect
pub inspect_agrees : InspectAgrees
unfolding wrong_count
inspect_agrees side ports slots list entries second e =
    let t = (accepts_turnable side ports slots list entries second e).0 in
    let to = other side in
    let new = by_side to ports list entries in
    let u = turned_turnable t in
    let count : ℕ → Check = λ f. (ltb f (flows list), 103 ∷ suc f ∷ []) in
    let flows_same : flow_count to ports list new ≡ flow_count side ports list entries
    = ap count (first_ext _ _ (flows list) 0 (λ f _ l. ap (λ z. not (eqb z (load (flow f) list))) (frame_cells t (flow f)))) in
    let blocks = block_same (cells_on to ports list) (cells_on side ports list) ports slots list new entries (run_cells t) in
    let both : Check → Check → List ℕ = λ x y. report (x ∷ y ∷ []) (0 ∷ []) in
    rw e (
    past_two to ports slots list new u.well u.size u.each_right u.each_once
    ∙ ap₂ both flows_same blocks
    ∙ sym (past_two side ports slots list entries t.well t.size t.each_right t.each_once))

-- ---- Service count
count_checks_same : (ports slots : ℕ) (list v w : List ℕ) (who : Who) (start len : ℕ) → length v ≡ length w
    → count_checks ports slots list v who start len ≡ count_checks ports slots list w who start len
unfolding count_checks
count_checks_same ports slots list v w who start len e = rw e

pub count_agrees : CountAgrees
unfolding service lead_on
count_agrees side ports slots list entries second e who start len =
    let t = (accepts_turnable side ports slots list entries second e).0 in
    let to = other side in
    let new = by_side to ports list entries in
    rw e (rw (
      count_checks_same ports slots list new entries who start len (by_size to ports slots list entries t.size),
      repeated_cells t (class_of who) (start - 1) len,
      frame_cells t (class_of who),
    ))

-- ---- Build and Turn
-- a legal frame turns
legal_turnable : {side : Side} {ports slots : ℕ} {list entries : List ℕ} → WellFormed ports slots list → LegalOn side ports slots list entries
    → Turnable side ports slots list entries
legal_turnable {side} {ports} {slots} {list} {entries} w l =
    record { well = w; size = l.size; each_right = legal_entries side ports slots list entries w l.size l; each_once = l.once }

pub built_turns : BuiltTurns
built_turns ports slots list limits buffer second e size =
    let frame = frame_after ports slots list limits buffer in
    let legal = (build_sound ports slots list limits buffer e).0 in
    let yes = turnable_accepts input ports slots list frame second (legal_turnable (accepts_is ports slots list limits buffer e).well legal) (size ∙ sym legal.size) in
    (yes, inspect_agrees input ports slots list frame second yes ∙ built_clean ports slots list limits buffer e)

-- ---- the number of acceptance
pub turned_with_0 : TurnedWith0
unfolding turn_checks
turned_with_0 side ports slots list entries second =
    let checks = turn_checks side ports slots list entries second in (
      (λ e. ap (λ (l : List ℕ). get_or l 0 0) (report_clear checks accepted e)),
      (λ e. clear_none checks accepted (omega arith, (omega arith, (omega arith, (omega arith, (omega arith, (omega arith, (omega arith, (omega arith, (omega arith, (omega arith, tt)))))))))) e),
    )

-- ---- case by case
module _ (side : Side) (ports slots : ℕ) (list entries second : List ℕ) where
  abbrev turn : List ℕ × List ℕ
  turn = (turn_answer side ports slots list entries second, second_after side ports slots list entries second)

  -- an answer that begins with a number other than 0 leaves the second buffer as it was
  kept : {n : ℕ} → 0 < n → turn_answer side ports slots list entries second ≡ n ∷ [] → ◌≡◌ {A = List ℕ × List ℕ} (n ∷ [], second) turn
  kept {n} h e =
      let off : turn_accepts side ports slots list entries second ≡ false
      = clear_some (turn_checks side ports slots list entries second) accepted refl (λ z. let y = ap (λ (l : List ℕ). get_or l 0 0) e in omega arith) in
      ap₂ (λ (a b : List ℕ). (a, b)) (sym e) (rw off)

  only : (given : List ℕ × List ℕ) → Turns side ports slots list entries second given → given ≡ turn
  unfolding turn_checks
  only given (refused r) = kept (frame_low r) (frame_reported ports slots list entries (last_checks side ports slots list entries second) accepted r)
  only given (second_15 w e b) =
      kept (omega arith) (past_frame ports slots list w entries e (last_checks side ports slots list entries second) accepted ∙ rw (broken (second_tells entries second) b))
  only given (entry_14 w e s b) =
      kept (omega arith) (past_frame ports slots list w entries e (last_checks side ports slots list entries second) accepted
      ∙ rw ((second_tells entries second).met s, broken (entries_search side ports slots list entries).tells b))
  only given (twice_14 w e s b) =
      kept (omega arith) (past_frame ports slots list w entries e (last_checks side ports slots list entries second) accepted
      ∙ by_bool (wrong_entry side ports slots list entries).0
      (λ d. rw ((second_tells entries second).met s, d))
      (λ d. rw ((second_tells entries second).met s, d, broken (twice_search side ports slots list entries).tells b)))
  only given (turned-0 w e s r o new b) =
      let t : Turnable side ports slots list entries = record { well = w; size = e; each_right = r; each_once = o } in
      let yes = turnable_accepts side ports slots list entries second t s in
      ap₂ (λ (a b : List ℕ). (a, b)) (sym (report_clear (turn_checks side ports slots list entries second) accepted yes)) (only_turned t new b ∙ rw yes)

pub turn_by_cases : TurnByCases
turn_by_cases side ports slots list entries second =
    by_frame ports slots list entries (λ n r. exactly (only side ports slots list entries second) (refused r))
    (λ w e. by_fact (second_tells entries second) (λ b. exactly (only side ports slots list entries second) (second_15 w e b))
    (λ s. by_fact (entries_search side ports slots list entries).tells (λ b. exactly (only side ports slots list entries second) (entry_14 w e s b))
    (λ r. by_fact (twice_search side ports slots list entries).tells (λ b. exactly (only side ports slots list entries second) (twice_14 w e s b))
    (λ o. exactly (only side ports slots list entries second) (turned-0 w e s r o (by_side (other side) ports list entries)
    (turned_by (record { well = w; size = e; each_right = r; each_once = o })))))))
