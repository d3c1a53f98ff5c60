-- Leads: how far from zero that of a legal and balanced frame can be.
use Prim.Native.Nat.{ℕ, ◌+◌, ◌-◌, ◌*◌, ◌/◌, ◌%◌, ◌^◌, ◌≤◌, ◌<◌, min}
use mathlib.Core.Path.{◌≡◌, refl, ap, ◌∙◌}
use mathlib.Core.Logic.{◌≢◌}
use mathlib.Core.List.{List}
use native.Mathlib.Omega.{arith}
use native.Mathlib.Nat.{mod-lt, div-add-mod'}
use lib.IntN.{pos, ◌-ℤ◌, nat_abs}
use lib.ListN.{length}
use lib.Pow.{pow_pos}
use Rattle.rules.specs.Words.{Near}
use Rattle.rules.specs.Flows.{Class, OnSwitch, load, input}
use Rattle.rules.specs.Frames.{cells, run_of, Legal, Balanced, repeated}
use Rattle.calls.specs.Refusals.{none_holds}
use Rattle.calls.specs.Build.{frame_after}
use Rattle.calls.specs.Service.{class_of, lead, lead_on, count_checks, service}
use Rattle.strays.specs.Stray.{stray}
use Rattle.strays.specs.Deviation.{repeat_deviation}
use Rattle.bounds.specs.Lead.{Led, BuiltLead, AnsweredLead}
use Rattle.rules.proofs.Cases.{by_bool, by_eq}
use Rattle.rules.proofs.Runs.{cells_from, cells_rounds, cells_turns}
use Rattle.calls.proofs.Replies.{who_of, clear_who}
use Rattle.rules.proofs.Integers.{minus_near, minus_same}
use Rattle.rules.proofs.Legal.{legal_exact}
use Rattle.strays.proofs.Deviations.{deviation_most, stray_deviation}
use Rattle.strays.proofs.Frames.{before, before_more, before_all, before_none, first_off}
use Rattle.strays.proofs.Repeats.{repeat_run}
use Rattle.calls.proofs.Demand2.{build_sound}

-- whole turns are neither ahead nor behind
pub lead_turns : (c : Class) (ports slots : ℕ) (list entries : List ℕ) → length entries ≡ slots * ports → 1 ≤ slots → (start w : ℕ)
    → lead c ports slots list entries start (w * slots) ≡ pos 0
unfolding lead_on
lead_turns c ports slots list entries size h start w =
    let e : slots * cells c ports list (repeated ports slots entries start (w * slots)) ≡ w * slots * cells c ports list entries
    = omega (arith, ap (λ z. slots * z) (cells_rounds input ports slots list entries size c h start w)) in
    minus_same _ _ e

-- ---- of a legal and balanced frame
module _ {ports slots : ℕ} {list entries : List ℕ} (legal : Legal ports slots list entries) (balanced : Balanced ports slots list entries) (c : Class)
    (of : OnSwitch ports c) (k : ℕ) (power : slots ≡ 2 ^ k) where
  abbrev m : ℕ
  m = load c list

  whole : cells c ports list entries ≡ m
  whole = legal_exact legal c

  -- the cells of the first t slots
  abbrev front : ℕ → ℕ
  front = before legal balanced c of

  -- what is left of a run after its whole turns: two of its ends are off by the stray of the load at most, and the others not at all
  rest_near : (start head tail : ℕ) → start + head ≤ slots → tail ≤ slots → (tail ≢ 0 → start + head ≡ slots)
      → Near (2 * stray k m) (slots * (cells c ports list (run_of ports start head entries) + front tail)) ((head + tail) * m)
  rest_near start head tail fits low wraps =
      let off : (t : ℕ) → t ≤ slots → Near (stray k m) (slots * front t) (m * t) = λ t h. rw power (first_off legal balanced c of k power t (omega arith)) in
      let one = off start (omega arith) in
      let more = ap (λ z. slots * z) (before_more legal balanced c of start head (omega arith)) in
      by_eq tail 0
      (λ e.
      let none : front tail ≡ 0 = ap front e ∙ before_none legal balanced c of in
      let two = off (start + head) fits in
      omega (arith, one.0, one.1, two.0, two.1, more, ap (λ z. slots * z) none, ap (λ z. z * m) e))
      (λ n.
      let all : front (start + head) ≡ m = ap front (wraps n) ∙ before_all legal balanced c of in
      let two = off tail low in
      omega (arith, one.0, one.1, two.0, two.1, more, ap (λ z. slots * z) all, ap (λ z. z * m) (wraps n)))

  run_near : (start len : ℕ) → Near (2 * stray k m) (slots * cells c ports list (repeated ports slots entries start len)) (len * m)
  run_near start len =
      let h : 1 ≤ slots = omega (arith, power, pow_pos k) in
      let from = start % slots in
      let turns = len / slots in
      let head = min (len % slots) (slots - from) in
      let tail = len % slots - head in
      let low : from < slots = mod-lt start h in
      let short : len % slots < slots = mod-lt len h in
      let near = rest_near from head tail (omega arith) (omega arith) (λ n. omega arith) in
      let sum : head + tail ≡ len % slots = omega arith in
      let parts : cells c ports list (repeated ports slots entries start len) ≡ turns * m + (cells c ports list (run_of ports from head entries) + front tail)
      = cells_from input ports slots list entries legal.size c h start len
      ∙ cells_turns input ports slots list entries legal.size c from len turns head tail low refl refl sum
      ∙ ap (λ z. turns * z + (cells c ports list (run_of ports from head entries) + front tail)) whole in
      let length_is : len ≡ turns * slots + (head + tail) = omega (arith, div-add-mod' len slots) in
      omega (arith, near.0, near.1, ap (λ z. slots * z) parts, ap (λ z. z * m) length_is)

  pub sound_lead : (start len : ℕ) → Led c ports slots k list entries start len
  unfolding lead_on
  sound_lead start len =
      let share : len * cells c ports list entries ≡ len * m = ap (λ z. len * z) whole in
      let by : (gap : ℕ) → Near gap (slots * cells c ports list (repeated ports slots entries start len)) (len * m) → nat_abs (lead c ports slots list entries start len) ≤ gap
      = λ gap near. minus_near gap (slots * cells c ports list (repeated ports slots entries start len)) (len * cells c ports list entries) (rw share near) in
      let by_load = by (2 * stray k m) (run_near start len) in
      let again = repeat_run legal balanced c of k power start len in
      let turn = ap (λ z. z * cells c ports list (repeated ports slots entries start len)) power in
      let repeats = by (repeat_deviation k) (omega (arith, again.0), omega (arith, again.1)) in
      record {
        near = omega (arith, by_load, stray_deviation k m, deviation_most k, ap (λ z. (2 * k + 1) * z) power);
        by_load = omega (arith, by_load);
        repeats = omega (arith, repeats);
        from_share = ap (λ z. pos (slots * cells c ports list (repeated ports slots entries start len)) -ℤ pos z) share;
        turns = λ w e. rw e (lead_turns c ports slots list entries legal.size (omega (arith, power, pow_pos k)) start w);
      }

-- ---- of what Build leaves
pub built_lead : BuiltLead
built_lead ports slots list limits buffer e k power c of =
    let s = build_sound ports slots list limits buffer e in
    sound_lead s.0 s.1 c of k power

-- ---- of what Service count answers
pub answered_lead : AnsweredLead
unfolding service
answered_lead ports slots list limits buffer e k power who start len =
    let entries = frame_after ports slots list limits buffer in
    by_bool (none_holds (count_checks ports slots list entries who start len))
    (λ c. let of = who_of ports list who (clear_who ports slots list entries who start len c) in
    rw c (built_lead ports slots list limits buffer e k power (class_of who) of (start - 1) len).near)
    (λ c. rw c (omega arith))
