-- The total of built frames: the one over goes to the first half of every block, so that the frame has the earliest cells of its total.
use Prim.Native.Nat.{ℕ, suc, zero, ◌+◌, ◌-◌, ◌*◌, ◌/◌, ◌^◌, ◌≤◌}
use mathlib.Core.Path.{◌≡◌, sym, ap, ap₂, subst, ◌∙◌}
use mathlib.Core.Logic.{◌≢◌}
use mathlib.Core.List.{List, [], ◌∷◌, ◌++◌}
use mathlib.Core.Bool.{true}
use native.Mathlib.Omega.{arith}
use native.Mathlib.Nat.{zero-add}
use lib.Dec.{eqb}
use lib.ListN.{length, get_or, length-append}
use Rattle.rules.specs.Words.{bit, sum_to, Every}
use Rattle.rules.specs.Flows.{flows, End, port_of, counts_of, total, load_in, load, Fits, input}
use Rattle.rules.specs.Frames.{cells, run_of, levels}
use Rattle.rules.specs.Schedule.{favouring, favours, half_of, slot_of, frame_of}
use Rattle.calls.specs.Build.{build_accepts, frame_after}
use Rattle.strays.specs.Stray.{earliest, stray}
use Rattle.strays.specs.Deviation.{deviation}
use Rattle.wire.specs.Wire.{Call, Carried, none, chain, cells_in, share, Shape, EveryChain}
use Rattle.wire.specs.Loads.{load_of, Touches}
use Rattle.bounds.specs.ByLoad.{NearShare}
use Rattle.bounds.specs.Total.{TotalRun, Totals}
use Rattle.rules.proofs.Cases.{by_eq}
use Rattle.rules.proofs.Sums.{sum_ext, sum_add}
use Rattle.rules.proofs.Favouring.{favouring_sum}
use Rattle.rules.proofs.Settled.{favours_law, favours_level}
use Rattle.rules.proofs.Splits.{half_at, split_is}
use Rattle.rules.proofs.Halves.{halves_sum, halves_fit}
use Rattle.rules.proofs.Cells.{cells_none, cells_run, run_none, run_all, run_first, run_second}
use Rattle.rules.proofs.Slots.{AtInputs, slot_is, slot_exact}
use Rattle.rules.proofs.Levels.{double, pow_only}
use Rattle.rules.proofs.OneFrame.{frame_length}
use Rattle.rules.proofs.Flows.{counts_length}
use Rattle.calls.proofs.Demand2.{accepts_is, ported_placed, build_frame, build_sound}
use Rattle.strays.proofs.Earliest.{earliest_none, earliest_all, earliest_near, earliest_far, earliest_least, by_half}
use Rattle.strays.proofs.Strays.{stray_has}
use Rattle.strays.proofs.Deviations.{stray_deviation}
use Rattle.wire.proofs.Chains.{Sound, SoundFrame, good_of, in_more, share_split, prefix_chain, touches}
use Rattle.wire.proofs.Demand3.{chain_every}

-- ---- the halves' totals
module _ (port : End → ℕ → ℕ) (m : List ℕ) where
  half_total : (h : ℕ) → h ≢ 0 → sum_to (length m) (λ p. get_or (half_of port h m) p 0) ≡ sum_to (length m) (λ p. get_or m p 0 / 2) + favouring h (favours port m)
  half_total h n =
      let len = (favours_law port m).len in
      sum_ext (length m) _ _ (λ p _. half_at h m (favours port m) p n len)
      ∙ sum_add (length m) (λ p. get_or m p 0 / 2) (λ p. bit (eqb (get_or (favours port m) p 0) h))
      ∙ ap (λ z. sum_to (length m) (λ p. get_or m p 0 / 2) + z) (ap (λ (k : ℕ). sum_to k (λ p. bit (eqb (get_or (favours port m) p 0) h))) (sym len) ∙ sym (favouring_sum h (favours port m)))

  abbrev sum_of : List ℕ → ℕ
  sum_of a = load_in total port a

  total_more : (sum_of (half_of port 2 m) ≤ sum_of (half_of port 1 m)) × (sum_of (half_of port 1 m) ≤ sum_of (half_of port 2 m) + 1)
  unfolding load_in
  total_more =
      let sp = split_is port m in
      let level = favours_level port m in
      rw (sp.first_size, sp.second_size, half_total 1 (omega arith), half_total 2 (omega arith)) (omega arith)

  first_total : sum_of (half_of port 1 m) ≡ (sum_of m + 1) / 2
  first_total = let s = halves_sum port m (half_of port 1 m) (half_of port 2 m) (split_is port m) total in let more = total_more in omega arith

  second_total : sum_of (half_of port 2 m) ≡ sum_of m / 2
  second_total = let s = halves_sum port m (half_of port 1 m) (half_of port 2 m) (split_is port m) total in let more = total_more in omega arith

-- ---- a frame
module _ (ports : ℕ) (list : List ℕ) (placed : AtInputs ports (port_of list) (flows list)) where
  abbrev port : End → ℕ → ℕ
  port = port_of list

  abbrev first_of : ℕ → List ℕ → ℕ
  first_of t entries = cells total ports list (run_of ports 0 t entries)

  -- one slot
  slot_total : (m : List ℕ) → length m ≡ flows list → Fits ports 1 port m → (t : ℕ) → t ≤ 1 → first_of t (slot_of ports port m) ≡ earliest 0 (load_in total port m) t
  slot_total m size fits t h =
      let s = slot_is ports port m (λ f l. placed f (omega arith)) fits in
      let entries = slot_of ports port m in
      by_eq t 0
      (λ e.
      ap (λ z. first_of z entries) e ∙ ap (cells total ports list) (run_none ports 0 entries) ∙ cells_none input ports list total
      ∙ sym (ap (earliest 0 (load_in total port m)) e ∙ earliest_none 0 (load_in total port m)))
      (λ e.
      let x : t ≡ 1 = omega arith in
      ap (λ z. first_of z entries) x ∙ ap (cells total ports list) (run_all ports 1 entries (s.size ∙ omega arith)) ∙ slot_exact ports list m entries size placed s total
      ∙ sym (ap (earliest 0 (load_in total port m)) x ∙ earliest_all 0 (load_in total port m)))

  -- two halves end to end
  join_total : (k x y : ℕ) (v w : List ℕ) → length v ≡ 2 ^ k * ports → length w ≡ 2 ^ k * ports → (n : ℕ) → x ≡ (n + 1) / 2 → y ≡ n / 2
      → ((t : ℕ) → t ≤ 2 ^ k → first_of t v ≡ earliest k x t) → ((t : ℕ) → t ≤ 2 ^ k → first_of t w ≡ earliest k y t)
      → (t : ℕ) → t ≤ 2 ^ suc k → first_of t (v ++ w) ≡ earliest (suc k) n t
  join_total k x y v w lv lw n ex ey fv fw =
      by_half (λ t. first_of t (v ++ w) ≡ earliest (suc k) n t) k
      (λ t h.
      ap (cells total ports list) (run_first ports (2 ^ k) 0 t v w lv (omega arith)) ∙ fv t h
      ∙ sym (earliest_near k n t h ∙ ap (λ z. earliest k z t) (sym ex)))
      (λ t h.
      let z : 0 + 2 ^ k ≡ 2 ^ k + 0 = omega arith in
      let one : cells total ports list (run_of ports 0 (2 ^ k) (v ++ w)) ≡ x
      = ap (cells total ports list) (run_first ports (2 ^ k) 0 (2 ^ k) v w lv (omega arith)) ∙ fv (2 ^ k) (omega arith) ∙ earliest_all k x in
      let two : cells total ports list (run_of ports (0 + 2 ^ k) t (v ++ w)) ≡ earliest k y t
      = ap (λ b. cells total ports list (run_of ports b t (v ++ w))) z ∙ ap (cells total ports list) (run_second ports (2 ^ k) 0 t v w lv) ∙ fw t h in
      cells_run input ports list total 0 (2 ^ k) t (v ++ w) (omega (arith, length-append v w, ap (λ b. b * ports) (zero-add (2 ^ k))))
      ∙ ap₂ ◌+◌ one two
      ∙ sym (earliest_far k n t ∙ ap₂ (λ a b. a + earliest k b t) (sym ex) (sym ey)))

  -- in the frame of the rules the first t slots have exactly the earliest of the total
  pub frame_total : (k : ℕ) (m : List ℕ) → length m ≡ flows list → Fits ports (2 ^ k) port m → (t : ℕ) → t ≤ 2 ^ k
      → first_of t (frame_of ports port k m) ≡ earliest k (load_in total port m) t
  unfolding frame_of
  frame_total zero m size fits t h = slot_total m size fits t h
  frame_total (suc k) m size fits t h =
      let one = half_of port 1 m in
      let two = half_of port 2 m in
      let sp = split_is port m in
      let half = halves_fit port m one two sp ports (2 ^ k) (rw (double k) at fits) in
      join_total k (load_in total port one) (load_in total port two) (frame_of ports port k one) (frame_of ports port k two)
      (frame_length ports port k one) (frame_length ports port k two) (load_in total port m) (first_total port m) (second_total port m)
      (frame_total k one (sp.first_size ∙ size) half.0) (frame_total k two (sp.second_size ∙ size) half.1) t h

-- ---- chains of Build calls
-- the frame is sound, and the earliest for its total
pub record EarliestTotal (f : Carried) : Type 0 where
  pub sound : Sound f
  pub depth : ℕ
  pub power : f.call.slots ≡ 2 ^ depth
  pub first : (t : ℕ) → t ≤ 2 ^ depth → cells total f.call.ports f.call.list (run_of f.call.ports 0 t f.entries) ≡ earliest depth (load total f.call.list) t

built_total : (c : Call) (buffer : List ℕ) → build_accepts c.ports c.slots c.list c.limits buffer ≡ true
    → EarliestTotal (record { call = c; entries = frame_after c.ports c.slots c.list c.limits buffer })
built_total c buffer e =
    let a = accepts_is c.ports c.slots c.list c.limits buffer e in
    let p = (build_frame c.ports c.slots c.list c.limits buffer e).1 in
    record {
      sound = build_sound c.ports c.slots c.list c.limits buffer e;
      depth = levels c.slots;
      power = p;
      first = rw e (frame_total c.ports c.list (ported_placed c.list a.well.ported) (levels c.slots) (counts_of c.list) (counts_length c.list)
          (subst (λ (n : ℕ). Fits c.ports n (port_of c.list) (counts_of c.list)) p a.fits));
    }

pub chain_totals : (buffer : List ℕ) (calls : List Call) → Every EarliestTotal (chain none buffer calls)
chain_totals buffer calls = chain_every EarliestTotal built_total none buffer calls tt

-- what is carried, with its shape
pub record TotalFrame (ports k : ℕ) (f : Carried) : Type 0 where
  pub good : SoundFrame ports (2 ^ k) f
  pub first : (t : ℕ) → t ≤ 2 ^ k → cells total ports f.call.list (run_of ports 0 t f.entries) ≡ earliest k (load total f.call.list) t

total_frames : (ports k : ℕ) (fs : List Carried) → Every EarliestTotal fs → Every (Shape ports (2 ^ k)) fs → Every (TotalFrame ports k) fs
total_frames ports k [] led shape = tt
total_frames ports k (f ∷ fs) led shape =
    let l = led.0 in
    let d : l.depth ≡ k = pow_only l.depth k (sym l.power ∙ shape.0.slots_are) in
    let g = good_of ports (2 ^ k) (f ∷ []) (l.sound, tt) (shape.0, tt) in
    (record { good = g.0; first = rw (d, shape.0.ports_are) at l.first }, total_frames ports k fs led.1 shape.1)

module _ (ports k : ℕ) (fs : List Carried) (framed : Every (TotalFrame ports k) fs) where
  at_total : (b t : ℕ) → Touches k b t → t ≤ length fs * 2 ^ k
      → (2 ^ k * cells_in total fs 0 t ≤ share total 0 fs 0 t + stray k (load_of total fs b)) × (share total 0 fs 0 t ≤ 2 ^ k * cells_in total fs 0 t + 0)
  at_total b t touches fits =
      let r = t - b * 2 ^ k in
      prefix_chain total ports k (TotalFrame ports k) (λ f s. s.good) r (stray k) (λ _. 0) (omega arith)
      (λ f s.
      let m = load total f.call.list in
      let e = ap (λ z. 2 ^ k * z) (s.first r (omega arith)) in
      (omega (arith, stray_has k m r (omega arith)), omega (arith, earliest_least k m r (omega arith))))
      fs framed b 0 0 t t (omega arith) (omega arith) (omega arith) fits

  total_run : (start len : ℕ) → start + len ≤ length fs * 2 ^ k → TotalRun k fs start len
  total_run start len fits =
      let end = start + len in
      let sum : cells_in total fs 0 end ≡ cells_in total fs 0 start + cells_in total fs start len = rw zero-add at (in_more total fs 0 start len) in
      let sum2 = ap (λ x. 2 ^ k * x) sum in
      let split = share_split total fs 0 start len in
      record {
        above = λ b q. omega (arith, (at_total b end q fits).0, (at_total (start / 2 ^ k) start (touches k start) (omega arith)).1);
        below = λ a p. omega (arith, (at_total a start p (omega arith)).0, (at_total (end / 2 ^ k) end (touches k end) fits).1);
      }

-- For every list of Build calls: each end of a run may be off one way only,
pub totals : Totals
totals buffer calls ports k shape =
    let fs = chain none buffer calls in total_run ports k fs (total_frames ports k fs (chain_totals buffer calls) shape)

-- so that the total of a run is within one deviation of its share, half the bound of other classes.
pub total_deviation : EveryChain (λ ports k fs. (start len : ℕ) → start + len ≤ length fs * 2 ^ k → NearShare (deviation k) total k fs start len)
total_deviation buffer calls ports k shape start len fits =
    let fs = chain none buffer calls in
    let r = totals buffer calls ports k shape start len fits in
    let end = start + len in
    let touch = touches k in (
      omega (arith, r.above (end / 2 ^ k) (touch end), stray_deviation k (load_of total fs (end / 2 ^ k))),
      omega (arith, r.below (start / 2 ^ k) (touch start), stray_deviation k (load_of total fs (start / 2 ^ k))),
    )
