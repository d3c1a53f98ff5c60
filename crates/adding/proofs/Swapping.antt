-- Entries put and swapped, one after the other.
use Prim.Native.Nat.{ℕ, ◌+◌, ◌-◌, ◌*◌, ◌≤◌, ◌<◌}
use mathlib.Core.Path.{◌≡◌, sym, ap, ◌∙◌}
use mathlib.Core.List.{List}
use mathlib.Core.Bool.{not}
use native.Mathlib.Omega.{arith}
use lib.Dec.{eqb}
use lib.ListN.{length, get_or, set, length-set}
use lib.Seq.{get_or-set_same, get_or-set_other}
use mir.Syntax.{w64}
use mir.Val.{Fits}
use borrow.Author.Tests.{eq-eqb, ne_eqb}
use Rattle.std.specs.Prelude.{Some, None}
use Rattle.rules.specs.Words.{bit, found}
use Rattle.rules.specs.Flows.{flows}
use Rattle.rules.proofs.Cases.{by_eq}
use Rattle.rules.proofs.Ranges.{first_of}
use Rattle.checks.specs.Fits.{FlowFrame}
use Rattle.entries.proofs.Found.{place_low}
use Rattle.exchange.specs.Swaps.{output_number, goes_to, lowest_to, moved_by, swapped, swaps}
use Rattle.exchange.proofs.Swapped.{swaps_stop, swaps_rest, swaps_on}

-- an entry put into a frame, where it is 0 or the number of a flow
pub flow_put : {ports slots : ℕ} {list frame : List ℕ} → FlowFrame ports slots list frame → (q e : ℕ) → e ≤ flows list → FlowFrame ports slots list (set frame q e)
flow_put {ports} {slots} {list} {frame} r q e h =
    record {
      listed = r.listed;
      framed = record { most = r.framed.most; power = r.framed.power; size = length-set frame q e ∙ r.framed.size };
      each_flow = λ p l. by_eq p q
          (λ d. rw d (omega (arith, get_or-set_same frame q e 0 (omega (arith, length-set frame q e)))))
          (λ d. omega (arith, get_or-set_other frame q p e 0 d, r.each_flow p (omega (arith, length-set frame q e))));
    }

-- ---- how many cells a swap moves
moved_one : (e : ℕ) → e ≡ 0 → 1 ≡ 1 + bit (not (eqb e 0))
moved_one e z = rw (eq-eqb e 0 z)

moved_two : (e : ℕ) → (e ≡ 0 → ⊥) → 2 ≡ 1 + bit (not (eqb e 0))
moved_two e n = rw (ne_eqb e 0 n)

moved_most : (e : ℕ) → 1 + bit (not (eqb e 0)) ≤ 2
moved_most e = by_eq e 0 (λ z. omega (arith, moved_one e z)) (λ n. omega (arith, moved_two e n))

-- ---- swaps, one after the other: what is left to do gives, with the cells moved so far, what was to do
pub record Swapping (ports slots : ℕ) (list old : List ℕ) (former other f : ℕ) (frame : List ℕ) (last moved n : ℕ) : Type 0 where
  pub flowed : FlowFrame ports slots list frame
  pub low : last < ports
  pub most : n ≤ ports
  pub few : moved ≤ 2 * n
  pub frame_is : (swaps (ports - n) ports list frame former other last).frame ≡ (swaps ports ports list old former other f).frame
  pub moved_is : moved + (swaps (ports - n) ports list frame former other last).moved ≡ (swaps ports ports list old former other f).moved

pub swapping_start : {ports slots former other f : ℕ} {list frame : List ℕ} → FlowFrame ports slots list frame → f < ports
    → Swapping ports slots list frame former other f frame f 0 0
swapping_start {ports} {slots} {former} {other} {f} {list} {frame} r h =
    let z : ports - 0 ≡ ports = omega arith in
    record {
      flowed = r;
      low = h;
      most = omega arith;
      few = omega arith;
      frame_is = rw z;
      moved_is = rw z (omega arith);
    }

module _ (ports slots : ℕ) (list old : List ℕ) (former other f : ℕ) (frame : List ℕ) (last moved n : ℕ)
    (g : Swapping ports slots list old former other f frame last moved n) where
  pub same_size : FlowFrame ports slots list old → length frame ≡ length old
  same_size r = g.flowed.framed.size ∙ sym r.framed.size

  pub moved_fits : {r : ℕ} (j : ℕ) → r ≡ moved_by ports frame other j → Fits w64 (moved + r)
  moved_fits j by = record { fits = omega (arith, by, moved_most (get_or frame (other * ports + j) 0), g.few, g.most, g.flowed.listed.most) }

  -- nothing is left to do
  ends : swaps (ports - n) ports list frame former other last ≡ record { frame = frame; moved = 0 }
      → (moved ≡ (swaps ports ports list old former other f).moved) × (frame ≡ (swaps ports ports list old former other f).frame)
  ends e = (omega (arith, ap (λ x. x.moved) e, g.moved_is), sym (ap (λ x. x.frame) e) ∙ g.frame_is)

  pub all_done : ports ≤ n → (moved ≡ (swaps ports ports list old former other f).moved) × (frame ≡ (swaps ports ports list old former other f).frame)
  unfolding swaps
  all_done h = let z : ports - n ≡ 0 = omega arith in ends (rw z)

  module _ {o : ℕ} (is : o ≡ output_number list (get_or frame (former * ports + last) 0)) where
    pub none_came : o ≡ 0 → (moved ≡ (swaps ports ports list old former other f).moved) × (frame ≡ (swaps ports ports list old former other f).frame)
    none_came z = ends (swaps_stop ports list frame former other last (ports - n) (sym is ∙ z))

    lowest : lowest_to ports list frame former (output_number list (get_or frame (former * ports + last) 0)) last ≡ lowest_to ports list frame former o last
    lowest = ap (λ x. lowest_to ports list frame former x last) (sym is)

    pub none_else : None ≡ found (goes_to ports list frame former o last) 0 ports
        → (moved ≡ (swaps ports ports list old former other f).moved) × (frame ≡ (swaps ports ports list old former other f).frame)
    none_else e = ends (swaps_rest ports list frame former other last (ports - n) (omega (arith, lowest, first_of (goes_to ports list frame former o last) ports 0 None e)))

    module _ {j : ℕ} (to : Some j ≡ found (goes_to ports list frame former o last) 0 ports) where
      pub else_low : j < ports
      else_low = omega (arith, (first_of (goes_to ports list frame former o last) ports 0 (Some j) to).1)

      lowest_is : lowest_to ports list frame former (output_number list (get_or frame (former * ports + last) 0)) last ≡ j
      lowest_is = lowest ∙ (first_of (goes_to ports list frame former o last) ports 0 (Some j) to).0

      module _ (some : o ≡ 0 → ⊥) (on : n < ports) (former_low : former < slots) (other_low : other < slots) where
        pub swapping_on : {r : ℕ} {new : List ℕ} → r ≡ moved_by ports frame other j → new ≡ swapped ports frame former other j
            → Swapping ports slots list old former other f new j (moved + r) (n + 1)
        swapping_on {r} {new} by put =
            let d : ports - n - 1 ≡ ports - (n + 1) = omega arith in
            let step = swaps_on ports list frame former other last (ports - n) j (omega arith) (λ z. some (is ∙ z)) lowest_is else_low in
            let entry : (s : ℕ) → s < slots → get_or frame (s * ports + j) 0 ≤ flows list = λ s h. g.flowed.each_flow (s * ports + j) (place_low g.flowed.framed h else_low) in
            rw put
            (record {
              flowed = flow_put (flow_put g.flowed (former * ports + j) _ (entry other other_low)) (other * ports + j) _ (entry former former_low);
              low = else_low;
              most = omega arith;
              few = omega (arith, g.few, by, moved_most (get_or frame (other * ports + j) 0));
              frame_is = rw d at (sym (ap (λ x. x.frame) step) ∙ g.frame_is);
              moved_is = omega (arith, by, g.moved_is, rw d at (ap (λ x. x.moved) step));
            })
