-- Like counts of two tallies that differ by more than 1.
use Prim.Native.Nat.{ℕ, suc, zero, ◌+◌, ◌*◌, ◌≤◌, ◌<◌}
use mathlib.Core.Path.{◌≡◌, refl, sym, ap, ap₂, ◌∙◌}
use mathlib.Core.List.{List, [], ◌∷◌}
use mathlib.Core.Bool.{Bool, true, false, not, ◌||◌, true≢false}
use native.Mathlib.Omega.{arith}
use lib.ListN.{length, get_or, take, length-take}
use lib.Seq.{get_or-take}
use borrow.Author.Tests.{not-true}
use Rattle.rules.specs.Words.{near}
use Rattle.rules.specs.Flows.{flows, Class, flow, port_on, input, output, link, total}
use Rattle.rules.specs.Frames.{run_of}
use Rattle.rules.proofs.Cases.{by_bool}
use Rattle.rules.proofs.Flows.{map_length}
use Rattle.calls.specs.Inspect.{unbalanced}
use Rattle.calls.proofs.Inspected.{InList, near_for, unbalanced_yes, unbalanced_no}
use Rattle.checks.specs.Fits.{ListFits}
use Rattle.tally.specs.declared.Tally.{Tally}
use Rattle.tally.specs.Tally.{flow_cells, tally_of, number_in}
use Rattle.tally.proofs.Tallies.{tally_class}
use Rattle.balance.specs.Balance.{any_far}

far_at : (a b : List ℕ) → any_far a b ≡ true → (x : ℕ) × (x < length a) × (x < length b) × (not (near 1 (get_or a x 0) (get_or b x 0)) ≡ true)
far_at [] b e = absurd (true≢false (sym e))
far_at (x ∷ a) [] e = absurd (true≢false (sym e))
far_at (x ∷ a) (y ∷ b) e =
    by_bool (near 1 x y)
    (λ n. let r = far_at a b (rw n at e) in (suc r.0, omega (arith, r.1), omega (arith, r.2), r.3))
    (λ n. (0, omega arith, omega arith, ap not n))

near_at : (a b : List ℕ) → any_far a b ≡ false → (x : ℕ) → x < length a → x < length b → near 1 (get_or a x 0) (get_or b x 0) ≡ true
near_at [] b e x h k = absurd (omega arith)
near_at (y ∷ a) [] e x h k = absurd (omega arith)
near_at (y ∷ a) (z ∷ b) e zero h k = by_bool (near 1 y z) (λ n. n) (λ n. absurd (true≢false (rw n at e)))
near_at (y ∷ a) (z ∷ b) e (suc x) h k =
    by_bool (near 1 y z) (λ n. near_at a b (rw n at e) x (omega arith) (omega arith)) (λ n. absurd (true≢false (rw n at e)))

-- the same of the first n of two lists
far_of : (n : ℕ) (v w : List ℕ) → any_far (take n v) (take n w) ≡ true → (x : ℕ) × (x < n) × (not (near 1 (get_or v x 0) (get_or w x 0)) ≡ true)
far_of n v w e =
    let r = far_at (take n v) (take n w) e in
    let low : r.0 < n = omega (arith, r.1, length-take n v) in
    (r.0, low, ap not (ap₂ (near 1) (sym (get_or-take n v r.0 0 low)) (sym (get_or-take n w r.0 0 low))) ∙ r.3)

near_of : (n : ℕ) (v w : List ℕ) → any_far (take n v) (take n w) ≡ false → n ≤ length v → n ≤ length w → (x : ℕ) → x < n → near 1 (get_or v x 0) (get_or w x 0) ≡ true
near_of n v w e h k x l =
    ap₂ (near 1) (sym (get_or-take n v x 0 l)) (sym (get_or-take n w x 0 l)) ∙ near_at (take n v) (take n w) e x (omega (arith, length-take n v)) (omega (arith, length-take n w))

either : {P : Type 0} (r s : Bool) → (r || s) ≡ true → (r ≡ true → P) → (s ≡ true → P) → P
either true s e f g = f refl
either false s e f g = g e

neither : (r s : Bool) → (r || s) ≡ false → (r ≡ false) × (s ≡ false)
neither true s e = absurd (true≢false e)
neither false s e = (refl, e)

pub or_then : (b : Bool) {v r : Bool} → v ≡ true → r ≡ true → v ≡ (r || b)
or_then b e f = rw (e, f)

pub or_else : {v r s b : Bool} → v ≡ s → r ≡ false → s ≡ b → v ≡ (r || b)
or_else e f g = rw (e, f) g

record Sized (t : Tally) : Type 0 where
  pub flows_long : length t.flows ≡ 512
  pub inputs_long : length t.inputs ≡ 16
  pub outputs_long : length t.outputs ≡ 16
  pub links_long : length t.links ≡ 64

sized : (list entries : List ℕ) {t : Tally} → t ≡ tally_of list entries → Sized t
unfolding tally_of
sized list entries e =
    record {
      flows_long = ap (λ (t : Tally). length t.flows) e ∙ map_length (λ x. flow_cells list (flow x) entries) 0 512;
      inputs_long = ap (λ (t : Tally). length t.inputs) e ∙ map_length (λ x. flow_cells list (port_on input x) entries) 0 16;
      outputs_long = ap (λ (t : Tally). length t.outputs) e ∙ map_length (λ x. flow_cells list (port_on output x) entries) 0 16;
      links_long = ap (λ (t : Tally). length t.links) e ∙ map_length (λ x. flow_cells list (link x) entries) 0 64;
    }

-- the tallies of the two halves of a block
module _ (ports start half : ℕ) {list : List ℕ} (frame : List ℕ) {a b : Tally} (l : ListFits ports list) (front : a ≡ tally_of list (run_of ports start half frame))
    (back : b ≡ tally_of list (run_of ports (start + half) half frame)) where
  abbrev out : Bool
  out = unbalanced (flow_cells list) ports list frame start half

  numbers : (c : Class) → InList ports list c → near 1 (number_in a c) (number_in b c) ≡ near_for (flow_cells list) ports list frame start half c
  numbers c of = ap₂ (near 1) (tally_class (run_of ports start half frame) l front c of) (tally_class (run_of ports (start + half) half frame) l back c of)

  class_far : (c : Class) → InList ports list c → not (near 1 (number_in a c) (number_in b c)) ≡ true → true ≡ out
  class_far c of e = sym (unbalanced_yes (flow_cells list) ports list frame start half c of (sym (numbers c of) ∙ not-true _ e))

  pub flows_far : (n : ℕ) → n ≡ flows list → any_far (take n a.flows) (take n b.flows) ≡ true → true ≡ out
  flows_far n d e = let r = far_of n a.flows b.flows e in class_far (flow r.0) (omega (arith, r.1)) r.2

  pub inputs_far : any_far (take ports a.inputs) (take ports b.inputs) ≡ true → true ≡ out
  inputs_far e = let r = far_of ports a.inputs b.inputs e in class_far (port_on input r.0) r.1 r.2

  pub outputs_far : any_far (take ports a.outputs) (take ports b.outputs) ≡ true → true ≡ out
  outputs_far e = let r = far_of ports a.outputs b.outputs e in class_far (port_on output r.0) r.1 r.2

  pub links_far : any_far (take (ports * 4) a.links) (take (ports * 4) b.links) ≡ true → true ≡ out
  links_far e = let r = far_of (ports * 4) a.links b.links e in class_far (link r.0) r.1 r.2

  -- and where none are, the totals decide
  pub totals_tell : (n : ℕ) → n ≡ flows list → any_far (take n a.flows) (take n b.flows) ≡ false → any_far (take ports a.inputs) (take ports b.inputs) ≡ false
      → any_far (take ports a.outputs) (take ports b.outputs) ≡ false → any_far (take (ports * 4) a.links) (take (ports * 4) b.links) ≡ false → not (near 1 a.total b.total) ≡ out
  totals_tell n d fs is os xs =
      by_bool (near 1 a.total b.total)
      (λ e. ap not e ∙ sym (unbalanced_no (flow_cells list) ports list frame start half (λ c of. sym (numbers c of) ∙ near_class e c of)))
      (λ e. ap not e ∙ class_far total tt (ap not e))
    where
      near_class : near 1 a.total b.total ≡ true → (c : Class) → InList ports list c → near 1 (number_in a c) (number_in b c) ≡ true
      near_class e (flow f) of = near_of n a.flows b.flows fs (omega (arith, l.few, (sized list (run_of ports start half frame) front).flows_long)) (omega (arith, l.few, (sized list (run_of ports (start + half) half frame) back).flows_long)) f (omega arith)
      near_class e (port_on input i) of = near_of ports a.inputs b.inputs is (omega (arith, l.most, (sized list (run_of ports start half frame) front).inputs_long)) (omega (arith, l.most, (sized list (run_of ports (start + half) half frame) back).inputs_long)) i of
      near_class e (port_on output o) of = near_of ports a.outputs b.outputs os (omega (arith, l.most, (sized list (run_of ports start half frame) front).outputs_long)) (omega (arith, l.most, (sized list (run_of ports (start + half) half frame) back).outputs_long)) o of
      near_class e (link x) of = near_of (ports * 4) a.links b.links xs (omega (arith, l.most, (sized list (run_of ports start half frame) front).links_long)) (omega (arith, l.most, (sized list (run_of ports (start + half) half frame) back).links_long)) x of
      near_class e total of = e

  -- the comparisons one after the other, the flows, inputs, outputs and links of the first n, or as many as there are, being far or not
  module _ (n : ℕ) (d : n ≡ flows list) {v w x : Bool} (two : v ≡ (any_far (take n a.flows) (take n b.flows) || any_far (take ports a.inputs) (take ports b.inputs)))
      (three : w ≡ (v || any_far (take ports a.outputs) (take ports b.outputs))) (four : x ≡ (w || any_far (take (ports * 4) a.links) (take (ports * 4) b.links))) where
    pub some_tell : x ≡ true → x ≡ out
    some_tell e =
        e ∙ either w _ (sym four ∙ e)
        (λ f. either v _ (sym three ∙ f) (λ g. either _ _ (sym two ∙ g) (flows_far n d) inputs_far) outputs_far)
        links_far

    pub last_tell : x ≡ false → {r : Bool} → r ≡ not (near 1 a.total b.total) → r ≡ out
    last_tell e r =
        let p = neither w _ (sym four ∙ e) in
        let q = neither v _ (sym three ∙ p.0) in
        let o = neither _ _ (sym two ∙ q.0) in
        r ∙ totals_tell n d o.0 o.1 q.1 p.1
