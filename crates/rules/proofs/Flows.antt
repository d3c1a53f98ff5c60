-- Flows: the counts of a list, one for each flow, and what an entry counts for.
use Prim.Native.Nat.{ℕ, suc, zero, ◌+◌, ◌*◌, ◌-◌, ◌%◌, ◌≤◌, ◌<◌}
use mathlib.Core.Path.{◌≡◌, refl, sym, ap, ◌∙◌}
use mathlib.Core.List.{List, map}
use mathlib.Core.Bool.{true, false, not}
use native.Mathlib.Omega.{arith}
use lib.Dec.{eqb}
use lib.ListN.{length, get_or}
use borrow.Author.Tests.{eqb-true, eq-eqb, ne_eqb}
use Rattle.rules.specs.Words.{if, both, bit, up_from, sum_if, Within}
use Rattle.rules.specs.Flows.{flows, number_of, End, links, output_of, port_of, counts_of, Side, other, same, on_side, Class, flow, port_on, input, output, link, total, is_of, load_in, OnSwitch}
use Rattle.rules.specs.Frames.{is_flow, is_flow_of, right_on, counts_on, cells_on}
use Rattle.rules.proofs.Cases.{by_bool, by_eq, both_true, is_yes, is_no, within_yes, within_above, within_true}
use Rattle.rules.proofs.Sums.{sum_ext, sum_le, sum_zero, sum_one, sum_swap}

-- ---- the counts of a list
pub map_length : (f : ℕ → ℕ) (a n : ℕ) → length (map f (up_from a n)) ≡ n
map_length f a zero = refl
map_length f a (suc n) = ap suc (map_length f (suc a) n)

pub map_at : (f : ℕ → ℕ) (a n i : ℕ) → i < n → get_or (map f (up_from a n)) i 0 ≡ f (a + i)
map_at f a zero i h = absurd (omega arith)
map_at f a (suc n) zero h = ap f (omega arith)
map_at f a (suc n) (suc i) h = map_at f (suc a) n i (omega arith) ∙ ap f (omega arith)

pub counts_length : (list : List ℕ) → length (counts_of list) ≡ flows list
unfolding counts_of
counts_length list = map_length (number_of 2 list) 0 (flows list)

pub counts_at : (list : List ℕ) (f : ℕ) → f < flows list → get_or (counts_of list) f 0 ≡ number_of 2 list f
unfolding counts_of
counts_at list f h = map_at (number_of 2 list) 0 (flows list) f h ∙ ap (number_of 2 list) (omega arith)

-- ---- the output of a flow
-- the link of a flow whose link's number is 1 to 4 is one of its output's
pub output_is : (list : List ℕ) (f : ℕ) → Within 1 4 (number_of 3 list f) → output_of (port_of list links f) ≡ number_of 1 list f - 1
unfolding port_of
output_is list f w = omega (arith, w.0, w.1)

-- the links of a switch are of its outputs
pub output_low : (ports x : ℕ) → x < ports * 4 → output_of x < ports
output_low ports x h = omega arith

-- the total is of every switch
pub total_on : (ports : ℕ) → OnSwitch ports total
total_on ports = omega arith

-- the four links of each output of the switch are links of the switch
pub links_on : (ports o l : ℕ) → o < ports → l < 4 → OnSwitch ports (link (o * 4 + l))
links_on ports o l h k = omega arith

-- no link has a load above that of its output
pub link_under : (x : ℕ) (port : End → ℕ → ℕ) (m : List ℕ) → load_in (link x) port m ≤ load_in (port_on output (output_of x)) port m
unfolding load_in
link_under x port m =
    let has : Class → ℕ → ℕ = λ c f. if (is_of c port f) (get_or m f 0) 0 in
    sum_le (length m) (has (link x)) (has (port_on output (output_of x))) (λ f _. by_eq (port links f) x
    (λ e.
    let own : has (port_on output (output_of x)) f ≡ get_or m f 0 = rw (eq-eqb (output_of (port links f)) (output_of x) (ap output_of e)) in
    let part : has (link x) f ≡ get_or m f 0 = rw (eq-eqb (port links f) x e) in
    omega (arith, own, part))
    (λ e. let none : has (link x) f ≡ 0 = rw (ne_eqb (port links f) x e) in omega (arith, none)))

-- ---- an entry
-- the two sides
pub same_side : (s : Side) → same s s ≡ true
same_side input = refl
same_side output = refl

pub other_side : (s : Side) → same s (other s) ≡ false
other_side input = refl
other_side output = refl

pub other_twice : (s : Side) → other (other s) ≡ s
other_twice input = refl
other_twice output = refl

module _ (list : List ℕ) where
  -- an entry that is a flow of a class
  pub is_flow_of_class : (c : Class) (f : ℕ) → f < flows list → is_flow_of c list (suc f) ≡ is_of c (port_of list) f
  is_flow_of_class c f h =
      let d : suc f - 1 ≡ f = omega arith in
      rw (within_yes 1 (flows list) (suc f) (omega arith) h, d)

  -- and one that is a flow of none
  pub no_flow : (c : Class) (e : ℕ) → flows list < e → is_flow_of c list e ≡ false
  no_flow c e h = rw (within_above 1 (flows list) e (omega arith) h)

module _ (side : Side) (list : List ℕ) where
  -- a right entry is 0 or the number of a flow of its port
  pub by_entry : {P : Type 0} (at e : ℕ) → right_on side list at e ≡ true → (e ≡ 0 → P)
      → ((f : ℕ) → f < flows list → e ≡ suc f → on_side side (port_of list) f ≡ at → P) → P
  by_entry at zero r idle own = idle refl
  by_entry at (suc f) r idle own =
      let b = both_true (is_flow list (suc f)) (is_of (port_on side at) (port_of list) (suc f - 1)) (rw (ne_eqb (suc f) 0 (omega arith)) at r) in
      let w = within_true 1 (flows list) (suc f) b.0 in
      let e : suc f - 1 ≡ f = omega arith in
      own f w.1 refl (ap (on_side side (port_of list)) (sym e) ∙ eqb-true (on_side side (port_of list) (suc f - 1)) at b.1)

  pub right_flow : (at f : ℕ) → f < flows list → on_side side (port_of list) f ≡ at → right_on side list at (suc f) ≡ true
  right_flow at f h e = rw (ne_eqb (suc f) 0 (omega arith), is_flow_of_class list (port_on side at) f h) (eq-eqb (on_side side (port_of list) f) at e)

  -- an idle entry counts for nothing
  pub idle_counts : (c : Class) (at : ℕ) → counts_on side c list at 0 ≡ false
  idle_counts (flow f) at = refl
  idle_counts (port_on s x) at = by_bool (same side s) (λ e. rw e (by_bool (eqb at x) (λ d. rw d) (λ d. rw d))) (λ e. rw e)
  idle_counts (link x) at = refl
  idle_counts total at = refl

  -- a flow of the port where it stands counts for the classes that the flow is of
  pub own_counts : (c : Class) (at f : ℕ) → f < flows list → on_side side (port_of list) f ≡ at → counts_on side c list at (suc f) ≡ is_of c (port_of list) f
  own_counts (flow g) at f h e = is_flow_of_class list (flow g) f h
  own_counts (port_on s x) at f h e = counts_by_side side s e
    where
      own : (s : Side) → on_side s (port_of list) f ≡ at → both (eqb at x) (not (eqb (suc f) 0)) ≡ is_of (port_on s x) (port_of list) f
      own s e = rw (e, ne_eqb (suc f) 0 (omega arith)) (by_bool (eqb at x) (λ d. rw d) (λ d. rw d))

      counts_by_side : (side s : Side) → on_side side (port_of list) f ≡ at → counts_on side (port_on s x) list at (suc f) ≡ is_of (port_on s x) (port_of list) f
      counts_by_side input input e = own input e
      counts_by_side input output e = is_flow_of_class list (port_on output x) f h
      counts_by_side output input e = is_flow_of_class list (port_on input x) f h
      counts_by_side output output e = own output e
  own_counts (link x) at f h e = is_flow_of_class list (link x) f h
  own_counts total at f h e = is_flow_of_class list total f h

  -- so a right entry counts for a class by its flow alone, on either side
  pub right_counts : (c : Class) (at e : ℕ) → right_on side list at e ≡ true → counts_on side c list at e ≡ is_flow_of c list e
  right_counts c at e r =
      by_entry at e r (λ z. rw (z, idle_counts c at)) (λ f h z p. rw (z, own_counts c at f h p, is_flow_of_class list c f h))

  -- which is through the flow that it is
  entry_counts : (c : Class) (at e : ℕ) → right_on side list at e ≡ true
      → bit (counts_on side c list at e) ≡ sum_if (flows list) (is_of c (port_of list)) (λ f. bit (eqb e (suc f)))
  entry_counts c at e r =
      by_entry at e r
      (λ z. rw (z, idle_counts c at) (sym (sum_zero (flows list) _ (λ f h. by_bool (is_of c (port_of list) f) (λ b. rw b (is_no 0 (suc f) (omega arith))) (λ b. rw b)))))
      (λ f h z p.
      rw (z, own_counts c at f h p)
      (sym (sum_one (flows list) f _ h
      (λ g l n. by_bool (is_of c (port_of list) g) (λ b. rw b (is_no (suc f) (suc g) (omega arith))) (λ b. rw b))
      ∙ by_bool (is_of c (port_of list) f) (λ b. rw b (is_yes (suc f) (suc f) refl)) (λ b. rw b))))

  -- whether an entry counts for a flow of the list goes by its number alone, wherever it stands
  pub flow_counts : (f at e : ℕ) → f < flows list → bit (counts_on side (flow f) list at e) ≡ bit (eqb e (suc f))
  flow_counts f at e h =
      by_eq e (suc f)
      (λ d. rw (d, is_flow_of_class list (flow f) f h) (is_yes f f refl ∙ sym (is_yes (suc f) (suc f) refl)))
      (λ d. by_bool (is_flow list e)
      (λ b. let w = within_true 1 (flows list) e b in rw b (is_no (e - 1) f (omega arith) ∙ sym (is_no e (suc f) d)))
      (λ b. rw b (sym (is_no e (suc f) d))))

  -- for one that is not in the list, none does
  not_flow : (f at e : ℕ) → flows list ≤ f → bit (counts_on side (flow f) list at e) ≡ 0
  not_flow f at e h =
      by_bool (is_flow list e)
      (λ b. let w = within_true 1 (flows list) e b in rw b (is_no (e - 1) f (omega arith)))
      (λ b. rw b)

  pub cells_not : (f ports : ℕ) (entries : List ℕ) → flows list ≤ f → cells_on side ports list (flow f) entries ≡ 0
  unfolding cells_on
  cells_not f ports entries h = sum_zero (length entries) _ (λ q _. not_flow f (q % ports) (get_or entries q 0) h)

-- ---- a class is its flows: what is exact for each flow is exact for every class
module _ (side : Side) (ports : ℕ) (list entries : List ℕ) (each : (q : ℕ) → q < length entries → right_on side list (q % ports) (get_or entries q 0) ≡ true) where
  cells_flows : (c : Class) → cells_on side ports list c entries ≡ sum_if (flows list) (is_of c (port_of list)) (λ f. cells_on side ports list (flow f) entries)
  unfolding cells_on
  cells_flows c =
      sum_ext (length entries) _ _ (λ q h. entry_counts side list c (q % ports) (get_or entries q 0) (each q h))
      ∙ sum_swap (length entries) (flows list) (λ q f. if (is_of c (port_of list) f) (bit (eqb (get_or entries q 0) (suc f))) 0)
      ∙ sum_ext (flows list) _ _ (λ f h. by_bool (is_of c (port_of list) f)
      (λ b. rw b (sym (sum_ext (length entries) _ _ (λ q _. flow_counts side list f (q % ports) (get_or entries q 0) h))))
      (λ b. rw b (sum_zero (length entries) _ (λ q _. refl))))

  pub exact_all : (m : List ℕ) → length m ≡ flows list → ((f : ℕ) → f < flows list → cells_on side ports list (flow f) entries ≡ get_or m f 0)
      → (c : Class) → cells_on side ports list c entries ≡ load_in c (port_of list) m
  unfolding load_in
  exact_all m size exact c =
      cells_flows c
      ∙ sum_ext (flows list) _ _ (λ f h. by_bool (is_of c (port_of list) f) (λ b. rw b (exact f h)) (λ b. rw b))
      ∙ ap (λ n. sum_if n (is_of c (port_of list)) (λ f. get_or m f 0)) (sym size)
