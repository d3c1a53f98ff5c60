-- A list with other cells for one flow: everything else is as it was.
use Prim.Native.Nat.{ℕ, ◌+◌, ◌*◌, ◌-◌, ◌/◌, ◌%◌, ◌<◌}
use mathlib.Core.Path.{◌≡◌, refl, sym, ap, ap₂, ◌∙◌}
use mathlib.Core.Logic.{◌≢◌}
use mathlib.Core.List.{List}
use mathlib.Core.Bool.{Bool, true, not}
use native.Mathlib.Omega.{arith}
use lib.Dec.{eqb}
use lib.ListN.{length, get_or, length-set}
use lib.Seq.{get_or-set_same, get_or-set_other}
use Rattle.rules.specs.Words.{if, both, bit, within, sum_to}
use Rattle.rules.specs.Flows.{stride, flows, number_of, End, inputs, links, output_of, port_of, counts_of, with_cells, Side, input, output, same, Class, flow, port_on, link, total, is_of, load_in, load}
use Rattle.rules.specs.Frames.{is_flow_of, right_on, counts_on, cells_on}
use Rattle.rules.proofs.Sums.{sum_ext, sum_at}
use Rattle.rules.proofs.Flows.{counts_length, counts_at}
use Rattle.rules.proofs.Halves.{load_flow}

module _ (list : List ℕ) (f cells : ℕ) where
  abbrev new : List ℕ
  new = with_cells list f cells

  pub with_flows : flows (with_cells list f cells) ≡ flows list
  unfolding with_cells
  with_flows = ap (λ n. n / stride) (length-set list (f * stride + 2) cells)

  pub with_length : length (with_cells list f cells) ≡ length list
  unfolding with_cells
  with_length = length-set list (f * stride + 2) cells

  -- no number but its cells is another
  pub with_number : (place g : ℕ) → place < stride → (place ≡ 2 → g ≢ f) → number_of place (with_cells list f cells) g ≡ number_of place list g
  unfolding with_cells
  with_number place g low apart = get_or-set_other list (f * stride + 2) (g * stride + place) cells 0 (λ q. apart (omega arith) (omega arith))

  pub with_here : f < flows list → number_of 2 (with_cells list f cells) f ≡ cells
  unfolding with_cells
  with_here h = get_or-set_same list (f * stride + 2) cells 0 (omega arith)

  pub with_port : (end : End) (g : ℕ) → port_of (with_cells list f cells) end g ≡ port_of list end g
  unfolding port_of
  with_port inputs g = ap (λ n. n - 1) (with_number 0 g (omega arith) (λ q. absurd (omega arith)))
  with_port links g =
      ap₂ (λ (o l : ℕ). (o - 1) * 4 + (l - 1)) (with_number 1 g (omega arith) (λ q. absurd (omega arith))) (with_number 3 g (omega arith) (λ q. absurd (omega arith)))

  -- so a flow is of the class that it was of, and an entry counts for what it counted for
  pub with_class : (c : Class) (g : ℕ) → is_of c (port_of (with_cells list f cells)) g ≡ is_of c (port_of list) g
  with_class (flow x) g = refl
  with_class (port_on input x) g = ap (λ n. eqb n x) (with_port inputs g)
  with_class (port_on output x) g = ap (λ n. eqb (output_of n) x) (with_port links g)
  with_class (link x) g = ap (λ n. eqb n x) (with_port links g)
  with_class total g = refl

  flow_same : (c : Class) (e : ℕ) → is_flow_of c (with_cells list f cells) e ≡ is_flow_of c list e
  flow_same c e = ap₂ both (ap (λ n. within 1 n e) with_flows) (with_class c (e - 1))

  pub with_right : (side : Side) (at e : ℕ) → right_on side (with_cells list f cells) at e ≡ right_on side list at e
  with_right side at e = ap (λ (b : Bool). if (eqb e 0) true b) (flow_same (port_on side at) e)

  counts_same : (side : Side) (c : Class) (at e : ℕ) → counts_on side c (with_cells list f cells) at e ≡ counts_on side c list at e
  counts_same side (flow x) at e = flow_same (flow x) e
  counts_same side (port_on s x) at e = ap (λ (b : Bool). if (same side s) (both (eqb at x) (not (eqb e 0))) b) (flow_same (port_on s x) e)
  counts_same side (link x) at e = flow_same (link x) e
  counts_same side total at e = flow_same total e

  pub with_counted : (side : Side) (ports : ℕ) (c : Class) (entries : List ℕ) → cells_on side ports (with_cells list f cells) c entries ≡ cells_on side ports list c entries
  unfolding cells_on
  with_counted side ports c entries = sum_ext (length entries) _ _ (λ q _. ap bit (counts_same side c (q % ports) (get_or entries q 0)))

  -- ---- loads
  pub flow_load : (g : ℕ) → g < flows list → g ≢ f → load (flow g) (with_cells list f cells) ≡ load (flow g) list
  flow_load g h n =
      load_flow g (port_of new) (counts_of new)
      ∙ counts_at new g (omega (arith, with_flows))
      ∙ with_number 2 g (omega arith) (λ _. n)
      ∙ sym (load_flow g (port_of list) (counts_of list) ∙ counts_at list g h)

  module _ (h : f < flows list) where
    pub own_load : load (flow f) (with_cells list f cells) ≡ cells
    own_load = load_flow f (port_of new) (counts_of new) ∙ counts_at new f (omega (arith, with_flows)) ∙ with_here h

    -- the load of a class differs by the cells of the flow, if that is of the class
    pub with_load : (c : Class)
        → load c (with_cells list f cells) + if (is_of c (port_of list) f) (load (flow f) list) 0 ≡ load c list + if (is_of c (port_of list) f) cells 0
    unfolding load_in
    with_load c =
        ap (λ n. load_in c (port_of new) (counts_of new) + if (is_of c (port_of list) f) n 0) (load_flow f (port_of list) (counts_of list))
        ∙ ap (λ n. n + if (is_of c (port_of list) f) (get_or (counts_of list) f 0) 0) as_before
        ∙ sum_at (flows list) f (λ g. if (is_of c (port_of list) g) (get_or (counts_of new) g 0) 0) (λ g. if (is_of c (port_of list) g) (get_or (counts_of list) g 0) 0) h
        (λ g l n. ap (λ x. if (is_of c (port_of list) g) x 0) (sym (load_flow g (port_of new) (counts_of new)) ∙ flow_load g l n ∙ load_flow g (port_of list) (counts_of list)))
        ∙ ap (λ n. sum_to (flows list) (λ g. if (is_of c (port_of list) g) (get_or (counts_of list) g 0) 0) + if (is_of c (port_of list) f) n 0)
        (sym (load_flow f (port_of new) (counts_of new)) ∙ own_load)
        ∙ ap (λ n. sum_to n (λ g. if (is_of c (port_of list) g) (get_or (counts_of list) g 0) 0) + if (is_of c (port_of list) f) cells 0) (sym (counts_length list))
      where
        as_before : load_in c (port_of new) (counts_of new) ≡ sum_to (flows list) (λ g. if (is_of c (port_of list) g) (get_or (counts_of new) g 0) 0)
        as_before =
            ap (λ n. sum_to n (λ g. if (is_of c (port_of new) g) (get_or (counts_of new) g 0) 0)) (counts_length new ∙ with_flows)
            ∙ sum_ext (flows list) _ _ (λ g _. ap (λ (b : Bool). if b (get_or (counts_of new) g 0) 0) (with_class c g))
