-- Every port's and every link's load, flow by flow: the cells of each are added at its input, at its output and at its link.
use Prim.Native.Nat.{ℕ, ◌+◌, ◌*◌, ◌≤◌, ◌<◌}
use mathlib.Core.Path.{◌≡◌, refl, sym, ap, ◌∙◌}
use mathlib.Core.List.{List}
use mathlib.Core.Bool.{false}
use native.Mathlib.Omega.{arith}
use native.Mathlib.Nat.{mul-le-mul_right}
use native.Mathlib.Numerals.{add-one}
use mir.Syntax.{w64}
use mir.Val.{Fits}
use lib.Dec.{eqb}
use lib.ListN.{length, get_or, set, length-set}
use lib.Seq.{get_or-set_same, get_or-set_other}
use borrow.Author.Tests.{eq-eqb, ne_eqb}
use Rattle.rules.specs.Words.{if, sum_if}
use Rattle.rules.specs.Flows.{flows, number_of, inputs, links, output_of, port_of, counts_of, Class, port_on, input, output, link, is_of, load_in, load}
use Rattle.rules.proofs.Cases.{by_eq}
use Rattle.rules.proofs.Lists.{zero_at}
use Rattle.rules.proofs.Sums.{sum_none, sum_more, sum_ext, sum_zero}
use Rattle.rules.proofs.Flows.{counts_length, counts_at}
use Rattle.checks.specs.Fits.{ListFits}
use Rattle.checks.proofs.Fits.{input_below, link_below}
use Rattle.admission.specs.declared.Loads.{Loads}
use Rattle.admission.specs.Overloads.{value_at, Given, NoLoad, EveryLoad}

-- the cells of those of the first f flows that are of port or link x of a kind
abbrev added_at : (ℕ → Class) → List ℕ → ℕ → ℕ → ℕ
added_at kind list f x = sum_if f (is_of (kind x) (port_of list)) (number_of 2 list)

-- ---- one kind: the cells of the first f flows are added
pub record Kind-summed (kind : ℕ → Class) (size : ℕ) (list : List ℕ) (f : ℕ) (sums : List ℕ) : Type 0 where
  pub len : length sums ≡ size
  pub each : (x : ℕ) → value_at sums x ≡ added_at kind list f x
  pub low : (x : ℕ) → value_at sums x ≤ f * 65535

kind_start : (kind : ℕ → Class) (size : ℕ) (list sums : List ℕ) → length sums ≡ size → ((x : ℕ) → value_at sums x ≡ 0)
    → Kind-summed kind size list 0 sums
kind_start kind size list sums len zero = record { len = len; each = λ x. zero x ∙ sym (sum_none _); low = λ x. omega (arith, zero x) }

-- what one flow more adds at a place
added_more : (kind : ℕ → Class) (list : List ℕ) (f x : ℕ)
    → added_at kind list (f + 1) x ≡ added_at kind list f x + if (is_of (kind x) (port_of list) f) (number_of 2 list f) 0
added_more kind list f x = rw (add-one f) (sum_more f (λ g. if (is_of (kind x) (port_of list) g) (number_of 2 list g) 0))

kind_on : (kind : ℕ → Class) (size : ℕ) (list sums : List ℕ) (f p cells : ℕ) → Kind-summed kind size list f sums
    → ((x : ℕ) → is_of (kind x) (port_of list) f ≡ eqb p x) → p < size → cells ≡ number_of 2 list f → cells ≤ 65535
    → Kind-summed kind size list (f + 1) (set sums p (value_at sums p + cells))
kind_on kind size list sums f p cells a at here is small =
    let sum = value_at sums p + cells in
    let own : value_at (set sums p sum) p ≡ sum = get_or-set_same sums p sum 0 (omega (arith, a.len)) in
    let other : (x : ℕ) → (x ≡ p → ⊥) → value_at (set sums p sum) x ≡ value_at sums x = λ x d. get_or-set_other sums p x sum 0 d in
    record {
      len = length-set sums p sum ∙ a.len;
      each = λ x. by_eq x p
          (λ d.
          let add : if (is_of (kind p) (port_of list) f) (number_of 2 list f) 0 ≡ cells = rw (at p, eq-eqb p p refl) (sym is) in
          rw d (omega (arith, own, a.each p, add, added_more kind list f p)))
          (λ d.
          let add : if (is_of (kind x) (port_of list) f) (number_of 2 list f) 0 ≡ 0 = rw (at x, ne_eqb p x (omega arith)) in
          omega (arith, other x d, a.each x, add, added_more kind list f x));
      low = λ x. by_eq x p (λ d. rw d (omega (arith, own, a.low p))) (λ d. omega (arith, other x d, a.low x));
    }

-- all flows are added: the sums are the loads, and 0 at a place that no flow is at
kind_end : (kind : ℕ → Class) (size places : ℕ) (list sums : List ℕ)
    → ((x f : ℕ) → places ≤ x → f < flows list → is_of (kind x) (port_of list) f ≡ false)
    → Kind-summed kind size list (flows list) sums → Given size places (λ x. load (kind x) list) sums
unfolding load_in
kind_end kind size places list sums off a =
    record {
      len = a.len;
      each = λ x h.
          a.each x
          ∙ sum_ext (flows list) _ _ (λ f l. ap (λ z. if (is_of (kind x) (port_of list) f) z 0) (sym (counts_at list f l)))
          ∙ ap (λ n. sum_if n (is_of (kind x) (port_of list)) (λ f. get_or (counts_of list) f 0)) (sym (counts_length list));
      none = λ x h. a.each x ∙ sum_zero (flows list) _ (λ f l. rw (off x f h l));
    }

-- ---- all kinds
pub record Summed (list : List ℕ) (f : ℕ) (loads : Loads) : Type 0 where
  pub most : f ≤ flows list
  pub of_inputs : Kind-summed (port_on input) 16 list f loads.inputs
  pub of_outputs : Kind-summed (port_on output) 16 list f loads.outputs
  pub of_links : Kind-summed link 64 list f loads.links

pub summed_start : {list : List ℕ} {loads : Loads} → NoLoad loads → Summed list 0 loads
summed_start {list} {loads} e =
    record {
      most = omega arith;
      of_inputs = kind_start (port_on input) 16 list loads.inputs (rw e.of_inputs) (λ x. rw e.of_inputs (zero_at 16 x));
      of_outputs = kind_start (port_on output) 16 list loads.outputs (rw e.of_outputs) (λ x. rw e.of_outputs (zero_at 16 x));
      of_links = kind_start link 64 list loads.links (rw e.of_links) (λ x. rw e.of_links (zero_at 64 x));
    }

-- one flow more
module _ {ports f : ℕ} {list : List ℕ} {loads : Loads} (l : ListFits ports list) (a : Summed list f loads) (here : f < flows list) where
  fits : (sums : List ℕ) (p : ℕ) {cells : ℕ} → cells ≤ 65535 → value_at sums p ≤ f * 65535 → Fits w64 (value_at sums p + cells)
  fits sums p small low = record { fits = omega (arith, low, small, l.few, mul-le-mul_right 65535 here) }

  pub input_fits : (p : ℕ) {cells : ℕ} → cells ≤ 65535 → Fits w64 (value_at loads.inputs p + cells)
  input_fits p small = fits loads.inputs p small (a.of_inputs.low p)

  pub output_fits : (p : ℕ) {cells : ℕ} → cells ≤ 65535 → Fits w64 (value_at loads.outputs p + cells)
  output_fits p small = fits loads.outputs p small (a.of_outputs.low p)

  pub link_fits : (p : ℕ) {cells : ℕ} → cells ≤ 65535 → Fits w64 (value_at loads.links p + cells)
  link_fits p small = fits loads.links p small (a.of_links.low p)

  pub summed_on : {i o x cells : ℕ} → i ≡ port_of list inputs f → o ≡ output_of (port_of list links f) → x ≡ port_of list links f → cells ≡ number_of 2 list f
      → (i < ports) × (o < ports) × (x < ports * 4) × (ports ≤ 16) × (cells ≤ 65535)
      → Summed list (f + 1) (record {
        inputs = set loads.inputs i (value_at loads.inputs i + cells);
        outputs = set loads.outputs o (value_at loads.outputs o + cells);
        links = set loads.links x (value_at loads.links x + cells);
      })
  summed_on {i} {o} {x} {cells} at_input at_output at_link is low =
      record {
        most = omega arith;
        of_inputs = kind_on (port_on input) 16 list loads.inputs f i cells a.of_inputs (λ z. ap (λ w. eqb w z) (sym at_input)) (omega (arith, low.0, low.3)) is low.4;
        of_outputs = kind_on (port_on output) 16 list loads.outputs f o cells a.of_outputs (λ z. ap (λ w. eqb w z) (sym at_output)) (omega (arith, low.1, low.3)) is low.4;
        of_links = kind_on link 64 list loads.links f x cells a.of_links (λ z. ap (λ w. eqb w z) (sym at_link)) (omega (arith, low.2, low.3)) is low.4;
      }

pub summed_end : {ports f : ℕ} {list : List ℕ} {loads : Loads} → ListFits ports list → Summed list f loads → flows list ≤ f → EveryLoad ports list loads
summed_end {ports} {f} {list} {loads} t a h =
    let e : f ≡ flows list = omega (arith, a.most) in
    record {
      of_inputs = kind_end (port_on input) 16 ports list loads.inputs
          (λ x g l k. ne_eqb (port_of list inputs g) x (omega (arith, input_below t g k))) (rw e at a.of_inputs);
      of_outputs = kind_end (port_on output) 16 ports list loads.outputs
          (λ x g l k. ne_eqb (output_of (port_of list links g)) x (omega (arith, link_below t g k))) (rw e at a.of_outputs);
      of_links = kind_end link 64 (ports * 4) list loads.links
          (λ x g l k. ne_eqb (port_of list links g) x (omega (arith, link_below t g k))) (rw e at a.of_links);
    }
