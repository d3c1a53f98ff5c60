-- Tallies: one entry more, a run, and what a tally has for each class.
use Prim.Native.Nat.{ℕ, suc, ◌+◌, ◌-◌, ◌*◌, ◌≤◌, ◌<◌}
use mathlib.Core.Path.{◌≡◌, refl, sym, ap, ◌∙◌}
use mathlib.Core.List.{List, map}
use mathlib.Core.Logic.{◌≢◌}
use native.Mathlib.Omega.{arith}
use native.Mathlib.Nat.{mul-le-mul_right}
use native.Mathlib.Numerals.{add-one}
use mir.Syntax.{w16}
use mir.Val.{Fits}
use lib.Dec.{eqb}
use lib.ListN.{length, get_or, set, take, drop, length-set, length-replicate}
use lib.Seq.{get_or-set_same, get_or-set_other, get_or-take, get_or-drop, ext_get_or}
use Rattle.rules.specs.Words.{bit, up_from, sum_to}
use Rattle.rules.specs.Flows.{flows, inputs, links, output_of, port_of, Class, flow, port_on, input, output, link, total}
use Rattle.rules.specs.Frames.{is_flow_of, run_of}
use Rattle.rules.proofs.Cases.{by_bool, by_eq, is_yes, is_no}
use Rattle.rules.proofs.Sums.{sum_none, sum_more, sum_most}
use Rattle.rules.proofs.Lists.{zero_at}
use Rattle.rules.proofs.Flows.{map_length, map_at, is_flow_of_class}
use Rattle.rules.proofs.Cells.{run_length}
use Rattle.calls.proofs.Inspected.{InList}
use Rattle.checks.specs.Fits.{ListFits, FlowFrame}
use Rattle.checks.proofs.Fits.{entries_most}
use Rattle.tally.specs.declared.Tally.{Tally}
use Rattle.tally.specs.Tally.{flow_cells, nothing, tally_of, Placed, number_in}

-- ---- what a tally has for each class
pub in_place : {ports : ℕ} {list : List ℕ} → ListFits ports list → (c : Class) → InList ports list c → Placed c
in_place l (flow f) of = omega (arith, l.few)
in_place l (port_on input i) of = omega (arith, l.most)
in_place l (port_on output o) of = omega (arith, l.most)
in_place l (link x) of = omega (arith, l.most)
in_place l total of = tt

number_at : (n : ℕ) (g : ℕ → ℕ) (x : ℕ) → x < n → get_or (map g (up_from 0 n)) x 0 ≡ g x
number_at n g x h = map_at g 0 n x h ∙ ap g (omega arith)

pub tally_number : (list entries : List ℕ) (c : Class) → Placed c → number_in (tally_of list entries) c ≡ flow_cells list c entries
unfolding tally_of
tally_number list entries (flow f) h = omega (arith, number_at 512 (λ f. flow_cells list (flow f) entries) f h)
tally_number list entries (port_on input i) h = number_at 16 (λ i. flow_cells list (port_on input i) entries) i h
tally_number list entries (port_on output o) h = number_at 16 (λ o. flow_cells list (port_on output o) entries) o h
tally_number list entries (link x) h = number_at 64 (λ x. flow_cells list (link x) entries) x h
tally_number list entries total h = refl

pub tally_class : {ports : ℕ} {list : List ℕ} (entries : List ℕ) {t : Tally} → ListFits ports list → t ≡ tally_of list entries → (c : Class) → InList ports list c
    → number_in t c ≡ flow_cells list c entries
tally_class {list = list} entries l e c of = ap (λ t. number_in t c) e ∙ tally_number list entries c (in_place l c of)

-- ---- the first n entries of a run counted
pub record Counted (list run : List ℕ) (n : ℕ) (t : Tally) : Type 0 where
  pub flows_long : length t.flows ≡ 512
  pub inputs_long : length t.inputs ≡ 16
  pub outputs_long : length t.outputs ≡ 16
  pub links_long : length t.links ≡ 64
  pub each : (c : Class) → Placed c → number_in t c ≡ sum_to n (λ i. bit (is_flow_of c list (get_or run i 0)))

nothing_in : (c : Class) → number_in nothing c ≡ 0
nothing_in (flow f) = zero_at 512 f
nothing_in (port_on input i) = zero_at 16 i
nothing_in (port_on output o) = zero_at 16 o
nothing_in (link x) = zero_at 64 x
nothing_in total = refl

pub counted_start : (list run : List ℕ) → Counted list run 0 nothing
counted_start list run =
    record {
      flows_long = length-replicate {A = ℕ} 512 0;
      inputs_long = length-replicate {A = ℕ} 16 0;
      outputs_long = length-replicate {A = ℕ} 16 0;
      links_long = length-replicate {A = ℕ} 64 0;
      each = λ c _. nothing_in c ∙ sym (sum_none (λ i. bit (is_flow_of c list (get_or run i 0))));
    }

module _ {list run : List ℕ} {n : ℕ} {t : Tally} (k : Counted list run n t) where
  -- none is above the number of entries
  counted_most : (c : Class) → Placed c → number_in t c ≤ n
  counted_most c h =
      let test = λ (i : ℕ). is_flow_of c list (get_or run i 0) in
      let m = sum_most n 1 (λ i. bit (test i)) (λ i _. by_bool (test i) (λ e. rw e (omega arith)) (λ e. rw e (omega arith))) in
      omega (arith, k.each c h)

  pub counted_fits : n < 16384 → (c : Class) → Placed c → Fits w16 (number_in t c + 1)
  counted_fits l c h = record { fits = omega (arith, counted_most c h) }

  one_more : (c : Class) → Placed c → {v : ℕ} → v ≡ number_in t c + bit (is_flow_of c list (get_or run n 0)) → v ≡ sum_to (n + 1) (λ i. bit (is_flow_of c list (get_or run i 0)))
  one_more c h e =
      let f : ℕ → ℕ = λ i. bit (is_flow_of c list (get_or run i 0)) in
      omega (arith, e, k.each c h, sum_more n f, ap (λ z. sum_to z f) (add-one n))

  pub counted_idle : get_or run n 0 ≡ 0 → Counted list run (n + 1) t
  counted_idle z =
      record {
        flows_long = k.flows_long;
        inputs_long = k.inputs_long;
        outputs_long = k.outputs_long;
        links_long = k.links_long;
        each = λ c h. one_more c h (omega (arith, ap (λ e. bit (is_flow_of c list e)) z));
      }

raised_at : (l : List ℕ) (x y : ℕ) → x < length l → get_or (set l x (get_or l x 0 + 1)) y 0 ≡ get_or l y 0 + bit (eqb x y)
raised_at l x y h =
    by_eq x y
    (λ e. rw (← e) (get_or-set_same l x (get_or l x 0 + 1) 0 h ∙ omega (arith, is_yes x x refl)))
    (λ n. get_or-set_other l x y (get_or l x 0 + 1) 0 (λ d. n (sym d)) ∙ omega (arith, is_no x y n))

-- one cell more, of a flow
module _ {list run : List ℕ} {n e i o x : ℕ} {t : Tally} (k : Counted list run n t) (of : e ≡ get_or run n 0) (some : e ≢ 0) (low : e - 1 < flows list)
    (at : i ≡ port_of list inputs (e - 1)) (to : o ≡ output_of (port_of list links (e - 1))) (by : x ≡ port_of list links (e - 1)) where
  pub counted_on : e - 1 < 512 → i < 16 → o < 16 → x < 64 → {fs is os xs : List ℕ} → fs ≡ set t.flows (e - 1) (get_or t.flows (e - 1) 0 + 1) → is ≡ set t.inputs i (get_or t.inputs i 0 + 1)
      → os ≡ set t.outputs o (get_or t.outputs o 0 + 1) → xs ≡ set t.links x (get_or t.links x 0 + 1)
      → Counted list run (n + 1) (record { flows = fs; inputs = is; outputs = os; links = xs; total = t.total + 1 })
  counted_on f_low i_low o_low x_low {fs} {is} {os} {xs} f_is i_is o_is x_is =
      record {
        flows_long = ap length f_is ∙ length-set t.flows (e - 1) (get_or t.flows (e - 1) 0 + 1) ∙ k.flows_long;
        inputs_long = ap length i_is ∙ length-set t.inputs i (get_or t.inputs i 0 + 1) ∙ k.inputs_long;
        outputs_long = ap length o_is ∙ length-set t.outputs o (get_or t.outputs o 0 + 1) ∙ k.outputs_long;
        links_long = ap length x_is ∙ length-set t.links x (get_or t.links x 0 + 1) ∙ k.links_long;
        each = λ c h. one_more k c h (raised_in c);
      }
    where
      of_class : (c : Class) → bit (is_flow_of c list (get_or run n 0)) ≡ bit (is_flow_of c list (suc (e - 1)))
      of_class c = ap (λ z. bit (is_flow_of c list z)) (omega (arith, of))

      raised_in : (c : Class) → number_in (record { flows = fs; inputs = is; outputs = os; links = xs; total = t.total + 1 }) c ≡ number_in t c + bit (is_flow_of c list (get_or run n 0))
      raised_in (flow g) =
          ap (λ z. get_or z g 0) f_is
          ∙ raised_at t.flows (e - 1) g (omega (arith, k.flows_long))
          ∙ omega (arith, of_class (flow g), ap bit (is_flow_of_class list (flow g) (e - 1) low))
      raised_in (port_on input j) =
          ap (λ z. get_or z j 0) i_is
          ∙ raised_at t.inputs i j (omega (arith, k.inputs_long))
          ∙ omega (arith, of_class (port_on input j), ap bit (is_flow_of_class list (port_on input j) (e - 1) low), ap (λ z. bit (eqb z j)) at)
      raised_in (port_on output j) =
          ap (λ z. get_or z j 0) o_is
          ∙ raised_at t.outputs o j (omega (arith, k.outputs_long))
          ∙ omega (arith, of_class (port_on output j), ap bit (is_flow_of_class list (port_on output j) (e - 1) low), ap (λ z. bit (eqb z j)) to)
      raised_in (link j) =
          ap (λ z. get_or z j 0) x_is
          ∙ raised_at t.links x j (omega (arith, k.links_long))
          ∙ omega (arith, of_class (link j), ap bit (is_flow_of_class list (link j) (e - 1) low), ap (λ z. bit (eqb z j)) by)
      raised_in total = omega (arith, of_class total, ap bit (is_flow_of_class list total (e - 1) low))

-- ---- all of a run counted
like : (l : List ℕ) (n : ℕ) (g : ℕ → ℕ) → length l ≡ n → ((x : ℕ) → x < n → get_or l x 0 ≡ g x) → l ≡ map g (up_from 0 n)
like l n g long each =
    ext_get_or 0 l (map g (up_from 0 n)) (long ∙ sym (map_length g 0 n)) (λ x h. each x (omega arith) ∙ sym (number_at n g x (omega arith)))

pub counted_end : {list run : List ℕ} {n : ℕ} {t new : Tally} → Counted list run n t → n ≡ length run → new ≡ t → new ≡ tally_of list run
unfolding tally_of flow_cells
counted_end {list} {run} {n} {t} {new} k e same =
    let each = λ (c : Class) (h : Placed c). k.each c h ∙ ap (λ z. sum_to z (λ i. bit (is_flow_of c list (get_or run i 0)))) e in
    rw (
      same,
      ← like t.flows 512 (λ f. flow_cells list (flow f) run) k.flows_long (λ x h. each (flow x) h),
      ← like t.inputs 16 (λ i. flow_cells list (port_on input i) run) k.inputs_long (λ x h. each (port_on input x) h),
      ← like t.outputs 16 (λ o. flow_cells list (port_on output o) run) k.outputs_long (λ x h. each (port_on output x) h),
      ← like t.links 64 (λ x. flow_cells list (link x) run) k.links_long (λ x h. each (link x) h),
      ← each total tt,
    )

-- ---- the entries of a run
module _ (start len : ℕ) {ports slots : ℕ} {list frame : List ℕ} (r : FlowFrame ports slots list frame) (h : start + len ≤ slots) where
  pub run_ends : start * ports + len * ports ≤ length frame
  run_ends = let m = mul-le-mul_right {m = start + len} {n = slots} ports h in omega (arith, r.framed.size)

  pub run_is : take (start * ports + len * ports - start * ports) (drop (start * ports) frame) ≡ run_of ports start len frame
  unfolding run_of
  run_is = ap (λ (n : ℕ). take n (drop (start * ports) frame)) (omega arith)

  run_long : length (run_of ports start len frame) ≡ len * ports
  run_long = run_length ports start len frame (omega (arith, run_ends))

  module _ {run : List ℕ} {i e : ℕ} (same : run ≡ run_of ports start len frame) (k : i < length run) (is : e ≡ get_or run i 0) where
    -- each entry is 0 or a flow
    run_low : e ≤ flows list
    unfolding run_of
    run_low =
        let long : i < len * ports = omega (arith, ap length same, run_long) in
        omega (
          arith,
          is,
          ap (λ (l : List ℕ). get_or l i 0) same,
          get_or-take (len * ports) (drop (start * ports) frame) i 0 long,
          get_or-drop (start * ports) frame i 0,
          r.each_flow (start * ports + i) (omega (arith, run_ends)),
        )

    pub run_flow : e ≢ 0 → e - 1 < flows list
    run_flow some = omega (arith, run_low)

    pub run_most : i < 16384
    run_most = omega (arith, ap length same, run_long, run_ends, entries_most r.framed)
