-- The slots that Add chooses in a frame without wrong entries and doubled outputs, and the exchange of them.
use Prim.Native.Nat.{ℕ, suc, ◌+◌, ◌*◌, ◌-◌, ◌/◌, ◌%◌, ◌≤◌, ◌<◌}
use mathlib.Core.Path.{◌≡◌, refl, sym, ap, ◌∙◌, subst}
use mathlib.Core.Logic.{◌≢◌}
use mathlib.Core.List.{List}
use mathlib.Core.Bool.{Bool, true, false, not, true≢false}
use native.Mathlib.Omega.{arith}
use lib.Dec.{eqb}
use lib.ListN.{length, get_or}
use borrow.Author.Tests.{eq-eqb, ne_eqb, eqb-true, eqb-false}
use Rattle.rules.specs.Words.{if, both, bit, sum_to, Within}
use Rattle.rules.specs.Flows.{flows, Side, input, output, on_side, port_of, port_on}
use Rattle.rules.specs.Frames.{is_flow_of}
use Rattle.rules.proofs.Cases.{by_bool, by_eq, both_yes, from_one}
use Rattle.rules.proofs.Sums.{sum_ext, sum_add, sum_one, sum_zero, sum_le, sum_ones, sum_swap}
use Rattle.rules.proofs.Searches.{first_found, first_before}
use Rattle.rules.proofs.Flows.{by_entry}
use Rattle.calls.proofs.Demand2.{ported_on}
use Rattle.calls.proofs.Faults.{place_of}
use Rattle.usable_frames.specs.Usable.{Usable}
use Rattle.usable_frames.proofs.Sound.{once_sum, flow_of, one_goes}
use Rattle.usable_frames.proofs.Slots.{slot_at, slot_sound}
use Rattle.exchange.specs.Exchange.{entry_at, port_to, cell_put, exchange}
use Rattle.exchange.specs.Add.{idle, lowest_idle, lowest_both}
use Rattle.exchange.specs.Swaps.{goes_to, lowest_to, swaps}
use Rattle.exchange.proofs.Steps.{Once, left}
use Rattle.exchange.proofs.Swapped.{output_number_is}
use Rattle.exchange.proofs.Walked.{own_flow, Moving, Walk, walk}
use Rattle.exchange.proofs.Idle.{idle_input, idle_output}

-- the number of a flow is that of one to its output
pub flow_to : (list : List ℕ) (side : Side) (x : ℕ) → Within 1 (flows list) x → is_flow_of (port_on side (port_to side list x)) list x ≡ true
flow_to list side x w =
    from_one (λ x. is_flow_of (port_on side (port_to side list x)) list x ≡ true) (flows list) x w
    (λ f h. let d : suc f - 1 ≡ f = omega arith in subst (λ (z : ℕ). is_flow_of (port_on side (on_side side (port_of list) z)) list (suc f) ≡ true) (sym d) (flow_of list side f h))

-- ---- how many inputs of a slot are busy
-- each has an output of its own, so that where one output is idle they are fewer than the ports
busy_few : (ports : ℕ) (to b : ℕ → ℕ) → Once ports to b → ((i : ℕ) → i < ports → b i ≢ 0 → to (b i) < ports) → (o : ℕ) → o < ports
    → ((i : ℕ) → i < ports → b i ≢ 0 → to (b i) ≢ o) → sum_to ports (λ i. bit (not (eqb (b i) 0))) + 1 ≤ ports
busy_few ports to b once low o ho none =
    let others = sum_add ports (λ x. bit (not (eqb x o))) (λ x. bit (eqb x o)) in
    let all : sum_to ports (λ x. bit (not (eqb x o)) + bit (eqb x o)) ≡ ports = sum_ext ports _ _ (λ x _. by_bool (eqb x o) (λ d. rw d) (λ d. rw d)) ∙ sum_ones ports in
    let one : sum_to ports (λ x. bit (eqb x o)) ≡ 1 = sum_one ports o _ ho (λ x _ n. rw (ne_eqb x o n)) ∙ rw (eq-eqb o o refl) in
    let most = sum_le ports (λ x. sum_to ports (λ i. bit (uses x i))) (λ x. bit (not (eqb x o))) each in
    omega (arith, by_outputs)
  where
    uses : ℕ → ℕ → Bool
    uses x i = both (not (eqb (b i) 0)) (eqb (to (b i)) x)

    uses_is : (x i : ℕ) → uses x i ≡ true → (b i ≢ 0) × (to (b i) ≡ x)
    uses_is x i h =
        by_bool (eqb (b i) 0)
        (λ d. absurd (true≢false (sym h ∙ rw d)))
        (λ d. (eqb-false (b i) 0 d, eqb-true (to (b i)) x (rw d at h)))

    by_outputs : sum_to ports (λ i. bit (not (eqb (b i) 0))) ≡ sum_to ports (λ x. sum_to ports (λ i. bit (uses x i)))
    by_outputs =
        sum_ext ports _ _ (λ i h. by_eq (b i) 0
        (λ z. rw (eq-eqb (b i) 0 z) (sym (sum_zero ports _ (λ x _. refl))))
        (λ z. rw (ne_eqb (b i) 0 z) (sym (sum_one ports (to (b i)) _ (low i h z) (λ x _ n. rw (ne_eqb (to (b i)) x (λ q. n (sym q)))) ∙ rw (eq-eqb (to (b i)) (to (b i)) refl)))))
        ∙ sum_swap ports ports (λ i x. bit (uses x i))

    each : (x : ℕ) → x < ports → sum_to ports (λ i. bit (uses x i)) ≤ bit (not (eqb x o))
    each x h =
        by_eq x o
        (λ d. rw (eq-eqb x o d) (omega (arith, sum_zero ports (λ i. bit (uses x i)) (λ i l. by_bool (uses x i) (λ y. absurd (none i l (uses_is x i y).0 ((uses_is x i y).1 ∙ d))) (λ y. ap bit y)))))
        (λ d. rw (ne_eqb x o d) (once_sum ports (uses x) (λ i j hi hj y z. once i j hi hj (uses_is x i y).0 (uses_is x j z).0 ((uses_is x i y).1 ∙ sym (uses_is x j z).1))))

-- ---- a flow of the list
module _ {ports slots : ℕ} {list frame : List ℕ} (u : Usable input ports slots list frame) where
  pub each_flow : (q : ℕ) → q < length frame → get_or frame q 0 ≤ flows list
  each_flow q h =
      let d = place_of slots ports q (omega (arith, u.size)) in
      subst (λ (z : ℕ). get_or frame z 0 ≤ flows list) (sym d.2)
      (by_entry input list (q % ports) (get_or frame (q / ports * ports + q % ports) 0) (u.each_right (q / ports) (q % ports) d.0 d.1) (λ z. omega arith) (λ f l z p. omega arith))

  pub port_low : (side : Side) (x : ℕ) → Within 1 (flows list) x → port_to side list x < ports
  port_low side x w = ported_on list u.well.ported u.well.linked side (x - 1) (omega arith)

  pub slot_once : (s : ℕ) → s < slots → Once ports (port_to output list) (entry_at ports frame s)
  slot_once s h i j hi hj zi zj q =
      let x = (own_flow list i (entry_at ports frame s i) (u.each_right s i h hi) zi).1 in
      let y = (own_flow list j (entry_at ports frame s j) (u.each_right s j h hj) zj).1 in
      one_goes (slot_sound u s h) (port_to output list (entry_at ports frame s i)) i j (port_low output (entry_at ports frame s i) x) hi hj
      (rw (slot_at ports slots frame u.size s h i hi) (flow_to list output (entry_at ports frame s i) x))
      (rw (slot_at ports slots frame u.size s h j hj, q) (flow_to list output (entry_at ports frame s j) y))

  module _ {e : ℕ} (listed : Within 1 (flows list) e) where
    abbrev f : ℕ
    f = port_to input list e

    abbrev o : ℕ
    o = port_to output list e

    pub input_idle : (s : ℕ) → s < slots → idle input ports list frame e s ≡ true → entry_at ports frame s f ≡ 0
    input_idle s h y = eqb-true (entry_at ports frame s f) 0 (sym (idle_input ports slots list frame u.size s h e (port_low input e listed)) ∙ y)

    pub input_busy : (s : ℕ) → s < slots → idle input ports list frame e s ≡ false → entry_at ports frame s f ≢ 0
    input_busy s h y = eqb-false (entry_at ports frame s f) 0 (sym (idle_input ports slots list frame u.size s h e (port_low input e listed)) ∙ y)

    pub output_idle : (s : ℕ) → s < slots → idle output ports list frame e s ≡ true → (i : ℕ) → i < ports → entry_at ports frame s i ≢ 0
        → port_to output list (entry_at ports frame s i) ≢ o
    unfolding goes_to
    output_idle s h y i hi z q =
        let none = eqb-true (lowest_to ports list frame s (suc o) ports) ports (sym (idle_output ports slots list frame u.size s h each_flow e) ∙ y) in
        let off = first_before (goes_to ports list frame s (suc o) ports) ports 0 i (omega arith) (omega arith) in
        let on : goes_to ports list frame s (suc o) ports i ≡ true
        = rw (ne_eqb i ports (omega arith), output_number_is list (entry_at ports frame s i) z, q) (eq-eqb (suc o) (suc o) refl) in
        true≢false (sym on ∙ off)

    -- ---- where no slot has both ports idle
    module _ (a : lowest_idle input ports slots list frame e < slots) (b : lowest_idle output ports slots list frame e < slots)
        (none : slots ≤ lowest_both ports slots list frame e) where
      abbrev s : ℕ
      s = lowest_idle input ports slots list frame e

      abbrev t : ℕ
      t = lowest_idle output ports slots list frame e

      former_idle : idle input ports list frame e s ≡ true
      former_idle = first_found (idle input ports list frame e) slots 0 (omega arith)

      other_idle : idle output ports list frame e t ≡ true
      other_idle = first_found (idle output ports list frame e) slots 0 (omega arith)

      not_both : (x : ℕ) → x < slots → idle input ports list frame e x ≡ true → idle output ports list frame e x ≡ true → ⊥
      not_both x h y z =
          true≢false (sym (both_yes (idle input ports list frame e x) (idle output ports list frame e x) y z)
          ∙ first_before (λ s. both (idle input ports list frame e s) (idle output ports list frame e s)) slots 0 x (omega arith) (omega arith))

      pub slots_differ : t ≢ s
      slots_differ d = not_both s a former_idle (subst (λ (x : ℕ). idle output ports list frame e x ≡ true) d other_idle)

      -- the other slot is busy at the flow's own input
      other_busy : entry_at ports frame t f ≢ 0
      other_busy = input_busy t b (by_bool (idle input ports list frame e t) (λ y. absurd (not_both t b y other_idle)) (λ y. y))

      -- the other slot's cells, with the one that is to come
      abbrev source : ℕ → ℕ
      source x = if (eqb x f) e (entry_at ports frame t x)

      source_once : Once ports (port_to output list) source
      source_once i j hi hj =
          by_eq i f
          (λ d. by_eq j f (λ p _ _ _. d ∙ sym p) (λ p. rw (eq-eqb i f d, ne_eqb j f p) (λ _ z q. absurd (output_idle t b other_idle j hj z (sym q)))))
          (λ d. by_eq j f
          (λ p. rw (ne_eqb i f d, eq-eqb j f p) (λ z _ q. absurd (output_idle t b other_idle i hi z q)))
          (λ p. rw (ne_eqb i f d, ne_eqb j f p) (slot_once t b i j hi hj)))

      pub moving : Moving ports slots list frame source e s t (λ x. eqb x f)
      moving =
          record {
            size = u.size;
            former = a;
            other = b;
            apart = slots_differ;
            listed = listed;
            right_former = λ i h. u.each_right s i a h;
            right_other = λ i h. u.each_right t i b h;
            coming = record {
              low = port_low input e listed;
              some = omega (arith, listed.0);
              source = source_once;
              comes = rw (eq-eqb f f refl);
              f_done = eq-eqb f f refl;
              vacant = input_idle s a former_idle;
              came = λ i h n d. absurd (n (eqb-true i f d));
              stays = λ i h d. rw d;
              former_once = slot_once s a;
              other_once = slot_once t b;
              other_idle = output_idle t b other_idle;
            };
          }

      -- one output of the other slot is idle, and its own input's cell does not come
      pub few_left : left ports (entry_at ports frame t) (λ x. eqb x f) + 2 ≤ ports
      few_left =
          let own : sum_to ports (λ x. bit (eqb x f)) ≡ 1 = sum_one ports f _ (port_low input e listed) (λ x _ n. rw (ne_eqb x f n)) ∙ rw (eq-eqb f f refl) in
          let all : sum_to ports (λ i. bit (both (not (eqb i f)) (not (eqb (entry_at ports frame t i) 0))) + bit (eqb i f)) ≡ sum_to ports (λ i. bit (not (eqb (entry_at ports frame t i) 0)))
          = sum_ext ports _ _ (λ i _. by_eq i f (λ d. rw (d, eq-eqb f f refl, ne_eqb (entry_at ports frame t f) 0 other_busy)) (λ d. rw (ne_eqb i f d) (omega arith))) in
          let few = busy_few ports (port_to output list) (entry_at ports frame t) (slot_once t b)
          (λ i h z. port_low output (entry_at ports frame t i) (own_flow list i (entry_at ports frame t i) (u.each_right t i b h) z).1)
          o (port_low output e listed) (output_idle t b other_idle) in
          omega (arith, sum_add ports (λ i. bit (both (not (eqb i f)) (not (eqb (entry_at ports frame t i) 0)))) (λ x. bit (eqb x f)))

      pub to_the_end : Walk ports slots list frame e s t (ports - 2)
      to_the_end = walk (ports - 2) moving (omega (arith, few_left))

-- the exchange is that of swaps
pub by_swaps : (ports slots : ℕ) (list frame : List ℕ) (e : ℕ) → Usable input ports slots list frame → Within 1 (flows list) e
    → lowest_idle input ports slots list frame e < slots → lowest_idle output ports slots list frame e < slots → slots ≤ lowest_both ports slots list frame e
    → exchange (2 * ports + 1) ports list frame e (lowest_idle input ports slots list frame e) (lowest_idle output ports slots list frame e)
    ≡ swaps ports ports list (cell_put ports list frame e (lowest_idle input ports slots list frame e)) (lowest_idle input ports slots list frame e) (lowest_idle output ports slots list frame e) (port_to input list e)
by_swaps ports slots list frame e u listed a b none =
    let w = to_the_end u listed a b none in
    let few = few_left u listed a b none in
    w.by_exchange (2 * ports + 1) (omega arith) ∙ sym (w.by_swap ports (omega arith))
