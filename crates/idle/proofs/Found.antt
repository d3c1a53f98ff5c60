-- Searches of the code, by what each asks of a place.
use Prim.Native.Nat.{ℕ, suc, ◌+◌, ◌-◌, ◌*◌, ◌≤◌, ◌<◌}
use mathlib.Core.Path.{◌≡◌, refl, sym, ap, ◌∙◌}
use mathlib.Core.List.{List}
use mathlib.Core.Bool.{Bool, not}
use native.Mathlib.Omega.{arith}
use native.Mathlib.Nat.{mul-le-mul_right}
use lib.Dec.{eqb}
use lib.ListN.{get_or}
use borrow.Author.Tests.{eq-eqb, ne_eqb}
use Rattle.std.specs.Prelude.{Option, Some, None, is_none}
use Rattle.rules.specs.Words.{both, first, found, Within}
use Rattle.rules.specs.Flows.{flows, input, output, inputs, links, port_of, output_of}
use Rattle.rules.specs.Frames.{run_of}
use Rattle.rules.proofs.Ranges.{first_of, found_ext}
use Rattle.checks.specs.Fits.{FlowFrame}
use Rattle.checks.proofs.Fits.{input_below}
use Rattle.usable_frames.proofs.Slots.{slot_at}
use Rattle.exchange.specs.Exchange.{port_to}
use Rattle.exchange.specs.Add.{idle}
use Rattle.exchange.specs.Swaps.{output_number, goes_to, lowest_to}
use Rattle.exchange.proofs.Swapped.{output_number_is, idle_number}
use Rattle.exchange.proofs.Idle.{idle_input, idle_output}

-- ---- the output of an entry
pub none_number : (list : List ℕ) (e : ℕ) → e ≡ 0 → 0 ≡ output_number list e
none_number list e z = sym (ap (output_number list) z ∙ idle_number list)

pub some_number : (list : List ℕ) {e n o : ℕ} → (e ≡ 0 → ⊥) → n ≡ e → o ≡ output_of (port_of list links (n - 1)) → o + 1 ≡ output_number list e
some_number list {e} {n} some wide is = omega (arith, is, ap (λ z. output_of (port_of list links (z - 1))) wide, output_number_is list e some)

-- ---- the inputs of a slot
module _ {ports slots : ℕ} {list frame : List ℕ} (r : FlowFrame ports slots list frame) {slot : ℕ} (h : slot < slots) where
  pub slot_flow : {entries : List ℕ} → entries ≡ run_of ports slot 1 frame → (i : ℕ) → i < ports → get_or entries i 0 ≤ flows list
  slot_flow same i low =
      omega (
        arith,
        ap (λ (l : List ℕ). get_or l i 0) same,
        slot_at ports slots frame r.framed.size slot h i low,
        r.each_flow (slot * ports + i) (let m = mul-le-mul_right {m = suc slot} {n = slots} ports h in omega (arith, r.framed.size)),
      )

  pub to_found : {entries : List ℕ} (same : entries ≡ run_of ports slot 1 frame) (o but : ℕ) {x : Option ℕ}
      → x ≡ found (λ i. both (not (eqb i but)) (eqb (output_number list (get_or entries i 0)) o)) 0 ports → x ≡ found (goes_to ports list frame slot o but) 0 ports
  unfolding goes_to
  to_found same o but e =
      e ∙ found_ext _ _ ports 0 (λ i l k. ap (λ y. both (not (eqb i but)) (eqb (output_number list y) o)) (ap (λ (l : List ℕ). get_or l i 0) same ∙ slot_at ports slots frame r.framed.size slot h i (omega arith)))

-- ---- slots
no_one : (t : ℕ → Bool) (n : ℕ) (x : Option ℕ) → x ≡ found t 0 n → is_none x ≡ eqb (first t 0 n) n
no_one t n None e = sym (eq-eqb (first t 0 n) n (omega (arith, first_of t n 0 None e)))
no_one t n (Some i) e = let f = first_of t n 0 (Some i) e in sym (ne_eqb (first t 0 n) n (λ d. omega (arith, f.0, f.1)))

module _ {ports slots flow : ℕ} {list frame : List ℕ} (r : FlowFrame ports slots list frame) (w : Within 1 (flows list) flow) where
  low_flow : flow - 1 < flows list
  low_flow = omega arith

  pub port_low : {i : ℕ} → i ≡ port_of list inputs (flow - 1) → i < ports
  port_low e = omega (arith, e, input_below r.listed (flow - 1) low_flow)

  module _ {i : ℕ} (is : i ≡ port_of list inputs (flow - 1)) where
    pub at_input : (s : ℕ) → s < slots → eqb (get_or (run_of ports s 1 frame) i 0) 0 ≡ idle input ports list frame flow s
    at_input s h =
        let low : port_to input list flow < ports = input_below r.listed (flow - 1) low_flow in
        ap (λ z. eqb z 0) (slot_at ports slots frame r.framed.size s h i (port_low is)) ∙ ap (λ x. eqb (get_or frame (s * ports + x) 0) 0) is
        ∙ sym (idle_input ports slots list frame r.framed.size s h flow low)

    pub input_found : {x : Option ℕ} → x ≡ found (λ s. eqb (get_or (run_of ports s 1 frame) i 0) 0) 0 slots → x ≡ found (idle input ports list frame flow) 0 slots
    input_found e = e ∙ found_ext _ _ slots 0 (λ s l k. at_input s (omega arith))

  module _ {o : ℕ} (is : o ≡ output_of (port_of list links (flow - 1))) where
    at_output : (s : ℕ) → s < slots → is_none (found (goes_to ports list frame s (o + 1) ports) 0 ports) ≡ idle output ports list frame flow s
    at_output s h =
        let wide : o + 1 ≡ suc (port_to output list flow) = omega (arith, is) in
        no_one (goes_to ports list frame s (o + 1) ports) ports _ refl
        ∙ ap (λ z. eqb (lowest_to ports list frame s z ports) ports) wide
        ∙ sym (idle_output ports slots list frame r.framed.size s h r.each_flow flow)

    pub output_found : {x : Option ℕ} → x ≡ found (λ s. is_none (found (goes_to ports list frame s (o + 1) ports) 0 ports)) 0 slots
        → x ≡ found (idle output ports list frame flow) 0 slots
    output_found e = e ∙ found_ext _ _ slots 0 (λ s l k. at_output s (omega arith))

    pub both_found : {i : ℕ} → i ≡ port_of list inputs (flow - 1) → {x : Option ℕ}
        → x ≡ found (λ s. both (eqb (get_or (run_of ports s 1 frame) i 0) 0) (is_none (found (goes_to ports list frame s (o + 1) ports) 0 ports))) 0 slots
        → x ≡ found (λ s. both (idle input ports list frame flow s) (idle output ports list frame flow s)) 0 slots
    both_found at e = e ∙ found_ext _ _ slots 0 (λ s l k. rw (at_input at s (omega arith), at_output s (omega arith)) refl)
