-- Idle ports of a slot, by the entries of its inputs.
use Prim.Native.Nat.{ℕ, suc, zero, ◌-◌, ◌*◌, ◌+◌, ◌≤◌, ◌<◌}
use mathlib.Core.Path.{◌≡◌, refl, sym, ap, ◌∙◌}
use mathlib.Core.List.{List}
use mathlib.Core.Bool.{Bool, not}
use native.Mathlib.Omega.{arith}
use native.Mathlib.Nat.{mul-le-mul_right}
use lib.Dec.{eqb}
use lib.ListN.{length, get_or}
use borrow.Author.Tests.{eq-eqb, ne_eqb}
use Rattle.rules.specs.Words.{both, bit, first, sum_to}
use Rattle.rules.specs.Flows.{flows, input, output, port_of, port_on, on_side}
use Rattle.rules.specs.Frames.{is_flow_of, cells, run_of}
use Rattle.rules.proofs.Cases.{by_bool, by_lt, eqb_alike}
use Rattle.rules.proofs.Sums.{sum_ext, sum_zero, sum_one, sum_has}
use Rattle.rules.proofs.Searches.{first_high, first_found, first_before}
use Rattle.rules.proofs.Flows.{is_flow_of_class}
use Rattle.rules.proofs.Cells.{cells_slot}
use Rattle.usable_frames.proofs.Slots.{slot_size, slot_at, other_cells}
use Rattle.exchange.specs.Exchange.{entry_at, port_to}
use Rattle.exchange.specs.Add.{idle}
use Rattle.exchange.specs.Swaps.{output_number, goes_to, lowest_to}

-- an entry that is 0 or the number of a flow is one to an output by its number
pub goes_is : (list : List ℕ) (x e : ℕ) → e ≤ flows list → eqb (output_number list e) (suc x) ≡ is_flow_of (port_on output x) list e
unfolding output_number
goes_is list x zero h = ne_eqb 0 (suc x) (omega arith)
goes_is list x (suc f) h =
    let y = on_side output (port_of list) (suc f - 1) in
    let d : suc f - 1 ≡ f = omega arith in
    rw (ne_eqb (suc f) 0 (omega arith))
    (eqb_alike (suc y) (suc x) y x (λ q. omega arith) (λ q. omega arith)
    ∙ sym (is_flow_of_class list (port_on output x) f h ∙ ap (λ z. eqb (on_side output (port_of list) z) x) (sym d)))

-- no test holds where the first that does is not found
none_sum : (n : ℕ) (t : ℕ → Bool) → eqb (sum_to n (λ i. bit (t i))) 0 ≡ eqb (first t 0 n) n
none_sum n t =
    eqb_alike (sum_to n (λ i. bit (t i))) 0 (first t 0 n) n
    (λ z. by_lt (first t 0 n) n
    (λ l. absurd (omega (arith, sum_has n (first t 0 n) (λ i. bit (t i)) l, ap bit (first_found t n 0 (omega arith)))))
    (λ l. omega (arith, first_high t n 0)))
    (λ e. sum_zero n _ (λ i l. ap bit (first_before t n 0 i (omega arith) (omega arith))))

-- ---- a slot of a frame
module _ (ports slots : ℕ) (list frame : List ℕ) (size : length frame ≡ slots * ports) (s : ℕ) (h : s < slots) where
  -- an input is idle where its entry is 0
  pub idle_input : (e : ℕ) → port_to input list e < ports → idle input ports list frame e s ≡ eqb (entry_at ports frame s (port_to input list e)) 0
  unfolding idle
  idle_input e low =
      let x = port_to input list e in
      let slot = run_of ports s 1 frame in
      let has : ℕ → ℕ = λ i. bit (both (eqb i x) (not (eqb (entry_at ports frame s i) 0))) in
      let own : has x ≡ bit (not (eqb (entry_at ports frame s x) 0)) = rw (eq-eqb x x refl) in
      let sum : cells (port_on input x) ports list slot ≡ bit (not (eqb (entry_at ports frame s x) 0))
      = cells_slot input ports list (port_on input x) slot (slot_size ports slots frame size s h)
      ∙ sum_ext ports _ has (λ i l. rw (slot_at ports slots frame size s h i l))
      ∙ sum_one ports x has low (λ i l n. rw (ne_eqb i x n))
      ∙ own in
      rw sum (by_bool (eqb (entry_at ports frame s x) 0) (λ b. rw b) (λ b. rw b))

  -- an output is where no input has a cell to it
  pub idle_output : ((q : ℕ) → q < length frame → get_or frame q 0 ≤ flows list) → (e : ℕ)
      → idle output ports list frame e s ≡ eqb (lowest_to ports list frame s (suc (port_to output list e)) ports) ports
  unfolding idle goes_to
  idle_output each e =
      let x = port_to output list e in
      let slot = run_of ports s 1 frame in
      let m = mul-le-mul_right {m = suc s} {n = slots} ports h in
      let goes : (i : ℕ) → i < ports → is_flow_of (port_on output x) list (get_or slot i 0) ≡ goes_to ports list frame s (suc x) ports i
      = λ i l. rw (slot_at ports slots frame size s h i l, ne_eqb i ports (omega arith)) (sym (goes_is list x (entry_at ports frame s i) (each (s * ports + i) (omega arith)))) in
      ap (λ n. eqb n 0) (other_cells input output ports list slot refl (slot_size ports slots frame size s h) x
      ∙ sum_ext ports _ (λ i. bit (goes_to ports list frame s (suc x) ports i)) (λ i l. ap bit (goes i l)))
      ∙ none_sum ports (goes_to ports list frame s (suc x) ports)
