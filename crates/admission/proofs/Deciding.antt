-- 5, 6 and 24 as the numbers decide them, and as the loads do.
use Prim.Native.Nat.{ℕ, ◌+◌, ◌%◌, ◌<◌}
use mathlib.Core.Path.{◌≡◌, sym, ap, ◌∙◌}
use mathlib.Core.List.{List, [], ◌∷◌, ◌++◌}
use mathlib.Core.Bool.{Bool, true, false}
use native.Mathlib.Omega.{arith}
use lib.Dec.{ltb}
use lib.ListN.{get_or, take}
use Rattle.std.specs.Option.{IfSome}
use Rattle.std.specs.declared.option.Option.{Option}
use Rattle.std.specs.declared.option.Option.TheVariants.{None, Some}
use Rattle.rules.specs.Words.{if, found, Every}
use Rattle.rules.specs.Flows.{output_of, port_on, input, output, link, load}
use Rattle.rules.proofs.Ranges.{first_of}
use Rattle.calls.specs.Refusals.{Check, report, refusal, accepted, above_slots, above_limits, overload, port_overloads, overloads}
use Rattle.calls.specs.declared.Refusal.{Refusal}
use Rattle.calls.proofs.Overloads.{above_found, above_none, above_same, past_found, past_none, past_same}
use Rattle.calls.proofs.Reports.{Passes, clear_passes, first_reported, other_reported, report_stops, clear_none}
use Rattle.checks.specs.Fits.{ListFits}
use Rattle.admission.specs.declared.Loads.{Loads}
use Rattle.admission.specs.Overloads.{value_at, EveryLoad, decided_ports, decided}

-- what is found is one of the n places
pub found_low : (t : ℕ → Bool) (n : ℕ) (r : Option ℕ) → r ≡ found t 0 n → IfSome r (λ x. x < n)
found_low t n None e = tt
found_low t n (Some x) e = omega (arith, (first_of t n 0 (Some x) e).1)

-- a check that holds, after n that pass, with its answer
reported : (n : ℕ) (cs : List Check) {answer : List ℕ} → Every Passes (take n cs) → get_or cs n (false, []) ≡ (true, answer) → answer ≡ report cs accepted
reported n cs passed is = sym (ap (λ (c : Check). c.1) is) ∙ first_reported n cs accepted passed (ap (λ (c : Check). c.0) is)

-- ---- a check by the lowest place past its bound, and what a search for that place answers
module _ (number slots : ℕ) (sums : List ℕ) where
  pub above_at : {x : ℕ} → Some x ≡ found (λ x. ltb slots (value_at sums x)) 0 16
      → above_slots number 16 slots (value_at sums) ≡ (true, number ∷ (x + 1) ∷ value_at sums x ∷ [])
  above_at {x} e = let f = first_of (λ x. ltb slots (value_at sums x)) 16 0 (Some x) e in above_found number 16 slots (value_at sums) x (sym f.0) f.1

  pub above_nowhere : None ≡ found (λ x. ltb slots (value_at sums x)) 0 16 → Passes (above_slots number 16 slots (value_at sums))
  above_nowhere e = above_none number 16 slots (value_at sums) 16 (sym (first_of (λ x. ltb slots (value_at sums x)) 16 0 None e)) (omega arith)

module _ (limits sums : List ℕ) where
  pub past_at : {x : ℕ} → Some x ≡ found (λ x. ltb (value_at limits x) (value_at sums x)) 0 64
      → above_limits 16 limits (value_at sums) ≡ (true, 24 ∷ (output_of x + 1) ∷ (x % 4 + 1) ∷ value_at sums x ∷ [])
  past_at {x} e = let f = first_of (λ x. ltb (value_at limits x) (value_at sums x)) 64 0 (Some x) e in past_found 16 limits (value_at sums) x (sym f.0) f.1

  pub past_nowhere : None ≡ found (λ x. ltb (value_at limits x) (value_at sums x)) 0 64 → Passes (above_limits 16 limits (value_at sums))
  past_nowhere e = past_none 16 limits (value_at sums) 64 (sym (first_of (λ x. ltb (value_at limits x) (value_at sums x)) 64 0 None e)) (omega arith)

-- ---- 5 and 6
module _ (slots : ℕ) (loads : Loads) where
  abbrev fifth : Check
  fifth = above_slots 5 16 slots (value_at loads.inputs)

  abbrev sixth : Check
  sixth = above_slots 6 16 slots (value_at loads.outputs)

  pub input_above : {x : ℕ} → Some x ≡ found (λ x. ltb slots (value_at loads.inputs x)) 0 16
      → 5 ∷ (x + 1) ∷ value_at loads.inputs x ∷ [] ≡ decided_ports slots loads
  input_above e = reported 0 (fifth ∷ sixth ∷ []) tt (above_at 5 slots loads.inputs e)

  module _ (none : None ≡ found (λ x. ltb slots (value_at loads.inputs x)) 0 16) where
    pub output_above : {x : ℕ} → Some x ≡ found (λ x. ltb slots (value_at loads.outputs x)) 0 16
        → 6 ∷ (x + 1) ∷ value_at loads.outputs x ∷ [] ≡ decided_ports slots loads
    output_above e = reported 1 (fifth ∷ sixth ∷ []) (above_nowhere 5 slots loads.inputs none, tt) (above_at 6 slots loads.outputs e)

    pub none_above : None ≡ found (λ x. ltb slots (value_at loads.outputs x)) 0 16 → accepted ≡ decided_ports slots loads
    none_above e = other_reported (fifth ∷ sixth ∷ []) accepted (above_nowhere 5 slots loads.inputs none, (above_nowhere 6 slots loads.outputs e, tt))

  -- where the numbers are every load, the answer is that of the loads
  pub ports_decided : {ports : ℕ} {list : List ℕ} → ListFits ports list → EveryLoad ports list loads → (cs : List Check)
      → report (fifth ∷ sixth ∷ cs) accepted ≡ report (port_overloads ports slots list ++ cs) accepted
  ports_decided {ports} {list} t e cs =
      let five = overload 5 (port_on input) ports slots list in
      above_same 5 ports 16 slots (λ x. load (port_on input x) list) (value_at loads.inputs) t.most e.of_inputs.each e.of_inputs.none
      (sixth ∷ cs) accepted
      ∙ ap (λ (l : List ℕ). if five.0 five.1 l)
      (above_same 6 ports 16 slots (λ x. load (port_on output x) list) (value_at loads.outputs) t.most e.of_outputs.each e.of_outputs.none cs accepted)

-- ---- and 24
module _ (slots : ℕ) (loads : Loads) (limits : List ℕ) where
  abbrev last : Check
  last = above_limits 16 limits (value_at loads.links)

  abbrev both : List Check
  both = fifth slots loads ∷ sixth slots loads ∷ []

  pub ports_refused : (r : Refusal) → refusal r ≡ decided_ports slots loads → refusal r ≡ decided slots loads limits
  ports_refused r e = search (report_stops both (last ∷ []) accepted r e)

  module _ (ports : accepted ≡ decided_ports slots loads) where
    -- neither 5 nor 6 holds
    passed : Every Passes both
    passed = clear_passes both (clear_none both accepted (omega arith, (omega arith, tt)) (ap (λ (l : List ℕ). get_or l 0 0) (sym ports)))

    pub link_past : {x : ℕ} → Some x ≡ found (λ x. ltb (value_at limits x) (value_at loads.links x)) 0 64
        → 24 ∷ (output_of x + 1) ∷ (x % 4 + 1) ∷ value_at loads.links x ∷ [] ≡ decided slots loads limits
    link_past e = reported 2 (both ++ (last ∷ [])) passed (past_at limits loads.links e)

    pub none_past : None ≡ found (λ x. ltb (value_at limits x) (value_at loads.links x)) 0 64 → accepted ≡ decided slots loads limits
    none_past e = other_reported (both ++ (last ∷ [])) accepted (passed.0, (passed.1.0, (past_nowhere limits loads.links e, tt)))

  -- where the numbers are every load, the answer is that of the loads
  pub decided_loads : {ports : ℕ} {list : List ℕ} → ListFits ports list → EveryLoad ports list loads
      → decided slots loads limits ≡ report (overloads ports slots list limits) accepted
  decided_loads {ports} {list} t e =
      let five = overload 5 (port_on input) ports slots list in
      let six = overload 6 (port_on output) ports slots list in
      ports_decided slots loads t e (last ∷ [])
      ∙ ap (λ (l : List ℕ). if five.0 five.1 (if six.0 six.1 l))
      (past_same ports 16 limits (λ x. load (link x) list) (value_at loads.links) t.most e.of_links.each e.of_links.none [] accepted)
