-- Searches of the code, step by step.
use Prim.Native.Nat.{ℕ, suc, ◌+◌, ◌-◌, ◌*◌, ◌%◌, ◌/◌, ◌≤◌, ◌<◌}
use mathlib.Core.Path.{◌≡◌, refl, sym, ap, ◌∙◌}
use mathlib.Core.List.{List}
use mathlib.Core.Bool.{Bool, true, not}
use native.Mathlib.Omega.{arith}
use native.Mathlib.Nat.{mul-le-mul_right}
use native.Mathlib.Numerals.{add-one}
use lib.Arith.{digits_div, digits_mod}
use lib.Dec.{eqb, ltb}
use lib.ListN.{length, get_or, set, drop, replicate, length-set, length-replicate}
use lib.Seq.{get_or-set_same, get_or-set_other, get_or-take, get_or-drop}
use mir.Syntax.{w64}
use mir.Val.{Fits}
use borrow.Author.Tests.{not-false}
use Rattle.std.specs.declared.option.Option.{Option}
use Rattle.std.specs.declared.option.Option.TheVariants.{None}
use mathlib.Core.Logic.{◌≢◌}
use Rattle.rules.specs.Words.{bit, found, sum_to}
use Rattle.rules.specs.Flows.{flows, Side, input, output, other, inputs, links, on_side, port_of, output_of, port_on}
use Rattle.rules.specs.Frames.{is_flow_of, right_on, cells_on, run_of}
use Rattle.calls.specs.Inspect.{is_wrong, twice_in, used_twice}
use Rattle.rules.proofs.Cases.{by_bool, by_eq, is_yes, is_no}
use Rattle.rules.proofs.Sums.{sum_none, sum_more, sum_ext, sum_most}
use Rattle.rules.proofs.Lists.{zero_at}
use Rattle.rules.proofs.Flows.{other_side, is_flow_of_class, by_entry}
use Rattle.rules.proofs.Cells.{cells_slot, run_length}
use Rattle.rules.proofs.Searches.{first_before}
use Rattle.rules.proofs.Ranges.{found_ext, first_of}
use Rattle.checks.specs.Fits.{FrameFits, EachFlow, FlowFrame}
use Rattle.checks.specs.Ports.{port_at}
use Rattle.checks.proofs.Fits.{frame_most, port_is}
use Rattle.entries.specs.Entries.{uses_port, Used}

-- ---- the entries of a slot
module _ {ports slots slot : ℕ} {frame : List ℕ} (f : FrameFits ports slots frame) (h : slot < slots) where
  pub from_fits : Fits w64 (slot * ports)
  from_fits = record { fits = (let m = mul-le-mul_right {m = slot} {n = slots} ports (omega arith) in let k = frame_most f in omega arith) }

  module _ {i : ℕ} (at : i < ports) where
    pub port_low : i < 16
    port_low = omega (arith, f.most)

    pub place_low : slot * ports + i < length frame
    place_low = let m = mul-le-mul_right {m = suc slot} {n = slots} ports h in omega (arith, f.size)

    pub place_fits : Fits w64 (slot * ports + i)
    place_fits = record { fits = (let m = place_low in let k = frame_most f in omega (arith, f.size)) }

    pub offset_fits : Fits w64 ((slot * ports + i) * 2)
    offset_fits = record { fits = (let m = place_low in let k = frame_most f in omega (arith, f.size)) }

-- the column of a place of a slot
column : (slot ports q : ℕ) → slot * ports ≤ q → q < slot * ports + ports → q - slot * ports ≡ q % ports
column slot ports q l h =
    let x : ℕ = q - slot * ports in
    let d : slot * ports + x ≡ q = omega arith in
    sym (digits_mod slot (omega arith)) ∙ ap (λ z. z % ports) d

row : (slot ports q : ℕ) → slot * ports ≤ q → q < slot * ports + ports → slot ≡ q / ports
row slot ports q l h =
    let x : ℕ = q - slot * ports in
    let d : slot * ports + x ≡ q = omega arith in
    sym (digits_div slot (omega arith)) ∙ ap (λ z. z / ports) d

-- the place of an entry, from where its slot begins
module _ (side : Side) (ports slot : ℕ) (list frame : List ℕ) {r : Option ℕ} where
  pub wrong_place : r ≡ found (λ q. not (right_on side list (q - slot * ports) (get_or frame q 0))) (slot * ports) ports → r ≡ found (is_wrong side ports list frame) (slot * ports) ports
  unfolding is_wrong
  wrong_place e =
      e ∙ found_ext _ _ ports (slot * ports) (λ q l h. ap (λ x. not (right_on side list x (get_or frame q 0))) (column slot ports q l h))

-- ---- the entries of a slot
module _ {ports slots s : ℕ} {list frame : List ℕ} (r : FlowFrame ports slots list frame) (h : s < slots) where
  run_size : length (run_of ports s 1 frame) ≡ ports
  run_size =
      let m = mul-le-mul_right {m = s + 1} {n = slots} ports (omega arith) in
      run_length ports s 1 frame (omega (arith, r.framed.size)) ∙ omega arith

  run_at : (i : ℕ) → i < ports → get_or (run_of ports s 1 frame) i 0 ≡ get_or frame (s * ports + i) 0
  unfolding run_of
  run_at i k = get_or-take (1 * ports) (drop (s * ports) frame) i 0 (omega arith) ∙ get_or-drop (s * ports) frame i 0

  module _ {slot : List ℕ} {i e : ℕ} (same : slot ≡ run_of ports s 1 frame) (k : i < length slot) (is : e ≡ get_or slot i 0) where
    -- where it stands in the frame
    pub run_place : (i < ports) × (ports ≤ 16) × (e ≡ get_or frame (s * ports + i) 0)
    run_place =
        let low : i < ports = omega (arith, ap length same, run_size) in
        (low, r.framed.most, is ∙ ap (λ (l : List ℕ). get_or l i 0) same ∙ run_at i low)

    -- each is 0 or a flow
    run_low : e ≤ flows list
    run_low = let p = run_place in omega (arith, p.2, r.each_flow (s * ports + i) (place_low r.framed h p.0))

    pub run_word : e < 513
    run_word = omega (arith, run_low, r.listed.few)

    pub run_flow : e ≢ 0 → e - 1 < flows list
    run_flow some = omega (arith, run_low)

pub entry_flow : {ports slots slot i e : ℕ} {list frame : List ℕ} → FlowFrame ports slots list frame → slot < slots → i < ports → e ≡ get_or frame (slot * ports + i) 0
    → e ≤ flows list
entry_flow {ports} {slots} {slot} {i} r h at is = omega (arith, r.each_flow (slot * ports + i) (place_low r.framed h at))

-- ---- the port of a flow on a side
pub port_told : (list : List ℕ) (f : ℕ) (s : Side) {y i o : ℕ} → y ≡ port_at s i o → i ≡ port_of list inputs f → o ≡ output_of (port_of list links f) → y ≡ on_side s (port_of list) f
port_told list f s is at to = is ∙ rw (at, to) (port_is list f s)

pub port_within : (d : Side) {y i o l c n : ℕ} → y ≡ port_at d i o → (i < n) × (o < n) × (l < n * 4) × (n ≤ 16) × (c ≤ 65535) → y < 16
port_within input e h = omega (arith, h)
port_within output e h = omega (arith, h)

-- ---- counted
pub used_start : (side : Side) (list slot : List ℕ) → Used side list slot 0 (replicate 16 0)
used_start side list slot =
    record {
      size = length-replicate {A = ℕ} 16 0;
      each = λ x _. zero_at 16 x ∙ sym (sum_none (λ i. uses_port side list (get_or slot i 0) x));
    }

module _ (side : Side) {list slot uses : List ℕ} {n : ℕ} (u : Used side list slot n uses) where
  -- so often is a port used at most
  pub used_most : (x : ℕ) → x < 16 → get_or uses x 0 ≤ n
  unfolding uses_port
  used_most x k =
      let t : ℕ → Bool = λ i. is_flow_of (port_on (other side) x) list (get_or slot i 0) in
      let m = sum_most n 1 (λ i. bit (t i)) (λ i _. by_bool (t i) (λ e. rw e (omega arith)) (λ e. rw e (omega arith))) in
      omega (arith, u.each x k)

  used_more : (x : ℕ) → x < 16 → sum_to (n + 1) (λ i. uses_port side list (get_or slot i 0) x) ≡ get_or uses x 0 + uses_port side list (get_or slot n 0) x
  used_more x k =
      let f : ℕ → ℕ = λ i. uses_port side list (get_or slot i 0) x in
      omega (arith, u.each x k, sum_more n f, ap (λ z. sum_to z f) (add-one n))

  module _ {e : ℕ} (is : e ≡ get_or slot n 0) where
    pub used_idle : e ≡ 0 → Used side list slot (n + 1) uses
    unfolding uses_port
    used_idle z =
        record { size = u.size; each = λ x k. omega (arith, used_more x k, ap (λ y. uses_port side list y x) (sym is ∙ z)) }

    module _ {y : ℕ} (some : e ≢ 0) (low : e - 1 < flows list) (at : y ≡ on_side (other side) (port_of list) (e - 1)) (within : y < 16) where
      port_uses : (x : ℕ) → uses_port side list (get_or slot n 0) x ≡ bit (eqb y x)
      unfolding uses_port
      port_uses x =
          let d : get_or slot n 0 ≡ suc (e - 1) = omega (arith, is) in
          ap bit (ap (is_flow_of (port_on (other side) x) list) d ∙ is_flow_of_class list (port_on (other side) x) (e - 1) low ∙ ap (λ z. eqb z x) (sym at))

      pub used_on : Used side list slot (n + 1) (set uses y (get_or uses y 0 + 1))
      used_on =
          let more : ℕ = get_or uses y 0 + 1 in
          record {
            size = length-set uses y more ∙ u.size;
            each = λ x k. by_eq y x
                (λ d. rw (← d) (get_or-set_same uses y more 0 (omega (arith, u.size)) ∙ omega (arith, used_more y within, port_uses y, is_yes y y refl)))
                (λ d. get_or-set_other uses y x more 0 (λ z. d (sym z)) ∙ omega (arith, used_more x k, port_uses x, is_no y x d));
          }

-- ---- a port used twice
module _ (side : Side) {ports slots slot : ℕ} {list frame : List ℕ} (r : FlowFrame ports slots list frame) (h : slot < slots)
    {uses : List ℕ} (u : Used side list (run_of ports slot 1 frame) ports uses) where
  used_cells : (x : ℕ) → x < ports → get_or uses x 0 ≡ cells_on side ports list (port_on (other side) x) (run_of ports slot 1 frame)
  unfolding uses_port
  used_cells x k =
      u.each x (omega (arith, r.listed.most))
      ∙ sym (cells_slot side ports list (port_on (other side) x) (run_of ports slot 1 frame) (run_size r h)
      ∙ sum_ext ports _ _ (λ i l. rw (other_side side)))

  -- the place that is found is that of a port that the slot uses twice
  pub twice_place : {r : Option ℕ} → r ≡ found (λ q. ltb 1 (get_or uses (q - slot * ports) 0)) (slot * ports) ports → r ≡ found (used_twice side ports list frame) (slot * ports) ports
  unfolding used_twice twice_in
  twice_place e =
      e ∙ found_ext _ _ ports (slot * ports) (λ q l h.
      let x : ℕ = q - slot * ports in
      ap (ltb 1) (used_cells x (omega arith))
      ∙ rw (column slot ports q l h, row slot ports q l h))

-- ---- a frame in which no wrong entry is found
module _ (side : Side) (ports slots : ℕ) (list frame : List ℕ) (size : length frame ≡ slots * ports) (e : None ≡ found (is_wrong side ports list frame) 0 (slots * ports)) where
  pub none_wrong : (x : ℕ) → x < length frame → right_on side list (x % ports) (get_or frame x 0) ≡ true
  unfolding is_wrong
  none_wrong x k =
      not-false _ (first_before (is_wrong side ports list frame) (slots * ports) 0 x (omega arith) (omega (arith, size, first_of (is_wrong side ports list frame) (slots * ports) 0 None e)))

  pub right_flows : EachFlow list frame
  right_flows x k = by_entry side list (x % ports) (get_or frame x 0) (none_wrong x k) (λ z. omega arith) (λ g low z _. omega arith)
