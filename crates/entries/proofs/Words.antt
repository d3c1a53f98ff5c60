-- Words of entries: their digits, and what it means that those of a slot are apart.
use Prim.Native.Nat.{ℕ, suc, zero, ◌+◌, ◌*◌, ◌-◌, ◌/◌, ◌%◌, ◌^◌, ◌≤◌, ◌<◌, max}
use mathlib.Core.Path.{◌≡◌, refl, sym, ap, ◌∙◌, subst}
use mathlib.Core.List.{List, [], ◌∷◌}
use Rattle.std.specs.List.{fold}
use mathlib.Core.Bool.{Bool, true, false, not, true≢false}
use native.Mathlib.Omega.{arith}
use lib.Bits.{bit_and, bit_or, bit_xor, or_add_and}
use lib.Dec.{eqb}
use lib.ListN.{length, get_or}
use Rattle.rules.specs.Words.{if, bit, sum_to}
use Rattle.rules.specs.Flows.{flows, Side, input, output, other, on_side, port_of, port_on}
use Rattle.rules.specs.Frames.{is_flow_of, right_on, cells_on, run_of}
use Rattle.rules.proofs.Cases.{by_eq, by_lt, is_yes, is_no}
use Rattle.rules.proofs.Sums.{sum_ext, sum_zero, sum_one}
use Rattle.rules.proofs.Flows.{other_side, is_flow_of_class, by_entry, right_flow}
use Rattle.calls.specs.Refusals.{none_holds}
use Rattle.calls.specs.Inspect.{bad_entries}
use Rattle.calls.specs.Answers.{Throughout, EntryRight, PortOnce}
use Rattle.calls.proofs.Reports.{passes_clear, clear_passes}
use Rattle.calls.proofs.Faults.{place_of, entries_search, twice_search}
use Rattle.usable_frames.proofs.Slots.{slot_size, slot_at, other_cells}
use Rattle.bits.specs.Digits.{digit}
use Rattle.bits.proofs.Digits.{digit_most, digit_none, digit_or, digit_sum, digit_shifted, digits_same, if_same, if_other}
use Rattle.checks.specs.Fits.{ListFits, FrameFits, EachFlow}
use Rattle.checks.proofs.Fits.{input_below, output_below}
use Rattle.entries.specs.Usable.{Denies, word_of, Words, word_at, together, Apart, OwnDigits, FrameApart}
use Rattle.entries.proofs.Found.{place_low}

-- ---- words together
module _ (word : ℕ → ℕ) where
  pub together_more : (n : ℕ) → together (suc n) word ≡ bit_or (together n word) (word n)
  unfolding together
  together_more n = refl

  pub together_zero : (n j : ℕ) → ((i : ℕ) → i < n → digit (word i) j ≡ 0) → digit (together n word) j ≡ 0
  unfolding together
  together_zero zero j h = digit_none j
  together_zero (suc n) j h = omega (arith, digit_or (together n word) (word n) j, together_zero n j (λ i l. h i (omega arith)), h n (omega arith))

  pub zero_together : (n j : ℕ) → digit (together n word) j ≡ 0 → (i : ℕ) → i < n → digit (word i) j ≡ 0
  unfolding together
  zero_together zero j e i l = absurd (omega arith)
  zero_together (suc n) j e i l =
      let d = digit_or (together n word) (word n) j in
      by_eq i n (λ k. rw k (omega arith)) (λ k. zero_together n j (omega arith) i (omega arith))

  together_low : (n : ℕ) → together n word ≤ sum_to n word
  unfolding together sum_to
  together_low zero = omega arith
  together_low (suc n) = omega (arith, together_low n, or_add_and (together n word) (word n))

  apart_before : (n : ℕ) → Apart (suc n) word → Apart n word × (bit_and (together n word) (word n) ≡ 0)
  unfolding together sum_to
  apart_before n e =
      let l = together_low n in
      let o = or_add_and (together n word) (word n) in
      (omega arith, omega arith)

  -- words that are apart have each digit once
  apart_digits : (n j : ℕ) → Apart n word → sum_to n (λ i. digit (word i) j) ≡ digit (together n word) j
  unfolding together sum_to
  apart_digits zero j e = sym (digit_none j)
  apart_digits (suc n) j e =
      let b = apart_before n e in
      omega (
        arith,
        apart_digits n j b.0,
        digit_or (together n word) (word n) j,
        digit_sum (together n word) (word n) j,
        ap (λ z. digit z j) b.1,
        digit_none j,
        digit_most (bit_xor (together n word) (word n)) j,
      )

  digits_apart : (n : ℕ) → ((j : ℕ) → sum_to n (λ i. digit (word i) j) ≤ 1) → Apart n word
  unfolding together sum_to
  digits_apart zero once = refl
  digits_apart (suc n) once =
      let before = digits_apart n (λ j. omega (arith, once j)) in
      let none = digits_same (bit_and (together n word) (word n)) 0 (λ j. omega (arith, digit_none j, once j, apart_digits n j before, digit_sum (together n word) (word n) j)) in
      omega (arith, before, none, or_add_and (together n word) (word n))

-- ---- the digits of a word
pub one_digit : (p j : ℕ) → digit (2 ^ p) j ≡ if (eqb j p) 1 0
one_digit p j = let e : 2 ^ p ≡ 1 * 2 ^ p = omega arith in ap (λ z. digit z j) e ∙ digit_shifted 1 p j (omega arith)

module _ (side : Side) {ports : ℕ} {list : List ℕ} (l : ListFits ports list) where
  port_low : (s : Side) (f : ℕ) → f < flows list → on_side s (port_of list) f < ports
  port_low input f h = input_below l f h
  port_low output f h = output_below l f h

  flow_digits : (f j : ℕ)
      → digit (word_of side list (suc f)) j ≡ max (if (eqb j (on_side (other side) (port_of list) f)) 1 0) (if (eqb j (16 + on_side side (port_of list) f)) 1 0)
  unfolding word_of
  flow_digits f j =
      let x = on_side (other side) (port_of list) f in
      let o = on_side side (port_of list) f in
      digit_or (2 ^ x) (2 ^ (16 + o)) j ∙ omega (arith, one_digit x j, one_digit (16 + o) j)

  across_digit : (e j : ℕ) → e ≤ flows list → j < 16 → digit (word_of side list e) j ≡ bit (is_flow_of (port_on (other side) j) list e)
  unfolding word_of
  across_digit zero j h k = digit_none j
  across_digit (suc f) j h k =
      let x = on_side (other side) (port_of list) f in
      let o = on_side side (port_of list) f in
      let d = flow_digits f j in
      let up = if_other j (16 + o) 1 (omega arith) in
      rw (is_flow_of_class list (port_on (other side) j) f h)
      (by_eq x j
      (λ z. omega (arith, d, up, if_same j x 1 (sym z), is_yes x j z))
      (λ z. omega (arith, d, up, if_other j x 1 (λ k. z (sym k)), is_no x j z)))

  own_digit : (e y : ℕ) → e ≤ flows list → digit (word_of side list e) (16 + y) ≡ bit (is_flow_of (port_on side y) list e)
  unfolding word_of
  own_digit zero y h = digit_none (16 + y)
  own_digit (suc f) y h =
      let x = on_side (other side) (port_of list) f in
      let o = on_side side (port_of list) f in
      let d = flow_digits f (16 + y) in
      let low = if_other (16 + y) x 1 (omega (arith, port_low (other side) f h, l.most)) in
      rw (is_flow_of_class list (port_on side y) f h)
      (by_eq o y
      (λ z. omega (arith, d, low, if_same (16 + y) (16 + o) 1 (omega arith), is_yes o y z))
      (λ z. omega (arith, d, low, if_other (16 + y) (16 + o) 1 (omega arith), is_no o y z)))

  -- an entry whose word has no digit of another port is right
  own_right : (e i : ℕ) → e ≤ flows list → OwnDigits (word_of side list e) i → right_on side list i e ≡ true
  own_right zero i h w = refl
  own_right (suc f) i h w =
      let o = on_side side (port_of list) f in
      by_eq o i (right_flow side list i f h)
      (λ z. absurd (omega (arith, w o z, own_digit (suc f) o h, ap bit (is_flow_of_class list (port_on side o) f h), is_yes o o refl)))

  right_own : (e i : ℕ) → e ≤ flows list → right_on side list i e ≡ true → OwnDigits (word_of side list e) i
  right_own e i h r y n =
      own_digit e y h
      ∙ by_entry side list i e r (λ z. rw z) (λ f k z p. rw (z, is_flow_of_class list (port_on side y) f k) (is_no (on_side side (port_of list) f) y (omega arith)))

  -- a port that the switch does not have
  no_port : (e j : ℕ) → e ≤ flows list → ports ≤ j → bit (is_flow_of (port_on (other side) j) list e) ≡ 0
  no_port zero j h k = refl
  no_port (suc f) j h k = rw (is_flow_of_class list (port_on (other side) j) f h) (is_no (on_side (other side) (port_of list) f) j (omega (arith, port_low (other side) f h)))

-- an answer that is false where a test is true, and only there
decided : (r passes : Bool) → (r ≡ false → passes ≡ true) → (passes ≡ true → r ≡ false) → r ≡ not passes
decided true true known met = met refl
decided true false known met = refl
decided false true known met = refl
decided false false known met = known refl

-- ---- a frame
module _ (side : Side) {ports slots : ℕ} {list frame words : List ℕ} (l : ListFits ports list) (f : FrameFits ports slots frame) (w : Words side list words)
    (low : (q : ℕ) → q < length frame → get_or frame q 0 ≤ flows list) where
  abbrev at : ℕ → ℕ → ℕ
  at s i = get_or frame (s * ports + i) 0

  module _ (s : ℕ) (h : s < slots) where
    at_low : (i : ℕ) → i < ports → at s i ≤ flows list
    at_low i k = low (s * ports + i) (place_low f h k)

    word_is : (i : ℕ) → i < ports → word_at ports words frame s i ≡ word_of side list (at s i)
    unfolding word_at
    word_is i k = w.each (at s i) (at_low i k)

    slot_cells : (x : ℕ) → x < 16
        → cells_on side ports list (port_on (other side) x) (run_of ports s 1 frame) ≡ sum_to ports (λ i. digit (word_at ports words frame s i) x)
    slot_cells x b =
        other_cells side (other side) ports list (run_of ports s 1 frame) (other_side side) (slot_size ports slots frame f.size s h) x
        ∙ sum_ext ports _ _ (λ i k.
        ap (λ e. bit (is_flow_of (port_on (other side) x) list e)) (slot_at ports slots frame f.size s h i k)
        ∙ sym (ap (λ z. digit z x) (word_is i k) ∙ across_digit side l (at s i) x (at_low i k) b))

    -- each digit is in one word of the slot
    each_digit : ((i : ℕ) → i < ports → OwnDigits (word_at ports words frame s i) i) → ((x : ℕ) → x < ports → PortOnce side ports list frame s x)
        → (j : ℕ) → sum_to ports (λ i. digit (word_at ports words frame s i) j) ≤ 1
    each_digit own once j =
        by_lt j 16
        (λ b. by_lt j ports (λ k. omega (arith, once j k, slot_cells j b))
        (λ k. omega (
          arith,
          sum_zero ports (λ i. digit (word_at ports words frame s i) j) (λ i g.
              ap (λ z. digit z j) (word_is i g) ∙ across_digit side l (at s i) j (at_low i g) b ∙ no_port side l (at s i) j (at_low i g) k),
        )))
        (λ b.
        let y = j - 16 in
        let d : j ≡ 16 + y = omega arith in
        let each : ℕ → ℕ = λ i. digit (word_at ports words frame s i) (16 + y) in
        rw d (by_lt y ports
        (λ k. omega (arith, sum_one ports y each k (λ i g n. own i g y (λ z. n (sym z))), digit_most (word_at ports words frame s y) (16 + y)))
        (λ k. omega (arith, sum_zero ports each (λ i g. own i g y (omega arith))))))

  apart_usable : FrameApart ports slots words frame → Throughout slots ports (EntryRight side ports list frame) × Throughout slots ports (PortOnce side ports list frame)
  apart_usable a = (
    λ s i h k. own_right side l (at s i) i (at_low s h i k) (λ y n. ap (λ z. digit z (16 + y)) (sym (word_is s h i k)) ∙ a.own s i h k y n),
    λ s x h k. omega (
      arith,
      slot_cells s h x (omega (arith, l.most)),
      apart_digits (word_at ports words frame s) ports x (a.apart s h),
      digit_most (together ports (word_at ports words frame s)) x,
    ),
  )

  usable_apart : Throughout slots ports (EntryRight side ports list frame) → Throughout slots ports (PortOnce side ports list frame) → FrameApart ports slots words frame
  usable_apart right once =
      let own : (s i : ℕ) → s < slots → i < ports → OwnDigits (word_at ports words frame s i) i =
      λ s i h k y n. ap (λ z. digit z (16 + y)) (word_is s h i k) ∙ right_own side l (at s i) i (at_low s h i k) (right s i h k) y n in
      record {
        apart = λ s h. digits_apart (word_at ports words frame s) ports (each_digit s h (λ i k. own s i h k) (λ x k. once s x h k));
        own = own;
      }

  -- what a test of the words decides
  words_tell : {r : Bool} → Denies (FrameApart ports slots words frame) r → r ≡ not (none_holds (bad_entries 14 side ports slots list frame))
  words_tell {r} t =
      decided r (none_holds (bad_entries 14 side ports slots list frame))
      (λ e. let u = apart_usable (t.known e) in passes_clear (bad_entries 14 side ports slots list frame)
      ((entries_search side ports slots list frame).tells.met u.0, ((twice_search side ports slots list frame).tells.met u.1, tt)))
      (λ e. let p = clear_passes (bad_entries 14 side ports slots list frame) e in
      t.met (usable_apart ((entries_search side ports slots list frame).tells.known p.0) ((twice_search side ports slots list frame).tells.known p.1.0)))

-- ---- the largest entry
largest_least : (n k : ℕ) (entries : List ℕ) → n ≤ k → ((q : ℕ) → q < length entries → get_or entries q 0 ≤ k) → fold (λ most entry. max most entry) n entries ≤ k
largest_least n k [] h each = h
largest_least n k (e ∷ entries) h each = largest_least (max n e) k entries (omega (arith, each 0 (omega arith))) (λ q l. each (suc q) (omega arith))

largest_from : (n : ℕ) (entries : List ℕ) → n ≤ fold (λ most entry. max most entry) n entries
largest_from n [] = omega arith
largest_from n (e ∷ entries) = omega (arith, largest_from (max n e) entries)

largest_each : (n : ℕ) (entries : List ℕ) (q : ℕ) → q < length entries → get_or entries q 0 ≤ fold (λ most entry. max most entry) n entries
largest_each n [] q h = absurd (omega arith)
largest_each n (e ∷ entries) zero h = omega (arith, largest_from (max n e) entries)
largest_each n (e ∷ entries) (suc q) h = largest_each (max n e) entries q (omega arith)

-- e, which is the largest entry, against the number of flows, n
module _ (side : Side) {ports slots n e most : ℕ} {list frame : List ℕ} (l : ListFits ports list) (f : FrameFits ports slots frame)
    (flows_are : n ≡ flows list) (m : most ≡ fold (λ most entry. max most entry) 0 frame) (is : e ≡ most) where
  -- an entry above is wrong
  pub above_told : n < e → true ≡ not (none_holds (bad_entries 14 side ports slots list frame))
  above_told h =
      decided true (none_holds (bad_entries 14 side ports slots list frame)) (λ e. absurd (true≢false e))
      (λ clear. absurd
      (let p = clear_passes (bad_entries 14 side ports slots list frame) clear in
      let right = (entries_search side ports slots list frame).tells.known p.0 in
      let low = largest_least 0 (flows list) frame (omega arith) (λ q k.
      let d = place_of slots ports q (omega (arith, f.size)) in
      by_entry side list (q % ports) (get_or frame q 0)
      (subst (λ (z : ℕ). right_on side list (q % ports) (get_or frame z 0) ≡ true) (sym d.2) (right (q / ports) (q % ports) d.0 d.1))
      (λ z. omega arith) (λ g b z _. omega arith)) in
      omega arith))

  module _ (h : e ≤ n) where
    pub all_flows : EachFlow list frame
    all_flows q k = omega (arith, largest_each 0 frame q k)

    pub words_told : {words : List ℕ} {r : Bool} → Words side list words → Denies (FrameApart ports slots words frame) r → r ≡ not (none_holds (bad_entries 14 side ports slots list frame))
    words_told w t = words_tell side l f w all_flows t
