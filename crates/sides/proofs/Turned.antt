-- Frames that Turn accepts: slot by slot, they are sound, and so is the frame by the other side.
use Prim.Native.Nat.{ℕ, suc, ◌+◌, ◌*◌, ◌/◌, ◌%◌, ◌≤◌, ◌<◌}
use mathlib.Core.Path.{◌≡◌, refl, sym, ap, ◌∙◌, subst}
use mathlib.Core.List.{List}
use mathlib.Core.Bool.{true, false, true≢false}
use native.Mathlib.Omega.{arith}
use native.Mathlib.Nat.{mul-le-mul_right, mod-lt}
use lib.Arith.{digits_div, digits_mod, digits_lt}
use lib.ListN.{length, get_or, drop}
use lib.Pow.{pow_pos}
use lib.Seq.{get_or-take, get_or-drop, ext_get_or}
use Rattle.rules.specs.Words.{bit, sum_to}
use Rattle.rules.specs.Flows.{flows, Side, other, same, on_side, port_of, Class, port_on}
use Rattle.rules.specs.Frames.{is_flow_of, cells_on, run_of, repeated}
use Rattle.rules.proofs.Sums.{sum_ext}
use Rattle.rules.proofs.Cells.{cells_slot, run_length, run_all}
use Rattle.rules.proofs.Runs.{cells_slots, cells_repeated}
use Rattle.rules.proofs.Flows.{map_length, map_at, other_side, other_twice, by_entry, right_counts}
use Rattle.calls.proofs.Demand2.{ported_on}
use Rattle.calls.proofs.Faults.{place_of}
use Rattle.sides.specs.Turn.{BySide, entry_of, by_side, Turnable}
use Rattle.sides.proofs.Slots.{Sound, by_port, entry_flow, sound_other, sums_same, entry_back, flow_of}

-- ---- entries of a slot
module _ (ports slots : ℕ) (entries : List ℕ) (size : length entries ≡ slots * ports) (s : ℕ) (h : s < slots) where
  pub slot_size : length (run_of ports s 1 entries) ≡ ports
  slot_size = run_length ports s 1 entries (let m = mul-le-mul_right {m = suc s} {n = slots} ports h in omega arith) ∙ omega arith

  pub slot_at : (i : ℕ) → i < ports → get_or (run_of ports s 1 entries) i 0 ≡ get_or entries (s * ports + i) 0
  unfolding run_of
  slot_at i l = get_or-take (1 * ports) (drop (s * ports) entries) i 0 (omega arith) ∙ get_or-drop (s * ports) entries i 0

-- ---- the frame by a side
module _ (side : Side) (ports slots : ℕ) (list entries : List ℕ) (size : length entries ≡ slots * ports) where
  pub by_size : length (by_side side ports list entries) ≡ length entries
  unfolding by_side
  by_size = map_length _ 0 (length entries)

  pub by_at : (s x : ℕ) → s < slots → x < ports → get_or (by_side side ports list entries) (s * ports + x) 0 ≡ entry_of side ports list (run_of ports s 1 entries) x
  unfolding by_side
  by_at s x h l =
      let low = digits_lt {q = s} {m = slots} {r = x} {c = ports} h l in
      let from : 0 + (s * ports + x) ≡ s * ports + x = omega arith in
      map_at _ 0 (length entries) (s * ports + x) (omega arith) ∙ rw (from, digits_div s l, digits_mod s l)

  pub by_slot : (s x : ℕ) → s < slots → x < ports → get_or (run_of ports s 1 (by_side side ports list entries)) x 0 ≡ entry_of side ports list (run_of ports s 1 entries) x
  by_slot s x h l = slot_at ports slots (by_side side ports list entries) (by_size ∙ size) s h x l ∙ by_at s x h l

-- entries that agree place by place
pub places_same : (ports slots : ℕ) (v w : List ℕ) → length v ≡ slots * ports → length w ≡ slots * ports
    → ((s x : ℕ) → s < slots → x < ports → get_or v (s * ports + x) 0 ≡ get_or w (s * ports + x) 0) → v ≡ w
places_same ports slots v w a b h =
    ext_get_or 0 v w (a ∙ sym b)
    (λ q l. let d = place_of slots ports q (omega arith) in subst (λ (z : ℕ). get_or v z 0 ≡ get_or w z 0) (sym d.2) (h (q / ports) (q % ports) d.0 d.1))

-- ---- what Turn accepts
-- the cells of a port of the other side in a slot are the flows of it
other_cells : (side to : Side) (ports : ℕ) (list slot : List ℕ) → same side to ≡ false → length slot ≡ ports → (x : ℕ)
    → cells_on side ports list (port_on to x) slot ≡ sum_to ports (λ i. bit (is_flow_of (port_on to x) list (get_or slot i 0)))
other_cells side to ports list slot apart size x = cells_slot side ports list (port_on to x) slot size ∙ sum_ext ports _ _ (λ i _. rw apart)

module _ {side : Side} {ports slots : ℕ} {list entries : List ℕ} (t : Turnable side ports slots list entries) where
  abbrev to : Side
  to = other side

  abbrev new : List ℕ
  new = by_side to ports list entries

  pub slot_sound : (s : ℕ) → s < slots → Sound side to ports list (run_of ports s 1 entries)
  slot_sound s h =
      let size = slot_size ports slots entries t.size s h in
      record {
        size = size;
        ported = λ d f l. ported_on list t.well.ported t.well.linked d f l;
        each = λ i l. rw (slot_at ports slots entries t.size s h i l) (t.each_right s i h l);
        once = λ x l. omega (arith, t.each_once s x h l, other_cells side to ports list (run_of ports s 1 entries) (other_side side) size x);
      }

  pub new_size : length new ≡ slots * ports
  new_size = by_size to ports slots list entries t.size ∙ t.size

  new_slot : (s : ℕ) → s < slots → Sound to side ports list (run_of ports s 1 new)
  new_slot s h =
      sound_other (slot_sound s h) (run_of ports s 1 new) (slot_size ports slots new new_size s h)
      (λ x l. by_slot to ports slots list entries t.size s x h l)

  -- the frame by the other side is one too
  pub turned_turnable : Turnable to ports slots list new
  turned_turnable =
      record {
        well = t.well;
        size = new_size;
        each_right = λ s x h l. rw (sym (slot_at ports slots new new_size s h x l)) ((new_slot s h).each x l);
        each_once = λ s x h l.
            let cells = other_cells to side ports list (run_of ports s 1 new) (apart side) (slot_size ports slots new new_size s h) x in
            subst (λ (z : Side). cells_on to ports list (port_on z x) (run_of ports s 1 new) ≤ 1) (sym (other_twice side)) (omega (arith, cells, (new_slot s h).once x l));
      }
    where
      apart : (side : Side) → same (other side) side ≡ false
      apart side = subst (λ (z : Side). same (other side) z ≡ false) (other_twice side) (other_side (other side))

  -- turned back, it is the frame
  pub turned_back : by_side side ports list new ≡ entries
  turned_back =
      places_same ports slots (by_side side ports list new) entries (by_size side ports slots list new new_size ∙ new_size) t.size
      (λ s i h l.
      by_at side ports slots list new new_size s i h l
      ∙ entry_back (slot_sound s h) (run_of ports s 1 new) (slot_size ports slots new new_size s h) (λ x k. by_slot to ports slots list entries t.size s x h k) i l
      ∙ slot_at ports slots entries t.size s h i l)

  -- ---- the cells of each class are the same
  slot_cells : (c : Class) (s : ℕ) → s < slots → cells_on to ports list c (run_of ports s 1 new) ≡ cells_on side ports list c (run_of ports s 1 entries)
  slot_cells c s h =
      let v = run_of ports s 1 entries in
      let w = run_of ports s 1 new in
      cells_slot to ports list c w (slot_size ports slots new new_size s h)
      ∙ sum_ext ports _ _ (λ x l. ap bit (right_counts to list c x (get_or w x 0) ((new_slot s h).each x l)))
      ∙ sums_same (slot_sound s h) w (slot_size ports slots new new_size s h) (λ x l. by_slot to ports slots list entries t.size s x h l) (λ e. bit (is_flow_of c list e)) refl
      ∙ sum_ext ports _ _ (λ i l. ap bit (sym (right_counts side list c i (get_or v i 0) ((slot_sound s h).each i l))))
      ∙ sym (cells_slot side ports list c v (slot_size ports slots entries t.size s h))

  pub run_cells : (c : Class) (start len : ℕ) → start + len ≤ slots
      → cells_on to ports list c (run_of ports start len new) ≡ cells_on side ports list c (run_of ports start len entries)
  run_cells c start len h =
      cells_slots to ports slots list new new_size c start len h
      ∙ sum_ext len _ _ (λ x l. slot_cells c (start + x) (omega arith))
      ∙ sym (cells_slots side ports slots list entries t.size c start len h)

  pub repeated_cells : (c : Class) (start len : ℕ)
      → cells_on to ports list c (repeated ports slots new start len) ≡ cells_on side ports list c (repeated ports slots entries start len)
  repeated_cells c start len =
      let some : 1 ≤ slots = omega (arith, t.well.power.is, pow_pos t.well.power.k) in
      cells_repeated to ports slots list new new_size c some start len
      ∙ sum_ext len _ _ (λ x l. slot_cells c ((start + x) % slots) (mod-lt (start + x) some))
      ∙ sym (cells_repeated side ports slots list entries t.size c some start len)

  pub frame_cells : (c : Class) → cells_on to ports list c new ≡ cells_on side ports list c entries
  frame_cells c =
      ap (cells_on to ports list c) (sym (run_all ports slots new new_size))
      ∙ run_cells c 0 slots (omega arith)
      ∙ ap (cells_on side ports list c) (run_all ports slots entries t.size)

  -- an entry that is not 0 is a flow of the list
  in_list : {P : Type 0} (s i f : ℕ) → s < slots → i < ports → get_or entries (s * ports + i) 0 ≡ suc f → (f < flows list → P) → P
  in_list s i f h l z then = by_entry side list i (get_or entries (s * ports + i) 0) (t.each_right s i h l) (λ d. absurd (omega arith)) (λ v k d p. then (omega arith))

  -- ---- nothing else is the frame by the other side
  pub turned_by : BySide to ports slots list entries new
  turned_by =
      record {
        size = by_size to ports slots list entries t.size;
        stands = λ s i f h l z.
            let g = slot_sound s h in
            let e = slot_at ports slots entries t.size s h i l ∙ z in
            in_list s i f h l z (λ k. by_at to ports slots list entries t.size s (on_side to (port_of list) f) h (g.ported to f k) ∙ entry_flow g i f l k e);
        idle = λ s x h l none. by_at to ports slots list entries t.size s x h l ∙ not_there s x h l none;
      }
    where
      not_there : (s x : ℕ) → s < slots → x < ports → ((i f : ℕ) → i < ports → get_or entries (s * ports + i) 0 ≡ suc f → on_side to (port_of list) f ≡ x → ⊥)
          → entry_of to ports list (run_of ports s 1 entries) x ≡ 0
      not_there s x h l none =
          by_port (slot_sound s h) x l (λ e _. e) (λ i f a b c d p q. absurd (none i f a (sym (slot_at ports slots entries t.size s h i a) ∙ c) p))

  pub only_turned : (given : List ℕ) → BySide to ports slots list entries given → given ≡ new
  only_turned given b =
      places_same ports slots given new (b.size ∙ t.size) new_size
      (λ s x h l.
      let in_the_slot = slot_at ports slots entries t.size s h in
      let there = by_at to ports slots list entries t.size s x h l in
      by_port (slot_sound s h) x l
      (λ e out. b.idle s x h l (λ i f a z p. true≢false (sym (goes_there s i f h a z p) ∙ out i a)) ∙ sym (there ∙ e))
      (λ i f a k c d p q. ap (λ z. get_or given (s * ports + z) 0) (sym p) ∙ b.stands s i f h a (sym (in_the_slot i a) ∙ c) ∙ sym (there ∙ d)))
    where
      goes_there : (s i f : ℕ) {x : ℕ} → s < slots → i < ports → get_or entries (s * ports + i) 0 ≡ suc f → on_side to (port_of list) f ≡ x
          → is_flow_of (port_on to x) list (get_or (run_of ports s 1 entries) i 0) ≡ true
      goes_there s i f h a z p =
          let e = slot_at ports slots entries t.size s h i a ∙ z in
          in_list s i f h a z (λ k. rw (e, sym p) (flow_of list to f k))

-- ---- frames of one slot
-- a slot of the frame is one by itself
pub slot_turnable : {side : Side} {ports slots : ℕ} {list entries : List ℕ} → Turnable side ports slots list entries → (s : ℕ) → s < slots
    → Turnable side ports 1 list (run_of ports s 1 entries)
slot_turnable {side} {ports} {slots} {list} {entries} t s h =
    let v = run_of ports s 1 entries in
    let size : length v ≡ 1 * ports = slot_size ports slots entries t.size s h ∙ omega arith in
    let whole = run_all ports 1 v size in
    record {
      well = record {
        rack = t.well.rack;
        power = record { k = 0; most = omega arith; is = refl };
        whole = t.well.whole;
        few = t.well.few;
        ported = t.well.ported;
        linked = t.well.linked;
      };
      size = size;
      each_right = λ r i a l. let z : r ≡ 0 = omega arith in let d : 0 * ports + i ≡ i = omega arith in rw (z, d) ((slot_sound t s h).each i l);
      each_once = λ r x a l. let z : r ≡ 0 = omega arith in rw (z, whole) (t.each_once s x h l);
    }

pub one_sound : {side : Side} {ports : ℕ} {list slot : List ℕ} → Turnable side ports 1 list slot → Sound side (other side) ports list slot
one_sound {side} {ports} {list} {slot} t = rw (run_all ports 1 slot t.size) at (slot_sound t 0 (omega arith))

-- a slot of the frame by the other side is that slot by the other side
pub slot_turned : {side : Side} {ports slots : ℕ} {list entries : List ℕ} → Turnable side ports slots list entries → (s : ℕ) → s < slots
    → (x : ℕ) → x < ports → get_or (by_side (other side) ports list (run_of ports s 1 entries)) x 0 ≡ get_or (by_side (other side) ports list entries) (s * ports + x) 0
slot_turned {side} {ports} {slots} {list} {entries} t s h x l =
    let v = run_of ports s 1 entries in
    let size = (slot_turnable t s h).size in
    let d : 0 * ports + x ≡ x = omega arith in
    rw d at (by_at (other side) ports 1 list v size 0 x (omega arith) l)
    ∙ ap (λ z. entry_of (other side) ports list z x) (run_all ports 1 v size)
    ∙ sym (by_at (other side) ports slots list entries t.size s x h l)
