-- The law on matrices: the frame of each list of a matrix, read by pairs, meets the rules by pairs, and nothing else does.
use Prim.Native.Nat.{ℕ, suc, zero, ◌+◌, ◌-◌, ◌*◌, ◌/◌, ◌%◌, ◌^◌, ◌≤◌, ◌<◌}
use mathlib.Core.Path.{◌≡◌, refl, sym, ap, ap₂, ◌∙◌, subst}
use mathlib.Core.List.{List, [], ◌∷◌, ◌++◌, map}
use mathlib.Core.Bool.{Bool, true, false}
use native.Mathlib.Omega.{arith}
use native.Mathlib.Nat.{div-add-mod', div-lt_iff_lt-mul, mod-lt, mul-add-div_right, mul-add-mod_self_right, div-eq_of_lt, mod-eq_of_lt, mul-le-mul_right}
use lib.Dec.{eqb}
use lib.ListN.{length, get_or, length-map, get_or-map}
use lib.Seq.{ext_get_or}
use borrow.Author.Tests.{ne_eqb}
use Rattle.rules.specs.Words.{if, both, bit, up_from, keep, sum_if}
use Rattle.rules.specs.Flows.{Side, input, output, End, inputs, links, flows, output_of, port_of, counts_of, flow, port_on, link, total, on_side, load_in, Fits}
use Rattle.rules.specs.Rules.{odd, odds_at, Partnered, Split, Slot, Scheduled}
use Rattle.rules.specs.Schedule.{half_of, frame_of}
use Rattle.rules.specs.Pairs.{pair_port, PartneredByPairs, FitsByPairs, SlotByPairs, ScheduledByPairs, in_matrix_order, sends_to, SamePairs}
use Rattle.rules.proofs.Cases.{by_eq, by_lt, both_true, eqb_alike, is_yes, is_no}
use Rattle.rules.proofs.Sums.{sum_ext}
use Rattle.rules.proofs.Kept.{keep_same}
use Rattle.rules.proofs.Partners.{partners_two}
use Rattle.rules.proofs.Singles.{none_there, singles_one, single_most}
use Rattle.rules.proofs.Splits.{only_split}
use Rattle.rules.proofs.Flows.{counts_length}
use Rattle.rules.proofs.Slots.{AtInputs}
use Rattle.rules.proofs.OneFrame.{frame_is}
use Rattle.rules.proofs.Spread.{Places, own_places, place_one, by_place, keep_along, sum_along, Spread, own_spread, odd_along, odd_place, spread, spread_is}
use Rattle.rules.proofs.Along.{partners_on, partners_back, Along, along_turned, split_along}
use Rattle.rules.proofs.Pairs.{place_in, list_places, list_input, list_link, list_spread, order_input, order_link}

-- a position of a matrix is in one of its rows
row_low : (ports p : ℕ) → p < ports * ports → p / ports < ports
row_low ports p h =
    (div-lt_iff_lt-mul {k = ports} {x = p} {y = ports} (by_lt 0 ports (λ l. l) (λ l. let z : ports ≡ 0 = omega arith in absurd (omega (arith, ap (λ k. k * ports) z))))).1 h

map_append : (g : ℕ → ℕ) (v w : List ℕ) → map g (v ++ w) ≡ map g v ++ map g w
map_append g [] w = refl
map_append g (x ∷ v) w = ap (λ (r : List ℕ). g x ∷ r) (map_append g v w)

-- ---- a list whose flows have places in a matrix: there they have their input, and on the first link their output
module _ (ports n top : ℕ) (list : List ℕ) (e : ℕ → ℕ) (pl : Places n top e) (ins : (f : ℕ) → f < n → port_of list inputs f ≡ e f / ports)
    (outs : (f : ℕ) → f < n → port_of list links f ≡ e f % ports * 4) where
  -- ---- counts c of the flows, which stand in m
  module _ (c m : List ℕ) (sp : Spread n top e c m) where
    -- the odd counts of a port are those of the flows, at their places
    odds_along : (s : Side) (t : End) (x y : ℕ) → ((f : ℕ) → f < n → eqb (pair_port ports s (e f)) x ≡ eqb (port_of list t f) y)
        → odds_at (pair_port ports s) m x ≡ map e (odds_at (port_of list t) c y)
    odds_along s t x y same =
        ap (λ (k : ℕ). keep (λ p. both (odd m p) (eqb (pair_port ports s p) x)) (up_from 0 k)) sp.spread_size
        ∙ keep_along pl (λ p. both (odd m p) (eqb (pair_port ports s p) x)) (λ p z. odd_place pl sp p (both_true (odd m p) (eqb (pair_port ports s p) x) z).0)
        ∙ ap (map e)
        (keep_same _ (λ f. both (odd c f) (eqb (port_of list t f) y)) 0 n (λ f h. ap₂ both (odd_along sp f) (same f (omega arith)))
        ∙ ap (λ (k : ℕ). keep (λ f. both (odd c f) (eqb (port_of list t f) y)) (up_from 0 k)) (sym sp.size))

    at_inputs : (x : ℕ) → odds_at (pair_port ports input) m x ≡ map e (odds_at (port_of list inputs) c x)
    at_inputs x = odds_along input inputs x x (λ f h. eqb_alike (pair_port ports input (e f)) x (port_of list inputs f) x (λ d. omega (arith, ins f h)) (λ d. omega (arith, ins f h)))

    at_outputs : (x : ℕ) → odds_at (pair_port ports output) m x ≡ map e (odds_at (port_of list links) c (x * 4))
    at_outputs x = odds_along output links x (x * 4) (λ f h. eqb_alike (pair_port ports output (e f)) x (port_of list links f) (x * 4) (λ d. omega (arith, outs f h)) (λ d. omega (arith, outs f h)))

    -- all are on the first link of their output
    first_link : (o f : ℕ) → f < length c → output_of (port_of list links f) ≡ o → port_of list links f % 4 ≡ 0
    first_link o f h d = omega (arith, outs f (omega (arith, sp.size)))

    partners_pairs : (f g : ℕ) → Partnered (port_of list) c f g → PartneredByPairs ports m (e f) (e g)
    partners_pairs f g (flow x, w) = absurd (omega (arith, partners_two [] f g w))
    partners_pairs f g (port_on input x, w) = (input, x, rw (at_inputs x) (partners_on e (odds_at (port_of list inputs) c x) f g w))
    partners_pairs f g (port_on output x, w) =
        absurd (omega (arith, partners_two _ f g (rw (singles_one (port_of list links) c x (first_link x)) at w), single_most (odds_at (port_of list links) c (x * 4))))
    partners_pairs f g (link x, w) =
        by_eq (x % 4) 0
        (λ d.
        let z : output_of x * 4 ≡ x = omega arith in
        (output, output_of x, rw (at_outputs (output_of x), z) (partners_on e (odds_at (port_of list links) c x) f g w)))
        (λ d. absurd (omega (arith, partners_two [] f g (rw (none_there (port_of list links) c (output_of x) (first_link (output_of x)) x refl d) at w))))
    partners_pairs f g (total, w) = absurd (omega (arith, partners_two [] f g w))

    pairs_partners : (p q : ℕ) → PartneredByPairs ports m p q → (f : ℕ) × (g : ℕ) × (e f ≡ p) × (e g ≡ q) × Partnered (port_of list) c f g
    pairs_partners p q (input, x, w) =
        let r = partners_back e (odds_at (port_of list inputs) c x) p q (rw (at_inputs x) at w) in
        (r.0, r.1, r.2, r.3, (port_on input x, r.4))
    pairs_partners p q (output, x, w) =
        let r = partners_back e (odds_at (port_of list links) c (x * 4)) p q (rw (at_outputs x) at w) in
        (r.0, r.1, r.2, r.3, (link (x * 4), r.4))

    pub pairs_along : Along e (Partnered (port_of list) c) (PartneredByPairs ports m)
    pairs_along = record { on = partners_pairs; back = pairs_partners }

    -- ---- loads
    side_port : (s : Side) (f : ℕ) → f < n → pair_port ports s (e f) ≡ on_side s (port_of list) f
    side_port input f h = omega (arith, ins f h)
    side_port output f h = omega (arith, outs f h)

    pub load_along : (s : Side) (x : ℕ) → sum_if (length m) (λ p. eqb (pair_port ports s p) x) (λ p. get_or m p 0) ≡ load_in (port_on s x) (port_of list) c
    unfolding load_in
    load_along s x =
        ap (λ (k : ℕ). sum_if k (λ p. eqb (pair_port ports s p) x) (λ p. get_or m p 0)) sp.spread_size
        ∙ sum_along pl (λ p. if (eqb (pair_port ports s p) x) (get_or m p 0) 0) (λ p none. none_at (eqb (pair_port ports s p) x) (get_or m p 0) (sp.off p none))
        ∙ sum_ext n _ _ (λ f h. ap₂ (λ (y v : ℕ). if (eqb y x) v 0) (side_port s f h) (sp.count f))
        ∙ ap (λ (k : ℕ). sum_if k (λ f. eqb (on_side s (port_of list) f) x) (λ f. get_or c f 0)) (sym sp.size)
      where
        none_at : (b : Bool) (v : ℕ) → v ≡ 0 → if b v 0 ≡ 0
        none_at true v d = d
        none_at false v d = refl

    pub fits_pairs : (slots : ℕ) → Fits ports slots (port_of list) c → FitsByPairs ports slots m
    fits_pairs slots fits input x h = rw (load_along input x) (fits x h).0
    fits_pairs slots fits output x h = rw (load_along output x) (fits x h).1

    pub pairs_fit : (slots : ℕ) → FitsByPairs ports slots m → Fits ports slots (port_of list) c
    pairs_fit slots fits x h = (rw (load_along input x) at (fits input x h), rw (load_along output x) at (fits output x h))

    -- ---- rule 6
    module _ (square : top ≡ ports * ports) (entries : List ℕ) (slot : Slot ports (port_of list) c entries) where
      byte_at : (i : ℕ) → get_or (map (sends_to list) entries) i 0 ≡ sends_to list (get_or entries i 0)
      byte_at i = get_or-map (sends_to list) entries i 0

      sends_own : (f : ℕ) → f < n → sends_to list (suc f) ≡ suc (e f % ports)
      sends_own f h =
          let d : suc f - 1 ≡ f = omega arith in
          rw (ne_eqb (suc f) 0 (omega arith), d) (omega (arith, outs f h))

      -- an entry that is not 0 is a flow of its input
      entry_own : (i f : ℕ) → i < ports → get_or entries i 0 ≡ suc f → (f < n) × (e f / ports ≡ i)
      entry_own i f h d = let o = slot.own i f h d in let l : f < n = omega (arith, o.0, sp.size) in (l, omega (arith, ins f l, o.1))

      byte_most : (i v : ℕ) → i < ports → get_or entries i 0 ≡ v → sends_to list v ≤ ports
      byte_most i zero h d = omega arith
      byte_most i (suc f) h d = omega (arith, sends_own f (entry_own i f h d).0, mod-lt (e f) {m = ports} (omega arith))

      -- who sends to the output of a position is the flow that has its place there
      sender : (p v : ℕ) → p < ports * ports → get_or entries (p / ports) 0 ≡ v → sends_to list v ≡ suc (p % ports) → (f : ℕ) × (v ≡ suc f) × (e f ≡ p)
      sender p zero h d s = absurd (omega arith)
      sender p (suc f) h d s =
          let o = entry_own (p / ports) f (row_low ports p h) d in
          (f, refl, sym (div-add-mod' (e f) ports) ∙ ap₂ (λ (i o : ℕ). i * ports + o) o.1 (omega (arith, sends_own f o.0)) ∙ div-add-mod' p ports)

      -- the count of a pair is 1 where its input sends to its output
      pair_same : (p : ℕ) → p < ports * ports → bit (eqb (sends_to list (get_or entries (p / ports) 0)) (suc (p % ports))) ≡ get_or m p 0
      pair_same p h =
          let v = get_or entries (p / ports) 0 in
          by_place pl p
          (λ f d.
          let l : f < n = pl.only f (omega arith) in
          ap bit (eqb_alike (sends_to list v) (suc (p % ports)) v (suc f)
          (λ s. let r = sender p v h refl s in r.1 ∙ ap suc (place_one pl r.0 f (r.2 ∙ sym d)))
          (λ s. ap (sends_to list) s ∙ sends_own f l ∙ ap (λ (q : ℕ). suc (q % ports)) d))
          ∙ ap (λ (i : ℕ). bit (eqb (get_or entries i 0) (suc f))) (ap (λ (q : ℕ). q / ports) (sym d) ∙ sym (ins f l))
          ∙ slot.same f (omega (arith, sp.size))
          ∙ sym (sp.count f)
          ∙ ap (λ (q : ℕ). get_or m q 0) d)
          (λ none. is_no (sends_to list v) (suc (p % ports)) (λ s. let r = sender p v h refl s in none r.0 r.2) ∙ sym (sp.off p none))

      pub slot_pairs : SlotByPairs ports m (map (sends_to list) entries)
      slot_pairs =
          record {
            size = length-map entries (sends_to list) ∙ slot.size;
            few = fits_pairs 1 slot.few;
            own = λ i h. rw (byte_at i) (byte_most i (get_or entries i 0) h refl);
            same = λ p h. omega (arith, ap (λ (b : ℕ). bit (eqb b (suc (p % ports)))) (byte_at (p / ports)), pair_same p h);
          }

  -- ---- down to single slots
  pub frame_pairs : top ≡ ports * ports → (k : ℕ) (c m entries : List ℕ) → Spread n top e c m → Scheduled ports (port_of list) k c entries
      → ScheduledByPairs ports k m (map (sends_to list) entries)
  unfolding Scheduled ScheduledByPairs
  frame_pairs square zero c m entries sp s = slot_pairs c m sp square entries s
  frame_pairs square (suc k) c m entries sp s =
      let a = spread_is pl s.first (s.split.first_size ∙ sp.size) in
      let b = spread_is pl s.second (s.split.second_size ∙ sp.size) in
      record {
        first = spread pl s.first;
        second = spread pl s.second;
        front = map (sends_to list) s.front;
        back = map (sends_to list) s.back;
        split = split_along pl (pairs_along c m sp) sp a b s.split;
        first_half = frame_pairs square k s.first (spread pl s.first) s.front a s.first_half;
        second_half = frame_pairs square k s.second (spread pl s.second) s.back b s.second_half;
        joined = ap (map (sends_to list)) s.joined ∙ map_append (sends_to list) s.front s.back;
      }

-- ---- nothing else does
-- two bytes that send to the same outputs
byte_one : (ports v w : ℕ) → v ≤ ports → w ≤ ports → ((o : ℕ) → o < ports → bit (eqb v (suc o)) ≡ bit (eqb w (suc o))) → v ≡ w
byte_one ports zero zero l h same = refl
byte_one ports zero (suc o) l h same = absurd (omega (arith, same o h, is_no 0 (suc o) (omega arith), is_yes (suc o) (suc o) refl))
byte_one ports (suc o) w l h same =
    by_eq w (suc o) (λ d. sym d) (λ d. absurd (omega (arith, same o l, is_yes (suc o) (suc o) refl, is_no w (suc o) d)))

module _ (ports : ℕ) (m : List ℕ) where
  pair_at : (bytes : List ℕ) → SlotByPairs ports m bytes → (i o : ℕ) → i < ports → o < ports → bit (eqb (get_or bytes i 0) (suc o)) ≡ get_or m (i * ports + o) 0
  pair_at bytes s i o hi ho =
      let low : 0 < ports = omega arith in
      let x : (i * ports + o) / ports ≡ i = mul-add-div_right low i o ∙ omega (arith, div-eq_of_lt ho) in
      let y : (i * ports + o) % ports ≡ o = mul-add-mod_self_right i ports o ∙ mod-eq_of_lt ho in
      rw (x, y) at (s.same (i * ports + o) (omega (arith, mul-le-mul_right ports hi)))

  only_slot_pairs : (x y : List ℕ) → SlotByPairs ports m x → SlotByPairs ports m y → x ≡ y
  only_slot_pairs x y s t =
      ext_get_or 0 x y (s.size ∙ sym t.size)
      (λ i h. let l : i < ports = omega (arith, s.size) in
      byte_one ports (get_or x i 0) (get_or y i 0) (s.own i l) (t.own i l) (λ o k. pair_at x s i o l k ∙ sym (pair_at y t i o l k)))

  -- by pairs the halves are those of the list in matrix order
  only_halves : (a b : List ℕ) → Split (PartneredByPairs ports m) m a b
      → (a ≡ half_of (port_of (in_matrix_order ports m)) 1 m) × (b ≡ half_of (port_of (in_matrix_order ports m)) 2 m)
  only_halves a b sp =
      let list = in_matrix_order ports m in
      let al = pairs_along ports (length m) (length m) list (λ f. f) (own_places (length m)) (order_input ports m) (order_link ports m) m m (own_spread m) in
      only_split (port_of list) m a b
      (split_along (own_places (length m)) (along_turned al) (own_spread m) (own_half a sp.first_size) (own_half b sp.second_size) sp)
    where
      own_half : (h : List ℕ) → length h ≡ length m → Spread (length m) (length m) (λ f. f) h h
      own_half h size = rw (sym size) (own_spread h)

pub only_by_pairs : (ports k : ℕ) (m x y : List ℕ) → ScheduledByPairs ports k m x → ScheduledByPairs ports k m y → x ≡ y
unfolding ScheduledByPairs
only_by_pairs ports zero m x y s t = only_slot_pairs ports m x y s t
only_by_pairs ports (suc k) m x y s t =
    let a = only_halves ports m s.first s.second s.split in
    let b = only_halves ports m t.first t.second t.split in
    s.joined
    ∙ ap₂ ◌++◌
    (only_by_pairs ports k t.first s.front t.front (subst (λ (l : List ℕ). ScheduledByPairs ports k l s.front) (a.0 ∙ sym b.0) s.first_half) t.first_half)
    (only_by_pairs ports k t.second s.back t.back (subst (λ (l : List ℕ). ScheduledByPairs ports k l s.back) (a.1 ∙ sym b.1) s.second_half) t.second_half)
    ∙ sym t.joined

-- The law on matrices.
pub same_pairs : SamePairs
same_pairs ports k matrix list square fits l =
    let e = place_in ports l in
    let pl = list_places ports l in
    let ins = list_input ports l in
    let outs = list_link ports l in
    let sp = list_spread ports l in
    let entries = frame_of ports (port_of list) k (counts_of list) in
    let frame = frame_is ports (port_of list) k (counts_of list) placed (pairs_fit ports (flows list) (length matrix) list e pl ins outs (counts_of list) matrix sp (2 ^ k) fits) in
    let meets = frame_pairs ports (flows list) (length matrix) list e pl ins outs square k (counts_of list) matrix entries sp frame in
    (meets, λ other s. only_by_pairs ports k matrix other (map (sends_to list) entries) s meets)
  where
    placed : AtInputs ports (port_of list) (length (counts_of list))
    placed f h =
        let low : f < flows list = omega (arith, counts_length list) in
        rw (list_input ports l f low) (row_low ports (place_in ports l f) (omega (arith, (list_places ports l).inside f low)))
