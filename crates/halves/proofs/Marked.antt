-- One more digit picked, one more word marked, and one more made that of the others.
use Prim.Native.Nat.{ℕ, ◌+◌, ◌-◌, ◌*◌, ◌/◌, ◌%◌, ◌^◌, ◌≤◌, ◌<◌}
use mathlib.Core.Path.{◌≡◌, refl, sym, ap, ◌∙◌}
use mathlib.Core.Logic.{◌≢◌}
use mathlib.Core.List.{List, [], ◌∷◌}
use native.Mathlib.Omega.{arith}
use lib.Bits.{bit_xor}
use lib.ListN.{length, get_or, set, length-set}
use lib.Seq.{get_or-set_same, get_or-set_other}
use Rattle.rules.specs.Words.{Every}
use Rattle.rules.proofs.Cases.{by_eq, by_lt}
use Rattle.rules.proofs.Lists.{every_map}
use Rattle.bits.specs.Digits.{digit, places, PutAt}
use Rattle.planes.specs.Planes.{digit_at, words_of, span_of, Ends, Mask}
use Rattle.halves.specs.Steps.{Picked, Marked, Others}
use Rattle.bits.proofs.Digits.{digit_most, digit_none, digit_past, digit_sum, if_same, if_other}
use Rattle.bits.proofs.Lowest.{turn_below, turn_place, turn_digit, end_digit}
use Rattle.planes.proofs.Placed.{word_below}

-- ---- one word
pub record Picking (x base : ℕ) (favoured : List ℕ) (left r : ℕ) : Type 0 where
  pub below : Every (λ p. p < 528) (places base 64 left)
  pub within : (i : ℕ) → i < 64 → digit left i ≤ digit x i
  pub done : (i : ℕ) → i < 64 → digit x i ≡ 1 → digit left i ≡ 0 → digit r i ≡ get_or favoured (base + i) 0 % 2
  pub wait : (i : ℕ) → i < 64 → digit left i ≡ 1 → digit r i ≡ 0
  pub none : (i : ℕ) → digit x i ≡ 0 → digit r i ≡ 0

pub picking_start : {x base : ℕ} {favoured : List ℕ} → Every (λ p. p < 528) (places base 64 x) → Picking x base favoured x 0
picking_start b =
    record {
      below = b;
      within = λ i h. omega arith;
      done = λ i h a c. absurd (omega arith);
      wait = λ i h a. digit_none i;
      none = λ i a. digit_none i;
    }

module _ {x base : ℕ} {favoured : List ℕ} {left r : ℕ} (p : Picking x base favoured left r) {t : ℕ} (next : ℕ) (e : places 0 64 left ≡ t ∷ places 0 64 next) where
  pub picking_zeros : t < 64
  picking_zeros = turn_below left next e

  pub picking_below : base + t < 528
  picking_below = let b = rw (turn_place left next e base) at p.below in b.0

  pub picking_on : {d v : ℕ} → d ≡ get_or favoured (base + t) 0 % 2 → PutAt r t d v → Picking x base favoured next v
  picking_on {d} {v} f u =
      let law = turn_digit left next e in
      record {
        below = let b = rw (turn_place left next e base) at p.below in b.1;
        within = λ i h. omega (arith, law i h, p.within i h);
        done = λ i h a b.
            by_eq i t
            (λ z. omega (arith, law i h, if_same i t 1 z, if_same i t d z, u.put i, p.wait i h (omega (arith, law i h, if_same i t 1 z)), ap (λ (y : ℕ). get_or favoured (base + y) 0) z))
            (λ z. omega (arith, u.put i, if_other i t d z, p.done i h a (omega (arith, law i h, if_other i t 1 z))));
        wait = λ i h a.
            by_eq i t
            (λ z. absurd (omega (arith, law i h, if_same i t 1 z, digit_most left i)))
            (λ z. omega (arith, u.put i, if_other i t d z, p.wait i h (omega (arith, law i h, if_other i t 1 z))));
        none = λ i a.
            by_eq i t
            (λ z. let h : i < 64 = omega (arith, picking_zeros) in absurd (omega (arith, law i h, if_same i t 1 z, p.within i h)))
            (λ z. omega (arith, u.put i, if_other i t d z, p.none i a));
      }

pub picking_end : {x base : ℕ} {favoured : List ℕ} {left r : ℕ} → Picking x base favoured left r → places 0 64 left ≡ [] → x < 2 ^ 64 → Picked x base favoured r
picking_end {x} {left = left} p e f =
    record {
      has = λ i a.
          by_lt i 64
          (λ h. p.done i h a (end_digit left e i h))
          (λ h. absurd (omega (arith, digit_past 64 x i f h)));
      none = p.none;
    }

-- ---- one word of a mask
module _ (mask : List ℕ) (w v : ℕ) (l : length mask ≡ 9) (h : w < 9) where
  pub word_here : (p : ℕ) → p / 64 ≡ w → digit_at (set mask w v) p ≡ digit v (p % 64)
  word_here p e = rw e (ap (λ (z : ℕ). digit z (p % 64)) (get_or-set_same mask w v 0 (omega arith)))

  pub word_other : (p : ℕ) → p / 64 ≢ w → digit_at (set mask w v) p ≡ digit_at mask p
  word_other p n = ap (λ (z : ℕ). digit z (p % 64)) (get_or-set_other mask w (p / 64) v 0 n)

pub record Marking (planes favoured old : List ℕ) (w : ℕ) (mask : List ℕ) : Type 0 where
  pub len : length mask ≡ 9
  pub has : (p : ℕ) → p < w * 64 → digit_at planes p ≡ 1 → digit_at mask p ≡ get_or favoured p 0 % 2
  pub none : (p : ℕ) → p < w * 64 → digit_at planes p ≡ 0 → digit_at mask p ≡ 0
  pub kept : (v : ℕ) → w ≤ v → get_or mask v 0 ≡ get_or old v 0

pub marking_start : {planes favoured mask : List ℕ} → length mask ≡ 9 → Marking planes favoured mask 0 mask
marking_start l = record { len = l; has = λ p h. absurd (omega arith); none = λ p h. absurd (omega arith); kept = λ v h. refl }

-- the positions that are looked up are below 528
pub marking_below : {n : ℕ} {planes : List ℕ} {w x : ℕ} → Ends n planes → w < words_of n → x ≡ get_or planes w 0 → Every (λ p. p < 528) (places (w * 64) 64 x)
marking_below {n} {planes} {w} e h is =
    let few = e.few in
    rw is (every_map (λ p. p < n) (λ p. p < 528) (λ p l. omega arith) (places (w * 64) 64 (get_or planes w 0)) (word_below e w h))

pub marking_on : {planes favoured old mask : List ℕ} {w x v : ℕ} → Marking planes favoured old w mask → w < 9 → x ≡ get_or planes w 0
    → Picked x (w * 64) favoured v → Marking planes favoured old (w + 1) (set mask w v)
marking_on {planes} {favoured} {old} {mask} {w} {x} {v} m w_lt is q =
    let l = m.len in
    let p : Picked (get_or planes w 0) (w * 64) favoured v = rw (sym is) q in
    record {
      len = length-set mask w v ∙ l;
      has = λ q g o.
          by_eq (q / 64) w
          (λ e. word_here mask w v l w_lt q e ∙ p.has (q % 64) (rw e at o) ∙ ap (λ (z : ℕ). get_or favoured z 0 % 2) (omega arith))
          (λ n. word_other mask w v l w_lt q n ∙ m.has q (omega arith) o);
      none = λ q g o.
          by_eq (q / 64) w
          (λ e. word_here mask w v l w_lt q e ∙ p.none (q % 64) (rw e at o))
          (λ n. word_other mask w v l w_lt q n ∙ m.none q (omega arith) o);
      kept = λ u g. get_or-set_other mask w u v 0 (λ e. absurd (omega arith)) ∙ m.kept u (omega arith);
    }

pub marking_end : {n : ℕ} {planes favoured old mask : List ℕ} {w : ℕ} → Marking planes favoured old w mask → w ≡ words_of n → Marked n planes favoured old mask
marking_end m v = record { len = m.len; has = λ p h. m.has p (omega arith); none = λ p h. m.none p (omega arith); behind = λ u h. m.kept u (omega arith) }

-- ---- the others
pub record Complementing (n : ℕ) (planes old : List ℕ) (w : ℕ) (mask : List ℕ) : Type 0 where
  pub len : length mask ≡ 9
  pub done : (p : ℕ) → p < w * 64 → p < span_of n → digit_at mask p ≡ digit_at planes p - digit_at old p
  pub left : (p : ℕ) → w * 64 ≤ p → digit_at mask p ≡ digit_at old p
  pub kept : (v : ℕ) → w ≤ v → get_or mask v 0 ≡ get_or old v 0

pub complementing_start : {n : ℕ} {planes mask : List ℕ} → Mask n planes mask → Complementing n planes mask 0 mask
complementing_start m = record { len = m.len; done = λ p h. absurd (omega arith); left = λ p h. refl; kept = λ v h. refl }

other_digit : (x y i : ℕ) → digit y i ≤ digit x i → digit (bit_xor x y) i ≡ digit x i - digit y i
other_digit x y i h = omega (arith, digit_sum x y i, digit_most (bit_xor x y) i, digit_most x i)

pub complementing_on : {n : ℕ} {planes old mask : List ℕ} {w x : ℕ} → Complementing n planes old w mask → Mask n planes old → w < 9 → x ≡ get_or planes w 0
    → Complementing n planes old (w + 1) (set mask w (bit_xor x (get_or mask w 0)))
complementing_on {n} {planes} {old} {mask} {w} {x} t m w_lt is =
    let l = t.len in
    let v = bit_xor (get_or planes w 0) (get_or mask w 0) in
    rw is (record {
      len = length-set mask w v ∙ l;
      done = λ p g s.
          by_eq (p / 64) w
          (λ e.
          let a = rw e at (t.left p (omega arith)) in
          let b = rw e at (m.only p s) in
          let here : digit_at (set mask w v) p ≡ digit v (p % 64) = word_here mask w v l w_lt p e in
          here ∙ rw e (omega (arith, other_digit (get_or planes w 0) (get_or mask w 0) (p % 64) (omega arith))))
          (λ z. word_other mask w v l w_lt p z ∙ t.done p (omega arith) s);
      left = λ p g. word_other mask w v l w_lt p (omega arith) ∙ t.left p (omega arith);
      kept = λ u g. get_or-set_other mask w u v 0 (λ e. absurd (omega arith)) ∙ t.kept u (omega arith);
    })

pub complementing_end : {n : ℕ} {planes old mask : List ℕ} {w : ℕ} → Complementing n planes old w mask → w ≡ words_of n → Others n planes old mask
complementing_end t v = record { len = t.len; has = λ p h. t.done p (omega arith) h; kept = λ u h. t.kept u (omega arith) }

pub others_mask : {n : ℕ} {planes old mask : List ℕ} → Others n planes old mask → Mask n planes mask
others_mask o = record { len = o.len; only = λ p h. omega (arith, o.has p h) }
