-- One more plane of a word added, and one more word halved.
use Prim.Native.Nat.{ℕ, suc, ◌+◌, ◌-◌, ◌*◌, ◌/◌, ◌%◌, ◌^◌, ◌≤◌, ◌<◌}
use mathlib.Core.Path.{◌≡◌, refl, sym, ap, ◌∙◌}
use mathlib.Core.Logic.{◌≢◌}
use mathlib.Core.List.{List}
use native.Mathlib.Omega.{arith}
use native.Mathlib.Nat.{mul-one, mul_comm, pow-suc, pow-le-pow_right, zero-lt-suc}
use native.Mathlib.Numerals.{add-one}
use lib.Bits.{bit_and, bit_xor}
use lib.ListN.{length, get_or, set, length-set}
use lib.Seq.{get_or-set_same, get_or-set_other}
use Rattle.rules.proofs.Cases.{by_eq, by_lt}
use Rattle.bits.specs.Digits.{digit, binary}
use Rattle.planes.specs.Planes.{digit_in, digit_at, count_at, counts_in, words_of, span_of, BlockPlanes, Mask}
use Rattle.halves.specs.Steps.{halves, Grown, HalfPlanes}
use Rattle.planes.proofs.Lists.{at_end}
use Rattle.bits.proofs.Digits.{digit_most, digit_sum, twice_pow, binary_suc, binary_same, scaled}
use Rattle.planes.proofs.Counts.{map_same, digit_le, count_parts, count_odd}

-- ---- one word
-- what the planes above the lowest have at a position
abbrev upper : ℕ → List ℕ → ℕ → ℕ
upper m planes p = binary m (λ b. digit_in planes p (suc b))

-- the first b planes of word w are added, and the carry is left to add
pub record Rippling (planes : List ℕ) (w extra b : ℕ) (old half : List ℕ) (carry : ℕ) : Type 0 where
  pub len : length half ≡ 99
  pub sum : (p : ℕ) → p / 64 ≡ w → binary b (digit_in half p) + 2 ^ b * digit carry (p % 64) ≡ upper b planes p + digit extra (p % 64)
  pub rest : (p a : ℕ) → p < 576 → p / 64 ≢ w → digit_in half p a ≡ digit_in old p a
  pub others : (j : ℕ) → j % 9 ≢ w → get_or half j 0 ≡ get_or old j 0
  pub upward : (j : ℕ) → b * 9 ≤ j → get_or half j 0 ≡ get_or old j 0

pub rippling_start : {planes half : List ℕ} {w extra : ℕ} → length half ≡ 99 → Rippling planes w extra 0 half half extra
unfolding binary
rippling_start l = record { len = l; sum = λ p e. omega arith; rest = λ p a h n. refl; others = λ j n. refl; upward = λ j h. refl }

module _ (planes half : List ℕ) (w carry b : ℕ) (l : length half ≡ 99) (fits : b * 9 + w < 99) (w_lt : w < 9) where
  abbrev word : ℕ
  word = get_or planes (b * 9 + w + 9) 0

  abbrev next : List ℕ
  next = set half (b * 9 + w) (bit_xor word carry)

  other : (p a : ℕ) → a * 9 + p / 64 ≢ b * 9 + w → digit_in next p a ≡ digit_in half p a
  unfolding digit_in
  other p a n = ap (λ (z : ℕ). digit z (p % 64)) (get_or-set_other half (b * 9 + w) (a * 9 + p / 64) (bit_xor word carry) 0 n)

  below : (p : ℕ) → p / 64 ≡ w → binary b (digit_in next p) ≡ binary b (digit_in half p)
  below p e = binary_same b (digit_in next p) (digit_in half p) (λ a h. other p a (omega arith))

  here : (p : ℕ) → p / 64 ≡ w → digit_in next p b ≡ digit (bit_xor word carry) (p % 64)
  unfolding digit_in
  here p e = rw e (ap (λ (z : ℕ). digit z (p % 64)) (get_or-set_same half (b * 9 + w) (bit_xor word carry) 0 (omega arith)))

  above : (p : ℕ) → p / 64 ≡ w → digit_in planes p (suc b) ≡ digit word (p % 64)
  unfolding digit_in
  above p e = ap (λ (z : ℕ). digit (get_or planes z 0) (p % 64)) (omega arith)

pub rippling_on : {planes old half : List ℕ} {w extra b m carry : ℕ} → Rippling planes w extra b old half carry → b < m → m ≤ 10 → w < 9
    → Rippling planes w extra (b + 1) old (set half (b * 9 + w) (bit_xor (get_or planes (b * 9 + w + 9) 0) carry)) (bit_and (get_or planes (b * 9 + w + 9) 0) carry)
rippling_on {planes} {old} {half} {w} {extra} {b} {m} {carry} r h k w_lt =
    let l = r.len in
    let fits : b * 9 + w < 99 = omega arith in
    let x = get_or planes (b * 9 + w + 9) 0 in
    rw add-one (record {
      len = length-set half (b * 9 + w) (bit_xor x carry) ∙ l;
      sum = λ p e.
          omega (
            arith,
            binary_suc b (digit_in (set half (b * 9 + w) (bit_xor x carry)) p),
            binary_suc b (λ a. digit_in planes p (suc a)),
            below planes half w carry b l fits w_lt p e,
            r.sum p e,
            twice_pow b (digit (bit_and x carry) (p % 64)),
            ap (λ (z : ℕ). 2 ^ b * z) (here planes half w carry b l fits w_lt p e),
            ap (λ (z : ℕ). 2 ^ b * z) (above planes half w carry b l fits w_lt p e),
            scaled (2 ^ b) (digit (bit_xor x carry) (p % 64)) (digit (bit_and x carry) (p % 64)) (digit x (p % 64)) (digit carry (p % 64)) (digit_sum x carry (p % 64)),
          );
      rest = λ p a q n. other planes half w carry b l fits w_lt p a (omega arith) ∙ r.rest p a q n;
      others = λ j n. get_or-set_other half (b * 9 + w) j (bit_xor x carry) 0 (λ e. n (ap (λ (z : ℕ). z % 9) e ∙ omega arith)) ∙ r.others j n;
      upward = λ j q. get_or-set_other half (b * 9 + w) j (bit_xor x carry) 0 (λ e. absurd (omega arith)) ∙ r.upward j (omega arith);
    })

-- what fits carries nothing out
no_carry : (s t m c : ℕ) → s + 2 ^ m * c ≡ t → t < 2 ^ m → c ≤ 1 → s ≡ t
no_carry s t m c e h l =
    by_eq c 0
    (λ z. omega (arith, ap (λ (y : ℕ). 2 ^ m * y) z))
    (λ n. let o : c ≡ 1 = omega arith in absurd (omega (arith, ap (λ (y : ℕ). 2 ^ m * y) o, mul-one (2 ^ m))))

pub rippling_end : {planes old half : List ℕ} {w extra b m carry : ℕ} → Rippling planes w extra b old half carry → b ≤ m → m ≤ b → Grown planes w extra m old half
unfolding count_at
rippling_end {planes} {old} {half} {w} {extra} {b} {m} {carry} g a z =
    let r = at_end (λ k. Rippling planes w extra k old half carry) g a z in
    record {
      len = r.len;
      sum = λ p e h. no_carry (binary m (digit_in half p)) (upper m planes p + digit extra (p % 64)) m (digit carry (p % 64)) (r.sum p e) h (digit_most carry (p % 64));
      rest = λ p h n. binary_same m (digit_in half p) (digit_in old p) (λ b l. r.rest p b h n);
      others = r.others;
      upward = r.upward;
    }

-- ---- all words
pub record Halving (m n : ℕ) (planes mask old : List ℕ) (w : ℕ) (half : List ℕ) : Type 0 where
  pub len : length half ≡ 99
  pub done : (p : ℕ) → p < w * 64 → p < span_of n → count_at m half p ≡ count_at (suc m) planes p / 2 + digit_at mask p
  pub past : (j : ℕ) → w ≤ j % 9 → get_or half j 0 ≡ get_or old j 0
  pub above : (j : ℕ) → m * 9 ≤ j → get_or half j 0 ≡ get_or old j 0

pub halving_start : {m n : ℕ} {planes mask half : List ℕ} → length half ≡ 99 → Halving m n planes mask half 0 half
halving_start l = record { len = l; done = λ p h. absurd (omega arith); past = λ j h. refl; above = λ j h. refl }

module _ {m n : ℕ} {planes mask : List ℕ} (b : BlockPlanes m n planes) (k : Mask n planes mask) (some : 1 ≤ m) where
  -- a half has room in one plane less
  half_room : (p : ℕ) → p < span_of n → upper m planes p + digit_at mask p < 2 ^ m
  half_room p h =
      let two : 2 ^ 1 ≤ 2 ^ m = pow-le-pow_right (zero-lt-suc 1) some in
      let parts = count_parts m planes p in
      let one = k.only p h in
      by_lt p n
      (λ l. omega (arith, b.most p l, digit_le planes p))
      (λ l. omega (arith, b.past p l h, digit_le planes p))

  pub halving_on : {w words : ℕ} {old half next : List ℕ} → Halving m n planes mask old w half → w < words → words ≡ words_of n → words ≤ 9
      → Grown planes w (get_or mask w 0) m half next → Halving m n planes mask old (w + 1) next
  halving_on {w} {words} {old} {half} {next} g h v few r =
      record {
        len = r.len;
        done = λ p l s.
            by_eq (p / 64) w
            (λ e. here p e s)
            (λ z. r.rest p (omega arith) z ∙ g.done p (omega arith) s);
        past = λ j q. r.others j (omega arith) ∙ g.past j (omega arith);
        above = λ j q. r.upward j q ∙ g.above j q;
      }
    where
      here : (p : ℕ) → p / 64 ≡ w → p < span_of n → count_at m next p ≡ count_at (suc m) planes p / 2 + digit_at mask p
      here p e s =
          let f = sym e in
          let room = half_room p s in
          let sum = rw f at (r.sum p e) in
          omega (arith, sum room, count_parts m planes p, digit_le planes p)

-- ---- the half
pub halved_counts : {m n : ℕ} {planes mask old half : List ℕ} → HalfPlanes m n planes mask old half → counts_in m half n ≡ halves m planes mask n
unfolding counts_in halves
halved_counts {m} {n} {planes} {mask} {half = half} w = map_same (count_at m half) (λ p. count_at (suc m) planes p / 2 + digit_at mask p) 0 n (λ p h. w.each p (omega arith))

-- its counts are those of a block of half as many slots
pub halved_block : {m n : ℕ} {planes mask old half : List ℕ} → HalfPlanes m n planes mask old half → BlockPlanes m n planes → Mask n planes mask → 1 ≤ m → BlockPlanes (m - 1) n half
halved_block {m} {n} {planes} {mask} {half = half} w b k some =
    let up : suc (m - 1) ≡ m = omega arith in
    let twice : 2 ^ m ≡ 2 * 2 ^ (m - 1) = ap (λ (x : ℕ). 2 ^ x) (sym up) ∙ pow-suc 2 (m - 1) ∙ mul_comm (2 ^ (m - 1)) 2 in
    record {
      few = b.few;
      most = λ p h. rw up (omega (arith, b.most p h, w.each p (omega arith), k.only p (omega arith), count_odd m planes p));
      past = λ p a h. rw up (omega (arith, b.past p a h, w.each p h, k.only p h, count_odd m planes p));
    }

pub halving_end : {m n : ℕ} {planes mask old half : List ℕ} {w words : ℕ} → Halving m n planes mask old w half → words ≡ words_of n → w ≡ words → HalfPlanes m n planes mask old half
halving_end g v a = record { each = λ p h. g.done p (omega arith) h; past = λ j h. g.past j (omega arith); above = λ j h. g.above j (omega arith) }
