-- One more digit of a count stored, and one more count.
use Prim.Native.Nat.{ℕ, suc, zero, ◌+◌, ◌-◌, ◌*◌, ◌/◌, ◌%◌, ◌^◌, ◌≤◌, ◌<◌, max}
use mathlib.Core.Path.{◌≡◌, refl, sym, ap, ap₂, ◌∙◌}
use mathlib.Core.Logic.{◌≢◌}
use mathlib.Core.List.{List, [], ◌∷◌}
use native.Mathlib.Omega.{arith}
use lib.Dec.{eqb}
use lib.ListN.{length, get_or, set, length-set, replicate, length-replicate}
use lib.Seq.{get_or-set_same, get_or-set_other}
use borrow.Author.Tests.{eq-eqb, ne_eqb}
use Rattle.rules.specs.Words.{if}
use Rattle.rules.specs.Flows.{flows, number_of, counts_of}
use Rattle.rules.proofs.Cases.{by_eq, by_lt}
use Rattle.rules.proofs.Flows.{counts_length, counts_at}
use Rattle.bits.specs.Digits.{digit, places, PutAt}
use Rattle.planes.specs.Planes.{digit_in, count_at, counts_in}
use Rattle.planes.specs.Steps.{Blank, Stored, Loaded}
use Rattle.rules.proofs.Lists.{zero_at}
use Rattle.bits.proofs.Digits.{digit_most, digit_first, digit_half, digit_none, digit_past, if_same, if_other, binary_same, binary_none, binary_digits}
use Rattle.bits.proofs.Lowest.{turn_below, turn_digit, end_digit}
use Rattle.planes.proofs.Counts.{counts_are}

-- ---- one digit
-- the digits of x have been put, but for those that are left
pub record Storing (x left p : ℕ) (old planes : List ℕ) : Type 0 where
  pub len : length planes ≡ 99
  pub within : (a : ℕ) → a < 64 → digit left a ≤ digit x a
  pub put : (q a : ℕ) → q < 576 → a < 11 → digit_in planes q a ≡ max (digit_in old q a) (if (eqb q p) (digit x a - digit left a) 0)

-- in one word the digit tells the position
same_word : (q p d : ℕ) → q / 64 ≡ p / 64 → if (eqb (q % 64) (p % 64)) d 0 ≡ if (eqb q p) d 0
same_word q p d e =
    by_eq q p
    (λ f. rw (eq-eqb q p f, eq-eqb (q % 64) (p % 64) (ap (λ (z : ℕ). z % 64) f)))
    (λ n. rw (ne_eqb q p n, ne_eqb (q % 64) (p % 64) (λ f. n (omega arith))))

module _ (planes : List ℕ) (b p d v : ℕ) (l : length planes ≡ 99) (h : p < 528) (k : b < 11) (u : PutAt (get_or planes (b * 9 + p / 64) 0) (p % 64) d v) where
  abbrev after : List ℕ
  after = set planes (b * 9 + p / 64) v

  other : (q a : ℕ) → a * 9 + q / 64 ≢ b * 9 + p / 64 → digit_in after q a ≡ digit_in planes q a
  unfolding digit_in
  other q a n = ap (λ (z : ℕ). digit z (q % 64)) (get_or-set_other planes (b * 9 + p / 64) (a * 9 + q / 64) v 0 n)

  here : (q : ℕ) → q < 576 → digit_in after q b ≡ max (digit_in planes q b) (if (eqb q p) d 0)
  unfolding digit_in
  here q g =
      by_eq (q / 64) (p / 64)
      (λ e. rw e (ap (λ (z : ℕ). digit z (q % 64)) (get_or-set_same planes (b * 9 + p / 64) v 0 (omega arith))
      ∙ u.put (q % 64) ∙ ap (max (digit (get_or planes (b * 9 + p / 64) 0) (q % 64))) (same_word q p d e)))
      (λ n. other q b (omega arith) ∙ omega (arith, if_other q p d (λ e. n (ap (λ (z : ℕ). z / 64) e))))

pub storing_start : {x p : ℕ} {planes : List ℕ} → length planes ≡ 99 → Storing x x p planes planes
storing_start {x} {p} l =
    record {
      len = l;
      within = λ a h. omega arith;
      put = λ q a g h.
          by_eq q p (λ e. omega (arith, if_same q p (digit x a - digit x a) e)) (λ n. omega (arith, if_other q p (digit x a - digit x a) n));
    }

module _ {x left p : ℕ} {old planes : List ℕ} (s : Storing x left p old planes) {b : ℕ} (next : ℕ) (e : places 0 64 left ≡ b ∷ places 0 64 next) where
  low : b < 64
  low = turn_below left next e

  gone : (a : ℕ) → a < 64 → digit next a + if (eqb a b) 1 0 ≡ digit left a
  gone a h = turn_digit left next e a h

  once : digit left b ≡ 1
  once = omega (arith, gone b low, if_same b b 1 refl, digit_most left b)

  -- a count below 2 ^ 11 has no digit that is 1 behind the eleventh
  pub storing_low : x < 2 ^ 11 → b < 11
  storing_low h = by_lt b 11 (λ l. l) (λ l. absurd (omega (arith, once, s.within b low, digit_past 11 x b h l)))

  pub storing_on : {v : ℕ} → x < 2 ^ 11 → p < 528 → PutAt (get_or planes (b * 9 + p / 64) 0) (p % 64) 1 v
      → Storing x next p old (set planes (b * 9 + p / 64) v)
  storing_on {v} h o u =
      let l = s.len in
      let t = storing_low h in
      record {
        len = length-set planes (b * 9 + p / 64) v ∙ l;
        within = λ a y. omega (arith, gone a y, s.within a y);
        put = λ q a z y.
            by_eq a b (λ e. rw e (now q z))
            (λ n. other planes b p 1 v l o t u q a (omega arith) ∙ s.put q a z y
            ∙ ap (λ (d : ℕ). max (digit_in old q a) (if (eqb q p) (digit x a - d) 0)) (omega (arith, gone a (omega arith), if_other a b 1 n)));
      }
    where
      now : (q : ℕ) → q < 576 → digit_in (set planes (b * 9 + p / 64) v) q b
          ≡ max (digit_in old q b) (if (eqb q p) (digit x b - digit next b) 0)
      now q z =
          let t = storing_low h in
          let new = here planes b p 1 v s.len o t u q z in
          let was = s.put q b z t in
          let one = once in
          let less = gone b low in
          let same = if_same b b 1 refl in
          let most = digit_most x b in
          let more = s.within b low in
          by_eq q p
          (λ e. omega (arith, if_same q p 1 e, if_same q p (digit x b - digit left b) e, if_same q p (digit x b - digit next b) e))
          (λ n. omega (arith, if_other q p 1 n, if_other q p (digit x b - digit left b) n, if_other q p (digit x b - digit next b) n))

pub storing_end : {x left p : ℕ} {old planes : List ℕ} → Storing x left p old planes → places 0 64 left ≡ [] → Stored x p old planes
storing_end {x} {left} {p} {old} s e =
    record {
      len = s.len;
      put = λ q a z y.
          let none : digit left a ≡ 0 = end_digit left e a (omega arith) in
          let all : digit x a - digit left a ≡ digit x a = omega arith in
          s.put q a z y ∙ ap (λ (d : ℕ). max (digit_in old q a) (if (eqb q p) d 0)) all;
    }

-- ---- two digits, and then the others
module _ (x p : ℕ) where
  both_low : (b : ℕ) → 2 ≤ b → digit (x % 4) b ≡ 0
  both_low b h = digit_past 2 (x % 4) b (omega arith) h

  digit_second : (y : ℕ) → digit y 1 ≡ y / 2 % 2
  digit_second y = sym (digit_half y 0) ∙ digit_first (y / 2)

  -- each digit is one of the two lowest, or one of the others
  apart : (b : ℕ) → digit (x % 4) b + digit (x / 4 * 4) b ≡ digit x b
  apart zero = omega (arith, digit_first (x % 4), digit_first (x / 4 * 4), digit_first x)
  apart (suc zero) = omega (arith, digit_second (x % 4), digit_second (x / 4 * 4), digit_second x)
  apart (suc (suc i)) =
      let same : x / 4 * 4 / 2 / 2 ≡ x / 2 / 2 = omega arith in
      omega (
        arith,
        both_low (suc (suc i)) (omega arith),
        digit_half (x / 4 * 4) (suc i),
        digit_half (x / 4 * 4 / 2) i,
        digit_half x (suc i),
        digit_half (x / 2) i,
        ap (λ (y : ℕ). digit y i) same,
      )

  pub both_stored : {old mid planes : List ℕ} → Stored (x % 4) p old mid → Stored (x / 4 * 4) p mid planes → Stored x p old planes
  both_stored s t =
      record {
        len = t.len;
        put = λ q b z y.
            let first = s.put q b z y in
            let second = t.put q b z y in
            let sum = apart b in
            let most = digit_most x b in
            by_eq q p
            (λ e. omega (arith, if_same q p (digit (x % 4) b) e, if_same q p (digit (x / 4 * 4) b) e, if_same q p (digit x b) e))
            (λ n. omega (arith, if_other q p (digit (x % 4) b) n, if_other q p (digit (x / 4 * 4) b) n, if_other q p (digit x b) n));
      }

  module _ (v u : ℕ) (old : List ℕ) (l : length old ≡ 99) (h : p < 528) (first : PutAt (get_or old (0 * 9 + p / 64) 0) (p % 64) (x % 2) v)
      (second : PutAt (get_or (set old (0 * 9 + p / 64) v) (1 * 9 + p / 64) 0) (p % 64) (x / 2 % 2) u) where
    abbrev mid : List ℕ
    mid = set old (0 * 9 + p / 64) v

    mid_len : length mid ≡ 99
    mid_len = length-set old (0 * 9 + p / 64) v ∙ l

    two_put : (q b : ℕ) → q < 576 → b < 11 → digit_in (set mid (1 * 9 + p / 64) u) q b ≡ max (digit_in old q b) (if (eqb q p) (digit (x % 4) b) 0)
    two_put q zero z y =
        other mid 1 p (x / 2 % 2) u mid_len h (omega arith) second q 0 (omega arith)
        ∙ here old 0 p (x % 2) v l h (omega arith) first q z
        ∙ ap (λ (d : ℕ). max (digit_in old q 0) (if (eqb q p) d 0)) (omega (arith, digit_first (x % 4)))
    two_put q (suc zero) z y =
        here mid 1 p (x / 2 % 2) u mid_len h (omega arith) second q z
        ∙ ap₂ (λ (c d : ℕ). max c (if (eqb q p) d 0)) (other old 0 p (x % 2) v l h (omega arith) first q 1 (omega arith)) (omega (arith, digit_second (x % 4)))
    two_put q (suc (suc b)) z y =
        other mid 1 p (x / 2 % 2) u mid_len h (omega arith) second q (suc (suc b)) (omega arith)
        ∙ other old 0 p (x % 2) v l h (omega arith) first q (suc (suc b)) (omega arith)
        ∙ none
      where
        none : digit_in old q (suc (suc b)) ≡ max (digit_in old q (suc (suc b))) (if (eqb q p) (digit (x % 4) (suc (suc b))) 0)
        none =
            let zeros = both_low (suc (suc b)) (omega arith) in
            by_eq q p
            (λ e. omega (arith, if_same q p (digit (x % 4) (suc (suc b))) e))
            (λ n. omega (arith, if_other q p (digit (x % 4) (suc (suc b))) n))

pub two_stored : (x p : ℕ) {w v u : ℕ} {old : List ℕ} → length old ≡ 99 → p < 528 → w ≡ p / 64 → PutAt (get_or old w 0) (p % 64) (x % 2) v
    → PutAt (get_or (set old w v) (9 + w) 0) (p % 64) (x / 2 % 2) u → Stored (x % 4) p old (set (set old w v) (9 + w) u)
two_stored x p {w} {v} {u} {old} l h e first second =
    let at : w ≡ 0 * 9 + p / 64 = omega arith in
    let next : 9 + w ≡ 1 * 9 + p / 64 = omega arith in
    record {
      len = length-set (set old w v) (9 + w) u ∙ length-set old w v ∙ l;
      put = rw (next, at) (two_put x p v u old l h (rw at at first) (rw (next, at) at second));
    }

-- ---- one count
pub record Loading (list : List ℕ) (n f : ℕ) (planes : List ℕ) : Type 0 where
  pub all : n ≡ flows list
  pub most : f ≤ n
  pub len : length planes ≡ 99
  pub has : (q b : ℕ) → q < f → q < 576 → b < 11 → digit_in planes q b ≡ digit (number_of 2 list q) b
  pub none : (q b : ℕ) → f ≤ q → q < 576 → b < 11 → digit_in planes q b ≡ 0

pub blank : Blank (replicate 99 0)
blank = record { len = length-replicate {A = ℕ} 99 0; none = zero_at 99 }

pub loading_start : {list planes : List ℕ} {n : ℕ} → n ≡ flows list → Blank planes → Loading list n 0 planes
unfolding digit_in
loading_start e b =
    record {
      all = e;
      most = omega arith;
      len = b.len;
      has = λ q a h g l. absurd (omega arith);
      none = λ q a h g l. ap (λ (z : ℕ). digit z (q % 64)) (b.none (a * 9 + q / 64)) ∙ digit_none (q % 64);
    }

pub loading_in : {list planes : List ℕ} {n f : ℕ} → Loading list n f planes → f < n → f < flows list
loading_in g h = omega (arith, g.all)

pub loading_low : {list planes : List ℕ} {n f : ℕ} → Loading list n f planes → flows list ≤ 528 → f < n → f < 528
loading_low g l h = omega (arith, g.all)

pub loading_few : {list planes : List ℕ} {n f x : ℕ} → Loading list n f planes → f < n → x ≡ number_of 2 list f
    → ((q : ℕ) → q < flows list → number_of 2 list q < 2 ^ 11) → x < 2 ^ 11
loading_few {f = f} g h e few = rw e (few f (loading_in g h))

pub loading_on : {list old planes : List ℕ} {n f x : ℕ} → Loading list n f old → f < n → x ≡ number_of 2 list f → Stored x f old planes → Loading list n (f + 1) planes
loading_on {list} {old} {planes} {n} {f} {x} g here is s =
    record {
      all = g.all;
      most = omega arith;
      len = s.len;
      has = λ q b h z l.
          by_eq q f
          (λ e. omega (arith, s.put q b z l, g.none q b (omega arith) z l, if_same q f (digit x b) e, ap (λ (y : ℕ). digit y b) is, ap (λ (y : ℕ). digit (number_of 2 list y) b) e))
          (λ n. omega (arith, s.put q b z l, g.has q b (omega arith) z l, if_other q f (digit x b) n));
      none = λ q b h z l. omega (arith, s.put q b z l, g.none q b (omega arith) z l, if_other q f (digit x b) (omega arith));
    }

pub loading_end : {list planes : List ℕ} {n f : ℕ} → Loading list n f planes → n ≤ f → flows list ≤ 528 → Loaded list planes
unfolding count_at
loading_end {list} {planes} {n} {f} g b c =
    let end : f ≡ flows list = omega (arith, g.all, g.most) in
    record {
      len = g.len;
      same = λ k l h.
          ap (counts_in k planes) (sym (counts_length list)) ∙ counts_are k planes (counts_of list) (λ q z.
          let y : q < flows list = omega (arith, counts_length list) in
          binary_same k (digit_in planes q) (digit (number_of 2 list q)) (λ d w. g.has q d (omega arith) (omega arith) (omega arith))
          ∙ binary_digits k (number_of 2 list q) (h q y) ∙ sym (counts_at list q y));
      past = λ k q l z y. binary_none k (digit_in planes q) (λ d x. g.none q d (omega arith) y (omega arith));
    }
