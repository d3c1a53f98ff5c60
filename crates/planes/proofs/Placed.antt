-- One more place written, and one more word gathered.
use Prim.Native.Nat.{ℕ, ◌+◌, ◌-◌, ◌*◌, ◌≤◌, ◌<◌}
use mathlib.Core.Path.{◌≡◌, refl, sym, ap, ap₂, ◌∙◌}
use mathlib.Core.List.{List, [], ◌∷◌, ◌++◌, append-nil}
use mathlib.Core.Bool.{true}
use native.Mathlib.Omega.{arith}
use native.Mathlib.Numerals.{add-one}
use lib.Dec.{eqb}
use lib.ListN.{length, get_or, set, take, length-set, length-append}
use lib.Seq.{take-suc-set, append_snoc, get_or-set_other}
use borrow.Author.Tests.{eqb-true}
use Rattle.rules.specs.Words.{up_from, keep, Every}
use Rattle.rules.proofs.Cases.{by_lt}
use Rattle.rules.proofs.Lists.{every_map}
use Rattle.rules.proofs.Kept.{keep_every, keep_add, keep_none, keep_most}
use Rattle.bits.specs.Digits.{digit, places}
use Rattle.planes.specs.Planes.{digit_at, odd_at, odds_in, words_of, span_of, Ends}
use Rattle.planes.specs.Steps.{PlacesListed, Gathered}
use Rattle.bits.proofs.Lowest.{places_kept, turn_place, end_place}
use Rattle.planes.proofs.Counts.{none_odd}

-- ---- one word
pub record Placing (base x k : ℕ) (old list : List ℕ) (left r : ℕ) : Type 0 where
  pub len : length list ≡ 528
  pub number : r + length (places base 64 left) ≡ k + length (places base 64 x)
  pub same : take r list ++ places base 64 left ≡ take k old ++ places base 64 x
  pub kept : (j : ℕ) → r ≤ j → get_or list j 0 ≡ get_or old j 0

pub placing_start : {base x k : ℕ} {old : List ℕ} → length old ≡ 528 → Placing base x k old old x k
placing_start l = record { len = l; number = refl; same = refl; kept = λ j h. refl }

module _ {base x k : ℕ} {old list : List ℕ} {left r : ℕ} (p : Placing base x k old list left r) {t : ℕ} (next : ℕ) (e : places 0 64 left ≡ t ∷ places 0 64 next) where
  pub placing_room : k + length (places base 64 x) ≤ 528 → r < 528
  placing_room h = omega (arith, p.number, ap length (turn_place left next e base))

  pub placing_on : k + length (places base 64 x) ≤ 528 → Placing base x k old (set list r (base + t)) next (r + 1)
  placing_on h =
      let first = turn_place left next e base in
      record {
        len = length-set list r (base + t) ∙ p.len;
        number = omega (arith, p.number, ap length first);
        same = rw (add-one, take-suc-set list r (base + t) (omega (arith, p.len, placing_room h))) (append_snoc (take r list) (base + t) (places base 64 next) ∙ rw (← first) p.same);
        kept = λ j g. get_or-set_other list r j (base + t) 0 (λ q. absurd (omega arith)) ∙ p.kept j (omega arith);
      }

pub placing_end : {base x k : ℕ} {old list : List ℕ} {left r : ℕ} → Placing base x k old list left r → places 0 64 left ≡ [] → PlacesListed base x k old list r
placing_end {base} {x} {k} {old} {list} {left} {r} p e =
    let none : places base 64 left ≡ [] = end_place left e base in
    record {
      len = p.len;
      number = omega (arith, p.number, ap length none);
      same = sym (append-nil (take r list)) ∙ ap (λ (l : List ℕ). take r list ++ l) (sym none) ∙ p.same;
      kept = p.kept;
    }

-- ---- the digits of a word of the lowest plane
module _ (planes : List ℕ) (w : ℕ) where
  pub word_odds : places (w * 64) 64 (get_or planes w 0) ≡ keep (odd_at planes) (up_from (w * 64) 64)
  word_odds =
      places_kept (odd_at planes) (w * 64) 64 (get_or planes w 0)
      (λ i l. ap₂ (λ (x y : ℕ). eqb (digit (get_or planes x 0) y) 1) (omega arith) (omega arith))

  pub words_odds : keep (odd_at planes) (up_from 0 ((w + 1) * 64)) ≡ odds_in (w * 64) planes ++ places (w * 64) 64 (get_or planes w 0)
  words_odds =
      let e : (w + 1) * 64 ≡ w * 64 + 64 = omega arith in
      let z : 0 + w * 64 ≡ w * 64 = omega arith in
      ap (λ (x : ℕ). odds_in x planes) e
      ∙ keep_add (odd_at planes) 0 (w * 64) 64
      ∙ ap (λ (x : ℕ). odds_in (w * 64) planes ++ keep (odd_at planes) (up_from x 64)) z
      ∙ ap (λ (l : List ℕ). odds_in (w * 64) planes ++ l) (sym word_odds)

-- behind the first n none is odd
module _ {n : ℕ} {planes : List ℕ} (e : Ends n planes) where
  pub odds_past : (k : ℕ) → n ≤ k → k ≤ span_of n → odds_in k planes ≡ odds_in n planes
  odds_past k l h =
      let more : k ≡ n + (k - n) = omega arith in
      let z : 0 + n ≡ n = omega arith in
      ap (λ (x : ℕ). odds_in x planes) more
      ∙ keep_add (odd_at planes) 0 n (k - n)
      ∙ ap (λ (l : List ℕ). odds_in n planes ++ l)
      (ap (λ (x : ℕ). keep (odd_at planes) (up_from x (k - n))) z ∙ keep_none (odd_at planes) n (k - n) (λ p a b. none_odd e p a (omega arith)))
      ∙ append-nil (odds_in n planes)

  odds_most : (k : ℕ) → k ≤ span_of n → length (odds_in k planes) ≤ 528
  odds_most k h =
      by_lt k n
      (λ l. omega (arith, keep_most (odd_at planes) 0 k, e.few))
      (λ l. omega (arith, keep_most (odd_at planes) 0 n, ap length (odds_past k l h), e.few))

  -- the digits of a word are at positions below n
  pub word_below : (w : ℕ) → w < words_of n → Every (λ p. p < n) (places (w * 64) 64 (get_or planes w 0))
  word_below w h =
      rw (word_odds planes w) (every_map (λ p. (odd_at planes p ≡ true) × (p < w * 64 + 64)) (λ p. p < n)
      (λ p a. by_lt p n (λ l. l) (λ l.
      let one = eqb-true (digit_at planes p) 1 a.0 in
      let b = a.1 in
      absurd (omega (arith, e.past p l (omega arith)))))
      (keep (odd_at planes) (up_from (w * 64) 64)) (keep_every (odd_at planes) (w * 64 + 64) (w * 64) 64 (omega arith)))

-- ---- one more word
pub record Gathering (planes old : List ℕ) (w : ℕ) (list : List ℕ) (r : ℕ) : Type 0 where
  pub len : length list ≡ 528
  pub number : r ≡ length (odds_in (w * 64) planes)
  pub same : take r list ≡ odds_in (w * 64) planes
  pub kept : (j : ℕ) → r ≤ j → get_or list j 0 ≡ get_or old j 0

pub gathering_start : {planes list : List ℕ} → length list ≡ 528 → Gathering planes list 0 list 0
gathering_start l = record { len = l; number = refl; same = refl; kept = λ j h. refl }

module _ {n : ℕ} {planes old list : List ℕ} {w k : ℕ} (g : Gathering planes old w list k) (e : Ends n planes) (h : w < words_of n) {x : ℕ} (is : x ≡ get_or planes w 0) where
  pub gathering_room : k + length (places (w * 64) 64 x) ≤ 528
  gathering_room =
      rw is
      (omega (
        arith,
        g.number,
        odds_most e ((w + 1) * 64) (omega arith),
        ap length (words_odds planes w),
        length-append (odds_in (w * 64) planes) (places (w * 64) 64 (get_or planes w 0)),
      ))

  pub gathering_on : {next : List ℕ} {r : ℕ} → PlacesListed (w * 64) x k list next r → Gathering planes old (w + 1) next r
  gathering_on p =
      let l = length-append (odds_in (w * 64) planes) (places (w * 64) 64 x) in
      let all : keep (odd_at planes) (up_from 0 ((w + 1) * 64)) ≡ odds_in (w * 64) planes ++ places (w * 64) 64 x = rw is (words_odds planes w) in
      record {
        len = p.len;
        number = omega (arith, p.number, g.number, ap length all);
        same = p.same ∙ ap (λ (l : List ℕ). l ++ places (w * 64) 64 x) g.same ∙ sym all;
        kept = λ j h. p.kept j h ∙ g.kept j (omega (arith, p.number));
      }

pub gathering_end : {n : ℕ} {planes old list : List ℕ} {w r : ℕ} → Gathering planes old w list r → Ends n planes → w ≡ words_of n → Gathered n planes old list r
gathering_end {n} {planes} {old} {list} {w} {r} g e at =
    let all = odds_past e (w * 64) (omega arith) (omega arith) in
    record { len = g.len; number = g.number ∙ ap length all; same = g.same ∙ all; behind = λ j h. g.kept j (omega arith) }
