-- What the steps are lent, the mask that they leave, and the halves that it gives.
use Prim.Native.Nat.{ℕ, suc, ◌+◌, ◌/◌, ◌≤◌, ◌<◌}
use mathlib.Core.Path.{◌≡◌, refl, sym, ap, ap₂, ◌∙◌}
use mathlib.Core.Logic.{◌≢◌}
use mathlib.Core.List.{List, map}
use mathlib.Core.Bool.{true, false}
use native.Mathlib.Omega.{arith}
use lib.Dec.{eqb}
use lib.ListN.{length, get_or, take, replicate}
use lib.Seq.{get_or-take}
use Rattle.rules.specs.Words.{bit, up_from, keep, Every}
use Rattle.rules.specs.Flows.{End, inputs, links}
use Rattle.rules.specs.Rules.{odd}
use Rattle.rules.specs.Schedule.{favours, half_by, half_of}
use Rattle.rules.proofs.Cases.{by_bool, by_eq, is_yes, is_no}
use Rattle.rules.proofs.Lists.{every_map, rising_apart}
use Rattle.rules.proofs.Partners.{odd_lt}
use Rattle.rules.proofs.Singles.{mate}
use Rattle.rules.proofs.Kept.{keep_every, keep_rising}
use Rattle.rules.proofs.Settled.{favours_law}
use Rattle.rules.proofs.Splits.{half_at, half_length}
use Rattle.planes.specs.Planes.{digit_at, count_at, counts_in, odd_at, odds_in}
use Rattle.planes.specs.Steps.{Gathered}
use Rattle.halves.specs.Steps.{halves, Marked, Others}
use Rattle.planes.proofs.Counts.{map_is, counts_length, counts_at, digit_le, odd_is, odds_are}
use Rattle.halves.proofs.Marked.{others_mask}
use Rattle.planes.specs.Tables.{tabled}
use Rattle.groups.specs.Steps.{ReachesAll, SettledBy}
use Rattle.split.specs.Steps.{Sides, Odds, LowEnds, OddsOf, MatedBy, Favours, Splits}
use Rattle.split.proofs.Lists.{every_kept}
use Rattle.split.proofs.Favoured.{reaches_all, favoured_is}

-- ---- the list of odd counts
module _ {n k : ℕ} {planes old odds : List ℕ} (g : Gathered n planes old odds k) where
  -- each of them is odd and among the first n
  listed_every : (P : ℕ → Type 0) → ((p : ℕ) → p < n → odd_at planes p ≡ true → P p) → Every P (odds_in n planes)
  listed_every P f =
      every_map (λ p. (odd_at planes p ≡ true) × (p < n)) P (λ p a. f p a.1 a.0) (odds_in n planes) (keep_every (odd_at planes) n 0 n (omega arith))

  pub odds_listed : n ≤ 528 → Odds (take k odds)
  odds_listed few =
      record {
        below = rw g.same (listed_every (λ p. p < 528) (λ p h o. omega arith));
        apart = rw g.same (rising_apart 0 (odds_in n planes) (keep_rising (odd_at planes) 0 n));
      }

  pub ends_low : {multi : ℕ} {ends : List ℕ} → Sides n multi ends → LowEnds ends (take k odds)
  ends_low {ends = ends} t = record { each = rw g.same (listed_every (λ p. (s : End) → tabled ends s p < 64) (λ p h o s. t.low s p h)) }

-- ---- the mask
-- one of two halves is favoured by an odd count, and none by an even one
record Either (d f : ℕ) : Type 0 where
  on : d ≡ 1 → (1 ≤ f) × (f ≤ 2)
  off : d ≡ 0 → f ≡ 0

either : (f m n : ℕ) (planes ends : List ℕ) (p : ℕ) → p < n → f ≡ get_or (favours (tabled ends) (counts_in (suc m) planes n)) p 0 → Either (digit_at planes p) f
either f m n planes ends p h e =
    let law = favours_law (tabled ends) (counts_in (suc m) planes n) in
    let o = odd_is m planes n p h in
    record {
      on = λ d. let low = law.low p (sym o ∙ ap (λ (x : ℕ). eqb x 1) d) in let high = law.high p in (omega arith, omega arith);
      off = λ d. e ∙ law.evens p (sym o ∙ ap (λ (x : ℕ). eqb x 1) d);
    }

-- ---- what a split leaves
module _ {n k multi : ℕ} {planes ends listed odds before mates : List ℕ} (g : Gathered n planes listed odds k)
    (b : MatedBy multi ends (take k odds) before mates) (t : Sides n multi ends) (few : n ≤ 528) where
  abbrev counts : ℕ → List ℕ
  counts m = counts_in (suc m) planes n

  size : (m : ℕ) → length (counts m) ≡ n
  size m = counts_length (suc m) planes n

  sides_of : (m : ℕ) → Sides (length (counts m)) multi ends
  sides_of m = rw (size m) t

  odds_of : (m : ℕ) → OddsOf (take k odds) (counts m)
  odds_of m = g.same ∙ odds_are m n planes ∙ ap (λ (j : ℕ). keep (odd (counts m)) (up_from 0 j)) (sym (size m))

  pub reaches : ReachesAll mates (take k odds)
  reaches = reaches_all (counts 0) (odds_of 0) (sides_of 0) b (omega (arith, size 0))

  all_mated : (m : ℕ) (s : End) → Every (λ p. tabled mates s p ≡ mate (tabled ends) (counts m) s p) (odds_in n planes)
  all_mated m s =
      listed_every g (λ p. tabled mates s p ≡ mate (tabled ends) (counts m) s p)
      (λ p h o. b.same (counts m) (odds_of m) (sides_of m) s p (sym (odd_is m planes n p h) ∙ o))

  -- a position that is none of the odd ones has an even count, or none
  even_at : (p : ℕ) → Every (λ q. q ≢ p) (odds_in n planes) → odd (counts 0) p ≡ false
  even_at p al =
      by_bool (odd (counts 0) p)
      (λ o.
      let h : p < n = omega (arith, odd_lt (counts 0) p o, size 0) in
      absurd (every_kept (λ q. q ≢ p) (odd_at planes) 0 n al p (omega arith) (omega arith) (odd_is 0 planes n p h ∙ o) refl))
      (λ e. e)

  module _ {c old mask : List ℕ} (st : SettledBy (tabled mates inputs) (tabled mates links) (take k odds) (replicate 528 0) c) (mk : Marked n planes c old mask) where
    favoured_at : (m p : ℕ) → p < n → get_or c p 0 ≡ get_or (favours (tabled ends) (counts m)) p 0
    favoured_at m p h =
        sym (get_or-take (length (counts m)) c p 0 (omega (arith, size m)))
        ∙ ap (λ (l : List ℕ). get_or l p 0) (favoured_is (counts m) (odds_of m) (sides_of m) b (omega (arith, size m)) st)

    favours_in_first : Favours 1 n planes ends mask
    favours_in_first =
        record {
          odds = record {
            len = mk.len;
            only = λ p h.
                by_eq (digit_at planes p) 0
                (λ e. omega (arith, mk.none p h e))
                (λ e. omega (arith, digit_le planes p, digit_le mask p));
          };
          has = λ m p h. here m p h;
        }
      where
        here : (m p : ℕ) → p < n → digit_at mask p ≡ bit (eqb (get_or (favours (tabled ends) (counts m)) p 0) 1)
        here m p h =
            let f = get_or (favours (tabled ends) (counts m)) p 0 in
            let same = favoured_at m p h in
            let law = either f m n planes ends p h refl in
            by_eq (digit_at planes p) 1
            (λ e.
            let b = law.on e in
            let has = mk.has p (omega arith) e in
            by_eq f 1 (λ y. omega (arith, is_yes f 1 y)) (λ y. omega (arith, is_no f 1 y)))
            (λ e.
            let z : digit_at planes p ≡ 0 = omega (arith, digit_le planes p) in
            let none = mk.none p (omega arith) z in
            let even = law.off z in
            omega (arith, is_no f 1 (omega arith)))

    pub splits : Splits n planes ends listed before old k odds mates mask
    splits =
        record {
          listed = g;
          len = b.len;
          mated = all_mated;
          kept = λ s p h al. b.kept (counts 0) (odds_of 0) s p (omega arith) (even_at p al);
          favoured = favours_in_first;
          behind = λ w h. omega (arith, mk.behind w h);
        }

pub favours_second : {n : ℕ} {planes ends old mask : List ℕ} → Favours 1 n planes ends old → Others n planes old mask → Favours 2 n planes ends mask
favours_second {n} {planes} {ends} {old} {mask} v w =
    record {
      odds = others_mask w;
      has = λ m p h. here m p h;
    }
  where
    here : (m p : ℕ) → p < n → digit_at mask p ≡ bit (eqb (get_or (favours (tabled ends) (counts_in (suc m) planes n)) p 0) 2)
    here m p h =
        let f = get_or (favours (tabled ends) (counts_in (suc m) planes n)) p 0 in
        let law = either f m n planes ends p h refl in
        let other = w.has p (omega arith) in
        let first = v.has m p h in
        let only = v.odds.only p (omega arith) in
        by_eq (digit_at planes p) 1
        (λ e.
        let b = law.on e in
        by_eq f 1
        (λ y. omega (arith, is_yes f 1 y, is_no f 2 (omega arith)))
        (λ y. omega (arith, is_no f 1 y, is_yes f 2 (omega arith))))
        (λ e.
        let z : digit_at planes p ≡ 0 = omega (arith, digit_le planes p) in
        let even = law.off z in
        omega (arith, is_no f 2 (omega arith)))

-- ---- the halves
-- what a mask gives is half h of the counts, by the rules
pub half_is : {h n : ℕ} {planes ends mask : List ℕ} → Favours h n planes ends mask → h ≢ 0 → (m : ℕ)
    → halves m planes mask n ≡ half_of (tabled ends) h (counts_in (suc m) planes n)
unfolding halves
half_is {h} {n} {planes} {ends} {mask} v some m =
    let c : List ℕ = counts_in (suc m) planes n in
    let f = favours (tabled ends) c in
    let l : length f ≡ length c = (favours_law (tabled ends) c).len in
    let size : length (half_by h c f) ≡ n = half_length h c f l ∙ counts_length (suc m) planes n in
    let half : ℕ → ℕ = λ p. count_at (suc m) planes p / 2 + digit_at mask p in
    ap (λ (n : ℕ). map half (up_from 0 n)) (sym size)
    ∙ map_is half 0 (half_by h c f) (λ p k.
    let at : 0 + p ≡ p = omega arith in
    rw at (ap₂ (λ (x y : ℕ). x / 2 + y) (sym (counts_at (suc m) planes n p (omega arith))) (v.has m p (omega arith)) ∙ sym (half_at h c f p some l)))
