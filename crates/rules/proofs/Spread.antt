-- Counts that are spread: they stand in a longer list at rising places, and elsewhere it has 0.
use Prim.Native.Nat.{ℕ, suc, zero, ◌+◌, ◌-◌, ◌%◌, ◌≤◌, ◌<◌}
use mathlib.Core.Path.{◌≡◌, refl, sym, ap, ap₂, ◌∙◌}
use mathlib.Core.Logic.{◌≢◌}
use mathlib.Core.List.{List, [], ◌∷◌, map}
use mathlib.Core.Bool.{Bool, true, false, not, true≢false}
use native.Mathlib.Omega.{arith}
use lib.Dec.{eqb, leb}
use lib.ListN.{length, get_or, get_or-eq_default}
use borrow.Author.Tests.{eqb-true, eq-eqb, ne_eqb, le-leb, lt-leb}
use Rattle.rules.specs.Words.{if, up_from, keep, first, sum_to}
use Rattle.rules.specs.Rules.{odd}
use Rattle.rules.proofs.Cases.{by_bool, by_eq, by_lt}
use Rattle.rules.proofs.Searches.{first_is}
use Rattle.rules.proofs.Sums.{sum_ext}
use Rattle.rules.proofs.Kept.{sum_over, kept_sum}
use Rattle.rules.proofs.Flows.{map_length, map_at}

-- ---- places
-- each number has its place, rising; those of the numbers below n are below top, and no others
pub record Places (n top : ℕ) (e : ℕ → ℕ) : Type 0 where
  pub rising : (f g : ℕ) → f < g → e f < e g
  pub inside : (f : ℕ) → f < n → e f < top
  pub only : (f : ℕ) → e f < top → f < n

-- each number is its own place
pub own_places : (n : ℕ) → Places n n (λ f. f)
own_places n = record { rising = λ f g h. h; inside = λ f h. h; only = λ f h. h }

module _ {n top : ℕ} {e : ℕ → ℕ} (pl : Places n top e) where
  place_low : (f : ℕ) → f ≤ e f
  place_low zero = omega arith
  place_low (suc f) = omega (arith, place_low f, pl.rising f (suc f) (omega arith))

  pub place_order : (f g : ℕ) → e f ≤ e g → f ≤ g
  place_order f g h = by_lt g f (λ l. absurd (omega (arith, pl.rising g f l))) (λ l. l)

  pub place_one : (f g : ℕ) → e f ≡ e g → f ≡ g
  place_one f g d = omega (arith, place_order f g (omega arith), place_order g f (omega arith))

  -- the places below that of f are those of the numbers below f
  pub places_below : (f : ℕ) → Places f (e f) e
  places_below f =
      record {
        rising = pl.rising;
        inside = λ g h. pl.rising g f h;
        only = λ g h. by_lt g f (λ l. l) (λ l. by_eq f g (λ d. absurd (omega (arith, ap e d))) (λ d. absurd (omega (arith, pl.rising f g (omega arith)))));
      }

  -- the number whose place is p, or else the next one
  abbrev pub number_at : ℕ → ℕ
  number_at p = first (λ f. leb p (e f)) 0 (suc p)

  pub number_at_is : (f : ℕ) → number_at (e f) ≡ f
  number_at_is f =
      first_is (λ g. leb (e f) (e g)) (suc (e f)) 0 f (omega arith) (omega (arith, place_low f)) (le-leb (e f) (e f) (omega arith))
      (λ g _ h. lt-leb (e f) (e g) (pl.rising g f h))

  -- a goal by whether p is a place
  pub by_place : {G : Type 0} (p : ℕ) → ((f : ℕ) → e f ≡ p → G) → (((f : ℕ) → e f ≢ p) → G) → G
  by_place p g h = by_eq (e (number_at p)) p (λ d. g (number_at p) d) (λ d. h (λ f k. d (ap (λ q. e (number_at q)) (sym k) ∙ ap e (number_at_is f) ∙ k)))

-- ---- what is kept
pub keep_map : (t : ℕ → Bool) (e : ℕ → ℕ) (l : List ℕ) → keep t (map e l) ≡ map e (keep (λ f. t (e f)) l)
keep_map t e [] = refl
keep_map t e (x ∷ l) = by_bool (t (e x)) (λ y. rw (y, keep_map t e l)) (λ y. rw (y, keep_map t e l))

over_map : (F : ℕ → ℕ) (e : ℕ → ℕ) (l : List ℕ) → sum_over F (map e l) ≡ sum_over (λ f. F (e f)) l
over_map F e [] = refl
over_map F e (x ∷ l) = omega (arith, over_map F e l)

module _ (e : ℕ → ℕ) (rising : (f g : ℕ) → f < g → e f < e g) (t : ℕ → Bool) (placed : (p : ℕ) → t p ≡ true → (f : ℕ) × (e f ≡ p)) where
  -- of the k positions from a on, where the j numbers from b on have their places
  keep_from : (k a b j : ℕ) → a ≤ e b → ((f : ℕ) → f < b → e f < a) → ((f : ℕ) → f < b + j → e f < a + k) → ((f : ℕ) → e f < a + k → f < b + j)
      → keep t (up_from a k) ≡ map e (keep (λ f. t (e f)) (up_from b j))
  keep_from zero a b zero low before inside only = refl
  keep_from zero a b (suc j) low before inside only = absurd (omega (arith, inside b (omega arith)))
  keep_from (suc k) a b j low before inside only =
      by_eq (e b) a
      (λ d.
      let z : j ≡ suc (j - 1) = (let h = only b (omega arith) in omega arith) in
      let rest = keep_from k (suc a) (suc b) (j - 1) (omega (arith, rising b (suc b) (omega arith))) (to_next d)
      (λ f h. omega (arith, inside f (omega arith))) (λ f h. omega (arith, only f (omega arith))) in
      rw z (by_bool (t a) (λ y. rw (y, ap t d ∙ y) (ap₂ ◌∷◌ (sym d) rest)) (λ y. rw (y, ap t d ∙ y) rest)))
      (λ d.
      rw (not_kept d)
      (keep_from k (suc a) b j (omega arith) (λ f h. omega (arith, before f h)) (λ f h. omega (arith, inside f h)) (λ f h. only f (omega arith))))
    where
      to_next : e b ≡ a → (f : ℕ) → f < suc b → e f < suc a
      to_next d f h = by_eq f b (λ l. omega (arith, ap e l)) (λ l. omega (arith, before f (omega arith)))

      none_at : e b ≢ a → (f : ℕ) → e f ≡ a → ⊥
      none_at d f z =
          by_lt f b (λ h. omega (arith, before f h))
          (λ h. by_eq f b (λ l. d (ap e (sym l) ∙ z)) (λ l. omega (arith, rising b f (omega arith))))

      not_kept : e b ≢ a → t a ≡ false
      not_kept d = by_bool (t a) (λ y. let p = placed a y in absurd (none_at d p.0 p.1)) (λ y. y)

module _ {n top : ℕ} {e : ℕ → ℕ} (pl : Places n top e) where
  -- what is kept of the positions, all of them places, is kept of the numbers
  pub keep_along : (t : ℕ → Bool) → ((p : ℕ) → t p ≡ true → (f : ℕ) × (e f ≡ p)) → keep t (up_from 0 top) ≡ map e (keep (λ f. t (e f)) (up_from 0 n))
  keep_along t placed =
      keep_from e pl.rising t placed top 0 0 n (omega arith) (λ f h. absurd (omega arith)) (λ f h. omega (arith, pl.inside f (omega arith)))
      (λ f h. omega (arith, pl.only f (omega arith)))

  -- a sum over positions, of which only places count
  pub sum_along : (F : ℕ → ℕ) → ((p : ℕ) → ((f : ℕ) → e f ≢ p) → F p ≡ 0) → sum_to top F ≡ sum_to n (λ f. F (e f))
  sum_along F off =
      sum_ext top F _ (λ p _. own (F p))
      ∙ sym (kept_sum counts F top)
      ∙ ap (sum_over F) (keep_along counts placed)
      ∙ over_map F e (keep (λ f. counts (e f)) (up_from 0 n))
      ∙ kept_sum (λ f. counts (e f)) (λ f. F (e f)) n
      ∙ sum_ext n _ _ (λ f _. sym (own (F (e f))))
    where
      counts : ℕ → Bool
      counts p = not (eqb (F p) 0)

      own : (x : ℕ) → x ≡ if (not (eqb x 0)) x 0
      own x = by_eq x 0 (λ d. rw d) (λ d. rw (ne_eqb x 0 d))

      placed : (p : ℕ) → counts p ≡ true → (f : ℕ) × (e f ≡ p)
      placed p y = by_place pl p (λ f d. (f, d)) (λ none. absurd (true≢false (sym y ∙ ap not (eq-eqb (F p) 0 (off p none)))))

-- ---- counts
-- the counts c of n numbers stand in m at their places, and m has 0 elsewhere
pub record Spread (n top : ℕ) (e : ℕ → ℕ) (c m : List ℕ) : Type 0 where
  pub size : length c ≡ n
  pub spread_size : length m ≡ top
  pub count : (f : ℕ) → get_or m (e f) 0 ≡ get_or c f 0
  pub off : (p : ℕ) → ((f : ℕ) → e f ≢ p) → get_or m p 0 ≡ 0

pub odd_along : {n top : ℕ} {e : ℕ → ℕ} {c m : List ℕ} → Spread n top e c m → (f : ℕ) → odd m (e f) ≡ odd c f
odd_along sp f = ap (λ (v : ℕ). eqb (v % 2) 1) (sp.count f)

pub own_spread : (m : List ℕ) → Spread (length m) (length m) (λ f. f) m m
own_spread m = record { size = refl; spread_size = refl; count = λ f. refl; off = λ p none. absurd (none p refl) }

module _ {n top : ℕ} {e : ℕ → ℕ} (pl : Places n top e) where
  -- an odd count stands at a place
  pub odd_place : {c m : List ℕ} → Spread n top e c m → (p : ℕ) → odd m p ≡ true → (f : ℕ) × (e f ≡ p)
  odd_place {c} {m} sp p o =
      by_place pl p (λ f d. (f, d)) (λ none. absurd (even (sp.off p none) (eqb-true (get_or m p 0 % 2) 1 o)))
    where
      even : get_or m p 0 ≡ 0 → get_or m p 0 % 2 ≡ 1 → ⊥
      even z y = omega arith

  -- what stands at each position
  count_at : List ℕ → ℕ → ℕ
  count_at c p = if (eqb (e (number_at pl p)) p) (get_or c (number_at pl p) 0) 0

  pub spread : List ℕ → List ℕ
  spread c = map (count_at c) (up_from 0 top)

  pub spread_is : (c : List ℕ) → length c ≡ n → Spread n top e c (spread c)
  unfolding spread count_at
  spread_is c size =
      record {
        size = size;
        spread_size = map_length (count_at c) 0 top;
        count = λ f. by_lt f n
            (λ h. at (e f) (pl.inside f h) ∙ rw (number_at_is pl f, eq-eqb (e f) (e f) refl))
            (λ h. past (e f) (let g = pl.only f in by_lt (e f) top (λ l. absurd (omega (arith, g l))) (λ l. l)) ∙ sym (get_or-eq_default c 0 (omega arith)));
        off = λ p none. by_lt p top (λ h. at p h ∙ rw (ne_eqb (e (number_at pl p)) p (none (number_at pl p)))) (λ h. past p h);
      }
    where
      at : (p : ℕ) → p < top → get_or (map (count_at c) (up_from 0 top)) p 0 ≡ count_at c p
      at p h = map_at (count_at c) 0 top p h ∙ ap (count_at c) (omega arith)

      past : (p : ℕ) → top ≤ p → get_or (map (count_at c) (up_from 0 top)) p 0 ≡ 0
      past p h = get_or-eq_default (map (count_at c) (up_from 0 top)) 0 (omega (arith, map_length (count_at c) 0 top))
