-- Along places: where two relations of partnership go along places, so do groups, and a split of counts is one of what they are spread to.
use Prim.Native.Nat.{ℕ, ◌+◌, ◌%◌, ◌≤◌}
use mathlib.Core.Path.{◌≡◌, refl, sym, ap, ap₂, ◌∙◌, subst, fun_ext}
use mathlib.Core.List.{List, [], ◌∷◌, map}
use mathlib.Core.Bool.{Bool, true, not, true≢false}
use native.Mathlib.Omega.{arith}
use lib.Dec.{eqb, ltb}
use lib.ListN.{length, get_or, length-map}
use borrow.Author.Tests.{eqb-true, eq-eqb}
use Rattle.rules.specs.Words.{both, up_from, keep, Near}
use Rattle.rules.specs.Rules.{Partners, these, later, Joined, itself, onward, backward, Lists, Group, OddGroup, favours_first, Split}
use Rattle.rules.proofs.Cases.{by_bool, by_eq, both_true}
use Rattle.rules.proofs.Kept.{keep_same}
use Rattle.rules.proofs.Partners.{partners_two}
use Rattle.rules.proofs.Spread.{Places, place_order, place_one, places_below, number_at, number_at_is, by_place, keep_map, keep_along, Spread, odd_along, odd_place}

-- ---- partners of a list whose counts are put at their places
pub partners_on : (e : ℕ → ℕ) (l : List ℕ) (p q : ℕ) → Partners l p q → Partners (map e l) (e p) (e q)
partners_on e m p q these = these
partners_on e m p q (later {l = l} w) = later (partners_on e l p q w)

pub partners_back : (e : ℕ → ℕ) (l : List ℕ) (p q : ℕ) → Partners (map e l) p q → (f : ℕ) × (g : ℕ) × (e f ≡ p) × (e g ≡ q) × Partners l f g
partners_back e [] p q w = absurd (omega (arith, partners_two [] p q w))
partners_back e (x ∷ []) p q w = absurd (omega (arith, partners_two (e x ∷ []) p q w))
partners_back e (x ∷ y ∷ l) p q these = (x, y, refl, refl, these)
partners_back e (x ∷ y ∷ l) p q (later w) = let r = partners_back e l p q w in (r.0, r.1, r.2, r.3, later r.4)

-- ---- what holds along places
-- K holds of the places of what H holds of, and of nothing else
pub record Holds (e : ℕ → ℕ) (H K : ℕ → Type 0) : Type 0 where
  pub on : (f : ℕ) → H f → K (e f)
  pub back : (p : ℕ) → K p → (f : ℕ) × (e f ≡ p) × H f

-- Q has the places of those that are partners by P, and no others
pub record Along (e : ℕ → ℕ) (P Q : ℕ → ℕ → Type 0) : Type 0 where
  pub on : (f g : ℕ) → P f g → Q (e f) (e g)
  pub back : (p q : ℕ) → Q p q → (f : ℕ) × (g : ℕ) × (e f ≡ p) × (e g ≡ q) × P f g

-- where each is its own place, either way round
pub along_turned : {P Q : ℕ → ℕ → Type 0} → Along (λ f. f) P Q → Along (λ f. f) Q P
along_turned {P} {Q} al =
    record {
      on = λ p q w. let b = al.back p q w in subst (λ (t : ℕ). P p t) b.3 (subst (λ (t : ℕ). P t b.1) b.2 b.4);
      back = λ p q w. (p, q, refl, refl, al.on p q w);
    }

module _ {n top : ℕ} {e : ℕ → ℕ} (pl : Places n top e) (H K : ℕ → Type 0) (ho : Holds e H K) where
  holds_back : (f : ℕ) → K (e f) → H f
  holds_back f k = let b = ho.back (e f) k in subst H (place_one pl b.0 f b.1) b.2

  -- a list of the numbers from one of the places
  pub lists_back : (l : List ℕ) → Lists top K l → (inner : List ℕ) × Lists n H inner × (l ≡ map e inner)
  lists_back l x = (
    keep (λ f. x.test (e f)) (up_from 0 n),
    record { test = λ f. x.test (e f); yes = λ f y. holds_back f (x.yes (e f) y); no = λ f y h. x.no (e f) y (ho.on f h); listed = refl },
    x.listed ∙ keep_along pl x.test (λ p y. let b = ho.back p (x.yes p y) in (b.0, b.1)),
  )

  -- and the other way
  module _ (l : List ℕ) (x : Lists n H l) where
    test : ℕ → Bool
    test p = both (eqb (e (number_at pl p)) p) (x.test (number_at pl p))

    test_at : (f : ℕ) → test (e f) ≡ x.test f
    unfolding test
    test_at f =
        ap (λ (g : ℕ). both (eqb (e g) (e f)) (x.test g)) (number_at_is pl f) ∙ ap (λ (b : Bool). both b (x.test f)) (eq-eqb (e f) (e f) refl)

    test_yes : (p : ℕ) → test p ≡ true → K p
    unfolding test
    test_yes p y =
        let b = both_true (eqb (e (number_at pl p)) p) (x.test (number_at pl p)) y in
        subst K (eqb-true (e (number_at pl p)) p b.0) (ho.on (number_at pl p) (x.yes (number_at pl p) b.1))

    pub lists_on : Lists top K (map e l)
    lists_on =
        record {
          test = test;
          yes = test_yes;
          no = λ p y k.
              let b = ho.back p k in
              by_bool (x.test b.0) (λ z. true≢false (sym (ap test (sym b.1) ∙ test_at b.0 ∙ z) ∙ y)) (λ z. x.no b.0 z b.2);
          listed = ap (map e) (x.listed ∙ keep_same x.test (λ f. test (e f)) 0 n (λ f _. sym (test_at f)))
              ∙ sym (keep_along pl test (λ p y. let b = ho.back p (test_yes p y) in (b.0, b.1)));
        }

-- ---- groups
module _ {n top : ℕ} {e : ℕ → ℕ} (pl : Places n top e) {P Q : ℕ → ℕ → Type 0} (al : Along e P Q) where
  joined_on : (f g : ℕ) → Joined P f g → Joined Q (e f) (e g)
  joined_on f g (itself) = itself
  joined_on f g (onward {q = r} j w) = onward (joined_on f r j) (al.on r g w)
  joined_on f g (backward {q = r} j w) = backward (joined_on f r j) (al.on g r w)

  joined_back : (f q : ℕ) → Joined Q (e f) q → (g : ℕ) × (e g ≡ q) × Joined P f g
  joined_back f q (itself) = (f, refl, itself)
  joined_back f q (onward {q = r} j w) =
      let i = joined_back f r j in
      let b = al.back r q w in
      (b.1, b.3, onward (subst (λ (t : ℕ). Joined P f t) (place_one pl i.0 b.0 (i.1 ∙ sym b.2)) i.2) b.4)
  joined_back f q (backward {q = r} j w) =
      let i = joined_back f r j in
      let b = al.back q r w in
      (b.0, b.2, backward (subst (λ (t : ℕ). Joined P f t) (place_one pl i.0 b.1 (i.1 ∙ sym b.3)) i.2) b.4)

  joined_along : (f : ℕ) → Holds e (Joined P f) (Joined Q (e f))
  joined_along f = record { on = joined_on f; back = joined_back f }

  module _ {c m : List ℕ} (sp : Spread n top e c m) where
    group_on : (f : ℕ) (group : List ℕ) → Group P c f group → Group Q m (e f) (map e group)
    group_on f group x =
        record {
          odd_count = odd_along sp f ∙ x.odd_count;
          first = λ q j. let b = joined_back f q j in subst (λ (t : ℕ). e f ≤ t) b.1 (place_up f b.0 (x.first b.0 b.2));
          counts = rw sp.spread_size (lists_on pl (Joined P f) (Joined Q (e f)) (joined_along f) group (rw sp.size at x.counts));
        }
      where
        place_up : (g h : ℕ) → g ≤ h → e g ≤ e h
        place_up g h l = by_eq g h (λ d. omega (arith, ap e d)) (λ d. omega (arith, pl.rising g h (omega arith)))

    group_at : (f : ℕ) (group : List ℕ) → Group Q m (e f) group → (inner : List ℕ) × Group P c f inner × (group ≡ map e inner)
    group_at f group x =
        let l = lists_back pl (Joined P f) (Joined Q (e f)) (joined_along f) group (rw sp.spread_size at x.counts) in (
          l.0,
          record { odd_count = sym (odd_along sp f) ∙ x.odd_count; first = λ g j. place_order pl f g (x.first (e g) (joined_on f g j)); counts = rw sp.size l.1 },
          l.2,
        )

    pub group_back : (p : ℕ) (group : List ℕ) → Group Q m p group → (f : ℕ) × (inner : List ℕ) × (e f ≡ p) × Group P c f inner × (group ≡ map e inner)
    group_back p group x =
        let o = odd_place pl sp p x.odd_count in
        let g = group_at o.0 group (subst (λ (t : ℕ). Group Q m t group) (sym o.1) x) in
        (o.0, g.0, o.1, g.1, g.2)

    odd_groups : Holds e (OddGroup P c) (OddGroup Q m)
    odd_groups =
        record {
          on = λ f x. record {
            group = map e x.group;
            taken = group_on f x.group x.taken;
            odd_number = ap (λ (k : ℕ). k % 2) (length-map x.group e) ∙ x.odd_number;
          };
          back = λ p x.
              let b = group_back p x.group x.taken in
              (b.0, b.2, record { group = b.1; taken = b.3; odd_number = sym (ap (λ (l : List ℕ). length l % 2) b.4 ∙ ap (λ (k : ℕ). k % 2) (length-map b.1 e)) ∙ x.odd_number });
        }

    -- ---- one split
    module _ {a b A B : List ℕ} (sa : Spread n top e a A) (sb : Spread n top e b B) (split : Split P c a b) where
      favours_at : (f : ℕ) → favours_first A B (e f) ≡ favours_first a b f
      favours_at f = ap₂ ltb (sb.count f) (sa.count f)

      shares : (p : ℕ) → (get_or A p 0 + get_or B p 0 ≡ get_or m p 0) × Near 1 (get_or A p 0) (get_or B p 0)
      shares p =
          by_place pl p
          (λ f d. subst (λ (t : ℕ). (get_or A t 0 + get_or B t 0 ≡ get_or m t 0) × Near 1 (get_or A t 0) (get_or B t 0)) d
          (rw (sa.count f, sb.count f, sp.count f) (split.shared f, split.evenly f)))
          (λ none. rw (sa.off p none, sb.off p none, sp.off p none) (omega arith))

      -- those of a group at its places that favour the first half
      firsts_length : (inner group : List ℕ) → group ≡ map e inner → length (keep (favours_first A B) group) ≡ length (keep (favours_first a b) inner)
      firsts_length inner group d =
          ap (λ (l : List ℕ). length (keep (favours_first A B) l)) d
          ∙ ap length (keep_map (favours_first A B) e inner)
          ∙ length-map (keep (λ f. favours_first A B (e f)) inner) e
          ∙ ap (λ (t : ℕ → Bool). length (keep t inner)) (fun_ext favours_at)

      places_length : (inner l : List ℕ) → l ≡ map e inner → length l ≡ length inner
      places_length inner l d = ap length d ∙ length-map inner e

      pub split_along : Split Q m A B
      split_along =
          record {
            first_size = sa.spread_size ∙ sym sp.spread_size;
            second_size = sb.spread_size ∙ sym sp.spread_size;
            shared = λ p. (shares p).0;
            evenly = λ p. (shares p).1;
            opposite = λ p q w.
                let r = al.back p q w in
                subst (λ (t : ℕ). favours_first A B t ≡ not (favours_first A B q)) r.2
                (favours_at r.0 ∙ split.opposite r.0 r.1 r.4 ∙ ap not (sym (favours_at r.1) ∙ ap (favours_first A B) r.3));
            even_group = λ p group x o.
                let r = group_back p group x in
                ap (favours_first A B) (sym r.2) ∙ favours_at r.0 ∙ split.even_group r.0 r.1 r.3 (ap (λ (k : ℕ). k % 2) (sym (places_length r.1 group r.4)) ∙ o);
            odd_group = λ p group before x o l.
                let r = group_back p group x in
                let i = lists_back (places_below pl r.0) (OddGroup P c) (OddGroup Q m) odd_groups before (subst (λ (t : ℕ). Lists t (OddGroup Q m) before) (sym r.2) l) in
                rw (places_length i.0 before i.2, places_length r.1 group r.4, firsts_length r.1 group r.4)
                (split.odd_group r.0 r.1 i.0 r.3 (ap (λ (k : ℕ). k % 2) (sym (places_length r.1 group r.4)) ∙ o) i.1);
          }
