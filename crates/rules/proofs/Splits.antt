-- One split: the function's halves meet rules 2 to 5, and whatever meets them is the function's halves.
use Prim.Native.Nat.{ℕ, suc, zero, ◌+◌, ◌/◌, ◌%◌, ◌≤◌}
use mathlib.Core.Path.{◌≡◌, refl, sym, ap, ◌∙◌, subst}
use mathlib.Core.Logic.{◌≢◌, ⊎_elim}
use mathlib.Core.List.{List, [], ◌∷◌}
use mathlib.Core.Bool.{Bool, true, false, not}
use native.Mathlib.Omega.{arith}
use lib.Dec.{eqb}
use lib.ListN.{length, get_or}
use lib.Seq.{ext_get_or}
use borrow.Author.Tests.{eqb-true, eqb-false, eq-eqb, ne_eqb, lt-ltb, le-ltb, ltb-true, ltb-false}
use Rattle.rules.specs.Words.{bit, up_from, keep, Near, Every}
use Rattle.rules.specs.Flows.{End}
use Rattle.rules.specs.Rules.{odd, Partnered, Joined, Group, favours_first, Split}
use Rattle.rules.specs.Schedule.{favours, half_by, half_of}
use Rattle.rules.proofs.Cases.{by_bool, by_eq, is_yes, is_no}
use Rattle.rules.proofs.Lists.{every_map}
use Rattle.rules.proofs.Singles.{mate, rule_partner, partner_rule}
use Rattle.rules.proofs.Settled.{pairings, favours_law}
use Rattle.rules.proofs.Kept.{keep_alike, keep_parts}
use Rattle.rules.proofs.Groups.{JoinedBy, reached_closed, joined_reached}
use Rattle.rules.proofs.Ties.{lists_every, has_group, even_favours, odd_test, odd_lists, odd_share}

-- ---- halves by what each count favours
pub half_at : (h : ℕ) (m c : List ℕ) (p : ℕ) → h ≢ 0 → length c ≡ length m → get_or (half_by h m c) p 0 ≡ get_or m p 0 / 2 + bit (eqb (get_or c p 0) h)
half_at h [] [] p n e = omega (arith, is_no 0 h (λ k. n (sym k)))
half_at h [] (y ∷ c) p n e = absurd (omega arith)
half_at h (x ∷ m) [] p n e = absurd (omega arith)
half_at h (x ∷ m) (y ∷ c) zero n e = refl
half_at h (x ∷ m) (y ∷ c) (suc p) n e = half_at h m c p n (omega arith)

pub half_length : (h : ℕ) (m c : List ℕ) → length c ≡ length m → length (half_by h m c) ≡ length m
half_length h [] c e = refl
half_length h (x ∷ m) [] e = absurd (omega arith)
half_length h (x ∷ m) (y ∷ c) e = ap suc (half_length h m c (omega arith))

module _ (port : End → ℕ → ℕ) (m : List ℕ) where
  -- what each half gets of a count, by what it favours
  pub record Gets (p a b : ℕ) : Type 0 where
    pub first : get_or (half_of port 1 m) p 0 ≡ a
    pub second : get_or (half_of port 2 m) p 0 ≡ b

  abbrev colour : ℕ → ℕ
  colour p = get_or (favours port m) p 0

  given : (p x y : ℕ) → bit (eqb (colour p) 1) ≡ x → bit (eqb (colour p) 2) ≡ y → Gets p (get_or m p 0 / 2 + x) (get_or m p 0 / 2 + y)
  given p x y e f =
      let l = (favours_law port m).len in
      record {
        first = half_at 1 m (favours port m) p (omega arith) l ∙ ap (λ (t : ℕ). get_or m p 0 / 2 + t) e;
        second = half_at 2 m (favours port m) p (omega arith) l ∙ ap (λ (t : ℕ). get_or m p 0 / 2 + t) f;
      }

  pub given_even : (p : ℕ) → odd m p ≡ false → Gets p (get_or m p 0 / 2 + 0) (get_or m p 0 / 2 + 0)
  given_even p e = let z = (favours_law port m).evens p e in given p 0 0 (is_no (colour p) 1 (omega arith)) (is_no (colour p) 2 (omega arith))

  pub given_one : (p : ℕ) → colour p ≡ 1 → Gets p (get_or m p 0 / 2 + 1) (get_or m p 0 / 2 + 0)
  given_one p e = given p 1 0 (is_yes (colour p) 1 e) (is_no (colour p) 2 (omega arith))

  pub given_two : (p : ℕ) → colour p ≢ 1 → odd m p ≡ true → Gets p (get_or m p 0 / 2 + 0) (get_or m p 0 / 2 + 1)
  given_two p n e =
      let a = (favours_law port m).low p e in
      let b = (favours_law port m).high p in
      given p 0 1 (is_no (colour p) 1 n) (is_yes (colour p) 2 (omega arith))

  -- an odd count favours the first half where its colour is 1
  pub first_is : (p : ℕ) → odd m p ≡ true → favours_first (half_of port 1 m) (half_of port 2 m) p ≡ eqb (colour p) 1
  first_is p e =
      by_eq (colour p) 1
      (λ k. let g = given_one p k in rw (g.first, g.second, eq-eqb (colour p) 1 k) (lt-ltb (get_or m p 0 / 2 + 0) (get_or m p 0 / 2 + 1) (omega arith)))
      (λ k. let g = given_two p k e in rw (g.first, g.second, ne_eqb (colour p) 1 k) (le-ltb (get_or m p 0 / 2 + 1) (get_or m p 0 / 2 + 0) (omega arith)))

  shares : (p : ℕ) → (get_or (half_of port 1 m) p 0 + get_or (half_of port 2 m) p 0 ≡ get_or m p 0) × Near 1 (get_or (half_of port 1 m) p 0) (get_or (half_of port 2 m) p 0)
  shares p =
      by_bool (odd m p)
      (λ e.
      let o = eqb-true (get_or m p 0 % 2) 1 e in
      by_eq (colour p) 1
      (λ k. let g = given_one p k in rw (g.first, g.second) (omega arith))
      (λ k. let g = given_two p k e in rw (g.first, g.second) (omega arith)))
      (λ e.
      let o : get_or m p 0 % 2 ≢ 1 = eqb-false (get_or m p 0 % 2) 1 e in
      let g = given_even p e in
      rw (g.first, g.second) (omega arith))

  opposite_is : (a b : ℕ) → 1 ≤ a → 1 ≤ b → a + b ≡ 3 → eqb a 1 ≡ not (eqb b 1)
  opposite_is a b x y e = by_eq b 1 (λ k. rw (eq-eqb b 1 k) (ne_eqb a 1 (omega arith))) (λ k. rw (ne_eqb b 1 k) (eq-eqb a 1 (omega arith)))

  -- what holds of each that the first count of a group reaches holds of each of the group
  group_every : (P : ℕ → Type 0) (p : ℕ) (group : List ℕ) → Group (Partnered port m) m p group → ((q : ℕ) → JoinedBy (mate port m) p q → P q) → Every P group
  group_every P p group x h =
      every_map (Joined (Partnered port m) p) P (λ q j. h q (joined_reached port m p q j)) group (lists_every (length m) (Joined (Partnered port m) p) group x.counts)

  group_odd : (p : ℕ) (group : List ℕ) → Group (Partnered port m) m p group → (q : ℕ) → JoinedBy (mate port m) p q → odd m q ≡ true
  group_odd p group x q j = reached_closed (mate port m) p (λ r. odd m r ≡ true) x.odd_count (λ s. (pairings port m s).odds) q j

  -- those of a group that favour the first half
  firsts_are : (p : ℕ) (group : List ℕ) → Group (Partnered port m) m p group
      → keep (favours_first (half_of port 1 m) (half_of port 2 m)) group ≡ keep (λ q. eqb (colour q) 1) group
  firsts_are p group x =
      keep_alike (favours_first (half_of port 1 m) (half_of port 2 m)) (λ q. eqb (colour q) 1) group
      (group_every (λ q. favours_first (half_of port 1 m) (half_of port 2 m) q ≡ eqb (colour q) 1) p group x (λ q j. first_is q (group_odd p group x q j)))

  pub split_is : Split (Partnered port m) m (half_of port 1 m) (half_of port 2 m)
  split_is =
      record {
        first_size = half_length 1 m (favours port m) (favours_law port m).len;
        second_size = half_length 2 m (favours port m) (favours_law port m).len;
        shared = λ p. (shares p).0;
        evenly = λ p. (shares p).1;
        opposite = opposite;
        even_group = λ p group x e. rw (first_is p x.odd_count, even_favours port m p group x (omega arith)) refl;
        odd_group = λ p group before x o b.
            let n = ap length (firsts_are p group x) in
            let h = odd_share port m p group before x o b in
            ((λ e. omega arith), λ e. omega arith);
      }
    where
      opposite : (p q : ℕ) → Partnered port m p q → favours_first (half_of port 1 m) (half_of port 2 m) p ≡ not (favours_first (half_of port 1 m) (half_of port 2 m) q)
      opposite p q w =
          let r = rule_partner port m p q w in
          let f = favours_law port m in
          let moved : mate port m r.side p ≢ p = λ e. r.differ (sym e ∙ r.there) in
          let sum : colour q + colour p ≡ 3 = subst (λ (t : ℕ). colour t + colour p ≡ 3) r.there (f.mates r.side p r.odd_first moved) in
          first_is p r.odd_first
          ∙ opposite_is (colour p) (colour q) (f.low p r.odd_first) (f.low q r.odd_second) (omega arith)
          ∙ ap not (sym (first_is q r.odd_second))

  -- ---- whatever meets the rules
  module _ (a b : List ℕ) (sp : Split (Partnered port m) m a b) where
    -- of one count, by whether it favours the first half
    pub more : (p : ℕ) → odd m p ≡ true → favours_first a b p ≡ true → (get_or a p 0 ≡ get_or m p 0 / 2 + 1) × (get_or b p 0 ≡ get_or m p 0 / 2 + 0)
    more p e f = let o = eqb-true (get_or m p 0 % 2) 1 e in let h = ltb-true (get_or b p 0) (get_or a p 0) f in let s = sp.shared p in let n = sp.evenly p in omega arith

    pub less : (p : ℕ) → odd m p ≡ true → favours_first a b p ≡ false → (get_or a p 0 ≡ get_or m p 0 / 2 + 0) × (get_or b p 0 ≡ get_or m p 0 / 2 + 1)
    less p e f = let o = eqb-true (get_or m p 0 % 2) 1 e in let h = ltb-false (get_or b p 0) (get_or a p 0) f in let s = sp.shared p in let n = sp.evenly p in omega arith

    pub alike : (p : ℕ) → odd m p ≡ false → (get_or a p 0 ≡ get_or m p 0 / 2 + 0) × (get_or b p 0 ≡ get_or m p 0 / 2 + 0)
    alike p e = let o : get_or m p 0 % 2 ≢ 1 = eqb-false (get_or m p 0 % 2) 1 e in let s = sp.shared p in let n = sp.evenly p in omega arith

    -- along partners it goes with the function's, the same way round or the other
    abbrev Agrees : (Bool → Bool) → ℕ → Type 0
    Agrees way p = (odd m p ≡ true) × (favours_first a b p ≡ way (eqb (colour p) 1))

    flip : (x y : Bool) → x ≡ not y → not x ≡ y
    flip x true e = rw e
    flip x false e = rw e

    agree_on : (way : Bool → Bool) → ((x : Bool) → way (not x) ≡ not (way x)) → (s : End) (p : ℕ) → Agrees way p → Agrees way (mate port m s p)
    agree_on way turns s p g =
        by_eq (mate port m s p) p (λ e. rw e g)
        (λ n.
        let f = favours_law port m in
        let q = mate port m s p in
        let oq = (pairings port m s).odds p g.0 in
        let sum = f.mates s p g.0 n in
        let here : eqb (colour q) 1 ≡ not (eqb (colour p) 1) = opposite_is (colour q) (colour p) (f.low q oq) (f.low p g.0) sum in
        let there : favours_first a b q ≡ not (favours_first a b p) = ⊎_elim
        (λ w. sym (flip (favours_first a b p) (favours_first a b q) (sp.opposite p q w)))
        (λ w. sp.opposite q p w)
        (partner_rule port m s p n) in
        (oq, there ∙ ap not g.1 ∙ sym (turns (eqb (colour p) 1)) ∙ ap way (sym here)))

    -- the other way round in a group with an odd number of counts, the other half would have more of it
    other_way : (p : ℕ) (group : List ℕ) → Group (Partnered port m) m p group → length group % 2 ≡ 1 → favours_first a b p ≡ not (eqb (colour p) 1) → ⊥
    other_way p group x o e =
        let before = keep (odd_test port m) (up_from 0 p) in
        let f : ℕ → Bool = λ q. eqb (colour q) 1 in
        let lists = odd_lists port m p in
        let rule = sp.odd_group p group before x o lists in
        let share = odd_share port m p group before x o lists in
        let turned : keep (favours_first a b) group ≡ keep (λ q. not (f q)) group = keep_alike (favours_first a b) (λ q. not (f q)) group
        (group_every (λ q. favours_first a b q ≡ not (f q)) p group x
        (λ q j. (reached_closed (mate port m) p (Agrees not) (x.odd_count, e) (agree_on not (λ y. refl)) q j).1)) in
        let parts = keep_parts f group in
        let others = ap length turned in
        by_eq (suc (length before) % 2) 1
        (λ h. let more = rule.0 h in omega arith)
        (λ h. let less : suc (length before) % 2 ≡ 0 = omega arith in let more = rule.1 less in omega arith)

    -- so the first count of a group favours what the function says
    first_agrees : (p : ℕ) (group : List ℕ) → Group (Partnered port m) m p group → favours_first a b p ≡ eqb (colour p) 1
    first_agrees p group x =
        by_eq (length group % 2) 1
        (λ o. by_bool (favours_first a b p)
        (λ e. by_bool (eqb (colour p) 1) (λ k. e ∙ sym k) (λ k. absurd (other_way p group x o (e ∙ ap not (sym k)))))
        (λ e. by_bool (eqb (colour p) 1) (λ k. absurd (other_way p group x o (e ∙ ap not (sym k)))) (λ k. e ∙ sym k)))
        (λ o. let z : length group % 2 ≡ 0 = omega arith in sp.even_group p group x z ∙ sym (eq-eqb (colour p) 1 (even_favours port m p group x z)))

    agrees : (p : ℕ) → odd m p ≡ true → favours_first a b p ≡ eqb (colour p) 1
    agrees p e =
        let g = has_group port m p e in
        (reached_closed (mate port m) g.0 (Agrees (λ x. x)) (g.2.odd_count, first_agrees g.0 g.1 g.2) (agree_on (λ x. x) (λ x. refl)) p g.3).1

    only_at : (p : ℕ) → (get_or a p 0 ≡ get_or (half_of port 1 m) p 0) × (get_or b p 0 ≡ get_or (half_of port 2 m) p 0)
    only_at p =
        by_bool (odd m p)
        (λ e.
        let g = agrees p e in
        by_eq (colour p) 1
        (λ k. let h = more p e (g ∙ eq-eqb (colour p) 1 k) in let v = given_one p k in (h.0 ∙ sym v.first, h.1 ∙ sym v.second))
        (λ k. let h = less p e (g ∙ ne_eqb (colour p) 1 k) in let v = given_two p k e in (h.0 ∙ sym v.first, h.1 ∙ sym v.second)))
        (λ e. let h = alike p e in let v = given_even p e in (h.0 ∙ sym v.first, h.1 ∙ sym v.second))

    pub only_split : (a ≡ half_of port 1 m) × (b ≡ half_of port 2 m)
    only_split = (
      ext_get_or 0 a (half_of port 1 m) (sp.first_size ∙ sym split_is.first_size) (λ p h. (only_at p).0),
      ext_get_or 0 b (half_of port 2 m) (sp.second_size ∙ sym split_is.second_size) (λ p h. (only_at p).1),
    )
