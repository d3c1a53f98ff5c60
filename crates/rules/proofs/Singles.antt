-- Singles: partners at an output, first those of one link, then the single ones that its links leave; and the rule's partners are those of
-- the function, at inputs and at outputs.
use Prim.Native.Nat.{ℕ, suc, zero, ◌+◌, ◌*◌, ◌%◌, ◌≤◌, ◌<◌}
use mathlib.Core.Path.{◌≡◌, refl, sym, ap, ◌∙◌}
use mathlib.Core.Logic.{◌≢◌, ◌⊎◌, inl, inr, ⊎_elim}
use mathlib.Core.List.{List, [], ◌∷◌, ◌++◌, append-nil}
use mathlib.Core.Bool.{Bool, true, false}
use native.Mathlib.Omega.{arith}
use lib.Dec.{eqb}
use lib.ListN.{length}
use borrow.Author.Tests.{eq-eqb, ne_eqb}
use Rattle.rules.specs.Words.{if, both, Every}
use Rattle.rules.specs.Flows.{End, inputs, links, output_of, Class, flow, port_on, input, output, link, total}
use Rattle.rules.specs.Rules.{odd, odds_at, Partners, single, singles_of, partnered, Partnered}
use Rattle.rules.specs.Schedule.{partner_in, partner, output_partner}
use Rattle.rules.proofs.Cases.{by_bool, by_eq}
use Rattle.rules.proofs.Kept.{keep_none}
use Rattle.rules.proofs.Lists.{every_map, Apart, every_append}
use Rattle.rules.proofs.Partners.{in_every, in_rest, in_twice, partners_every, partners_two, rule_mates, mates_rule, AtPort, odds_apart, odds_every, partner_at, partner_twice, partner_among}

-- ---- two lists end to end
apart_append : (l r : List ℕ) → Apart l → Apart r → Every (λ x. Every (λ y. y ≢ x) r) l → Apart (l ++ r)
apart_append [] r a b d = b
apart_append (x ∷ l) r a b d = (every_append (λ y. y ≢ x) l r a.0 d.0, apart_append l r a.1 b d.1)

-- ---- the one that a list leaves single
pub single_every : (P : ℕ → Type 0) (l : List ℕ) → Every P l → Every P (single l)
single_every P [] al = tt
single_every P (a ∷ []) al = al
single_every P (a ∷ b ∷ l) al = single_every P l al.1.1

single_apart : (l : List ℕ) → Apart (single l)
single_apart [] = tt
single_apart (a ∷ []) = (tt, tt)
single_apart (a ∷ b ∷ l) = single_apart l

-- there is one at most
pub single_most : (l : List ℕ) → length (single l) ≤ 1
single_most [] = omega arith
single_most (a ∷ []) = omega arith
single_most (a ∷ b ∷ l) = single_most l

-- nobody has a partner in it
single_none : (l : List ℕ) (p : ℕ) → partner_in (single l) p ≡ p
single_none [] p = refl
single_none (a ∷ []) p = refl
single_none (a ∷ b ∷ l) p = single_none l p

pub every_both : (P Q R : ℕ → Type 0) → ((p : ℕ) → P p → Q p → R p) → (l : List ℕ) → Every P l → Every Q l → Every R l
every_both P Q R f [] a b = tt
every_both P Q R f (x ∷ l) a b = (f x a.0 b.0, every_both P Q R f l a.1 b.1)

-- it has no partner there
single_own : (l : List ℕ) → Apart l → Every (λ r. partner_in l r ≡ r) (single l)
single_own [] apart = tt
single_own (a ∷ []) apart = (refl, tt)
single_own (a ∷ b ∷ l) apart =
    every_both (λ r. (r ≢ a) × (r ≢ b)) (λ r. partner_in l r ≡ r) (λ r. partner_in (a ∷ b ∷ l) r ≡ r)
    (λ r n e. in_rest a b l r n.0 n.1 ∙ e) (single l)
    (single_every (λ r. (r ≢ a) × (r ≢ b)) l (every_both (λ r. r ≢ a) (λ r. r ≢ b) (λ r. (r ≢ a) × (r ≢ b)) (λ r n k. (n, k)) l apart.0.1 apart.1.0))
    (single_own l apart.1.1)

module _ (port : ℕ → ℕ) (m : List ℕ) where
  -- ---- the single ones of n links from x on
  pub record Single (x n r : ℕ) : Type 0 where
    pub odd_count : odd m r ≡ true
    pub low : x ≤ port r
    pub high : port r < x + n
    pub alone : partner port m r ≡ r

  singles_here : (x n : ℕ) → 1 ≤ n → Every (Single x n) (single (odds_at port m x))
  singles_here x n h =
      every_both (AtPort port m x) (λ r. partner_in (odds_at port m x) r ≡ r) (Single x n)
      (λ r a e. let k = a.1 in record { odd_count = a.0; low = omega arith; high = omega arith; alone = partner_among port m x r a.1 ∙ e })
      (single (odds_at port m x)) (single_every (AtPort port m x) (odds_at port m x) (odds_every port m x)) (single_own (odds_at port m x) (odds_apart port m x))

  pub singles_every : (x n : ℕ) → Every (Single x n) (singles_of port m x n)
  singles_every x zero = tt
  singles_every x (suc n) =
      every_append (Single x (suc n)) (single (odds_at port m x)) (singles_of port m (suc x) n) (singles_here x (suc n) (omega arith))
      (every_map (Single (suc x) n) (Single x (suc n))
      (λ r s. record { odd_count = s.odd_count; low = omega (arith, s.low); high = omega (arith, s.high); alone = s.alone })
      (singles_of port m (suc x) n) (singles_every (suc x) n))

  pub singles_apart : (x n : ℕ) → Apart (singles_of port m x n)
  singles_apart x zero = tt
  singles_apart x (suc n) =
      apart_append (single (odds_at port m x)) (singles_of port m (suc x) n) (single_apart (odds_at port m x)) (singles_apart (suc x) n)
      (every_map (AtPort port m x) (λ a. Every (λ b. b ≢ a) (singles_of port m (suc x) n))
      (λ a h. every_map (Single (suc x) n) (λ b. b ≢ a) (λ b s e. let k = ap port e in absurd (omega (arith, s.low, h.1))) (singles_of port m (suc x) n) (singles_every (suc x) n))
      (single (odds_at port m x)) (single_every (AtPort port m x) (odds_at port m x) (odds_every port m x)))

  -- ---- partners at an output
  abbrev singles_at : ℕ → List ℕ
  singles_at p = singles_of port m (output_of (port p) * 4) 4

  pub output_linked : (p : ℕ) → partner port m p ≢ p → output_partner port m p ≡ partner port m p
  output_linked p n = ap (λ (b : Bool). if b (partner_in (singles_at p) p) (partner port m p)) (ne_eqb (partner port m p) p n)

  pub output_single : (p : ℕ) → partner port m p ≡ p → output_partner port m p ≡ partner_in (singles_at p) p
  output_single p e = ap (λ (b : Bool). if b (partner_in (singles_at p) p) (partner port m p)) (eq-eqb (partner port m p) p e)

  -- a single one of the output of p
  single_output : (o r : ℕ) → Single (o * 4) 4 r → output_of (port r) ≡ o
  single_output o r s = omega (arith, s.low, s.high)

  -- the one that a single one comes to: it is at the same output, and its link leaves it single
  Alike : ℕ → ℕ → Type 0
  Alike p r = (output_of (port r) ≡ output_of (port p)) × (partner port m r ≡ r)

  alike_at : (p : ℕ) → partner port m p ≡ p → Alike p (partner_in (singles_at p) p)
  unfolding Alike
  alike_at p e =
      in_every (Alike p) (singles_at p) p
      (every_map (Single (output_of (port p) * 4) 4) (Alike p) (λ r s. (single_output (output_of (port p)) r s, s.alone)) (singles_at p) (singles_every (output_of (port p) * 4) 4))
      (refl, e)

  pub output_twice : (p : ℕ) → output_partner port m (output_partner port m p) ≡ p
  unfolding Alike
  output_twice p =
      by_eq (partner port m p) p
      (λ e.
      let r = partner_in (singles_at p) p in
      let a = alike_at p e in
      ap (output_partner port m) (output_single p e)
      ∙ output_single r a.1
      ∙ ap (λ (o : ℕ). partner_in (singles_of port m (o * 4) 4) r) a.0
      ∙ in_twice (singles_at p) p (singles_apart (output_of (port p) * 4) 4))
      (λ n.
      let q = partner port m p in
      let back = partner_twice port m p in
      ap (output_partner port m) (output_linked p n) ∙ output_linked q (λ e. n (sym e ∙ back)) ∙ back)

  pub output_odd : (p : ℕ) → odd m p ≡ true → odd m (output_partner port m p) ≡ true
  output_odd p o =
      by_eq (partner port m p) p
      (λ e. rw (output_single p e)
      (in_every (λ r. odd m r ≡ true) (singles_at p) p
      (every_map (Single (output_of (port p) * 4) 4) (λ r. odd m r ≡ true) (λ r s. s.odd_count) (singles_at p) (singles_every (output_of (port p) * 4) 4)) o))
      (λ n. rw (output_linked p n) (partner_at port m p o).0)

  -- ---- where every count of an output is on its first link, no link leaves another a partner
  module _ (o : ℕ) (first_link : (p : ℕ) → p < length m → output_of (port p) ≡ o → port p % 4 ≡ 0) where
    pub none_there : (x : ℕ) → output_of x ≡ o → x % 4 ≢ 0 → odds_at port m x ≡ []
    none_there x at n = keep_none (λ p. both (odd m p) (eqb (port p) x)) 0 (length m) (λ p _ h. off p (omega arith))
      where
        off : (p : ℕ) → p < length m → both (odd m p) (eqb (port p) x) ≡ false
        off p h =
            by_bool (odd m p)
            (λ e. rw e (ne_eqb (port p) x (λ k. n (ap (λ (y : ℕ). y % 4) (sym k) ∙ first_link p h (ap output_of k ∙ at)))))
            (λ e. rw e)

    pub singles_one : singles_of port m (o * 4) 4 ≡ single (odds_at port m (o * 4))
    singles_one =
        rw (
          none_there (suc (o * 4)) (omega arith) (omega arith),
          none_there (suc (suc (o * 4))) (omega arith) (omega arith),
          none_there (suc (suc (suc (o * 4)))) (omega arith) (omega arith),
        ) (append-nil (single (odds_at port m (o * 4))))

    pub one_link : (p : ℕ) → output_of (port p) ≡ o → output_partner port m p ≡ partner port m p
    one_link p at =
        by_eq (partner port m p) p
        (λ e.
        output_single p e
        ∙ ap (λ (x : ℕ). partner_in (singles_of port m (x * 4) 4) p) at
        ∙ ap (λ (l : List ℕ). partner_in l p) singles_one
        ∙ single_none (odds_at port m (o * 4)) p
        ∙ sym e)
        (λ n. output_linked p n)

-- ---- the two sides
-- the partner of a count at its input, and at its output
abbrev pub mate : (End → ℕ → ℕ) → List ℕ → End → ℕ → ℕ
mate port m inputs = partner (port inputs) m
mate port m links = output_partner (port links) m

module _ (port : End → ℕ → ℕ) (m : List ℕ) where
  -- partners by the rule are odd, differ, and are each other's partner on one of the sides
  pub record Paired (p q : ℕ) : Type 0 where
    pub side : End
    pub odd_first : odd m p ≡ true
    pub odd_second : odd m q ≡ true
    pub differ : p ≢ q
    pub there : mate port m side p ≡ q
    pub back : mate port m side q ≡ p

  nobody : {P : Type 0} (p q : ℕ) → Partners [] p q → P
  nobody p q w = absurd (omega (arith, partners_two [] p q w))

  at_class : (c : Class) (p q : ℕ) → Partners (partnered c port m) p q ⊎ Partners (partnered c port m) q p → Partnered port m p q ⊎ Partnered port m q p
  at_class c p q = ⊎_elim (λ w. inl (c, w)) (λ w. inr (c, w))

  at_port : (s : End) (x p q : ℕ) → Partners (odds_at (port s) m x) p q
      → (odd m p ≡ true) × (odd m q ≡ true) × (p ≢ q) × (partner (port s) m p ≡ q) × (partner (port s) m q ≡ p)
  at_port s x p q w =
      let r = rule_mates (odds_at (port s) m x) p q (odds_apart (port s) m x) w in
      let e = partners_every (AtPort (port s) m x) (odds_at (port s) m x) p q (odds_every (port s) m x) w in
      (e.0.0, e.1.0, r.differ, partner_among (port s) m x p e.0.1 ∙ r.there, partner_among (port s) m x q e.1.1 ∙ r.back)

  pub rule_partner : (p q : ℕ) → Partnered port m p q → Paired p q
  rule_partner p q (flow f, w) = nobody p q w
  rule_partner p q (port_on input i, w) =
      let r = at_port inputs i p q w in
      record { side = inputs; odd_first = r.0; odd_second = r.1; differ = r.2; there = r.3; back = r.4 }
  rule_partner p q (link x, w) =
      let r = at_port links x p q w in
      record {
        side = links;
        odd_first = r.0;
        odd_second = r.1;
        differ = r.2;
        there = output_linked (port links) m p (λ e. r.2 (sym e ∙ r.3)) ∙ r.3;
        back = output_linked (port links) m q (λ e. r.2 (sym r.4 ∙ e)) ∙ r.4;
      }
  rule_partner p q (port_on output o, w) =
      let l = singles_of (port links) m (o * 4) 4 in
      let r = rule_mates l p q (singles_apart (port links) m (o * 4) 4) w in
      let e = partners_every (Single (port links) m (o * 4) 4) l p q (singles_every (port links) m (o * 4) 4) w in
      record {
        side = links;
        odd_first = e.0.odd_count;
        odd_second = e.1.odd_count;
        differ = r.differ;
        there = among p e.0 ∙ r.there;
        back = among q e.1 ∙ r.back;
      }
    where
      among : (t : ℕ) → Single (port links) m (o * 4) 4 t → output_partner (port links) m t ≡ partner_in (singles_of (port links) m (o * 4) 4) t
      among t s =
          output_single (port links) m t s.alone
          ∙ ap (λ (x : ℕ). partner_in (singles_of (port links) m (x * 4) 4) t) (single_output (port links) m o t s)
  rule_partner p q (total, w) = nobody p q w

  -- and who has another for a partner on a side is a partner by the rule
  pub partner_rule : (s : End) (p : ℕ) → mate port m s p ≢ p → Partnered port m p (mate port m s p) ⊎ Partnered port m (mate port m s p) p
  partner_rule inputs p n = at_class (port_on input (port inputs p)) p (partner (port inputs) m p) (mates_rule (odds_at (port inputs) m (port inputs p)) p n)
  partner_rule links p n =
      by_eq (partner (port links) m p) p
      (λ e. let d = output_single (port links) m p e in
      rw d (at_class (port_on output (output_of (port links p))) p _ (mates_rule (singles_of (port links) m (output_of (port links p) * 4) 4) p (λ k. n (d ∙ k)))))
      (λ k. rw (output_linked (port links) m p k) (at_class (link (port links p)) p _ (mates_rule (odds_at (port links) m (port links p)) p k)))
