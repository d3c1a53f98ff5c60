-- Partners: in a list without a count twice the partner is an involution, and it is the rule's; and so at an input or a link.
use Prim.Native.Nat.{ℕ, ◌%◌, ◌≤◌, ◌<◌}
use mathlib.Core.Path.{◌≡◌, refl, sym, ap, ◌∙◌}
use mathlib.Core.Logic.{◌≢◌, ◌⊎◌, inl, inr, ⊎_elim}
use mathlib.Core.List.{List, [], ◌∷◌}
use mathlib.Core.Bool.{true}
use native.Mathlib.Omega.{arith}
use lib.Dec.{eqb}
use lib.ListN.{length, get_or, get_or-eq_default}
use borrow.Author.Tests.{eqb-true, eq-eqb, ne_eqb}
use Rattle.rules.specs.Words.{both, Every}
use Rattle.rules.specs.Rules.{odd, odds_at, Partners, these, later}
use Rattle.rules.specs.Schedule.{partner_in, partner}
use Rattle.rules.proofs.Cases.{by_eq, by_lt, both_true}
use Rattle.rules.proofs.Lists.{Rising, every_map, Apart, rising_apart}
use Rattle.rules.proofs.Kept.{keep_rising, keep_every}

-- ---- the partner in a list
module _ (a b : ℕ) (l : List ℕ) (p : ℕ) where
  pub in_first : p ≡ a → partner_in (a ∷ b ∷ l) p ≡ b
  in_first e = rw (eq-eqb p a e)

  pub in_second : p ≢ a → p ≡ b → partner_in (a ∷ b ∷ l) p ≡ a
  in_second n e = rw (ne_eqb p a n, eq-eqb p b e)

  pub in_rest : p ≢ a → p ≢ b → partner_in (a ∷ b ∷ l) p ≡ partner_in l p
  in_rest n e = rw (ne_eqb p a n, ne_eqb p b e)

-- a goal on the partner in a list, by the three cases
module _ (P : ℕ → Type 0) (a b : ℕ) (l : List ℕ) (p : ℕ) where
  pub in_cases : (p ≡ a → P b) → (p ≢ a → p ≡ b → P a) → (p ≢ a → p ≢ b → P (partner_in l p)) → P (partner_in (a ∷ b ∷ l) p)
  in_cases f g h =
      by_eq p a (λ e. rw (in_first a b l p e) (f e))
      (λ n. by_eq p b (λ e. rw (in_second a b l p n e) (g n e)) (λ e. rw (in_rest a b l p n e) (h n e)))

-- what holds of p and of each of the list holds of its partner
pub in_every : (P : ℕ → Type 0) (l : List ℕ) (p : ℕ) → Every P l → P p → P (partner_in l p)
in_every P [] p al h = h
in_every P (a ∷ []) p al h = h
in_every P (a ∷ b ∷ l) p al h = in_cases P a b l p (λ e. al.1.0) (λ n e. al.0) (λ n e. in_every P l p al.1.1 h)

-- one that is not in a list has no partner in it
pub in_none : (l : List ℕ) (p : ℕ) → Every (λ q. q ≢ p) l → partner_in l p ≡ p
in_none [] p al = refl
in_none (a ∷ []) p al = refl
in_none (a ∷ b ∷ l) p al = in_rest a b l p (λ e. al.0 (sym e)) (λ e. al.1.0 (sym e)) ∙ in_none l p al.1.1

pub in_twice : (l : List ℕ) (p : ℕ) → Apart l → partner_in l (partner_in l p) ≡ p
in_twice [] p apart = refl
in_twice (a ∷ []) p apart = refl
in_twice (a ∷ b ∷ l) p apart =
    in_cases (λ q. partner_in (a ∷ b ∷ l) q ≡ p) a b l p
    (λ e. in_second a b l b apart.0.0 refl ∙ sym e)
    (λ n e. in_first a b l a refl ∙ sym e)
    (λ n e.
    in_rest a b l (partner_in l p) (in_every (λ q. q ≢ a) l p apart.0.1 n) (in_every (λ q. q ≢ b) l p apart.1.0 e)
    ∙ in_twice l p apart.1.1)

-- ---- the rule: partners of such a list are each other's partner, and differ
pub partners_every : (P : ℕ → Type 0) (l : List ℕ) (p q : ℕ) → Every P l → Partners l p q → P p × P q
partners_every P m p q al these = (al.0, al.1.0)
partners_every P m p q al (later {l = l} r) = partners_every P l p q al.1.1 r

pub partners_two : (l : List ℕ) (p q : ℕ) → Partners l p q → 2 ≤ length l
partners_two m p q (these {l = l}) = omega arith
partners_two m p q (later {l = l} r) = omega (arith, partners_two l p q r)

pub record Mates (l : List ℕ) (p q : ℕ) : Type 0 where
  pub differ : p ≢ q
  pub there : partner_in l p ≡ q
  pub back : partner_in l q ≡ p

pub rule_mates : (l : List ℕ) (p q : ℕ) → Apart l → Partners l p q → Mates l p q
rule_mates m p q apart (these {l = l}) =
    record { differ = λ e. apart.0.0 (sym e); there = in_first p q l p refl; back = in_second p q l q apart.0.0 refl }
rule_mates n p q apart (later {x = x} {y = y} {l = l} r) =
    let m = rule_mates l p q apart.1.1 r in
    let at_x = partners_every (λ z. z ≢ x) l p q apart.0.1 r in
    let at_y = partners_every (λ z. z ≢ y) l p q apart.1.0 r in
    record {
      differ = m.differ;
      there = in_rest x y l p at_x.0 at_y.0 ∙ m.there;
      back = in_rest x y l q at_x.1 at_y.1 ∙ m.back;
    }

-- and who has another for a partner is a partner by the rule
pub mates_rule : (l : List ℕ) (p : ℕ) → partner_in l p ≢ p → Partners l p (partner_in l p) ⊎ Partners l (partner_in l p) p
mates_rule [] p = λ n. absurd (n refl)
mates_rule (a ∷ []) p = λ n. absurd (n refl)
mates_rule (a ∷ b ∷ l) p =
    in_cases (λ q. q ≢ p → Partners (a ∷ b ∷ l) p q ⊎ Partners (a ∷ b ∷ l) q p) a b l p
    (λ e n. rw e (inl these))
    (λ d e n. rw e (inr these))
    (λ d e n. ⊎_elim (λ r. inl (later r)) (λ r. inr (later r)) (mates_rule l p n))

-- ---- the odd counts of a port
pub odd_lt : (m : List ℕ) (p : ℕ) → odd m p ≡ true → p < length m
odd_lt m p e =
    by_lt p (length m) (λ h. h)
    (λ h. let z = eqb-true (get_or m p 0 % 2) 1 e in let y = get_or-eq_default m 0 h in absurd (none y z))
  where
    none : get_or m p 0 ≡ 0 → get_or m p 0 % 2 ≡ 1 → ⊥
    none y z = omega arith

-- what holds of each odd count of the port x
abbrev pub AtPort : (ℕ → ℕ) → List ℕ → ℕ → ℕ → Type 0
AtPort port m x p = (odd m p ≡ true) × (port p ≡ x)

module _ (port : ℕ → ℕ) (m : List ℕ) where
  pub odds_rising : (x : ℕ) → Rising 0 (odds_at port m x)
  odds_rising x = keep_rising (λ p. both (odd m p) (eqb (port p) x)) 0 (length m)

  pub odds_apart : (x : ℕ) → Apart (odds_at port m x)
  odds_apart x = rising_apart 0 (odds_at port m x) (odds_rising x)

  pub odds_every : (x : ℕ) → Every (AtPort port m x) (odds_at port m x)
  odds_every x =
      every_map (λ p. (both (odd m p) (eqb (port p) x) ≡ true) × (p < length m)) (AtPort port m x)
      (λ p h. let z = both_true (odd m p) (eqb (port p) x) h.0 in (z.0, eqb-true (port p) x z.1))
      (odds_at port m x)
      (keep_every (λ p. both (odd m p) (eqb (port p) x)) (length m) 0 (length m) (omega arith))

  pub partner_at : (p : ℕ) → odd m p ≡ true → AtPort port m (port p) (partner port m p)
  partner_at p o = in_every (AtPort port m (port p)) (odds_at port m (port p)) p (odds_every (port p)) (o, refl)

  partner_port : (p : ℕ) → port (partner port m p) ≡ port p
  partner_port p =
      in_every (λ q. port q ≡ port p) (odds_at port m (port p)) p
      (every_map (AtPort port m (port p)) (λ q. port q ≡ port p) (λ q h. h.1) (odds_at port m (port p)) (odds_every (port p))) refl

  pub partner_twice : (p : ℕ) → partner port m (partner port m p) ≡ p
  partner_twice p =
      ap (λ (x : ℕ). partner_in (odds_at port m x) (partner port m p)) (partner_port p) ∙ in_twice (odds_at port m (port p)) p (odds_apart (port p))

  -- the partner of a count of port x is that among those of x
  pub partner_among : (x p : ℕ) → port p ≡ x → partner port m p ≡ partner_in (odds_at port m x) p
  partner_among x p e = ap (λ (y : ℕ). partner_in (odds_at port m y) p) e
