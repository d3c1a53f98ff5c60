-- Shares: how many counts of a walk, and of a group, favour each half, whichever half its first count favours.
use Prim.Native.Nat.{ℕ, suc, zero, ◌+◌, ◌*◌, ◌-◌, ◌/◌, ◌%◌, ◌≤◌, ◌<◌}
use mathlib.Core.Path.{◌≡◌, refl, sym, ap, ◌∙◌}
use mathlib.Core.Logic.{◌≢◌}
use mathlib.Core.List.{List}
use mathlib.Core.Bool.{Bool, true}
use native.Mathlib.Omega.{arith}
use lib.ListN.{length, get_or, set, length-set}
use lib.Seq.{get_or-set_same, get_or-set_other}
use Rattle.rules.specs.Schedule.{walk, group_of, favouring}
use Rattle.rules.proofs.Cases.{by_eq, by_lt}
use Rattle.rules.specs.Words.{Within}
use Rattle.rules.proofs.Favouring.{favouring_more, favouring_same}
use Rattle.rules.proofs.Walks.{Pairing, walk_on, walk_off, walk_length}

-- ---- the same counts are settled
pub record Alike (c d : List ℕ) : Type 0 where
  pub len : length d ≡ length c
  pub there : (q : ℕ) → get_or c q 0 ≡ 0 → get_or d q 0 ≡ 0
  pub back : (q : ℕ) → get_or d q 0 ≡ 0 → get_or c q 0 ≡ 0

pub alike_set : (c d : List ℕ) (q v w : ℕ) → Alike c d → q < length c → v ≢ 0 → w ≢ 0 → Alike (set c q v) (set d q w)
alike_set c d q v w a l nv nw =
    let ld : q < length d = omega (arith, a.len) in
    record {
      len = length-set d q w ∙ a.len ∙ sym (length-set c q v);
      there = λ r. by_eq r q
          (λ e z. absurd (nv (sym (get_or-set_same c q v 0 l) ∙ ap (λ (t : ℕ). get_or (set c q v) t 0) (sym e) ∙ z)))
          (λ e z. get_or-set_other d q r w 0 e ∙ a.there r (sym (get_or-set_other c q r v 0 e) ∙ z));
      back = λ r. by_eq r q
          (λ e z. absurd (nw (sym (get_or-set_same d q w 0 ld) ∙ ap (λ (t : ℕ). get_or (set d q w) t 0) (sym e) ∙ z)))
          (λ e z. get_or-set_other c q r v 0 e ∙ a.back r (sym (get_or-set_other d q r w 0 e) ∙ z));
    }

-- ---- two walks along the same partners, from a count that favours h in c and g in d: both settle the same counts, and of
-- these the half that the start does not favour gets every second one, beginning with the first
pub record Both (h g : ℕ) (c d w v : List ℕ) : Type 0 where
  pub count : ℕ
  pub alike : Alike w v
  pub own : favouring h w ≡ favouring h c + count / 2
  pub other : favouring g w ≡ favouring g c + (count + 1) / 2
  pub own' : favouring g v ≡ favouring g d + count / 2
  pub other' : favouring h v ≡ favouring h d + (count + 1) / 2

-- ---- a group, settled from c with its first count favouring the first half in one, the second half in two; besides the
-- first count, a of its counts are settled by the walk along inputs and b by the one along outputs
pub record BothWays (c one two : List ℕ) : Type 0 where
  pub a : ℕ
  pub b : ℕ
  pub one_first : favouring 1 one ≡ favouring 1 c + 1 + a / 2 + b / 2
  pub one_second : favouring 2 one ≡ favouring 2 c + (a + 1) / 2 + (b + 1) / 2
  pub two_first : favouring 1 two ≡ favouring 1 c + (a + 1) / 2 + (b + 1) / 2
  pub two_second : favouring 2 two ≡ favouring 2 c + 1 + a / 2 + b / 2

module _ (n : ℕ) (od : ℕ → Bool) (od_lt : (p : ℕ) → od p ≡ true → p < n) where
  walk_both : (k : ℕ) (go back : ℕ → ℕ) (p h g : ℕ) (c d : List ℕ) → Pairing od go → Pairing od back → od p ≡ true
      → h + g ≡ 3 → 1 ≤ h → 1 ≤ g → length c ≡ n → Alike c d
      → Both h g c d (walk k go back p h c) (walk k go back p g d)
  unfolding walk
  walk_both zero go back p h g c d pg pb o s lh lg l a =
      record { count = 0; alike = a; own = omega arith; other = omega arith; own' = omega arith; other' = omega arith }
  walk_both (suc k) go back p h g c d pg pb o s lh lg l a =
      by_eq (get_or c (go p) 0) 0
      (λ e.
      let q = go p in
      let oq = pg.odds p o in
      let q_lt : go p < length c = omega (arith, od_lt (go p) oq) in
      let q_lt' : go p < length d = omega (arith, od_lt (go p) oq, a.len) in
      let e' = a.there (go p) e in
      let to_g : 3 - h ≡ g = omega arith in
      let to_h : 3 - g ≡ h = omega arith in
      let r = walk_both k back go (go p) g h (set c (go p) g) (set d (go p) h) pb pg oq (omega arith) lg lh
      (length-set c (go p) g ∙ l) (alike_set c d (go p) g h a q_lt (omega arith) (omega arith)) in
      rw (walk_on k go back p h c e, walk_on k go back p g d e', to_g, to_h)
      (record {
        count = suc r.count;
        alike = r.alike;
        own = omega (arith, r.other, favouring_same h c (go p) g q_lt e (omega arith) (omega arith));
        other = omega (arith, r.own, favouring_more g c (go p) g q_lt e (omega arith) refl);
        own' = omega (arith, r.other', favouring_same g d (go p) h q_lt' e' (omega arith) (omega arith));
        other' = omega (arith, r.own', favouring_more h d (go p) h q_lt' e' (omega arith) refl);
      }))
      (λ e.
      let e' : get_or d (go p) 0 ≢ 0 = λ z. e (a.back (go p) z) in
      rw (walk_off k go back p h c e, walk_off k go back p g d e')
      (record { count = 0; alike = a; own = omega arith; other = omega arith; own' = omega arith; other' = omega arith }))

  pub group_shares : (i o : ℕ → ℕ) (m : List ℕ) (p : ℕ) (c : List ℕ) → Pairing od i → Pairing od o → length m ≡ n → length c ≡ n → od p ≡ true
      → get_or c p 0 ≡ 0 → BothWays c (group_of i o m 1 p c) (group_of i o m 2 p c)
  group_shares i o m p c pi po lm l e z =
      let p_lt : p < length c = omega (arith, od_lt p e) in
      let start = alike_set c c p 1 2 (record { len = refl; there = λ q h. h; back = λ q h. h }) p_lt (omega arith) (omega arith) in
      let x = walk_both (length m) i o p 1 2 (set c p 1) (set c p 2) pi po e refl (omega arith) (omega arith) (length-set c p 1 ∙ l) start in
      let y = walk_both (length m) o i p 1 2 (walk (length m) i o p 1 (set c p 1)) (walk (length m) i o p 2 (set c p 2)) po pi e refl (omega arith) (omega arith)
      (walk_length (length m) i o p 1 (set c p 1) ∙ length-set c p 1 ∙ l) x.alike in
      record {
        a = x.count;
        b = y.count;
        one_first = omega (arith, x.own, y.own, favouring_more 1 c p 1 p_lt z (omega arith) refl);
        one_second = omega (arith, x.other, y.other, favouring_same 2 c p 1 p_lt z (omega arith) (omega arith));
        two_first = omega (arith, x.other', y.other', favouring_same 1 c p 2 p_lt z (omega arith) (omega arith));
        two_second = omega (arith, x.own', y.own', favouring_more 2 c p 2 p_lt z (omega arith) refl);
      }

-- ---- the halves are level: as many counts favour the first as the second, or one more
abbrev pub Level : List ℕ → Type 0
Level c = Within (favouring 2 c) (favouring 2 c + 1) (favouring 1 c)

-- d has so many counts settled more than c that they are even in number
abbrev pub EvenMore : List ℕ → List ℕ → Type 0
EvenMore c d = (favouring 1 d + favouring 2 d + favouring 1 c + favouring 2 c) % 2 ≡ 0

pub two_halves : (a : ℕ) → a / 2 + (a + 1) / 2 ≡ a
two_halves a = by_eq (a % 2) 0 (λ e. omega arith) (λ e. omega arith)

-- a group with an even number of counts gives both halves as many
pub same_shares : (x a b : ℕ) → (2 * x + (1 + a + b)) % 2 ≡ 0 → 1 + a / 2 + b / 2 ≡ (a + 1) / 2 + (b + 1) / 2
same_shares x a b e = by_eq (a % 2) 0 (λ h. omega arith) (λ h. omega arith)

-- where one way round does not leave the halves level, the other does, and the group has an odd number of counts
module _ {c one two : List ℕ} (s : BothWays c one two) (l : Level c) (no : Level one → ⊥) where
  pub level_two : Level two
  level_two =
      let a = s.one_first in
      let b = s.one_second in
      let a' = s.two_first in
      let b' = s.two_second in
      by_lt (favouring 1 one) (favouring 2 one) (λ h. omega arith)
      (λ h. by_lt (favouring 2 one + 1) (favouring 1 one) (λ k. omega arith) (λ k. absurd (no (h, k))))

  pub odd_two : EvenMore c two → ⊥
  odd_two e =
      let a = s.one_first in
      let b = s.one_second in
      let a' = s.two_first in
      let b' = s.two_second in
      let sum : favouring 1 two + favouring 2 two + favouring 1 c + favouring 2 c ≡ 2 * (favouring 1 c + favouring 2 c) + (1 + s.a + s.b) =
      omega (arith, two_halves s.a, two_halves s.b) in
      let same = same_shares (favouring 1 c + favouring 2 c) s.a s.b (rw sum at e) in
      no (omega arith)
