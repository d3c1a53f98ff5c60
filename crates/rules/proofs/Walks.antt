-- The walk: what is settled by following two pairings in turn. The laws rest on two involutions and nothing else.
use Prim.Native.Nat.{ℕ, suc, zero, ◌+◌, ◌-◌, ◌≤◌, ◌<◌}
use mathlib.Core.Path.{◌≡◌, refl, sym, ap, ◌∙◌, subst}
use mathlib.Core.Logic.{◌≢◌}
use mathlib.Core.List.{List}
use mathlib.Core.Bool.{Bool, true}
use native.Mathlib.Omega.{arith}
use lib.ListN.{length, get_or, set, length-set}
use lib.Seq.{get_or-set_same, get_or-set_other}
use borrow.Author.Tests.{eq-eqb, ne_eqb}
use Rattle.rules.specs.Schedule.{walk, favouring}
use Rattle.rules.proofs.Cases.{by_eq}
use Rattle.rules.proofs.Favouring.{settled_less}

-- ---- what a walk keeps
abbrev pub Opposite : (ℕ → ℕ) → List ℕ → ℕ → Type 0
Opposite f c q = get_or c q 0 ≢ 0 → f q ≢ q → get_or c (f q) 0 + get_or c q 0 ≡ 3

pub record Pairing (od : ℕ → Bool) (f : ℕ → ℕ) : Type 0 where
  pub twice : (p : ℕ) → f (f p) ≡ p
  pub odds : (p : ℕ) → od p ≡ true → od (f p) ≡ true

pub record Fine (n : ℕ) (od : ℕ → Bool) (c : List ℕ) : Type 0 where
  pub len : length c ≡ n
  pub two : (q : ℕ) → get_or c q 0 ≤ 2
  pub odds : (q : ℕ) → get_or c q 0 ≢ 0 → od q ≡ true

pub record Walked (n : ℕ) (od : ℕ → Bool) (go back : ℕ → ℕ) (x y : ℕ) (c : List ℕ) : Type 0 where
  pub fine : Fine n od c
  pub goes : (q : ℕ) → q ≢ x → Opposite go c q
  pub backs : (q : ℕ) → q ≢ y → Opposite back c q

pub record Walking (n : ℕ) (od : ℕ → Bool) (go back : ℕ → ℕ) (p h x y : ℕ) (c : List ℕ) : Type 0 where
  pub fine : Fine n od c
  pub low : 1 ≤ h
  pub high : h ≤ 2
  pub head : get_or c p 0 ≡ h
  pub goes : (q : ℕ) → q ≢ p → q ≢ x → Opposite go c q
  pub backs : (q : ℕ) → q ≢ y → Opposite back c q
  pub at_x : x < n → get_or c x 0 ≡ 3 - h
  pub at_y : y < n → get_or c y 0 ≡ h

-- a count newly settled leaves a good one good
pub grow : (f : ℕ → ℕ) (c : List ℕ) (q v r : ℕ) → ((s : ℕ) → get_or c s 0 ≤ 2) → get_or c q 0 ≡ 0 → r ≢ q → Opposite f c r → Opposite f (set c q v) r
grow f c q v r two z ne g s n =
    let e1 = get_or-set_other c q r v 0 ne in
    let g1 = g (omega arith) n in
    let fq : f r ≢ q = λ e. let a = ap (λ (t : ℕ). get_or c t 0) e in omega (arith, two r) in
    let e2 = get_or-set_other c q (f r) v 0 fq in
    omega arith

pub grow_fine : (n : ℕ) (od : ℕ → Bool) (c : List ℕ) (q v : ℕ) → q < n → v ≤ 2 → od q ≡ true → Fine n od c → Fine n od (set c q v)
grow_fine n od c q v h v2 o fi =
    record {
      len = length-set c q v ∙ fi.len;
      two = λ r. by_eq r q (λ e. rw e (rw (get_or-set_same c q v 0 (omega arith)) v2)) (λ e. rw (get_or-set_other c q r v 0 e) (fi.two r));
      odds = λ r s. by_eq r q (λ e. rw e o) (λ e. fi.odds r (rw (get_or-set_other c q r v 0 e) at s));
    }

pub walk_on : (n : ℕ) (go back : ℕ → ℕ) (p h : ℕ) (c : List ℕ) → get_or c (go p) 0 ≡ 0 → walk (suc n) go back p h c ≡ walk n back go (go p) (3 - h) (set c (go p) (3 - h))
unfolding walk
walk_on n go back p h c e = rw (eq-eqb (get_or c (go p) 0) 0 e, walk)

pub walk_off : (n : ℕ) (go back : ℕ → ℕ) (p h : ℕ) (c : List ℕ) → get_or c (go p) 0 ≢ 0 → walk (suc n) go back p h c ≡ c
unfolding walk
walk_off n go back p h c e = rw (ne_eqb (get_or c (go p) 0) 0 e, walk)

pub walk_length : (k : ℕ) (go back : ℕ → ℕ) (p h : ℕ) (c : List ℕ) → length (walk k go back p h c) ≡ length c
unfolding walk
walk_length zero go back p h c = refl
walk_length (suc k) go back p h c =
    by_eq (get_or c (go p) 0) 0
    (λ e. rw (walk_on k go back p h c e) (walk_length k back go (go p) (3 - h) (set c (go p) (3 - h)) ∙ length-set c (go p) (3 - h)))
    (λ e. rw (walk_off k go back p h c e))

-- what is settled stays
pub walk_keeps : (n : ℕ) (go back : ℕ → ℕ) (p h : ℕ) (c : List ℕ) (r : ℕ) → get_or c r 0 ≢ 0 → get_or (walk n go back p h c) r 0 ≡ get_or c r 0
unfolding walk
walk_keeps zero go back p h c r s = refl
walk_keeps (suc n) go back p h c r s =
    by_eq (get_or c (go p) 0) 0
    (λ e.
    let ne : r ≢ go p = λ k. s (ap (λ (t : ℕ). get_or c t 0) k ∙ e) in
    let o = get_or-set_other c (go p) r (3 - h) 0 ne in
    rw (walk_on n go back p h c e) (walk_keeps n back go (go p) (3 - h) (set c (go p) (3 - h)) r (omega arith) ∙ o))
    (λ e. rw (walk_off n go back p h c e))

module _ (n : ℕ) (od : ℕ → Bool) (od_lt : (p : ℕ) → od p ≡ true → p < n) where
  walk_stop : (go back : ℕ → ℕ) (p h x y : ℕ) (c : List ℕ) → Pairing od go → Walking n od go back p h x y c → get_or c (go p) 0 ≢ 0 → Walked n od go back x y c
  walk_stop go back p h x y c pg w s = record { fine = w.fine; goes = goes; backs = w.backs }
    where
      at_head : Opposite go c p
      at_head sp mv =
          by_eq (go p) x
          (λ e.
          let a = ap (λ (t : ℕ). get_or c t 0) e in
          let b = w.at_x (od_lt x (w.fine.odds x (omega arith))) in
          omega arith)
          (λ e.
          let g = w.goes (go p) mv e s (λ k. mv (sym k ∙ pg.twice p)) in
          let a = ap (λ (t : ℕ). get_or c t 0) (pg.twice p) in
          omega arith)

      goes : (q : ℕ) → q ≢ x → Opposite go c q
      goes q qx = by_eq q p (λ e. subst (λ (t : ℕ). Opposite go c t) (sym e) at_head) (λ e. w.goes q e qx)

  walk_step : (go back : ℕ → ℕ) (p h x y : ℕ) (c : List ℕ) → Pairing od go → Walking n od go back p h x y c → get_or c (go p) 0 ≡ 0
      → Walking n od back go (go p) (3 - h) y x (set c (go p) (3 - h))
  walk_step go back p h x y c pg w z =
      record {
        fine = grow_fine n od c q v q_lt (omega arith) q_odd w.fine;
        low = omega arith;
        high = omega arith;
        head = same;
        goes = λ r rq ry. grow back c q v r w.fine.two z rq (w.backs r ry);
        backs = λ r rx. by_eq r q (λ e. subst (λ (t : ℕ). Opposite go c' t) (sym e) at_new)
            (λ rq. by_eq r p (λ e. subst (λ (t : ℕ). Opposite go c' t) (sym e) at_old) (λ rp. grow go c q v r w.fine.two z rq (w.goes r rp rx)));
        at_x = λ yn. let a = w.at_y yn in let b = get_or-set_other c q y v 0 (off y (omega arith)) in omega arith;
        at_y = λ xn. let a = w.at_x xn in get_or-set_other c q x v 0 (off x (omega arith)) ∙ a;
      }
    where
      q : ℕ
      q = go p

      v : ℕ
      v = 3 - h

      c' : List ℕ
      c' = set c q v

      q_odd : od q ≡ true
      q_odd = let a = w.head in pg.odds p (w.fine.odds p (omega arith))

      q_lt : q < n
      q_lt = od_lt q q_odd

      same : get_or c' q 0 ≡ v
      same = get_or-set_same c q v 0 (omega (arith, q_lt))

      off : (r : ℕ) → get_or c r 0 ≢ 0 → r ≢ q
      off r s e = s (ap (λ (t : ℕ). get_or c t 0) e ∙ z)

      p_q : p ≢ q
      p_q = off p (omega arith)

      old : get_or c' p 0 ≡ h
      old = get_or-set_other c q p v 0 p_q ∙ w.head

      at_old : Opposite go c' p
      at_old s m = omega (arith, same, old)

      at_new : Opposite go c' q
      at_new s m = let a = ap (λ (t : ℕ). get_or c' t 0) (pg.twice p) in omega (arith, same, old)

  pub walk_law : (k : ℕ) (go back : ℕ → ℕ) (p h x y : ℕ) (c : List ℕ) → Pairing od go → Pairing od back → Walking n od go back p h x y c → favouring 0 c < k
      → Walked n od go back x y (walk k go back p h c)
  walk_law zero go back p h x y c pg pb w z = absurd (omega arith)
  walk_law (suc k) go back p h x y c pg pb w z =
      by_eq (get_or c (go p) 0) 0
      (λ e.
      let w' = walk_step go back p h x y c pg w e in
      let l = od_lt (go p) (pg.odds p (w.fine.odds p (omega arith))) in
      let f = settled_less c (go p) (3 - h) (omega arith) e (omega arith) in
      let r = walk_law k back go (go p) (3 - h) y x (set c (go p) (3 - h)) pb pg w' (omega arith) in
      rw (walk_on k go back p h c e) (record { fine = r.fine; goes = r.backs; backs = r.goes }))
      (λ e. rw (walk_off k go back p h c e) (walk_stop go back p h x y c pg w e))
