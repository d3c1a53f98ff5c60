-- The steps of a walk: where they lead, what they settle, and that they can be gone again with the halves the other way round.
use Prim.Native.Nat.{ℕ, suc, zero, ◌+◌, ◌-◌, ◌%◌, ◌≤◌}
use mathlib.Core.Path.{◌≡◌, refl, sym, ◌∙◌}
use mathlib.Core.Logic.{◌≢◌}
use mathlib.Core.List.{List}
use mathlib.Core.Bool.{Bool}
use native.Mathlib.Omega.{arith}
use native.Mathlib.Numerals.{add-one}
use lib.Dec.{eqb}
use lib.ListN.{length, get_or, set, length-set}
use lib.Seq.{get_or-set_same, get_or-set_other, ext_get_or}
use borrow.Author.Tests.{eq-eqb, ne_eqb}
use Rattle.rules.specs.Words.{if}
use Rattle.rules.proofs.Cases.{by_bool, by_eq}
use Rattle.rules.proofs.Shares.{Alike, alike_set}
use Rattle.planes.specs.Tables.{Wide}
use Rattle.groups.specs.Steps.{reached, Reaches, stepped}

-- ---- one step more, after an even number and after an odd one
module _ (near far : ℕ → ℕ) (p n : ℕ) where
  pub reached_near : n % 2 ≡ 0 → reached near far p (n + 1) ≡ near (reached near far p n)
  reached_near e = rw (add-one, eq-eqb (n % 2) 0 e)

  pub reached_far : n % 2 ≡ 1 → reached near far p (n + 1) ≡ far (reached near far p n)
  reached_far e = rw (add-one, ne_eqb (n % 2) 0 (omega arith))

  pub stepped_near : (h : ℕ) (c : List ℕ) → n % 2 ≡ 0 → stepped near far p h (n + 1) c ≡ set (stepped near far p h n c) (near (reached near far p n)) (3 - h)
  stepped_near h c e = rw (add-one, eq-eqb (n % 2) 0 e)

  pub stepped_far : (h : ℕ) (c : List ℕ) → n % 2 ≡ 1 → stepped near far p h (n + 1) c ≡ set (stepped near far p h n c) (far (reached near far p n)) h
  stepped_far h c e = rw (add-one, ne_eqb (n % 2) 0 (omega arith))

module _ (near far : ℕ → ℕ) (p : ℕ) where
  pub stepped_length : (h n : ℕ) (c : List ℕ) → length (stepped near far p h n c) ≡ length c
  stepped_length h zero c = refl
  stepped_length h (suc n) c =
      length-set (stepped near far p h n c) (reached near far p (suc n)) (if (eqb (n % 2) 0) (3 - h) h) ∙ stepped_length h n c

  -- no step leads to q
  abbrev Missed : ℕ → ℕ → Type 0
  Missed zero q = Unit {0}
  Missed (suc n) q = (q ≢ reached near far p (suc n)) × Missed n q

  pub stepped_missed : (h n : ℕ) (c : List ℕ) (q : ℕ) → Missed n q → get_or (stepped near far p h n c) q 0 ≡ get_or c q 0
  stepped_missed h zero c q m = refl
  stepped_missed h (suc n) c q m =
      get_or-set_other (stepped near far p h n c) (reached near far p (suc n)) q (if (eqb (n % 2) 0) (3 - h) h) 0 m.0 ∙ stepped_missed h n c q m.1

  module _ (within : Reaches near far p) where
    -- where the same counts are settled before, the same are settled after
    pub stepped_alike : (h g n : ℕ) (c d : List ℕ) → Wide c → 1 ≤ h → h ≤ 2 → 1 ≤ g → g ≤ 2 → Alike c d → Alike (stepped near far p h n c) (stepped near far p g n d)
    stepped_alike h g zero c d len h1 h2 g1 g2 a = a
    stepped_alike h g (suc n) c d len h1 h2 g1 g2 a =
        alike_set (stepped near far p h n c) (stepped near far p g n d) (reached near far p (suc n)) (if (eqb (n % 2) 0) (3 - h) h) (if (eqb (n % 2) 0) (3 - g) g)
        (stepped_alike h g n c d len h1 h2 g1 g2 a) (omega (arith, within.low (suc n), stepped_length h n c))
        (half h h1 h2 (eqb (n % 2) 0)) (half g g1 g2 (eqb (n % 2) 0))
      where
        half : (x : ℕ) → 1 ≤ x → x ≤ 2 → (b : Bool) → if b (3 - x) x ≢ 0
        half x low high b = by_bool b (λ e. rw e (omega arith)) (λ e. rw e (omega arith))

    -- what differs only where steps lead does not differ after them
    pub stepped_over : (P : ℕ → Type 0) (h n : ℕ) (c d : List ℕ) → Wide c → Wide d → ((q : ℕ) → Missed n q → P q → get_or c q 0 ≡ get_or d q 0)
        → (q : ℕ) → P q → get_or (stepped near far p h n c) q 0 ≡ get_or (stepped near far p h n d) q 0
    stepped_over P h zero c d lc ld same q at = same q tt at
    stepped_over P h (suc n) c d lc ld same q at =
        let x = reached near far p (suc n) in
        let v = if (eqb (n % 2) 0) (3 - h) h in
        by_eq q x
        (λ e. rw e
        (get_or-set_same (stepped near far p h n c) x v 0 (omega (arith, within.low (suc n), stepped_length h n c))
        ∙ sym (get_or-set_same (stepped near far p h n d) x v 0 (omega (arith, within.low (suc n), stepped_length h n d)))))
        (λ k.
        get_or-set_other (stepped near far p h n c) x q v 0 k
        ∙ stepped_over (λ r. P r × (r ≢ x)) h n c d lc ld (λ r m a. same r (a.1, m) a.0) q (at, k)
        ∙ sym (get_or-set_other (stepped near far p h n d) x q v 0 k))

-- ---- the steps of both walks of a group, a by inputs and b by links
module _ (i o : ℕ → ℕ) (p a b : ℕ) where
  -- from p, which favours half h
  abbrev pub ways : ℕ → List ℕ → List ℕ
  ways h c = stepped o i p h b (stepped i o p h a (set c p h))

  pub ways_length : (h : ℕ) (c : List ℕ) → length (ways h c) ≡ length c
  ways_length h c = stepped_length o i p h b (stepped i o p h a (set c p h)) ∙ stepped_length i o p h a (set c p h) ∙ length-set c p h

  module _ (by_inputs : Reaches i o p) (by_links : Reaches o i p) (g h : ℕ) (c : List ℕ) (len : Wide c) where
    first_wide : (d : List ℕ) → Wide d → Wide (stepped i o p g a (set d p g))
    first_wide d l = stepped_length i o p g a (set d p g) ∙ length-set d p g ∙ l

    missed_same : (q : ℕ) → Missed i o p a q → Missed o i p b q → get_or (set (ways h c) p g) q 0 ≡ get_or (set c p g) q 0
    missed_same q m n =
        by_eq q p
        (λ e. rw e (get_or-set_same (ways h c) p g 0 (omega (arith, by_inputs.low 0, ways_length h c)) ∙ sym (get_or-set_same c p g 0 (omega (arith, by_inputs.low 0)))))
        (λ k.
        get_or-set_other (ways h c) p q g 0 k
        ∙ stepped_missed o i p h b (stepped i o p h a (set c p h)) q n
        ∙ stepped_missed i o p h a (set c p h) q m
        ∙ get_or-set_other c p q h 0 k
        ∙ sym (get_or-set_other c p q g 0 k))

    -- gone again with another half they leave what they leave with that half at once
    pub ways_again : ways g (ways h c) ≡ ways g c
    ways_again =
        let wide : Wide (ways h c) = ways_length h c ∙ len in
        ext_get_or 0 (ways g (ways h c)) (ways g c) (ways_length g (ways h c) ∙ ways_length h c ∙ sym (ways_length g c))
        (λ q l.
        stepped_over o i p by_links (λ r. Unit {0}) g b (stepped i o p g a (set (ways h c) p g)) (stepped i o p g a (set c p g)) (first_wide (ways h c) wide) (first_wide c len)
        (λ r n u. stepped_over i o p by_inputs (Missed o i p b) g a (set (ways h c) p g) (set c p g) (length-set (ways h c) p g ∙ wide) (length-set c p g ∙ len) missed_same r n) q tt)
