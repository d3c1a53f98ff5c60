-- A search over a range of numbers, by the library's `find` and `any`.
use Prim.Native.Nat.{ℕ, suc, zero, ◌+◌, ◌-◌, ◌*◌, ◌/◌, ◌≤◌, ◌<◌}
use mathlib.Core.Path.{◌≡◌, refl, sym, ◌∙◌, ap, subst}
use mathlib.Core.Bool.{Bool, true, false, true≢false}
use mathlib.Core.List.{List}
use native.Mathlib.Numerals.{add-one}
use native.Mathlib.Omega.{arith}
use native.Mathlib.Nat.{div-lt_iff_lt-mul, mod-lt, div-add-mod', mul-le-mul_right}
use lib.Dec.{ltb}
use denote.Param.Members.{Mut}
use denote.Ref.{Bor}
use Rattle.std.specs.declared.option.Option.{Option}
use Rattle.std.specs.declared.option.Option.TheVariants.{None, Some}
use Rattle.std.specs.declared.ops.Range.{Range}
use Rattle.std.specs.Bool.{⊤, IsTrue}
use Rattle.std.specs.Fn.{Called, CalledAt}
use Rattle.std.specs.Iterator.{YieldsThen}
use Rattle.std.specs.Iterator.Runs.{Run, SomeRun, AllItemsGive, IsFirstToGive}
use Rattle.std.specs.List.{range_with_len, list_any, FoldsTo}
use Rattle.std.specs.Option.{MatchOption, IfSome, IsSomeAnd, option_map, is_some}
use Rattle.std.proofs.iter.Yields.{nat_range_steps}
use Rattle.std.proofs.iter.runs.Sources.{range_runs}
use Rattle.std.proofs.lemmas.Iterator.{YieldsList-from_range, first_from_Range}
use Rattle.std.proofs.lemmas.Iterator.Search.{any_from_yields_List}
use borrow.Author.Tests.{lt-ltb, le-ltb}
use Rattle.rules.specs.Words.{first, found}
use Rattle.rules.proofs.Cases.{by_bool, by_eq, by_lt}
use Rattle.rules.proofs.Searches.{first_low, first_high, first_found, first_before}

module _ (t : ℕ → Bool) where
  -- none passes
  pub found_none : (n a : ℕ) → ((k : ℕ) → a ≤ k → k < a + n → t k ≡ false) → found t a n ≡ None
  found_none zero a fails = refl
  found_none (suc n) a fails = rw (fails a (omega arith) (omega arith)) (found_none n (suc a) (λ k l h. fails k (omega arith) (omega arith)))

  -- i passes, and nothing before it does
  pub found_is : (n a i : ℕ) → a ≤ i → i < a + n → t i ≡ true → ((k : ℕ) → a ≤ k → k < i → t k ≡ false) → found t a n ≡ Some i
  found_is zero a i l h passes fails = absurd (omega arith)
  found_is (suc n) a i l h passes fails =
      by_eq i a (λ d. rw (rw d at passes) (ap Some (sym d)))
      (λ d. rw (fails a (omega arith) (omega arith)) (found_is n (suc a) i (omega arith) (omega arith) passes (λ k m. fails k (omega arith))))

  -- where the first is
  pub found_first : (n a : ℕ) → first t a n < a + n → found t a n ≡ Some (first t a n)
  found_first n a h = found_is n a (first t a n) (first_low t n a) h (first_found t n a h) (first_before t n a)

  pub found_past : (n a : ℕ) → a + n ≤ first t a n → found t a n ≡ None
  found_past n a h = found_none n a (λ k l m. first_before t n a k l (omega arith))

  -- what is found is the first; where none is, the first is past the end
  pub first_of : (n a : ℕ) (r : Option ℕ) → r ≡ found t a n → MatchOption r (first t a n ≡ a + n) (λ i. (first t a n ≡ i) × (i < a + n))
  first_of n a r e =
      by_lt (first t a n) (a + n)
      (λ h. rw (e ∙ found_first n a h) (refl, h))
      (λ h. rw (e ∙ found_past n a h) (omega (arith, h, first_high t n a)))

  -- what `find` answers over a range
  pub found_in_range : {F : Type 0} {g : Mut F (Bor ℕ × Unit {0}) Bool} (s u : Range ℕ) (f : F) (r : Option ℕ)
      → (xs : List ℕ) × (j : F) × YieldsThen nat_range_steps s xs r u × FoldsTo (λ p x q. CalledAt g p x false q) f xs j × MatchOption r ⊤ (λ x. (h : F) × CalledAt g j x true h)
      → ((x : ℕ) (b : Bool) (q : F) → CalledAt g f x b q → (q ≡ f) × (b ≡ t x))
      → r ≡ found t s.start (s.end - s.start)
  found_in_range s u f r ran gives =
      of_match r (first_from_Range s u f r (λ x. t x ≡ true) (λ x. t x ≡ false) ran
      (λ x q k. sym (gives x true q k).1)
      (λ x q k. ((gives x false q k).0, sym (gives x false q k).1)))
    where
      of_match : (r : Option ℕ) → MatchOption r ((k : ℕ) → s.start ≤ k → k < s.end → t k ≡ false) (λ i. (s.start ≤ i) × (i < s.end) × (t i ≡ true) × ((k : ℕ) → s.start ≤ k → k < i → t k ≡ false))
          → r ≡ found t s.start (s.end - s.start)
      of_match None fails = sym (found_none _ _ (λ k l h. fails k l (omega arith)))
      of_match (Some i) y = sym (found_is _ _ i y.0 (let h = y.1 in let l = y.0 in omega arith) y.2 y.3)

  pub found_below : {F : Type 0} {g : Mut F (Bor ℕ × Unit {0}) Bool} (s u : Range ℕ) (f : F) (r : Option ℕ)
      → (xs : List ℕ) × (j : F) × YieldsThen nat_range_steps s xs r u × FoldsTo (λ p x q. CalledAt g p x false q) f xs j × MatchOption r ⊤ (λ x. (h : F) × CalledAt g j x true h)
      → ((x : ℕ) (b : Bool) (q : F) → CalledAt g f x b q → (q ≡ f) × (b ≡ t x))
      → (n : ℕ) → s ≡ record { start = 0; end = n } → r ≡ found t 0 n
  found_below s u f r ran gives n e = found_in_range s u f r ran gives ∙ ap (λ (w : Range ℕ). found t w.start (w.end - w.start)) e ∙ ap (found t 0) (omega arith)

  pub found_from : {F : Type 0} {g : Mut F (Bor ℕ × Unit {0}) Bool} (s u : Range ℕ) (f : F) (r : Option ℕ)
      → (xs : List ℕ) × (j : F) × YieldsThen nat_range_steps s xs r u × FoldsTo (λ p x q. CalledAt g p x false q) f xs j × MatchOption r ⊤ (λ x. (h : F) × CalledAt g j x true h)
      → ((x : ℕ) (b : Bool) (q : F) → CalledAt g f x b q → (q ≡ f) × (b ≡ t x))
      → (a n : ℕ) → s ≡ record { start = a; end = a + n } → r ≡ found t a n
  found_from s u f r ran gives a n e = found_in_range s u f r ran gives ∙ ap (λ (w : Range ℕ). found t w.start (w.end - w.start)) e ∙ ap (found t a) (omega arith)

  -- whether any passes
  pub any_passes : (n a : ℕ) → list_any t (range_with_len a n) ≡ ltb (first t a n) (a + n)
  any_passes zero a = sym (le-ltb a (a + 0) (omega arith))
  any_passes (suc n) a =
      by_bool (t a)
      (λ b. rw b (sym (lt-ltb a (a + suc n) (omega arith))))
      (λ b. rw b (ap (λ z. list_any t (range_with_len z n)) (add-one a) ∙ any_passes n (suc a) ∙ ap (ltb (first t (suc a) n)) (omega arith)))

  -- what `any` answers over a range from 0
  pub any_below : {F : Type 0} {g : Mut F (ℕ × Unit {0}) Bool} (s u : Range ℕ) (f : F) (r : Bool)
      → (xs : List ℕ) × (o : Option ℕ) × (j : F) × YieldsThen nat_range_steps s xs o u × FoldsTo (λ p x q. Called g p (x, tt) false q) f xs j × MatchOption o (r ≡ false) (λ x. (r ≡ true) × ((h : F) × Called g j (x, tt) true h))
      → ((x : ℕ) (b : Bool) (q : F) → Called g f (x, tt) b q → (q ≡ f) × (b ≡ t x))
      → (n : ℕ) → s ≡ record { start = 0; end = n } → r ≡ ltb (first t 0 n) n
  any_below s u f r ran gives n e =
      any_from_yields_List t u f r ran (YieldsList-from_range 0 n n e (omega arith)) gives ∙ any_passes n 0 ∙ ap (ltb (first t 0 n)) (omega arith)

-- ---- what `find_map` answers over a range from 0, where the closure answers h
at_some : (P : ℕ → Type 0) (o : Option ℕ) (k : ℕ) → option_map (λ y. y) o ≡ Some k → IfSome o P → P k
at_some P (Some x) k e p = subst P (ap (λ (o : Option ℕ). elim o [ None ↦ x | Some z ↦ z ]) e) p
at_some P None k e p = absurd (true≢false (sym (ap is_some e)))

is_at : (P : ℕ → Type 0) (o : Option ℕ) (k : ℕ) → option_map (λ y. y) o ≡ Some k → IsSomeAnd o P → P k
is_at P (Some x) k e p = subst P (ap (λ (o : Option ℕ). elim o [ None ↦ x | Some z ↦ z ]) e) p
is_at P None k e p = absurd p

pub mapped_below : {F B : Type 0} {g : Mut F (ℕ × Unit {0}) (Option B)} (h : ℕ → Option B) (s : Range ℕ) (f : F) (r : Option B)
    → SomeRun nat_range_steps s (λ p. MatchOption r (IsTrue p.whole × AllItemsGive p g f None) (λ y. (i : ℕ) × (i < p.len) × (p.len ≡ i + 1) × IsFirstToGive p g f (Some y) None i))
    → ((x : ℕ) (b : Option B) (q : F) → Called g f (x, tt) b q → (q ≡ f) × (b ≡ h x))
    → (n : ℕ) → s ≡ record { start = 0; end = n }
    → MatchOption r ((k : ℕ) → k < n → h k ≡ None) (λ y. (i : ℕ) × (i < n) × (h i ≡ Some y) × ((k : ℕ) → k < i → h k ≡ None))
mapped_below {F} {B} {g} h s f r ran gives n e = of_match r ran.2
  where
    p : Run nat_range_steps
    p = ran.0

    from : p.from ≡ record { start = 0; end = n }
    from = ran.1 ∙ e

    size : (p.from.end ≡ n) × (p.from.start ≡ 0)
    size = (ap (λ (w : Range ℕ). w.end) from, ap (λ (w : Range ℕ). w.start) from)

    place : (k : ℕ) → k < p.len → option_map (λ y. y) (p.at k) ≡ Some k
    place k l = (range_runs p p.seen).3 k l ∙ ap Some (omega (arith, size.1))

    keeps : (a : ℕ × Unit {0}) (b : Option B) (q : F) → Called g f a b q → q ≡ f
    keeps a b q c = (gives a.0 b q c).0

    of_match : (r : Option B) → MatchOption r (IsTrue p.whole × AllItemsGive p g f None) (λ y. (i : ℕ) × (i < p.len) × (p.len ≡ i + 1) × IsFirstToGive p g f (Some y) None i)
        → MatchOption r ((k : ℕ) → k < n → h k ≡ None) (λ y. (i : ℕ) × (i < n) × (h i ≡ Some y) × ((k : ℕ) → k < i → h k ≡ None))
    of_match None m = λ k l.
        let long = (range_runs p p.seen).1 m.0 in
        sym (gives k None f (at_some (λ x. Called g f (x, tt) None f) (p.at k) k (place k (omega (arith, long, size))) (m.1 keeps k))).1
    of_match (Some y) m =
        let w = m.3 keeps in
        let short = (range_runs p p.seen).0 in (
          m.0,
          omega (arith, short, size, m.1),
          sym (gives m.0 (Some y) f (is_at (λ x. Called g f (x, tt) (Some y) f) (p.at m.0) m.0 (place m.0 m.1) w.0)).1,
          λ k l. sym (gives k None f (is_at (λ x. Called g f (x, tt) None f) (p.at k) k (place k (omega (arith, m.1))) (w.1 k l))).1,
        )

-- two tests that agree find the same
pub found_ext : (s t : ℕ → Bool) (n a : ℕ) → ((k : ℕ) → a ≤ k → k < a + n → s k ≡ t k) → found s a n ≡ found t a n
found_ext s t zero a h = refl
found_ext s t (suc n) a h =
    let e : s a ≡ t a = h a (omega arith) (omega arith) in
    by_bool (t a)
    (λ b. rw (e, b))
    (λ b. rw (e, b) (found_ext s t n (suc a) (λ k l m. h k (omega arith) (omega arith))))

row_of : (i m k : ℕ) → k < i * m → (k / m < i) × (k / m * m ≤ k) × (k < k / m * m + m)
row_of i m k h =
    by_eq m 0 (λ e. absurd (let z : i * m ≡ 0 = rw e (omega arith) in omega arith))
    (λ n.
    let some : 1 ≤ m = omega arith in
    let low = mod-lt k {m = m} some in
    let sum = div-add-mod' k m in
    ((div-lt_iff_lt-mul {k = m} {x = k} {y = i} some).1 h, omega (arith, sum), omega (arith, low, sum)))

-- so the first in rows of some width is the first in the first row that has one
pub rows_found : (t : ℕ → Bool) (m n : ℕ) (r : Option ℕ)
    → MatchOption r ((k : ℕ) → k < n → found t (k * m) m ≡ None) (λ y. (i : ℕ) × (i < n) × (found t (i * m) m ≡ Some y) × ((k : ℕ) → k < i → found t (k * m) m ≡ None))
    → r ≡ found t 0 (n * m)
rows_found t m n = of_match
  where
    row_fails : (s k : ℕ) → found t (s * m) m ≡ None → s * m ≤ k → k < s * m + m → t k ≡ false
    row_fails s k e l h = first_before t m (s * m) k l (omega (arith, first_of t m (s * m) None (sym e), h))

    fails : (i : ℕ) → ((k : ℕ) → k < i → found t (k * m) m ≡ None) → (k : ℕ) → k < i * m → t k ≡ false
    fails i none k h =
        let d = row_of i m k h in
        row_fails (k / m) k (none (k / m) d.0) d.1 d.2

    of_match : (r : Option ℕ)
        → MatchOption r ((k : ℕ) → k < n → found t (k * m) m ≡ None) (λ y. (i : ℕ) × (i < n) × (found t (i * m) m ≡ Some y) × ((k : ℕ) → k < i → found t (k * m) m ≡ None))
        → r ≡ found t 0 (n * m)
    of_match None none = sym (found_none t (n * m) 0 (λ k _ h. fails n none k (omega arith)))
    of_match (Some y) w =
        let i = w.0 in
        let is = first_of t m (i * m) (Some y) (sym w.2) in
        let low = first_low t m (i * m) in
        let within = mul-le-mul_right {m = suc i} {n = n} m w.1 in
        sym (found_is t (n * m) 0 y (omega arith) (omega (arith, is))
        (subst (λ k. t k ≡ true) is.0 (first_found t m (i * m) (omega (arith, is))))
        (λ k _ h. by_lt k (i * m) (fails i w.3 k) (λ l. first_before t m (i * m) k l (omega (arith, is)))))
