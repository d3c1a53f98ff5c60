-- Lists with one more at the end, lists without one twice, and what holds of each.
use Prim.Native.Nat.{ℕ, suc, zero, ◌+◌, ◌≤◌, ◌<◌}
use mathlib.Core.Path.{◌≡◌, refl, sym}
use mathlib.Core.Logic.{◌≢◌}
use mathlib.Core.List.{List, [], ◌∷◌, ◌++◌}
use mathlib.Core.Bool.{Bool, true}
use native.Mathlib.Omega.{arith}
use lib.ListN.{length, get_or, take}
use Rattle.rules.specs.Words.{if, up_from, keep, Every}
use Rattle.rules.proofs.Cases.{by_bool, by_eq}
use Rattle.rules.proofs.Lists.{every_map, Apart}

-- ---- one more at the end
pub keep_snoc : (t : ℕ → Bool) (l : List ℕ) (x : ℕ) → keep t (l ++ (x ∷ [])) ≡ keep t l ++ if (t x) (x ∷ []) []
keep_snoc t [] x = refl
keep_snoc t (y ∷ l) x = by_bool (t y) (λ e. rw (e, keep_snoc t l x)) (λ e. rw (e, keep_snoc t l x))

pub every_snoc : (P : ℕ → Type 0) (l : List ℕ) (p : ℕ) → Every P l → P p → Every P (l ++ (p ∷ []))
every_snoc P [] p a h = (h, tt)
every_snoc P (x ∷ l) p a h = (a.0, every_snoc P l p a.1 h)

pub every_last : (P : ℕ → Type 0) (l : List ℕ) (p : ℕ) → Every P (l ++ (p ∷ [])) → Every P l × P p
every_last P [] p al = (tt, al.0)
every_last P (y ∷ l) p al = let r = every_last P l p al.1 in ((al.0, r.0), r.1)

-- ---- what holds of each
pub every_take : (P : ℕ → Type 0) (j : ℕ) (l : List ℕ) → Every P l → Every P (take j l)
every_take P zero l a = tt
every_take P (suc j) [] a = tt
every_take P (suc j) (x ∷ l) a = (a.0, every_take P j l a.1)

pub every_at : (P : ℕ → Type 0) (j : ℕ) (l : List ℕ) → Every P l → j < length l → P (get_or l j 0)
every_at P j [] a h = absurd (omega arith)
every_at P zero (x ∷ l) a h = a.0
every_at P (suc j) (x ∷ l) a h = every_at P j l a.1 (omega arith)

pub every_keep : (P : ℕ → Type 0) (t : ℕ → Bool) (l : List ℕ) → Every P l → Every (λ r. P r × (t r ≡ true)) (keep t l)
every_keep P t [] a = tt
every_keep P t (x ∷ l) a = let r = every_keep P t l a.1 in by_bool (t x) (λ e. rw e ((a.0, e), r)) (λ e. rw e r)

pub every_kept : (P : ℕ → Type 0) (t : ℕ → Bool) (a n : ℕ) → Every P (keep t (up_from a n)) → (p : ℕ) → a ≤ p → p < a + n → t p ≡ true → P p
every_kept P t a zero al p h g e = absurd (omega arith)
every_kept P t a (suc n) al p h g e =
    by_eq a p
    (λ f. let f⁻ = sym f in let e' = rw f⁻ at e in rw f⁻ (rw e' at al).0)
    (λ f. every_kept P t (suc a) n (by_bool (t a) (λ d. (rw d at al).1) (λ d. rw d at al)) p (omega arith) (omega arith) e)

-- ---- lists without one twice
pub apart_last : (l : List ℕ) (p : ℕ) → Apart (l ++ (p ∷ [])) → Apart l × Every (λ r. r ≢ p) l
apart_last [] p a = (tt, tt)
apart_last (x ∷ l) p a =
    let r = apart_last l p a.1 in
    let e = every_last (λ y. y ≢ x) l p a.0 in
    ((e.0, r.0), ((λ d. e.1 (sym d)), r.1))

pub apart_take : (j : ℕ) (l : List ℕ) → Apart l → Apart (take j l)
apart_take zero l a = tt
apart_take (suc j) [] a = tt
apart_take (suc j) (x ∷ l) a = (every_take (λ y. y ≢ x) j l a.0, apart_take j l a.1)

pub apart_keep : (t : ℕ → Bool) (l : List ℕ) → Apart l → Apart (keep t l)
apart_keep t [] a = tt
apart_keep t (x ∷ l) a =
    let r = apart_keep t l a.1 in
    let e = every_map (λ y. (y ≢ x) × (t y ≡ true)) (λ y. y ≢ x) (λ y b. b.0) (keep t l) (every_keep (λ y. y ≢ x) t l a.0) in
    by_bool (t x) (λ f. rw f (e, r)) (λ f. rw f r)
