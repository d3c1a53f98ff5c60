-- Lists: what holds of each of a list, rising lists, and a number repeated.
use Prim.Native.Nat.{ℕ, suc, zero, ◌≤◌, ◌<◌}
use mathlib.Core.Path.{◌≡◌, refl}
use mathlib.Core.Logic.{◌≢◌}
use mathlib.Core.List.{List, [], ◌∷◌, ◌++◌}
use native.Mathlib.Omega.{arith}
use lib.ListN.{get_or, replicate}
use Rattle.rules.specs.Words.{Every}

-- ---- what holds of each
pub every_map : {A : Type 0} (P Q : A → Type 0) → ((x : A) → P x → Q x) → (l : List A) → Every P l → Every Q l
every_map P Q f [] al = tt
every_map P Q f (x ∷ l) al = (f x al.0, every_map P Q f l al.1)

pub every_append : {A : Type 0} (P : A → Type 0) (xs ys : List A) → Every P xs → Every P ys → Every P (xs ++ ys)
every_append P [] ys p q = q
every_append P (x ∷ xs) ys p q = (p.0, every_append P xs ys p.1 q)

pub every_replicate : {A : Type 0} (P : A → Type 0) (n : ℕ) (x : A) → P x → Every P (replicate n x)
every_replicate P zero x p = tt
every_replicate P (suc n) x p = (p, every_replicate P n x p)

-- ---- 0, repeated
pub zero_at : (n q : ℕ) → ◌≡◌ {A = ℕ} (get_or (replicate n 0) q 0) 0
zero_at zero q = refl
zero_at (suc n) zero = refl
zero_at (suc n) (suc q) = zero_at n q

-- ---- rising lists
-- rising from k on
abbrev pub Rising : ℕ → List ℕ → Type 0
Rising k [] = Unit {0}
Rising k (x ∷ l) = (k ≤ x) × Rising (suc x) l

pub rising_weaken : (j k : ℕ) (l : List ℕ) → j ≤ k → Rising k l → Rising j l
rising_weaken j k [] h r = tt
rising_weaken j k (x ∷ l) h r = (omega arith, r.1)

-- ---- lists without a count twice
abbrev pub Apart : List ℕ → Type 0
Apart [] = Unit {0}
Apart (x ∷ l) = Every (λ y. y ≢ x) l × Apart l

-- a rising list has none twice
rising_above : (j k : ℕ) (l : List ℕ) → j < k → Rising k l → Every (λ y. y ≢ j) l
rising_above j k [] h r = tt
rising_above j k (x ∷ l) h r = ((λ e. let a = r.0 in absurd (omega arith)), rising_above j (suc x) l (let a = r.0 in omega arith) r.1)

pub rising_apart : (k : ℕ) (l : List ℕ) → Rising k l → Apart l
rising_apart k [] r = tt
rising_apart k (x ∷ l) r = (rising_above x (suc x) l (omega arith) r.1, rising_apart (suc x) l r.1)
