-- Counts read off the planes.
use Prim.Native.Nat.{ℕ, suc, zero, ◌+◌, ◌*◌, ◌/◌, ◌%◌, ◌≤◌, ◌<◌}
use mathlib.Core.Path.{◌≡◌, refl, sym, ap, ap₂, ◌∙◌}
use mathlib.Core.List.{List, [], ◌∷◌, map}
use mathlib.Core.Bool.{false}
use native.Mathlib.Omega.{arith}
use lib.Dec.{eqb}
use lib.ListN.{length, get_or, take}
use lib.Seq.{get_or-take}
use borrow.Author.Tests.{ne_eqb}
use Rattle.rules.specs.Words.{up_from, keep}
use Rattle.rules.specs.Rules.{odd}
use Rattle.rules.proofs.Flows.{map_length, map_at}
use Rattle.rules.proofs.Kept.{keep_same}
use Rattle.bits.specs.Digits.{digit, binary}
use Rattle.planes.specs.Planes.{digit_in, digit_at, count_at, counts_in, odd_at, odds_in, words_of, span_of, Ends, BlockPlanes}
use Rattle.bits.proofs.Digits.{digit_most, binary_up}

-- ---- lists of counts
pub map_same : (f g : ℕ → ℕ) (a n : ℕ) → ((p : ℕ) → p < a + n → f p ≡ g p) → map f (up_from a n) ≡ map g (up_from a n)
map_same f g a zero e = refl
map_same f g a (suc n) e = ap₂ (λ (x : ℕ) (l : List ℕ). x ∷ l) (e a (omega arith)) (map_same f g (suc a) n (λ p h. e p (omega arith)))

pub map_is : (f : ℕ → ℕ) (a : ℕ) (l : List ℕ) → ((p : ℕ) → p < length l → f (a + p) ≡ get_or l p 0) → map f (up_from a (length l)) ≡ l
map_is f a [] e = refl
map_is f a (x ∷ l) e =
    ap₂ (λ (y : ℕ) (z : List ℕ). y ∷ z) (ap f (omega arith) ∙ e 0 (omega arith))
    (map_is f (suc a) l (λ p k. ap f (omega arith) ∙ e (suc p) (omega arith)))

pub counts_length : (k : ℕ) (planes : List ℕ) (n : ℕ) → length (counts_in k planes n) ≡ n
unfolding counts_in
counts_length k planes n = map_length (count_at k planes) 0 n

pub counts_at : (k : ℕ) (planes : List ℕ) (n p : ℕ) → p < n → get_or (counts_in k planes n) p 0 ≡ count_at k planes p
unfolding counts_in
counts_at k planes n p h = map_at (count_at k planes) 0 n p h ∙ ap (count_at k planes) (omega arith)

-- a list that has the count of each position
pub counts_are : (k : ℕ) (planes l : List ℕ) → ((p : ℕ) → p < length l → count_at k planes p ≡ get_or l p 0) → counts_in k planes (length l) ≡ l
unfolding counts_in
counts_are k planes l e = map_is (count_at k planes) 0 l (λ p h. ap (count_at k planes) (omega arith) ∙ e p h)

-- ---- odd counts, by the lowest plane
lowest : (planes : List ℕ) (p : ℕ) → digit_in planes p 0 ≡ digit_at planes p
unfolding digit_in
lowest planes p = ap (λ (x : ℕ). digit (get_or planes x 0) (p % 64)) (omega arith)

pub digit_le : (mask : List ℕ) (p : ℕ) → digit_at mask p ≤ 1
digit_le mask p = digit_most (get_or mask (p / 64) 0) (p % 64)

-- what stands above the lowest plane is half of the count
pub count_parts : (m : ℕ) (planes : List ℕ) (p : ℕ) → count_at (suc m) planes p ≡ digit_at planes p + 2 * binary m (λ b. digit_in planes p (suc b))
unfolding count_at
count_parts m planes p = omega (arith, binary_up m (digit_in planes p), lowest planes p)

pub count_odd : (m : ℕ) (planes : List ℕ) (p : ℕ) → count_at (suc m) planes p % 2 ≡ digit_at planes p
count_odd m planes p = omega (arith, count_parts m planes p, digit_le planes p)

pub odd_is : (m : ℕ) (planes : List ℕ) (n p : ℕ) → p < n → odd_at planes p ≡ odd (counts_in (suc m) planes n) p
odd_is m planes n p h =
    ap (λ (x : ℕ). eqb x 1) (sym (count_odd m planes p) ∙ ap (λ (x : ℕ). x % 2) (sym (counts_at (suc m) planes n p h)))

pub odds_are : (m n : ℕ) (planes : List ℕ) → odds_in n planes ≡ keep (odd (counts_in (suc m) planes n)) (up_from 0 n)
odds_are m n planes = keep_same (odd_at planes) (odd (counts_in (suc m) planes n)) 0 n (λ p h. odd_is m planes n p (omega arith))

-- ---- blocks
pub block_ends : {m n : ℕ} {planes : List ℕ} → BlockPlanes m n planes → Ends n planes
block_ends {m} {n} {planes} b =
    record {
      few = b.few;
      past = λ p l h. omega (arith, count_odd m planes p, b.past p l h);
    }

-- no count behind the first n is odd
pub none_odd : {n : ℕ} {planes : List ℕ} → Ends n planes → (p : ℕ) → n ≤ p → p < span_of n → odd_at planes p ≡ false
none_odd {n} {planes} e p l h = let z = e.past p l h in ne_eqb (digit_at planes p) 1 (omega arith)

-- ---- the words of the lowest plane
pub lowest_at : (n : ℕ) (planes words : List ℕ) → words ≡ take (words_of n) planes → (w : ℕ) → w < words_of n → get_or words w 0 ≡ get_or planes w 0
lowest_at n planes words is w h = ap (λ (x : List ℕ). get_or x w 0) is ∙ get_or-take (words_of n) planes w 0 h
