-- Blocks: where two counts agree on the runs of two frames, the first unbalanced block is the same.
use Prim.Native.Nat.{ℕ, suc, ◌+◌, ◌*◌, ◌/◌, ◌^◌, ◌≤◌}
use mathlib.Core.Path.{◌≡◌, refl, ap, ap₂, ◌∙◌}
use mathlib.Core.List.{List, [], ◌∷◌}
use mathlib.Core.Bool.{Bool, not}
use native.Mathlib.Omega.{arith}
use native.Mathlib.Nat.{mul-le-mul_right, div-add-mod', two-pow-succ}
use lib.Dec.{ltb}
use Rattle.rules.specs.Words.{both, near, first}
use Rattle.rules.specs.Flows.{Class}
use Rattle.rules.specs.Frames.{run_of, levels}
use Rattle.calls.specs.Refusals.{Check}
use Rattle.calls.specs.Inspect.{classes, all, unbalanced, unbalanced_number, first_at, unbalanced_at, unbalanced_block}
use Rattle.rules.proofs.Searches.{first_ext}

all_ext : (t u : Class → Bool) → ((c : Class) → t c ≡ u c) → (l : List Class) → all t l ≡ all u l
all_ext t u h [] = refl
all_ext t u h (c ∷ l) = ap₂ both (h c) (all_ext t u h l)

module _ (f g : Class → List ℕ → ℕ) (ports slots : ℕ) (list v w : List ℕ)
    (same : (c : Class) (start len : ℕ) → start + len ≤ slots → f c (run_of ports start len v) ≡ g c (run_of ports start len w)) where
  one_same : (start half : ℕ) → start + half + half ≤ slots → unbalanced f ports list v start half ≡ unbalanced g ports list w start half
  unfolding unbalanced
  one_same start half h =
      ap not (all_ext _ _ (λ c. ap₂ (near 1) (same c start half (omega arith)) (same c (start + half) half h)) (classes ports list))

  -- the blocks of a depth are inside the frame
  first_same : (t : ℕ) → first_at f ports slots list v t ≡ first_at g ports slots list w t
  unfolding unbalanced_number
  first_same t =
      let half = slots / 2 ^ suc t in
      first_ext _ _ (2 ^ t) 0
      (λ b _ l.
      let k = mul-le-mul_right {m = suc b} {n = 2 ^ t} (2 * half) (omega arith) in
      let d = div-add-mod' slots (2 ^ suc t) in
      one_same (b * (2 * half)) half (omega (arith, ap (λ z. half * z) (two-pow-succ t))))

  at_same : (t : ℕ) → unbalanced_at f ports slots list v t ≡ unbalanced_at g ports slots list w t
  unfolding unbalanced_at
  at_same t = ap (λ z. ltb z (2 ^ t)) (first_same t)

  pub block_same : unbalanced_block f ports slots list v ≡ unbalanced_block g ports slots list w
  block_same =
      let told : ℕ → ℕ → Check = λ t b. (ltb t (levels slots), 104 ∷ suc (b * (slots / 2 ^ t)) ∷ (slots / 2 ^ t) ∷ []) in
      let t = first (unbalanced_at g ports slots list w) 0 (levels slots) in
      ap (λ z. told z (first_at f ports slots list v z)) (first_ext _ _ (levels slots) 0 (λ z _ _. at_same z)) ∙ ap (told t) (first_same t)
