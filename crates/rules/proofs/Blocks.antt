-- Blocks: a block of twice n slots is the whole, or a block of the first n, or a block of the other n.
use Prim.Native.Nat.{ℕ, suc, zero, ◌+◌, ◌-◌, ◌*◌, ◌/◌, ◌%◌, ◌^◌, ◌≤◌, ◌<◌}
use mathlib.Core.Path.{◌≡◌, refl, sym, ap, ◌∙◌}
use mathlib.Core.Logic.{◌⊎◌, inl, inr}
use native.Mathlib.Omega.{arith}
use native.Mathlib.Nat.{two-pow-succ}
use Rattle.rules.specs.Frames.{Block, whole, front, back}
use Rattle.rules.proofs.Cases.{by_eq, by_lt}

pub block_fits : (slots s z : ℕ) → Block slots s z → s + z ≤ slots
block_fits slots s z (whole) = omega arith
block_fits slots s z (front a h b) = let r = block_fits slots a (2 * h) b in omega arith
block_fits slots s z (back a h b) = let r = block_fits slots a (2 * h) b in omega arith

-- a frame of one slot is its only block
pub block_one : (s z : ℕ) → Block 1 s z → z ≡ 1
block_one s z (whole) = refl
block_one s z (front a h b) = let r = block_one a (2 * h) b in absurd (omega arith)
block_one s z (back a h b) = let r = block_one a (2 * h) b in absurd (omega arith)

abbrev pub Part : ℕ → ℕ → ℕ → Type 0
Part n s z = ((s ≡ 0) × (z ≡ 2 * n)) ⊎ (Block n s z ⊎ ((t : ℕ) × (s ≡ n + t) × Block n t z))

top : (n s z : ℕ) → s ≡ 0 → z ≡ n → Block n s z
top n s z e f = rw (e, f) whole

front_part : (n s z : ℕ) → Part n s (2 * z) → Part n s z
front_part n s z (inl (e, f)) = inr (inl (top n s z e (omega arith)))
front_part n s z (inr (inl b)) = inr (inl (front s z b))
front_part n s z (inr (inr (t, e, b))) = inr (inr (t, e, front t z b))

back_part : (n s z : ℕ) → Part n s (2 * z) → Part n (s + z) z
back_part n s z (inl (e, f)) = inr (inr (0, omega arith, top n 0 z refl (omega arith)))
back_part n s z (inr (inl b)) = inr (inl (back s z b))
back_part n s z (inr (inr (t, e, b))) = inr (inr (t + z, omega arith, back t z b))

pub block_part : (slots n s z : ℕ) → slots ≡ 2 * n → Block slots s z → Part n s z
block_part slots n s z e (whole) = inl (refl, e)
block_part slots n s z e (front a h b) = front_part n a h (block_part slots n a (2 * h) e b)
block_part slots n s z e (back a h b) = back_part n a h (block_part slots n a (2 * h) e b)

-- ---- blocks by number: of 2 ^ k slots, at depth t, block b begins at slot b × 2 ^ (k - t) and has 2 ^ (k - t) slots
pub number_block : (slots k : ℕ) → slots ≡ 2 ^ k → (t b z : ℕ) → t ≤ k → b < 2 ^ t → z ≡ 2 ^ (k - t) → Block slots (b * z) z
number_block slots k e zero b z h l d =
    let b0 : b * z ≡ 0 = (let a : b ≡ 0 = omega arith in rw a (omega arith)) in
    let z0 : z ≡ slots = d ∙ ap (λ x. 2 ^ x) (omega arith) ∙ sym e in
    rw (b0, z0) whole
number_block slots k e (suc t) b z h l d =
    let up : 2 * z ≡ 2 ^ (k - t) = (let a : k - t ≡ suc (k - suc t) = omega arith in omega (arith, ap (λ x. 2 ^ x) a, two-pow-succ (k - suc t))) in
    let p = two-pow-succ t in
    let r = number_block slots k e t (b / 2) (2 * z) (omega arith) (omega arith) up in
    by_eq (b % 2) 0
    (λ m.
    let a : b ≡ b / 2 * 2 = omega arith in
    let c : b * z ≡ b / 2 * (2 * z) = omega (arith, ap (λ x. x * z) a) in
    rw c (front (b / 2 * (2 * z)) z r))
    (λ m.
    let a : b ≡ b / 2 * 2 + 1 = omega arith in
    let c : b * z ≡ b / 2 * (2 * z) + z = omega (arith, ap (λ x. x * z) a) in
    rw c (back (b / 2 * (2 * z)) z r))

pub record Numbered (k s z : ℕ) : Type 0 where
  pub depth : ℕ
  pub number : ℕ
  pub depth_most : depth ≤ k
  pub number_most : number < 2 ^ depth
  pub size : z ≡ 2 ^ (k - depth)
  pub start : s ≡ number * z

-- half of a numbered block
half_numbered : (k s h b' : ℕ) (n : Numbered k s (2 * h)) → (s' : ℕ) → b' ≤ 1 → s' ≡ s + b' * h → Numbered k s' h
half_numbered k s h b' n s' l e =
    let z = n.size in
    let less : n.depth < k = by_lt n.depth k (λ x. x) (λ x.
    let a : k - n.depth ≡ 0 = (let m = n.depth_most in omega arith) in
    let o : 2 * h ≡ 1 = z ∙ ap (λ y. 2 ^ y) a in absurd (omega arith)) in
    let a : k - n.depth ≡ suc (k - suc n.depth) = omega arith in
    let p = two-pow-succ n.depth in
    let m = n.number_most in
    record {
      depth = suc n.depth;
      number = 2 * n.number + b';
      depth_most = less;
      number_most = omega arith;
      size = omega (arith, ap (λ y. 2 ^ y) a, two-pow-succ (k - suc n.depth));
      start = e ∙ omega (arith, n.start);
    }

pub block_numbered : (slots k s z : ℕ) → slots ≡ 2 ^ k → Block slots s z → Numbered k s z
block_numbered slots k s z e (whole) =
    record { depth = 0; number = 0; depth_most = omega arith; number_most = omega arith; size = e ∙ ap (λ x. 2 ^ x) (omega arith); start = omega arith }
block_numbered slots k s z e (front a h b) = half_numbered k a h 0 (block_numbered slots k a (2 * h) e b) a (omega arith) (omega arith)
block_numbered slots k s z e (back a h b) = half_numbered k a h 1 (block_numbered slots k a (2 * h) e b) (a + h) (omega arith) (omega arith)
