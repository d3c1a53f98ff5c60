-- WholeBlocks: waits by blocks. Every block that is long enough has a cell, and a run has so many whole blocks.
use Prim.Native.Nat.{ℕ, suc, zero, ◌+◌, ◌*◌, ◌/◌, ◌%◌, ◌-◌, ◌^◌, ◌≤◌, ◌<◌}
use mathlib.Core.Path.{◌≡◌, refl, ap, sym, ◌∙◌}
use mathlib.Core.List.{List, [], ◌∷◌}
use native.Mathlib.Nat.{two-pow-succ, mul-le-mul_right, mod-lt, div-add-mod'}
use native.Mathlib.Omega.{arith}
use lib.Pow.{pow_pos, pow-add}
use lib.ListN.{length}
use Rattle.rules.specs.Words.{Every}
use Rattle.rules.specs.Flows.{Class, OnSwitch, input}
use Rattle.rules.specs.Frames.{cells, run_of, Balanced, Block}
use Rattle.wire.specs.Wire.{Carried, none, chain, cells_in, Shape}
use Rattle.queues.specs.Wait.{HasAtLeast, BlocksOn, BlockWait}
use Rattle.rules.proofs.Cases.{by_eq, by_lt}
use Rattle.rules.proofs.Cells.{cells_run, run_all}
use Rattle.rules.proofs.Blocks.{block_fits, number_block}
use Rattle.wire.proofs.Chains.{Sound, SoundFrame, good_of, in_more, in_first, in_rest}
use Rattle.wire.proofs.Demand3.{chain_sound}
use Rattle.queues.proofs.Waits.{suffices}

-- ---- a balanced frame
module _ (c : Class) (ports slots k : ℕ) (of : OnSwitch ports c) (list entries : List ℕ) (power : slots ≡ 2 ^ k) (size : length entries ≡ slots * ports)
    (balanced : Balanced ports slots list entries) where
  -- both halves of a block that has 2 × x cells have x
  half_least : (x start z : ℕ) → Block slots start (2 * z) → 2 * x ≤ cells c ports list (run_of ports start (2 * z) entries)
      → (x ≤ cells c ports list (run_of ports start z entries)) × (x ≤ cells c ports list (run_of ports (start + z) z entries))
  half_least x start z block most =
      let two : 2 * z ≡ z + z = omega arith in
      let long = mul-le-mul_right ports (block_fits slots start (2 * z) block) in
      let sum = cells_run input ports list c start z z entries (omega arith) in
      let near = balanced c of start z block in
      let all : 2 * x ≤ cells c ports list (run_of ports start (z + z) entries) = rw two at most in
      (omega (arith, near.0, near.1), omega (arith, near.0, near.1))

  -- so each block of depth t has x cells, where the frame has 2 ^ t × x
  pub block_least : (t x b z : ℕ) → t ≤ k → b < 2 ^ t → z ≡ 2 ^ (k - t) → 2 ^ t * x ≤ cells c ports list entries → x ≤ cells c ports list (run_of ports (b * z) z entries)
  block_least zero x b z h l d most =
      let b0 : b * z ≡ 0 = (let a : b ≡ 0 = omega arith in rw a (omega arith)) in
      let z0 : z ≡ slots = d ∙ ap (λ y. 2 ^ y) (omega arith) ∙ sym power in
      rw (b0, z0, run_all ports slots entries size) (omega arith)
  block_least (suc t) x b z h l d most =
      let up : 2 * z ≡ 2 ^ (k - t) = (let a : k - t ≡ suc (k - suc t) = omega arith in omega (arith, ap (λ y. 2 ^ y) a, two-pow-succ (k - suc t))) in
      let p = two-pow-succ t in
      let block = number_block slots k power t (b / 2) (2 * z) (omega arith) (omega arith) up in
      let halves = half_least x (b / 2 * (2 * z)) z block (block_least t (2 * x) (b / 2) (2 * z) (omega arith) (omega arith) up (omega (arith, ap (λ y. y * x) p))) in
      by_eq (b % 2) 0
      (λ e.
      let a : b ≡ b / 2 * 2 = omega arith in
      let at : b * z ≡ b / 2 * (2 * z) = omega (arith, ap (λ y. y * z) a) in
      rw at halves.0)
      (λ e.
      let a : b ≡ b / 2 * 2 + 1 = omega arith in
      let at : b * z ≡ b / 2 * (2 * z) + z = omega (arith, ap (λ y. y * z) a) in
      rw at halves.1)

-- ---- a chain of sound frames
module _ (c : Class) (ports k j z : ℕ) (of : OnSwitch ports c) (low : j ≤ k) (is : z ≡ 2 ^ (k - j)) where
  -- a frame is 2 ^ j blocks of z slots
  frame_blocks : 2 ^ k ≡ 2 ^ j * z
  frame_blocks = ap (λ y. 2 ^ y) (omega arith) ∙ pow-add 2 j (k - j) ∙ ap (λ y. 2 ^ j * y) (sym is)

  -- each block of z slots has a cell
  chain_block : (fs : List Carried) → Every (SoundFrame ports (2 ^ k)) fs → HasAtLeast (2 ^ j) c ports fs → (b : ℕ) → b < length fs * 2 ^ j
      → 1 ≤ cells_in c fs (b * z) z
  chain_block [] good has b l = absurd (omega arith)
  chain_block (f ∷ fs) good has b l =
      let g = good.0 in
      let size = g.legal.size in
      by_lt b (2 ^ j)
      (λ h.
      let fits : b * z + z ≤ 2 ^ k = omega (arith, frame_blocks, mul-le-mul_right z h) in
      let one = block_least c ports (2 ^ k) k of f.call.list f.entries refl size g.balanced j 1 b z low h is (omega (arith, has.0)) in
      rw (in_first c ports (2 ^ k) f fs g.shape size (b * z) z fits) one)
      (λ h.
      let rest = b - 2 ^ j in
      let parts : b ≡ 2 ^ j + rest = omega arith in
      let at : b * z ≡ 2 ^ k + rest * z = omega (arith, frame_blocks, ap (λ y. y * z) parts) in
      rw (at, in_rest c ports (2 ^ k) f fs g.shape (rest * z) z) (chain_block fs good.1 has.1 rest (omega arith)))

  module _ (fs : List Carried) (good : Every (SoundFrame ports (2 ^ k)) fs) (has : HasAtLeast (2 ^ j) c ports fs) where
    -- so w blocks in a row have w
    blocks_least : (w b : ℕ) → b + w ≤ length fs * 2 ^ j → w ≤ cells_in c fs (b * z) (w * z)
    blocks_least zero b fits = omega arith
    blocks_least (suc w) b fits =
        let next : b * z + w * z ≡ (b + w) * z = omega arith in
        let more : suc w * z ≡ w * z + z = omega arith in
        let sum = in_more c fs (b * z) (w * z) z in
        rw more (omega (arith, rw next at sum, blocks_least w b (omega arith), chain_block fs good has (b + w) (omega arith)))

    -- and a run of w + 1 blocks less one slot has w of them
    pub run_least : (w start len : ℕ) → (w + 1) * z ≤ len + 1 → start + len ≤ length fs * 2 ^ k → w ≤ cells_in c fs start len
    run_least w start len long fits =
        let least : 1 ≤ z = rw is (pow_pos (k - j)) in
        let b = (start + (z - 1)) / z in
        let short = mod-lt (start + (z - 1)) least in
        let whole = div-add-mod' (start + (z - 1)) z in
        let before = b * z - start in
        let after = start + len - (b * z + w * z) in
        let first : start + before ≡ b * z = omega arith in
        let all : before + (w * z + after) ≡ len = omega arith in
        let one = in_more c fs start before (w * z + after) in
        let two = in_more c fs (b * z) (w * z) after in
        let in_chain : b + w ≤ length fs * 2 ^ j = by_lt (length fs * 2 ^ j) (b + w)
        (λ h. absurd (omega (arith, mul-le-mul_right z h, ap (λ y. length fs * y) frame_blocks))) (λ h. h) in
        omega (arith, rw (first, all) at one, two, blocks_least w b in_chain)

-- Frames that are legal and balanced, whoever made them, have w cells in every run of that length,
pub sound_blocks : (ports k : ℕ) (fs : List Carried) → Every Sound fs → Every (Shape ports (2 ^ k)) fs → BlocksOn ports k fs
sound_blocks ports k fs sound shape c of j w low least has len long =
    let good = good_of ports (2 ^ k) fs sound shape in
    suffices c ports k of fs good w len least (λ start fits. run_least c ports k j (2 ^ (k - j)) of low refl fs good has w start len (omega (arith, long)) fits)

-- and so has every list of Build calls.
pub block_wait : BlockWait
block_wait buffer calls ports k shape = sound_blocks ports k (chain none buffer calls) (chain_sound buffer calls) shape
