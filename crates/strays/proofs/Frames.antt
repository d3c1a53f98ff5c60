-- Balanced frames: a count from a frame's beginning is off by no more than the stray of the frame's load, and a run inside the frame by no
-- more than twice the stray of any load that the frame has at least, or at most.
use Prim.Native.Nat.{ℕ, ◌+◌, ◌-◌, ◌*◌, ◌^◌, ◌≤◌}
use mathlib.Core.Path.{◌≡◌, sym, ap, subst, ◌∙◌}
use mathlib.Core.List.{List}
use native.Mathlib.Omega.{arith}
use native.Mathlib.Nat.{zero-add, mul-le-mul_right}
use Rattle.rules.specs.Words.{Near}
use Rattle.rules.specs.Flows.{Class, OnSwitch, load, input}
use Rattle.rules.specs.Frames.{cells, run_of, Legal, Block, whole, Balanced}
use Rattle.rules.proofs.Cells.{cells_none, cells_run, run_none, run_all}
use Rattle.rules.proofs.Blocks.{block_fits}
use Rattle.rules.proofs.Legal.{legal_exact}
use Rattle.strays.specs.Stray.{stray}
use Rattle.strays.proofs.Strays.{stray_has}
use Rattle.strays.proofs.Balanced.{BalancedCount, RunIn, block_run, Point, at_none, at_all, run_off}

module _ {ports slots : ℕ} {list entries : List ℕ} (legal : Legal ports slots list entries) (balanced : Balanced ports slots list entries) (c : Class) (of : OnSwitch ports c) where
  -- the cells of the first t slots
  abbrev pub before : ℕ → ℕ
  before t = cells c ports list (run_of ports 0 t entries)

  pub before_more : (t n : ℕ) → t ≤ slots → before (t + n) ≡ before t + cells c ports list (run_of ports t n entries)
  before_more t n h =
      let k = mul-le-mul_right ports h in
      rw zero-add at (cells_run input ports list c 0 t n entries (omega (arith, legal.size)))

  pub before_all : before slots ≡ load c list
  before_all = ap (cells c ports list) (run_all ports slots entries legal.size) ∙ legal_exact legal c

  pub before_none : before 0 ≡ 0
  before_none = ap (cells c ports list) (run_none ports 0 entries) ∙ cells_none input ports list c

  pub before_balanced : BalancedCount slots before
  before_balanced start half b =
      let l = block_fits slots start (2 * half) b in
      record {
        first = cells c ports list (run_of ports start half entries);
        second = cells c ports list (run_of ports (start + half) half entries);
        first_is = before_more start half (omega arith);
        second_is = before_more (start + half) half (omega arith);
        near = balanced c of start half b;
      }

  module _ (k : ℕ) (power : slots ≡ 2 ^ k) where
    -- a frame of 2 ^ k slots is a block
    pub whole_block : Block slots 0 (2 ^ k)
    whole_block = subst (λ (n : ℕ). Block slots 0 n) power whole

    pub whole_cells : before (0 + 2 ^ k) ≡ before 0 + load c list
    whole_cells = ap before (zero-add (2 ^ k) ∙ sym power) ∙ before_all ∙ omega (arith, before_none)

    -- a run of len slots with t before it and u behind it
    module _ (m t len u : ℕ) (parts : t + len + u ≡ 2 ^ k) where
      abbrev n : ℕ
      n = cells c ports list (run_of ports t len entries)

      run_in : RunIn before k m (load c list) 0 t len u
      run_in = block_run slots before before_balanced k 0 (load c list) whole_block whole_cells m t len u parts

      run_cells : before (0 + t + len) ≡ before (0 + t) + n
      run_cells = rw (zero-add t) (before_more t len (omega arith))

      pub least_off : m ≤ load c list → (x y : ℕ) → Point k m x t → Point k m y u → len * m ≤ 2 ^ k * n + x + y
      least_off = (run_off before k m (load c list) 0 t len u n run_in parts run_cells).0

      pub most_off : load c list ≤ m → (x y : ℕ) → Point k m x (t + len) → Point k m y (len + u) → 2 ^ k * n ≤ len * m + x + y
      most_off = (run_off before k m (load c list) 0 t len u n run_in parts run_cells).1

    -- so from the frame's beginning no count is off by more than the stray of the load
    pub first_off : (t : ℕ) → t ≤ 2 ^ k
        → let m = load c list in Near (stray k m) (2 ^ k * cells c ports list (run_of ports 0 t entries)) (m * t)
    first_off t fits =
        let m = load c list in
        let u = 2 ^ k - t in
        let parts : 0 + t + u ≡ 2 ^ k = omega arith in
        let all : t + u ≡ 2 ^ k = omega arith in
        let none : 0 + t ≡ t = omega arith in
        let above = most_off m 0 t u parts (omega arith) (stray k m) 0 (rw none (stray_has k m t fits)) (rw all (at_all k m)) in
        let below = least_off m 0 t u parts (omega arith) 0 (stray k m) (at_none k m) (stray_has k m u (omega arith)) in
        (omega (arith, above), omega (arith, below))
