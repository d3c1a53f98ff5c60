-- Blocks of the code's search.
use Prim.Native.Nat.{ℕ, suc, ◌+◌, ◌*◌, ◌/◌, ◌%◌, ◌^◌, ◌≤◌, ◌<◌}
use mathlib.Core.Path.{◌≡◌, refl, sym, ap, ◌∙◌}
use mathlib.Core.List.{List, [], ◌∷◌}
use mathlib.Core.Bool.{Bool, true, false, true≢false}
use native.Mathlib.Omega.{arith}
use native.Mathlib.Nat.{mul-le-mul_right, pow-le-pow_right}
use lib.Pow.{shl_exact}
use native.Mathlib.Numerals.{add-one}
use mir.Syntax.{w64}
use mir.Val.{Fits}
use borrow.Author.Tests.{lt-ltb, le-ltb}
use Rattle.std.specs.declared.option.Option.{Option}
use Rattle.std.specs.declared.option.Option.TheVariants.{None, Some}
use Rattle.std.specs.Option.{MatchOption, is_some}
use Rattle.rules.specs.Flows.{Class}
use Rattle.rules.proofs.Cases.{by_lt}
use Rattle.rules.specs.Words.{found}
use Rattle.rules.specs.Frames.{levels}
use Rattle.rules.proofs.Searches.{first_is, first_none}
use Rattle.rules.proofs.Levels.{levels_power, power_most, known_power, pow_less, double, depth_half, depth_fill}
use Rattle.rules.proofs.Ranges.{first_of}
use Rattle.calls.specs.Refusals.{report}
use Rattle.calls.specs.Inspect.{unbalanced, unbalanced_number, first_at, unbalanced_at, unbalanced_block}
use Rattle.tally.specs.Tally.{flow_cells}
use Rattle.balance.specs.declared.Block.{Block}
use Rattle.balance.specs.Balance.{block_at, block_numbers}

-- ---- the blocks at a depth below the whole frame
module _ (slots t : ℕ) (p : levels slots < 11) (h : t < levels slots) where
  power : slots ≡ 2 ^ levels slots
  power = levels_power slots (omega (arith, p))

  twice : 2 * (slots / 2 ^ suc t) ≡ slots / 2 ^ t
  twice = ap (λ (z : ℕ). 2 * (z / 2 ^ suc t)) power ∙ depth_half (levels slots) t h ∙ ap (λ (z : ℕ). z / 2 ^ t) (sym power)

  fill : 2 ^ t * (slots / 2 ^ t) ≡ slots
  fill = ap (λ (z : ℕ). 2 ^ t * (z / 2 ^ t)) power ∙ depth_fill (levels slots) t (omega arith) ∙ sym power

  few : slots ≤ 1024
  few = power_most (known_power slots (omega (arith, p)))

  module _ {b : ℕ} (l : b < 2 ^ t) where
    block_room : b * (slots / 2 ^ t) + slots / 2 ^ t ≤ slots
    block_room = let m = mul-le-mul_right {m = suc b} {n = 2 ^ t} (slots / 2 ^ t) l in omega (arith, fill)

    pub block_ends : b * (2 * (slots / 2 ^ (t + 1))) + slots / 2 ^ (t + 1) + slots / 2 ^ (t + 1) ≤ slots
    block_ends = rw (add-one t) (omega (arith, twice, ap (λ z. b * z) twice, block_room))

    pub slot_fits : Fits w64 (b * (slots / 2 ^ t))
    slot_fits = record { fits = omega (arith, block_room, few) }

    pub number_fits : Fits w64 (b * (slots / 2 ^ t) + 1)
    number_fits = record { fits = omega (arith, block_room, few) }

pub number_told : (count : Class → List ℕ → ℕ) (ports slots t b : ℕ) (list entries : List ℕ) {r : Bool} → r ≡ unbalanced count ports list entries (b * (2 * (slots / 2 ^ (t + 1)))) (slots / 2 ^ (t + 1))
    → r ≡ unbalanced_number count ports list entries (slots / 2 ^ suc t) b
unfolding unbalanced_number
number_told count ports slots t b list entries e = e ∙ ap (λ z. unbalanced count ports list entries (b * (2 * (slots / 2 ^ z))) (slots / 2 ^ z)) (add-one t)

pub blocks : (slots t : ℕ) → levels slots < 11 → t < levels slots → 1 * 2 ^ t % 2 ^ 64 ≡ 2 ^ t
blocks slots t p h = shl_exact 1 t 64 (omega arith) (omega arith) ∙ omega arith

-- ---- the first of them
module _ (ports slots : ℕ) (list entries : List ℕ) (t : ℕ) where
  abbrev test : ℕ → Bool
  test = unbalanced_number (flow_cells list) ports list entries (slots / 2 ^ suc t)

  pub none_at : {r : Option ℕ} → r ≡ found test 0 (2 ^ t) → r ≡ None → None ≡ block_at ports slots list entries t
  none_at e n = rw (sym e ∙ n)

  pub some_at : {r : Option ℕ} {b : ℕ} → r ≡ found test 0 (2 ^ t) → r ≡ Some b → (b < 2 ^ t) × (Some (record { slot = b * (slots / 2 ^ t) + 1; size = slots / 2 ^ t }) ≡ block_at ports slots list entries t)
  some_at {r} {b} e s =
      let f = first_of test (2 ^ t) 0 (Some b) (sym s ∙ e) in
      (omega (arith, f.1), rw (sym e ∙ s, add-one (b * (slots / 2 ^ t))))

  none_there : block_at ports slots list entries t ≡ None → unbalanced_at (flow_cells list) ports slots list entries t ≡ false
  unfolding unbalanced_at
  none_there = of_found (found test 0 (2 ^ t)) refl
    where
      of_found : (r : Option ℕ) → r ≡ found test 0 (2 ^ t) → block_at ports slots list entries t ≡ None → unbalanced_at (flow_cells list) ports slots list entries t ≡ false
      of_found None e _ = let f = first_of test (2 ^ t) 0 None e in le-ltb (first_at (flow_cells list) ports slots list entries t) (2 ^ t) (omega (arith, f))
      of_found (Some b) e n = absurd (true≢false (ap is_some (rw (sym e) at n)))

  some_there : {b : Block} → block_at ports slots list entries t ≡ Some b
      → (unbalanced_at (flow_cells list) ports slots list entries t ≡ true) × (b.slot ≡ suc (first_at (flow_cells list) ports slots list entries t * (slots / 2 ^ t))) × (b.size ≡ slots / 2 ^ t)
  unfolding unbalanced_at
  some_there {b} = of_found (found test 0 (2 ^ t)) refl
    where
      of_found : (r : Option ℕ) → r ≡ found test 0 (2 ^ t) → block_at ports slots list entries t ≡ Some b
          → (unbalanced_at (flow_cells list) ports slots list entries t ≡ true) × (b.slot ≡ suc (first_at (flow_cells list) ports slots list entries t * (slots / 2 ^ t))) × (b.size ≡ slots / 2 ^ t)
      of_found None e s = absurd (true≢false (ap is_some (sym (rw (sym e) at s))))
      of_found (Some x) e s =
          let f = first_of test (2 ^ t) 0 (Some x) e in
          let q = ap (λ (o : Option Block). elim o [ None ↦ b | Some z ↦ z ]) (rw (sym e) at s) in (
            lt-ltb (first_at (flow_cells list) ports slots list entries t) (2 ^ t) (omega (arith, f)),
            ap (λ (z : Block). z.slot) (sym q) ∙ ap (λ z. suc (z * (slots / 2 ^ t))) (sym f.0),
            ap (λ (z : Block). z.size) (sym q),
          )

-- ---- over the depths
pub depths : {slots n : ℕ} → levels slots < 11 → 2 ^ n ≤ slots → slots < 2 * 2 ^ n → n ≡ levels slots
depths {slots} {n} p low high =
    let e = levels_power slots (omega (arith, p)) in
    by_lt n (levels slots)
    (λ h. absurd (let m : 2 ^ suc n ≤ 2 ^ levels slots = pow-le-pow_right (omega arith) h in omega (arith, double n, e)))
    (λ h. by_lt (levels slots) n (λ l. absurd (let m = pow_less (levels slots) n l in omega (arith, e))) (λ l. omega arith))

pub first_block : (ports slots : ℕ) (list entries : List ℕ) (r : Option Block)
    → MatchOption r ((k : ℕ) → k < levels slots → block_at ports slots list entries k ≡ None)
    (λ b. (i : ℕ) × (i < levels slots) × (block_at ports slots list entries i ≡ Some b) × ((k : ℕ) → k < i → block_at ports slots list entries k ≡ None))
    → block_numbers r ≡ report (unbalanced_block (flow_cells list) ports slots list entries ∷ []) (0 ∷ [])
first_block ports slots list entries None none =
    let e = first_none (unbalanced_at (flow_cells list) ports slots list entries) (levels slots) 0 (λ k _ h. none_there ports slots list entries k (none k (omega arith))) in
    rw (e, le-ltb (0 + levels slots) (levels slots) (omega arith))
first_block ports slots list entries (Some b) w =
    let s = some_there ports slots list entries w.0 w.2 in
    let e = first_is (unbalanced_at (flow_cells list) ports slots list entries) (levels slots) 0 w.0 (omega arith) (omega (arith, w.1)) s.0 (λ k _ h. none_there ports slots list entries k (w.3 k h)) in
    rw (e, lt-ltb w.0 (levels slots) w.1, s.1, s.2)
