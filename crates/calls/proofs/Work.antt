-- Work: the odd counts settled for a frame are those of its load, split down to blocks of two slots.
use Prim.Native.Nat.{ℕ, suc, zero, ◌+◌, ◌-◌, ◌*◌, ◌/◌, ◌%◌, ◌^◌, ◌≤◌, ◌<◌}
use mathlib.Core.Path.{◌≡◌, refl, sym, ap, ap₂, ◌∙◌}
use mathlib.Core.List.{List, ◌++◌}
use mathlib.Core.Bool.{true}
use native.Mathlib.Omega.{arith}
use native.Mathlib.Nat.{mul-div_cancel, mul-le-mul_right}
use lib.Pow.{pow_pos}
use lib.ListN.{length, get_or, length-append}
use Rattle.rules.specs.Words.{Near, sum_to}
use Rattle.rules.specs.Flows.{flows, End, port_of, counts_of}
use Rattle.rules.specs.Frames.{run_of, Block, levels}
use Rattle.rules.specs.Rules.{Partnered, Split, Scheduled}
use Rattle.rules.specs.OddShares.{odd_shares, settled}
use Rattle.calls.specs.Work.{odd_flows, block_of, work, EachOnce}
use Rattle.calls.specs.Build.{build_accepts, frame_after}
use Rattle.rules.proofs.Cases.{by_lt}
use Rattle.rules.proofs.Sums.{sum_none, sum_ext, sum_shift, sum_append, sum_add, sum_most, sum_zero}
use Rattle.rules.proofs.Levels.{pow_only, levels_of, power_level, depth_size, depth_fill, double}
use Rattle.rules.proofs.Flows.{counts_length}
use Rattle.rules.proofs.Slots.{AtInputs}
use Rattle.rules.proofs.Cells.{run_all, run_first, run_second}
use Rattle.rules.proofs.Blocks.{number_block, block_numbered}
use Rattle.rules.proofs.OneFrame.{Laid, rules_sound}
use Rattle.calls.proofs.Demand2.{ported_placed, accepts_is, build_frame}

-- ---- the blocks of a frame of 2 ^ k slots, depth by depth
abbrev pub at_depth : ℕ → ℕ → List ℕ → List ℕ → ℕ → ℕ
at_depth ports slots list entries t = sum_to (2 ^ t) (λ b. odd_flows ports list (block_of ports (slots / 2 ^ t) b entries))

abbrev deep : ℕ → ℕ → List ℕ → List ℕ → ℕ
deep ports k list entries = sum_to k (at_depth ports (2 ^ k) list entries)

-- a power of two is 1, or 2 or more
two_most : (j : ℕ) → 0 < j → 2 ≤ 2 ^ j
two_most zero h = absurd (omega arith)
two_most (suc j) h = omega (arith, double j, pow_pos j)

pub each_once : (slots k : ℕ) → slots ≡ 2 ^ k → EachOnce slots k
each_once slots k e = record { block = block; found = found; once = once }
  where
    size_at : (t : ℕ) → t ≤ k → slots / 2 ^ t ≡ 2 ^ (k - t)
    size_at t h = ap (λ n. n / 2 ^ t) e ∙ depth_size k t h

    block : (t b : ℕ) → t < k → b < 2 ^ t → Block slots (b * (slots / 2 ^ t)) (slots / 2 ^ t) × (2 ≤ slots / 2 ^ t)
    block t b h l =
        let z = size_at t (omega arith) in
        (number_block slots k e t b (slots / 2 ^ t) (omega arith) l z, omega (arith, z, two_most (k - t) (omega arith)))

    found : (start size : ℕ) → Block slots start size → 2 ≤ size
        → (t : ℕ) × (b : ℕ) × (t < k) × (b < 2 ^ t) × (size ≡ slots / 2 ^ t) × (start ≡ b * (slots / 2 ^ t))
    found start size b h =
        let n = block_numbered slots k start size e b in
        let z : size ≡ slots / 2 ^ n.depth = n.size ∙ sym (size_at n.depth n.depth_most) in
        let deep : n.depth < k = by_lt n.depth k (λ l. l) (λ l.
        let none : k - n.depth ≡ 0 = omega arith in
        let one : size ≡ 1 = n.size ∙ ap (λ j. 2 ^ j) none in
        absurd (omega arith)) in
        (n.depth, n.number, deep, n.number_most, z, n.start ∙ ap (λ y. n.number * y) z)

    once : (t b u c : ℕ) → t < k → u < k → slots / 2 ^ t ≡ slots / 2 ^ u → b * (slots / 2 ^ t) ≡ c * (slots / 2 ^ u) → (t ≡ u) × (b ≡ c)
    once t b u c h l d f =
        let same : k - t ≡ k - u = pow_only (k - t) (k - u) (sym (size_at t (omega arith)) ∙ d ∙ size_at u (omega arith)) in
        let low : 0 < slots / 2 ^ u = omega (arith, size_at u (omega arith), pow_pos (k - u)) in
        (omega arith, sym (mul-div_cancel b low) ∙ ap (λ n. n / (slots / 2 ^ u)) (sym (ap (λ z. b * z) d) ∙ f) ∙ mul-div_cancel c low)

module _ (ports k : ℕ) (list f g : List ℕ) (lf : length f ≡ 2 ^ k * ports) (lg : length g ≡ 2 ^ k * ports) where
  -- at depth 0 there is the whole frame
  at_top : at_depth ports (2 ^ suc k) list (f ++ g) 0 ≡ odd_flows ports list (f ++ g)
  unfolding sum_to
  at_top =
      let d = double k in
      let size : 2 ^ suc k / 2 ^ 0 ≡ 2 ^ suc k = omega arith in
      let none : 0 * 2 ^ suc k ≡ 0 = omega arith in
      let len : length (f ++ g) ≡ 2 ^ suc k * ports = length-append f g ∙ omega (arith, ap (λ z. z * ports) d) in
      rw (size, none, run_all ports (2 ^ suc k) (f ++ g) len) (omega arith)

  -- at each further depth the blocks of the first half, then those of the second
  at_next : (t : ℕ) → t < k → at_depth ports (2 ^ suc k) list (f ++ g) (suc t) ≡ at_depth ports (2 ^ k) list f t + at_depth ports (2 ^ k) list g t
  at_next t h =
      let odd : ℕ → ℕ → ℕ = λ z b. odd_flows ports list (block_of ports z b (f ++ g)) in
      let z : ℕ = 2 ^ k / 2 ^ t in
      let less : suc k - suc t ≡ k - t = omega arith in
      let size : 2 ^ suc k / 2 ^ suc t ≡ z = depth_size (suc k) (suc t) (omega arith) ∙ ap (λ x. 2 ^ x) less ∙ sym (depth_size k t (omega arith)) in
      let fill : 2 ^ t * z ≡ 2 ^ k = depth_fill k t (omega arith) in
      let two : 2 ^ suc t ≡ 2 ^ t + 2 ^ t = omega (arith, double t) in
      ap₂ (λ (n y : ℕ). sum_to n (odd y)) two size
      ∙ sum_append (2 ^ t) (2 ^ t) (odd z)
      ∙ ap₂ ◌+◌
      (sum_ext (2 ^ t) _ _ (λ b l.
      let m : suc b * z ≤ 2 ^ t * z = mul-le-mul_right z l in
      ap (odd_flows ports list) (run_first ports (2 ^ k) (b * z) z f g lf (omega arith))))
      (sum_ext (2 ^ t) _ _ (λ b l.
      let e : (2 ^ t + b) * z ≡ 2 ^ k + b * z = omega arith in
      ap (λ x. odd_flows ports list (run_of ports x z (f ++ g))) e ∙ ap (odd_flows ports list) (run_second ports (2 ^ k) (b * z) z f g lf)))

  pub deep_halves : deep ports (suc k) list (f ++ g) ≡ odd_flows ports list (f ++ g) + (deep ports k list f + deep ports k list g)
  deep_halves =
      sum_shift k (at_depth ports (2 ^ suc k) list (f ++ g))
      ∙ ap₂ ◌+◌ at_top (sum_ext k _ _ at_next ∙ sum_add k (at_depth ports (2 ^ k) list f) (at_depth ports (2 ^ k) list g))

-- the flows of a block that are odd are its odd counts
odd_load : (ports slots : ℕ) (list m entries : List ℕ) → Laid ports slots list m entries → odd_flows ports list entries ≡ sum_to (flows list) (λ f. get_or m f 0 % 2)
odd_load ports slots list m entries laid = sum_ext (flows list) _ _ (λ f h. ap (λ n. n % 2) (laid.exact f h))

-- ---- counts, split
-- two shares of a count are its smaller and its larger half, in either order
shares_two : (k a b c : ℕ) → a + b ≡ c → Near 1 a b → odd_shares k a + odd_shares k b ≡ odd_shares k (c / 2) + odd_shares k ((c + 1) / 2)
shares_two k a b c e n =
    by_lt b a
    (λ h.
    let x : a ≡ (c + 1) / 2 = omega arith in
    let y : b ≡ c / 2 = omega arith in
    rw (x, y) (omega arith))
    (λ h.
    let x : a ≡ c / 2 = omega arith in
    let y : b ≡ (c + 1) / 2 = omega arith in
    rw (x, y))

-- the odd counts of a matrix, and those of its halves
pub settled_halves : (port : End → ℕ → ℕ) (k : ℕ) (m a b : List ℕ) → Split (Partnered port m) m a b
    → settled (suc k) m ≡ sum_to (length m) (λ p. get_or m p 0 % 2) + (settled k a + settled k b)
unfolding odd_shares settled
settled_halves port k m a b sp =
    let share : List ℕ → ℕ → ℕ = λ l p. odd_shares k (get_or l p 0) in
    let la : settled k a ≡ sum_to (length m) (share a) = ap (λ n. sum_to n (share a)) sp.first_size in
    let lb : settled k b ≡ sum_to (length m) (share b) = ap (λ n. sum_to n (share b)) sp.second_size in
    sum_ext (length m) _ _ (λ p h. ap (λ n. get_or m p 0 % 2 + n) (sym (shares_two k (get_or a p 0) (get_or b p 0) (get_or m p 0) (sp.shared p) (sp.evenly p))))
    ∙ sum_add (length m) (λ p. get_or m p 0 % 2) (λ p. share a p + share b p)
    ∙ ap (λ n. sum_to (length m) (λ p. get_or m p 0 % 2) + n) (sum_add (length m) (share a) (share b) ∙ sym (ap₂ ◌+◌ la lb))

-- ---- whatever meets the rules: the frame's number is the splitting's own
module _ (ports : ℕ) (list : List ℕ) (placed : AtInputs ports (port_of list) (flows list)) where
  rules_deep : (k : ℕ) (m entries : List ℕ) → length m ≡ flows list → Scheduled ports (port_of list) k m entries
      → deep ports k list entries ≡ settled k m
  unfolding Scheduled odd_shares settled
  rules_deep zero m entries size s = sum_none _ ∙ sym (sum_zero (length m) _ (λ p h. refl))
  rules_deep (suc k) m entries size s =
      let sp = s.split in
      let front = rules_sound ports k list s.first s.front (sp.first_size ∙ size) placed s.first_half in
      let back = rules_sound ports k list s.second s.back (sp.second_size ∙ size) placed s.second_half in
      let whole = rules_sound ports (suc k) list m entries size placed s in
      ap (deep ports (suc k) list) s.joined
      ∙ deep_halves ports k list s.front s.back front.0.size back.0.size
      ∙ ap₂ ◌+◌
      (ap (odd_flows ports list) (sym s.joined) ∙ odd_load ports (2 ^ suc k) list m entries whole.0 ∙ ap (λ n. sum_to n (λ p. get_or m p 0 % 2)) (sym size))
      (ap₂ ◌+◌
      (rules_deep k s.first s.front (sp.first_size ∙ size) s.first_half)
      (rules_deep k s.second s.back (sp.second_size ∙ size) s.second_half))
      ∙ sym (settled_halves (port_of list) k m s.first s.second sp)

  pub work_settled : (k : ℕ) (entries : List ℕ) → k ≤ 10
      → Scheduled ports (port_of list) k (counts_of list) entries → work ports (2 ^ k) list entries ≡ settled k (counts_of list)
  unfolding work
  work_settled k entries low s =
      ap (λ n. sum_to n (at_depth ports (2 ^ k) list entries)) (levels_of k low) ∙ rules_deep k (counts_of list) entries (counts_length list) s

-- so is Build's
pub work_built : (ports slots : ℕ) (list limits buffer : List ℕ) → build_accepts ports slots list limits buffer ≡ true
    → work ports slots list (frame_after ports slots list limits buffer) ≡ settled (levels slots) (counts_of list)
work_built ports slots list limits buffer e =
    let a = accepts_is ports slots list limits buffer e in
    let b = build_frame ports slots list limits buffer e in
    let k = levels slots in
    let low : k ≤ 10 = (let n = a.well.power.most in omega (arith, power_level a.well.power)) in
    ap (λ (n : ℕ). work ports n list (frame_after ports slots list limits buffer)) b.1
    ∙ work_settled ports list (ported_placed list a.well.ported) k (frame_after ports slots list limits buffer) low b.0.meets

-- ---- a bound on them, for counts that need not fit: a count has fewer than there are slots
pub shares_less : (k c : ℕ) → odd_shares k c < 2 ^ k
unfolding odd_shares
shares_less zero c = omega arith
shares_less (suc k) c = omega (arith, shares_less k (c / 2), shares_less k ((c + 1) / 2), double k)

pub settled_room : (k : ℕ) (m : List ℕ) → settled k m ≤ length m * 2 ^ k
unfolding settled
settled_room k m = sum_most (length m) (2 ^ k) _ (λ p h. omega (arith, shares_less k (get_or m p 0)))
