-- Latest: the longest wait is reached, by the seam of Reached, and at the head of the queue by one with a count that is odd all the way down.
use Prim.Native.Nat.{ℕ, suc, zero, ◌+◌, ◌*◌, ◌/◌, ◌-◌, ◌^◌, ◌≤◌, ◌<◌}
use mathlib.Core.Path.{◌≡◌, ap, ap₂, ◌∙◌}
use mathlib.Core.List.{List, [], ◌∷◌}
use native.Mathlib.Nat.{mul-le-mul_left, mul-le-mul_right, div-eq_of_lt-le}
use native.Mathlib.Omega.{arith}
use lib.Pow.{pow_pos, pow-add}
use lib.ListN.{length}
use Rattle.strays.specs.Stray.{earliest}
use Rattle.strays.specs.Deviation.{deviation}
use Rattle.wire.specs.Wire.{cells_in}
use Rattle.queues.specs.Wait.{HasAtLeast, by_demand3, by_stray, least_enough, FewerThan, WaitReached, DemandWaitReached, HeadReached}
use Rattle.rules.proofs.Levels.{double}
use Rattle.strays.proofs.Earliest.{earliest_far}
use Rattle.strays.proofs.Strays.{stray_is}
use Rattle.strays.proofs.Forms.{earliest_one}
use Rattle.strays.proofs.Deviations.{deviation_most, count, count_less, worst}
use Rattle.bounds.proofs.OneInput.{second, row_whole, row_parts}
use Rattle.bounds.proofs.Reached.{others, first_is, last_is, seam, seam_shape, seam_same, over_cells, edge, rest, frames_short, alone_call, behind_call, short_wire}
use Rattle.queues.proofs.Queues.{share_is}

-- ---- the numbers
-- the load is about a third of the frame or two thirds
count_third : (j : ℕ) → (2 ^ j ≤ 3 * count j + 1) × (3 * count j + 1 ≤ 2 * 2 ^ j)
unfolding count
count_third zero = (omega arith, omega arith)
count_third (suc j) = let r = count_third j in (omega (arith, r.1, double j, count_less j), omega (arith, r.0, double j, count_less j))

count_some : (k : ℕ) → 1 ≤ k → 1 ≤ count k
count_some zero h = absurd (omega arith)
count_some (suc j) h = omega (arith, (count_third (suc j)).0, double j, pow_pos j)

-- demand 3's bound is at most half a frame's slots above the sharp one
near_demand : (j m : ℕ) → by_demand3 (suc j) m ≤ 6 * deviation (suc j) + 2 ^ j
unfolding deviation
near_demand zero m = omega arith
near_demand (suc zero) m = omega arith
near_demand (suc (suc j)) m =
    let n = 2 ^ j in
    let one : 2 ^ suc j ≡ 2 * n = double j in
    let two : 2 ^ suc (suc j) ≡ 4 * n = omega (arith, double (suc j)) in
    let three : 2 ^ suc (suc (suc j)) ≡ 8 * n = omega (arith, double (suc (suc j))) in
    omega (
      arith,
      near_demand (suc j) m,
      near_demand j m,
      ap (λ z. (2 * suc j + 1) * z) one,
      ap (λ z. (2 * suc (suc j) + 1) * z) two,
      ap (λ z. (2 * suc (suc (suc j)) + 1) * z) three,
    )

-- which is less than three times the load that strays as far
near_count : (k : ℕ) → 1 ≤ k → by_demand3 k (count k) < by_stray k (count k) + 3 * count k
near_count zero h = absurd (omega arith)
near_count (suc j) h =
    let least = count_some (suc j) h in
    omega (arith, worst (suc j), near_demand j (count (suc j)), (count_third (suc j)).0, double j)

-- ---- a count that is odd all the way down
-- a count of 2 ^ (d + 1) - 1 has 1 in the last of the blocks of 2 ^ i slots, and that in its first slot: it is all in the slots but for the
-- 2 ^ i - 1 farthest
abbrev most : ℕ → ℕ
most d = 2 ^ (d + 1) - 1

abbrev filled : ℕ → ℕ → ℕ
filled i d = 2 ^ (d + i) - (2 ^ i - 1)

-- it does not fill the frame
most_less : (i d : ℕ) → 1 ≤ i → most d < 2 ^ (d + i)
most_less i d h =
    let power : 2 ^ (d + i) ≡ 2 ^ (d + 1) * 2 ^ (i - 1) = ap (λ z. 2 ^ z) (omega arith) ∙ pow-add 2 (d + 1) (i - 1) in
    let least = mul-le-mul_left (2 ^ (d + 1)) (pow_pos (i - 1)) in
    omega (arith, pow_pos (d + 1))

-- nor is a block longer than the frame
block_most : (i d : ℕ) → 2 ^ i ≤ 2 ^ (d + i)
block_most i d = omega (arith, pow-add 2 d i, mul-le-mul_right (2 ^ i) (pow_pos d))

-- the earliest of it are all in those slots
all_in : (i d : ℕ) → 1 ≤ i → earliest (d + i) (most d) (filled i d) ≡ most d
all_in i zero h =
    let z : 0 + i ≡ i = omega arith in
    let p : 2 ^ i - (2 ^ i - 1) ≡ 1 = omega (arith, pow_pos i) in
    rw (z, p) (earliest_one i)
all_in i (suc d) h =
    let x = most d in
    let t = filled i d in
    let p = pow_pos (d + 1) in
    let q = block_most i d in
    let next : suc d + i ≡ suc (d + i) = omega arith in
    let up : suc d + 1 ≡ suc (d + 1) = omega arith in
    let twice : most (suc d) ≡ 2 * x + 1 = omega (arith, ap (λ z. 2 ^ z) up, double (d + 1)) in
    let later : filled i (suc d) ≡ 2 ^ (d + i) + t = omega (arith, ap (λ z. 2 ^ z) next, double (d + i)) in
    let half : (2 * x + 1 + 1) / 2 ≡ x + 1 = omega arith in
    let other : (2 * x + 1) / 2 ≡ x = omega arith in
    ap₂ (earliest (suc d + i)) twice later ∙ ap (λ z. earliest z (2 * x + 1) (2 ^ (d + i) + t)) next ∙ earliest_far (d + i) (2 * x + 1) t
    ∙ ap₂ (λ y z. y + earliest (d + i) z t) half other ∙ omega (arith, all_in i d h)

-- ---- runs over the seam
-- both frames have m cells of the flow
seam_has : (k m : ℕ) → m ≤ 2 ^ k → HasAtLeast m second 2 (seam k m 0 (others k m))
seam_has k m h = (omega (arith, row_whole 0 m k 0 m (omega arith)), (omega (arith, row_whole (2 ^ k - m) m k (2 ^ k - m) m (omega arith)), tt))

-- the run that is short by all of the bound is one slot shorter than the longest wait for one cell more than it has
module _ (k m : ℕ) (one : 1 ≤ m) (small : m ≤ 2 ^ k) (low : k ≤ 10) (buffer : List ℕ) (size : length buffer ≡ 2 ^ k * 2) where
  seam_wait : (gap : ℕ) → by_stray k m ≤ gap → gap < by_stray k m + 3 * m → (w : ℕ) × (1 ≤ w) × FewerThan k m w (least_enough gap k m w - 1) buffer
  seam_wait gap above below =
      let s = edge k m small in
      let r = rest k m small in
      let frames = seam k m 0 (others k m) in
      let n = cells_in second frames s (r + r) in
      let short = frames_short k m small in
      let most = (stray_is k m).most in
      let share_of_is = share_is second 2 k m frames (seam_shape k m 0 (others k m)) (seam_same k m 0 (others k m)) s (r + r) (omega arith) in
      let before : 3 * 2 ^ k * (suc n - 1) ≡ 3 * 2 ^ k * n = ap (λ z. 3 * 2 ^ k * z) (omega arith) in
      let same : (gap + 3 * 2 ^ k * (suc n - 1)) / (3 * m) ≡ r + r = div-eq_of_lt-le (3 * m) (omega arith) (omega arith) in
      let is : least_enough gap k m (suc n) - 1 ≡ r + r = omega arith in
      let wire = short_wire k m small low buffer size in (
        suc n,
        omega arith,
        record {
          calls = alone_call k m ∷ behind_call k m ∷ [];
          f = 1;
          start = s;
          shape = rw wire (seam_shape k m 0 (others k m));
          has = rw wire (seam_has k m small);
          fits = rw (wire, is) (omega arith);
          few = rw (wire, is) (omega arith);
        },
      )

pub wait_reached : WaitReached
wait_reached k m low one small buffer size = seam_wait k m one small low buffer size (by_stray k m) (omega arith) (omega arith)

pub demand_wait_reached : DemandWaitReached
demand_wait_reached k one low buffer size =
    let m = count k in
    let near = near_count k one in
    let small = count_less k in
    let r = seam_wait k m (count_some k one) (omega arith) low buffer size (by_demand3 k m) (omega (arith, worst k, deviation_most k)) near in
    (m, r.0, r.1, r.2)

-- from the last cell of the one frame to the first of the other there are two blocks of 2 ^ i slots less two slots
pub head_reached : HeadReached
head_reached i d least low buffer size =
    let k = d + i in
    let m = most d in
    let f = filled i d in
    let u = 2 ^ i - 1 in
    let less = most_less i d least in
    let q = block_most i d in
    let p = pow_pos i in
    let len : 2 * 2 ^ i - 2 ≡ u + u = omega arith in
    let o = 2 ^ k - m in
    let all = all_in i d least in
    let a = first_is 0 m k m f (omega arith) (omega arith) ∙ all in
    let b = last_is o m k m f (omega arith) (omega arith) ∙ all in
    let x = row_parts 0 m k 0 m f u (omega arith) (omega arith) in
    let y = row_parts o m k o m u f (omega arith) (omega arith) in
    let back : 2 ^ k - f ≡ u = omega arith in
    let r = over_cells k m f u u 0 o (omega arith) (omega arith) in
    let wire = short_wire k m (omega arith) low buffer size in
    record {
      calls = alone_call k m ∷ behind_call k m ∷ [];
      f = 1;
      start = f;
      shape = rw wire (seam_shape k m 0 o);
      has = rw wire (seam_has k m (omega arith));
      fits = rw (wire, len) (omega arith);
      few = rw (wire, len) (omega (arith, r, rw back at b));
    }
