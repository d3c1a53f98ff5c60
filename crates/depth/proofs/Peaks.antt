-- Peaks: that of a block from those of its halves, and those of the whole frame from those of one slot.
use Prim.Native.Nat.{ℕ, suc, ◌+◌, ◌-◌, ◌*◌, ◌/◌, ◌%◌, ◌^◌, ◌≤◌, ◌<◌, max}
use mathlib.Core.Path.{◌≡◌, refl, sym, ap, ap₂, ◌∙◌}
use mathlib.Core.Logic.{◌≢◌}
use native.Mathlib.Omega.{arith}
use native.Mathlib.Nat.{mod-lt, div-add-mod', div-eq_of_lt-le, mul-le-mul_left, mul-le-mul_right, pow-le-pow_right}
use lib.Pow.{pow_pos}
use Rattle.rules.specs.Frames.{levels}
use Rattle.strays.specs.Stray.{earliest, stray}
use Rattle.depth.specs.Steps.{peak, LoadWithin, BothPeaks}
use Rattle.rules.proofs.Cases.{by_eq, by_lt}
use Rattle.rules.proofs.Levels.{double, pow_only, known_power, power_level, power_most}
use Rattle.strays.proofs.Earliest.{earliest_near, earliest_far, earliest_most, earliest_slot, by_half}
use Rattle.strays.proofs.Strays.{furthest_has, furthest_most, furthest_is}

module _ (slots m : ℕ) where
  -- ---- a block and its halves
  module _ (j x : ℕ) where
    abbrev larger : ℕ
    larger = (x + 1) / 2

    abbrev smaller : ℕ
    smaller = x / 2

    -- the peak of the first half, and that of the second behind it
    abbrev over : ℕ
    over = max (peak slots m j larger) (slots * larger + peak slots m j smaller - 2 ^ j * m)

    peak_below : peak slots m (suc j) x ≤ over
    unfolding peak
    peak_below =
        furthest_most slots m (suc j) x over
        (by_half (λ t. slots * earliest (suc j) x t ≤ t * m + over) j
        (λ t h. omega (arith, ap (λ z. slots * z) (earliest_near j x t h), furthest_has slots m j larger t h))
        (λ t h. omega (arith, ap (λ z. slots * z) (earliest_far j x t), furthest_has slots m j smaller t h)))

    peak_above : over ≤ peak slots m (suc j) x
    unfolding peak
    peak_above =
        let a = furthest_is slots m j larger in
        let b = furthest_is slots m j smaller in
        let first = furthest_has slots m (suc j) x a.slots (omega (arith, a.most, double j)) in
        let second = furthest_has slots m (suc j) x (2 ^ j + b.slots) (omega (arith, b.most, double j)) in
        omega (
          arith,
          ap (λ z. slots * z) (earliest_near j x a.slots a.most),
          a.is,
          ap (λ z. slots * z) (earliest_far j x b.slots),
          b.is,
        )

    pub peak_joined : peak slots m (suc j) x ≡ over
    peak_joined = omega (arith, peak_below, peak_above)

  -- no peak is above the block's cells
  pub peak_most : (j x : ℕ) → peak slots m j x ≤ slots * x
  unfolding peak
  peak_most j x = furthest_most slots m j x (slots * x) (λ t h. omega (arith, mul-le-mul_left slots (earliest_most j x t h)))

  -- one slot
  pub peak_slot : (x : ℕ) → peak slots m 0 x ≡ slots * x - m
  unfolding peak
  peak_slot x =
      let above = furthest_has slots m 0 x 1 (omega arith) in
      let below = furthest_most slots m 0 x (slots * x - m) (λ t h.
      let e = ap (λ z. slots * z) (earliest_slot x t h) in
      by_eq t 0 (λ z. omega (arith, ap (λ y. slots * (y * x)) z)) (λ z. let one : t ≡ 1 = omega arith in omega (arith, ap (λ y. slots * (y * x)) one, ap (λ y. y * m) one))) in
      omega (arith, ap (λ z. slots * z) (earliest_slot x 1 (omega arith)))

-- the whole frame
pub peak_whole : (k m : ℕ) → peak (2 ^ k) m k m ≡ stray k m
unfolding peak stray
peak_whole k m = refl

-- a load that fits a power of two slots
pub room_of : {slots m : ℕ} → levels slots < 11 → m ≤ slots → LoadWithin slots m
room_of {slots} p f = record { power = known_power slots (omega (arith, p)); fits = f }

-- ---- the blocks of one size
module _ {slots m size low high : ℕ} (room : LoadWithin slots m) (both : BothPeaks slots m size low high) where
  some : 1 ≤ slots
  some = omega (arith, room.power.is, pow_pos room.power.k)

  few : slots ≤ 1024
  few = power_most room.power

  -- the share of a block, and its whole cells
  abbrev share : ℕ
  share = m * size

  abbrev half : ℕ
  half = share / slots

  half_parts : (half * slots + share % slots ≡ share) × (share % slots < slots)
  half_parts = (div-add-mod' share slots, mod-lt share some)

  pub share_low : m * size ≤ 1048576
  share_low = omega (arith, few, room.fits, mul-le-mul_right size room.fits, mul-le-mul_left slots both.inside, mul-le-mul_right slots few)

  -- no numbers are too large
  pub slots_half : slots * half ≤ 1048576
  slots_half = omega (arith, half_parts.0, share_low)

  pub half_low : half ≤ 1048576
  half_low = omega (arith, slots_half, mul-le-mul_right half some)

  pub more_low : slots * (half + 1) ≤ 1049600
  more_low = omega (arith, slots_half, few)

  pub low_low : low ≤ 1048576
  low_low = omega (arith, both.low_is, peak_most slots m both.j half, slots_half)

  pub high_low : high ≤ 1049600
  high_low = omega (arith, both.high_is, peak_most slots m both.j (half + 1), more_low)

  -- ---- twice the size
  share_is : 2 ^ both.j * m ≡ share
  share_is = omega (arith, ap (λ z. m * z) both.size_is)

  module _ (less : size < slots) where
    next_size : size * 2 ≡ 2 ^ suc both.j
    next_size = omega (arith, both.size_is, double both.j)

    next_inside : size * 2 ≤ slots
    next_inside =
        by_lt both.j room.power.k
        (λ l. omega (arith, next_size, room.power.is, pow_rises l))
        (λ l. absurd (omega (arith, both.size_is, room.power.is, pow_falls l)))
      where
        pow_rises : both.j < room.power.k → 2 ^ suc both.j ≤ 2 ^ room.power.k
        pow_rises l = pow-le-pow_right (omega arith) l

        pow_falls : room.power.k ≤ both.j → 2 ^ room.power.k ≤ 2 ^ both.j
        pow_falls l = pow-le-pow_right (omega arith) l

    -- a block of twice the size has twice the cells of its half, one more or two more
    module _ (x : ℕ) (first second : ℕ) (up : (x + 1) / 2 ≡ first) (down : x / 2 ≡ second) where
      joined_is : (a b : ℕ) → a ≡ peak slots m both.j first → b ≡ peak slots m both.j second
          → max a (slots * first + b - share) ≡ peak slots m (suc both.j) x
      joined_is a b p q =
          sym (peak_joined slots m both.j x
          ∙ ap₂ (λ y z. max (peak slots m both.j y) (slots * y + peak slots m both.j z - 2 ^ both.j * m)) up down
          ∙ ap₂ (λ y z. max y (slots * first + z - 2 ^ both.j * m)) (sym p) (sym q) ∙ ap (λ z. max a (slots * first + b - z)) share_is)

    odd_is : max high (slots * (half + 1) + low - share) ≡ peak slots m (suc both.j) (half * 2 + 1)
    odd_is = joined_is (half * 2 + 1) (half + 1) half (omega arith) (omega arith) high low both.high_is both.low_is

    -- the whole cells of twice the share
    twice_is : m * (size * 2) / slots ≡ share * 2 / slots
    twice_is = ap (λ z. z / slots) (omega arith)

    pub even_next : {even odd : ℕ} → share * 2 / slots ≡ half * 2 → even ≡ max low (slots * half + low - share) → odd ≡ max high (slots * (half + 1) + low - share)
        → BothPeaks slots m (size * 2) even odd
    even_next e p q =
        let cells = twice_is ∙ e in
        record {
          j = suc both.j;
          size_is = next_size;
          inside = next_inside;
          low_is = p ∙ joined_is (half * 2) half half (omega arith) (omega arith) low low both.low_is both.low_is ∙ ap (peak slots m (suc both.j)) (sym cells);
          high_is = q ∙ odd_is ∙ ap (λ z. peak slots m (suc both.j) (z + 1)) (sym cells);
        }

    pub odd_next : {odd more : ℕ} → share * 2 / slots ≢ half * 2 → odd ≡ max high (slots * (half + 1) + low - share) → more ≡ max high (slots * (half + 1) + high - share)
        → BothPeaks slots m (size * 2) odd more
    odd_next n p q =
        let parts = half_parts in
        let cells : m * (size * 2) / slots ≡ half * 2 + 1 = twice_is ∙ by_lt (share % slots * 2) slots
        (λ l. absurd (n (div-eq_of_lt-le slots (omega (arith, parts.0)) (omega (arith, parts.0)))))
        (λ l. div-eq_of_lt-le slots (omega (arith, parts.0)) (omega (arith, parts.0, parts.1))) in
        let two : half * 2 + 1 + 1 ≡ half * 2 + 2 = omega arith in
        record {
          j = suc both.j;
          size_is = next_size;
          inside = next_inside;
          low_is = p ∙ odd_is ∙ ap (peak slots m (suc both.j)) (sym cells);
          high_is = q ∙ joined_is (half * 2 + 2) (half + 1) (half + 1) (omega arith) (omega arith) high high both.high_is both.high_is
              ∙ ap (peak slots m (suc both.j)) (sym (ap (λ z. z + 1) cells ∙ two));
        }

-- ---- from one slot to the whole frame
module _ {slots m : ℕ} (room : LoadWithin slots m) where
  -- there is a slot, and no number is too large
  pub record WholeLow : Type 0 where
    pub some_slot : 1 ≤ slots
    pub few_slots : slots ≤ 1024
    pub whole_cells : m / slots ≤ 1024
    pub least : m ≤ slots * (m / slots + 1)
    pub most : slots * (m / slots + 1) ≤ 2048

  pub whole_low : WholeLow
  whole_low =
      let one : 1 ≤ slots = omega (arith, room.power.is, pow_pos room.power.k) in
      let low = power_most room.power in
      let parts = div-add-mod' m slots in
      let part = mod-lt m one in
      let fits = room.fits in
      record {
        some_slot = one;
        few_slots = low;
        whole_cells = omega (arith, mul-le-mul_right (m / slots) one);
        least = omega arith;
        most = omega arith;
      }

  pub slot_start : {high : ℕ} → high ≡ slots * (m / slots + 1) - m → BothPeaks slots m 1 0 high
  slot_start e =
      let least : 1 ≤ slots = omega (arith, room.power.is, pow_pos room.power.k) in
      let same : m * 1 / slots ≡ m / slots = ap (λ z. z / slots) (omega arith) in
      record {
        j = 0;
        size_is = refl;
        inside = least;
        low_is = sym (ap (peak slots m 0) same ∙ peak_slot slots m (m / slots) ∙ omega (arith, div-add-mod' m slots));
        high_is = e ∙ sym (ap (λ z. peak slots m 0 (z + 1)) same ∙ peak_slot slots m (m / slots + 1));
      }

  pub whole_stray : {size low high : ℕ} → BothPeaks slots m size low high → slots ≤ size → low ≡ stray (levels slots) m
  whole_stray {size} both more =
      let least : 1 ≤ slots = omega (arith, room.power.is, pow_pos room.power.k) in
      let k = room.power.k in
      let full : size ≡ slots = omega (arith, both.inside) in
      let deep : both.j ≡ k = pow_only both.j k (sym both.size_is ∙ full ∙ room.power.is) in
      let all : m * size / slots ≡ m = ap (λ z. m * z / slots) full ∙ div-eq_of_lt-le slots (omega arith) (omega arith) in
      both.low_is
      ∙ ap₂ (peak slots m) deep all ∙ ap (λ z. peak z m k m) room.power.is ∙ peak_whole k m ∙ ap (λ z. stray z m) (sym (power_level room.power))

-- each size is nearer to the slots
pub closer : {slots m size low high : ℕ} → BothPeaks slots m size low high → size < slots → slots - size * 2 < slots - size
closer both less = omega (arith, both.size_is, pow_pos both.j)
