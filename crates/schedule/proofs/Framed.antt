-- The entries of a block, from those of its halves.
use Prim.Native.Nat.{ℕ, suc, ◌+◌, ◌-◌, ◌*◌, ◌/◌, ◌^◌, ◌≤◌, ◌<◌}
use mathlib.Core.Path.{◌≡◌, refl, sym, ap, ap₂, ◌∙◌}
use mathlib.Core.Logic.{◌≢◌}
use mathlib.Core.List.{List, ◌++◌, append-nil}
use native.Mathlib.Omega.{arith}
use native.Mathlib.Nat.{le_refl, pow-suc, pow-le-pow_right, mul-le-mul, mul_assoc, mul_comm}
use mir.Syntax.{w64}
use mir.Val.{Fits}
use borrow.Rule.Slice.PartMut.{put_mid}
use lib.ListN.{length, take, drop, replicate, length-append, length-replicate, replicate-append-replicate}
use lib.Pow.{pow_pos}
use lib.Seq.{length-take-le, take-length, drop-length, take_at, drop_at}
use Rattle.rules.specs.Flows.{End}
use Rattle.rules.specs.Schedule.{half_of, slot_of, frame_of}
use Rattle.rules.proofs.Levels.{pow_less}
use Rattle.rules.proofs.OneFrame.{frame_length}
use Rattle.planes.specs.Planes.{counts_in}
use Rattle.halves.specs.Steps.{HalfPlanes}
use Rattle.halves.proofs.Halved.{halved_counts}
use Rattle.planes.specs.Tables.{tabled}
use Rattle.split.specs.Steps.{Favours}
use Rattle.split.proofs.Divided.{half_is}
use Rattle.schedule.specs.Steps.{InputsBelow}

-- ---- the entries of a block, all idle
pub blank_length : (ports m : ℕ) (f : List ℕ) → f ≡ replicate (2 ^ m * ports) 0 → length f ≡ 2 ^ m * ports
blank_length ports m f e = ap length e ∙ length-replicate {A = ℕ} (2 ^ m * ports) 0

-- they have room for the inputs of a slot
pub inputs_in : (ports m n : ℕ) (ends f : List ℕ) → f ≡ replicate (2 ^ m * ports) 0 → InputsBelow ports n ends → InputsBelow (length f) n ends
inputs_in ports m n ends f b h p l = omega (arith, h p l, blank_length ports m f b, mul-le-mul (pow_pos m) (le_refl ports))

pub all_blank : (ports m : ℕ) (f : List ℕ) → f ≡ replicate (2 ^ m * ports) 0 → f ≡ replicate (length f) 0
all_blank ports m f b = b ∙ ap (λ (n : ℕ). replicate n 0) (sym (blank_length ports m f b))

-- ---- a block of one slot
one_slot : (ports m : ℕ) (f : List ℕ) → m ≡ 0 → f ≡ replicate (2 ^ m * ports) 0 → length f ≡ ports
one_slot ports m f e b = blank_length ports m f b ∙ ap (λ (k : ℕ). 2 ^ k * ports) e ∙ omega arith

pub frame_one : (ports m n : ℕ) (planes ends f g : List ℕ) → m ≡ 0 → f ≡ replicate (2 ^ m * ports) 0 → g ≡ slot_of (length f) (tabled ends) (counts_in 1 planes n)
    → g ≡ frame_of ports (tabled ends) m (counts_in (suc m) planes n)
unfolding frame_of
frame_one ports m n planes ends f g e b h =
    h
    ∙ ap (λ (l : ℕ). slot_of l (tabled ends) (counts_in 1 planes n)) (one_slot ports m f e b)
    ∙ ap (λ (k : ℕ). frame_of ports (tabled ends) k (counts_in (suc k) planes n)) (sym e)

-- ---- a block of more, which is longer than its halves,
pub shorter : (m t : ℕ) → 1 ≤ m → 2 ^ m ≡ t → 2 ^ (m - 1) < t
shorter m t some e = omega (arith, pow_less (m - 1) m (omega arith))

-- and whose halves are written into the halves of its entries
pub half_counts : {h m n : ℕ} {planes ends mask old half : List ℕ} → Favours h n planes ends mask → h ≢ 0
    → HalfPlanes m n planes mask old half → 1 ≤ m → counts_in (suc (m - 1)) half n ≡ half_of (tabled ends) h (counts_in (suc m) planes n)
half_counts {m = m} {n} {half = half} v one w some =
    let up : suc (m - 1) ≡ m = omega arith in
    ap (λ (k : ℕ). counts_in k half n) up ∙ halved_counts w ∙ half_is v one m

frame_more : (ports : ℕ) (port : End → ℕ → ℕ) (k : ℕ) (m : List ℕ)
    → frame_of ports port k (half_of port 1 m) ++ frame_of ports port k (half_of port 2 m) ≡ frame_of ports port (suc k) m
unfolding frame_of
frame_more ports port k m = refl

pub mid_length : (f : List ℕ) → length f / 2 ≡ length (take (length f / 2) f)
mid_length f = sym (length-take-le (length f / 2) f (omega arith))

-- the first d entries of a list were written, e, and then the others, g
module _ (f e : List ℕ) (d : ℕ) (l : length e ≡ d) where
  back_length : length (e ++ drop d f) - d ≡ length (drop d f)
  back_length = omega (arith, length-append e (drop d f))

  back_is : take (length (e ++ drop d f) - d) (drop d (e ++ drop d f)) ≡ drop d f
  back_is = ap₂ (λ (n : ℕ) (t : List ℕ). take n t) back_length (drop_at e (drop d f) d l) ∙ take-length (drop d f)

  both_put : (g : List ℕ) → put_mid d (length (e ++ drop d f) - d) (e ++ drop d f) g ≡ e ++ g
  both_put g =
      ap₂ (λ (n : ℕ) (t : List ℕ). take d (e ++ drop d f) ++ (g ++ drop n t)) back_length (drop_at e (drop d f) d l)
      ∙ ap₂ (λ (t u : List ℕ). t ++ (g ++ u)) (take_at e (drop d f) d l) (drop-length (drop d f))
      ∙ ap (λ (t : List ℕ). e ++ t) (append-nil g)

module _ (ports m : ℕ) (f : List ℕ) (blank : f ≡ replicate (2 ^ m * ports) 0) where
  -- an entry is two bytes
  pub mid_fits : m ≤ 10 → ports ≤ 16 → Fits w64 (length f / 2 * 2)
  mid_fits h k =
      let size : 2 ^ m ≤ 2 ^ 10 = pow-le-pow_right (omega arith) {j = 10} h in
      omega (arith, mul-le-mul size k, blank_length ports m f blank)

  -- as many entries as there were
  pub framed_size : (port : End → ℕ → ℕ) (c e : List ℕ) → e ≡ frame_of ports port m c → length e ≡ length f
  framed_size port c e h = ap length h ∙ frame_length ports port m c ∙ sym (blank_length ports m f blank)

  module _ (some : 1 ≤ m) where
    abbrev part : List ℕ
    part = replicate (2 ^ (m - 1) * ports) 0

    up : suc (m - 1) ≡ m
    up = omega arith

    two_parts : f ≡ part ++ part
    two_parts =
        let half = 2 ^ (m - 1) * ports in
        let twice : 2 ^ m * ports ≡ 2 * half =
        ap (λ (x : ℕ). x * ports) (ap (λ (k : ℕ). 2 ^ k) (sym up) ∙ pow-suc 2 (m - 1) ∙ mul_comm (2 ^ (m - 1)) 2) ∙ mul_assoc 2 (2 ^ (m - 1)) ports in
        let sum : 2 ^ m * ports ≡ half + half = omega arith in
        blank ∙ ap (λ (n : ℕ). replicate n 0) sum ∙ sym (replicate-append-replicate half half 0)

    part_length : length part ≡ 2 ^ (m - 1) * ports
    part_length = length-replicate {A = ℕ} (2 ^ (m - 1) * ports) 0

    mid_is : length f / 2 ≡ 2 ^ (m - 1) * ports
    mid_is = omega (arith, ap length two_parts, length-append part part, part_length)

    pub front_blank : take (length f / 2) f ≡ part
    front_blank = ap₂ (λ (n : ℕ) (t : List ℕ). take n t) mid_is two_parts ∙ take_at part part (2 ^ (m - 1) * ports) part_length

    rest_blank : drop (length f / 2) f ≡ part
    rest_blank = ap₂ (λ (n : ℕ) (t : List ℕ). drop n t) mid_is two_parts ∙ drop_at part part (2 ^ (m - 1) * ports) part_length

    -- where the rules' entries of the first half are written
    module _ (port : End → ℕ → ℕ) (a e : List ℕ) (ee : e ≡ frame_of ports port (m - 1) a) where
      front_length : length e ≡ length f / 2
      front_length = ap length ee ∙ frame_length ports port (m - 1) a ∙ sym mid_is

      pub still_room : length f / 2 ≤ length (e ++ drop (length f / 2) f)
      still_room = omega (arith, front_length, length-append e (drop (length f / 2) f))

      pub back_blank : take (length (e ++ drop (length f / 2) f) - length f / 2) (drop (length f / 2) (e ++ drop (length f / 2) f)) ≡ part
      back_blank = back_is f e (length f / 2) front_length ∙ rest_blank

      pub written : (c b g : List ℕ) → a ≡ half_of port 1 c → b ≡ half_of port 2 c → g ≡ frame_of ports port (m - 1) b
          → put_mid (length f / 2) (length (e ++ drop (length f / 2) f) - length f / 2) (e ++ drop (length f / 2) f) g ≡ frame_of ports port m c
      written c b g ha hb eg =
          both_put f e (length f / 2) front_length g
          ∙ ap₂ ◌++◌ (ee ∙ ap (frame_of ports port (m - 1)) ha) (eg ∙ ap (frame_of ports port (m - 1)) hb)
          ∙ frame_more ports port (m - 1) c
          ∙ ap (λ (k : ℕ). frame_of ports port k c) up
