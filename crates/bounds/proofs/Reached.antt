-- The bound of each load is reached: a flow alone has the earliest cells of its load, and behind another that fills the input it has the
-- latest. The seam of the two, either way round, strays by twice the stray.
use Prim.Native.Nat.{ℕ, suc, zero, ◌+◌, ◌*◌, ◌-◌, ◌/◌, ◌%◌, ◌^◌, ◌≤◌}
use mathlib.Core.Path.{◌≡◌, refl, ap, ap₂, sym, ◌∙◌}
use mathlib.Core.List.{List, [], ◌∷◌, ◌++◌}
use native.Mathlib.Omega.{arith}
use lib.ListN.{length, get_or, replicate, length-replicate}
use Rattle.rules.specs.Words.{sum_to, Every}
use Rattle.rules.specs.Flows.{port_of, counts_of, flow, load}
use Rattle.rules.specs.Frames.{cells_on, run_of}
use Rattle.rules.specs.Schedule.{slot_of, frame_of}
use Rattle.strays.specs.Stray.{earliest, stray}
use Rattle.wire.specs.Wire.{Call, Carried, none, chain, cells_in, inside, share, Shape}
use Rattle.bounds.specs.Reached.{ReachedBelow, ReachedAbove, StrayReached, NoneSharper, NoneSharperAtAll}
use Rattle.rules.proofs.Lists.{every_map}
use Rattle.rules.proofs.Cases.{by_eq}
use Rattle.rules.proofs.Cells.{run_first, run_second}
use Rattle.rules.proofs.Levels.{double}
use Rattle.rules.proofs.Halves.{load_flow}
use Rattle.strays.proofs.Earliest.{earliest_near, earliest_far, by_half}
use Rattle.strays.proofs.Strays.{stray_is}
use Rattle.strays.proofs.Deviations.{count, count_less, worst}
use Rattle.wire.proofs.Chains.{in_more, in_first, in_rest}
use Rattle.bounds.proofs.OneInput.{listed, listed_counts, second, laid, laid_length, cells_of, alone_halves, full_halves, even_halves, row_cells, row_parts, seam_cells, once, framed, rows_framed}

-- ---- the two frames
-- the cells of the other flow, where it fills the input
abbrev pub others : ℕ → ℕ → ℕ
others j c = 2 ^ j - c

-- the flow's cells in the first t slots where it is alone, and in the last t slots where it comes behind the other
abbrev pub first_of : ℕ → ℕ → ℕ → ℕ → ℕ → ℕ
first_of D C j c t = cells_of D C (run_of 2 0 t (laid D C j 0 c))

abbrev pub last_of : ℕ → ℕ → ℕ → ℕ → ℕ → ℕ
last_of D C j c t = cells_of D C (run_of 2 (2 ^ j - t) t (laid D C j (others j c) c))

module _ (D C : ℕ) where
  -- alone, the first half gets the larger half of the cells
  alone_parts : (j c : ℕ) → laid D C (suc j) 0 c ≡ laid D C j 0 ((c + 1) / 2) ++ laid D C j 0 (c / 2)
  alone_parts j c =
      let x = c / 2 in
      by_eq (c % 2) 0
      (λ e.
      let is : c ≡ 2 * x = omega arith in
      let up : x ≡ (c + 1) / 2 = omega arith in
      ap (laid D C (suc j) 0) is ∙ even_halves D C j 0 x ∙ ap (λ y. laid D C j 0 y ++ laid D C j 0 x) up)
      (λ e.
      let is : c ≡ 2 * x + 1 = omega arith in
      let up : x + 1 ≡ (c + 1) / 2 = omega arith in
      ap (laid D C (suc j) 0) is ∙ alone_halves D C j x ∙ ap (λ y. laid D C j 0 y ++ laid D C j 0 x) up)

  -- behind another, the second half gets it, and the input is full in both halves
  behind_parts : (j c : ℕ) → c ≤ 2 ^ suc j
      → laid D C (suc j) (others (suc j) c) c ≡ laid D C j (others j (c / 2)) (c / 2) ++ laid D C j (others j ((c + 1) / 2)) ((c + 1) / 2)
  behind_parts j c h =
      let x = c / 2 in
      let twice = double j in
      by_eq (c % 2) 0
      (λ e.
      let is : c ≡ 2 * x = omega arith in
      let up : x ≡ (c + 1) / 2 = omega arith in
      let rest : others (suc j) c ≡ 2 * others j x = omega arith in
      ap₂ (laid D C (suc j)) rest is ∙ even_halves D C j (others j x) x ∙ ap (λ y. laid D C j (others j x) x ++ laid D C j (others j y) y) up)
      (λ e.
      let y = 2 ^ j - (x + 1) in
      let is : c ≡ 2 * x + 1 = omega arith in
      let up : x + 1 ≡ (c + 1) / 2 = omega arith in
      let rest : others (suc j) c ≡ 2 * y + 1 = omega arith in
      let more : y + 1 ≡ others j x = omega arith in
      ap₂ (laid D C (suc j)) rest is ∙ full_halves D C j y x
      ∙ ap₂ (λ d z. laid D C j d x ++ laid D C j (others j z) z) more up)

  -- one slot
  first_slot : (c t : ℕ) → c ≤ 1 → t ≤ 1 → first_of D C 0 c t ≡ earliest 0 c t
  unfolding cells_on run_of sum_to port_of slot_of frame_of earliest
  first_slot zero zero h g = refl
  first_slot zero (suc zero) h g = refl
  first_slot (suc zero) zero h g = refl
  first_slot (suc zero) (suc zero) h g = refl
  first_slot zero (suc (suc t)) h g = absurd (omega arith)
  first_slot (suc zero) (suc (suc t)) h g = absurd (omega arith)
  first_slot (suc (suc c)) t h g = absurd (omega arith)

  last_slot : (c t : ℕ) → c ≤ 1 → t ≤ 1 → last_of D C 0 c t ≡ earliest 0 c t
  unfolding cells_on run_of sum_to port_of slot_of frame_of earliest
  last_slot zero zero h g = refl
  last_slot zero (suc zero) h g = refl
  last_slot (suc zero) zero h g = refl
  last_slot (suc zero) (suc zero) h g = refl
  last_slot zero (suc (suc t)) h g = absurd (omega arith)
  last_slot (suc zero) (suc (suc t)) h g = absurd (omega arith)
  last_slot (suc (suc c)) t h g = absurd (omega arith)

  -- so alone it has exactly the earliest in its first slots,
  pub first_is : (j c t : ℕ) → c ≤ 2 ^ j → t ≤ 2 ^ j → first_of D C j c t ≡ earliest j c t
  first_is zero c t h g = first_slot c t h g
  first_is (suc j) c t h g =
      let n = 2 ^ j in
      let twice = double j in
      let x = (c + 1) / 2 in
      let y = c / 2 in
      let v = laid D C j 0 x in
      let w = laid D C j 0 y in
      let parts = alone_parts j c in
      by_half (λ t. first_of D C (suc j) c t ≡ earliest (suc j) c t) j
      (λ t k.
      ap (λ b. cells_of D C (run_of 2 0 t b)) parts ∙ ap (cells_of D C) (run_first 2 n 0 t v w (laid_length D C j 0 x) (omega arith))
      ∙ first_is j x t (omega arith) k ∙ sym (earliest_near j c t k))
      (λ t k.
      ap (λ b. cells_of D C (run_of 2 0 (n + t) b)) parts ∙ seam_cells D C n 0 n t v w (laid_length D C j 0 x) (omega arith)
      ∙ ap₂ ◌+◌ (row_cells D C j 0 x (omega arith)) (first_is j y t (omega arith) k) ∙ sym (earliest_far j c t))
      t g

  -- and behind the other in its last
  pub last_is : (j c t : ℕ) → c ≤ 2 ^ j → t ≤ 2 ^ j → last_of D C j c t ≡ earliest j c t
  last_is zero c t h g = last_slot c t h g
  last_is (suc j) c t h g =
      let n = 2 ^ j in
      let twice = double j in
      let x = (c + 1) / 2 in
      let y = c / 2 in
      let v = laid D C j (others j y) y in
      let w = laid D C j (others j x) x in
      let parts = behind_parts j c h in
      by_half (λ t. last_of D C (suc j) c t ≡ earliest (suc j) c t) j
      (λ t k.
      let s : 2 ^ suc j - t ≡ n + (n - t) = omega arith in
      ap₂ (λ z b. cells_of D C (run_of 2 z t b)) s parts ∙ ap (cells_of D C) (run_second 2 n (n - t) t v w (laid_length D C j (others j y) y))
      ∙ last_is j x t (omega arith) k ∙ sym (earliest_near j c t k))
      (λ t k.
      let s : 2 ^ suc j - (n + t) ≡ n - t = omega arith in
      let r : n + t ≡ t + n = omega arith in
      ap (λ b. cells_of D C (run_of 2 (2 ^ suc j - (n + t)) (n + t) b)) parts ∙ ap₂ (λ z u. cells_of D C (run_of 2 z u (v ++ w))) s r
      ∙ seam_cells D C n (n - t) t n v w (laid_length D C j (others j y) y) (omega arith)
      ∙ omega (arith, last_is j y t (omega arith) k, row_cells D C j (others j x) x (omega arith), earliest_far j c t))
      t g

-- ---- runs over the seam
-- two frames, end to end, with m cells of the flow in each
abbrev pub seam : ℕ → ℕ → ℕ → ℕ → List Carried
seam k m d d' = framed k d m ∷ framed k d' m ∷ []

pub listed_load : (d c : ℕ) → load second (listed d c) ≡ c
listed_load d c = load_flow 1 (port_of (listed d c)) (counts_of (listed d c)) ∙ ap (λ (l : List ℕ). get_or l 1 0) (listed_counts d c)

-- the frames have one shape
pub seam_shape : (k m d d' : ℕ) → Every (Shape 2 (2 ^ k)) (seam k m d d')
seam_shape k m d d' = (record { ports_are = refl; slots_are = refl }, (record { ports_are = refl; slots_are = refl }, tt))

module _ (k m s t r d d' : ℕ) (e : s + t ≡ 2 ^ k) (h : r ≤ 2 ^ k) where
  -- the share is the load times the slots on each side
  over_share : share second 0 (seam k m d d') s (t + r) ≡ m * t + m * r
  unfolding share
  over_share =
      let n = 2 ^ k in
      let x : inside 0 (0 + n) s (t + r) ≡ t = omega arith in
      let y : inside (0 + n) (0 + n + n) s (t + r) ≡ r = omega arith in
      rw (listed_load d m, listed_load d' m) (omega (arith, ap (λ z. m * z) x, ap (λ z. m * z) y))

  -- the cells are those of the two sides
  pub over_cells : cells_in second (seam k m d d') s (t + r) ≡ cells_of d m (run_of 2 s t (laid d m k d m)) + cells_of d' m (run_of 2 0 r (laid d' m k d' m))
  over_cells =
      let n = 2 ^ k in
      let shape = seam_shape k m d d' in
      let at : s + t ≡ n + 0 = omega arith in
      in_more second (seam k m d d') s t r
      ∙ ap₂ ◌+◌
      (in_first second 2 n (framed k d m) (framed k d' m ∷ []) shape.0 (laid_length d m k d m) s t (omega arith))
      (ap (λ z. cells_in second (seam k m d d') z r) at
      ∙ in_rest second 2 n (framed k d m) (framed k d' m ∷ []) shape.0 0 r
      ∙ in_first second 2 n (framed k d' m) [] shape.1.0 (laid_length d' m k d' m) 0 r (omega arith))

-- The calls of the one and of the other.
abbrev pub alone_call : ℕ → ℕ → Call
alone_call k m = once k (listed 0 m)

abbrev pub behind_call : ℕ → ℕ → Call
behind_call k m = once k (listed (others k m) m)

-- both frames have m cells of the flow
pub seam_same : (k m d d' : ℕ) → Every (λ f. load second f.call.list ≡ m) (seam k m d d')
seam_same k m d d' = (listed_load d m, (listed_load d' m, tt))

-- by where the load is furthest above its share
module _ (k m : ℕ) (small : m ≤ 2 ^ k) where
  abbrev pub edge : ℕ
  edge = (stray_is k m).slots

  abbrev pub rest : ℕ
  rest = 2 ^ k - edge

  peak_first : 2 ^ k * first_of 0 m k m edge ≡ edge * m + stray k m
  peak_first = ap (λ z. 2 ^ k * z) (first_is 0 m k m edge small (stray_is k m).most) ∙ (stray_is k m).is

  peak_last : 2 ^ k * last_of (others k m) m k m edge ≡ edge * m + stray k m
  peak_last = ap (λ z. 2 ^ k * z) (last_is (others k m) m k m edge small (stray_is k m).most) ∙ (stray_is k m).is

  -- the run that is left of the first frame after its edge, and of the second before its edge
  pub frames_short : share second 0 (seam k m 0 (others k m)) edge (rest + rest) ≡ 2 ^ k * cells_in second (seam k m 0 (others k m)) edge (rest + rest) + 2 * stray k m
  frames_short =
      let n = 2 ^ k in
      let o = n - m in
      let e = edge in
      let u = rest in
      let most = (stray_is k m).most in
      let f : e + u ≡ n = omega arith in
      let s = over_share k m e u u 0 o f (omega arith) in
      let r = over_cells k m e u u 0 o f (omega arith) in
      let x = row_parts 0 m k 0 m e u (omega arith) f in
      let y = row_parts o m k o m u e (omega arith) (omega arith) in
      let p = peak_first in
      let q = peak_last in
      omega (arith, ap (λ z. n * z) r, ap (λ z. n * z) x, ap (λ z. n * z) y, ap (λ z. z * m) f)

  -- the run from the edge of the one to the edge of the other
  pub frames_long : 2 ^ k * cells_in second (seam k m (others k m) 0) rest (edge + edge) ≡ share second 0 (seam k m (others k m) 0) rest (edge + edge) + 2 * stray k m
  frames_long =
      let n = 2 ^ k in
      let o = n - m in
      let e = edge in
      let u = rest in
      let most = (stray_is k m).most in
      let f : u + e ≡ n = omega arith in
      let s = over_share k m u e e o 0 f (omega arith) in
      let r = over_cells k m u e e o 0 f (omega arith) in
      let p = peak_first in
      let q = peak_last in
      omega (arith, ap (λ z. n * z) r)

  module _ (low : k ≤ 10) (buffer : List ℕ) (size : length buffer ≡ 2 ^ k * 2) where
    -- what the calls put on the wire, in the one order and in the other
    pub short_wire : chain none buffer (alone_call k m ∷ behind_call k m ∷ []) ≡ seam k m 0 (others k m)
    short_wire = rows_framed k 0 m (others k m) m buffer low (omega arith) (omega arith) size

    pub long_wire : chain none buffer (behind_call k m ∷ alone_call k m ∷ []) ≡ seam k m (others k m) 0
    long_wire = rows_framed k (others k m) m 0 m buffer low (omega arith) (omega arith) size

    -- Two calls of Build, both accepted and carried once, and a run over their seam that is short by all of the bound,
    pub reached : ReachedBelow k m buffer
    reached =
        let most = (stray_is k m).most in
        record {
          calls = alone_call k m ∷ behind_call k m ∷ [];
          f = 1;
          start = edge;
          len = rest + rest;
          frames = record {
            two = rw short_wire refl;
            shape = rw short_wire (seam_shape k m 0 (others k m));
            same = rw short_wire (seam_same k m 0 (others k m));
            fits = rw short_wire (omega arith);
          };
          off = rw short_wire (omega (arith, frames_short));
        }

    -- and the other way: the same two calls, the second one first.
    pub reached_above : ReachedAbove k m buffer
    reached_above =
        let most = (stray_is k m).most in
        record {
          calls = behind_call k m ∷ alone_call k m ∷ [];
          f = 1;
          start = rest;
          len = edge + edge;
          frames = record {
            two = rw long_wire refl;
            shape = rw long_wire (seam_shape k m (others k m) 0);
            same = rw long_wire (seam_same k m (others k m) 0);
            fits = rw long_wire (omega arith);
          };
          off = rw long_wire (omega (arith, frames_long));
        }

pub stray_reached : StrayReached
stray_reached k m low small buffer size = (reached k m small low buffer size, reached_above k m small low buffer size)

-- So whatever bound holds of every list of Build calls whose carried frames have m cells of a class is at least twice the stray of m,
pub none_sharper : NoneSharper
none_sharper k m gap h small all =
    let buffer : List ℕ = replicate (2 ^ k * 2) 0 in
    let r = reached k m small h buffer (length-replicate (2 ^ k * 2) 0) in
    let b = all buffer r.calls r.frames.shape r.start r.len r.frames.fits (flow r.f) tt r.frames.same in
    omega (arith, r.off, b.1)

-- and whatever holds whatever the load is at least two deviations.
pub none_sharper_at_all : NoneSharperAtAll
none_sharper_at_all k gap h all =
    let small = count_less k in
    omega (
      arith,
      worst k,
      none_sharper k (count k) gap h (omega arith) (λ buffer calls shape start len fits c of same.
          all buffer calls shape start len fits c of (every_map _ _ (λ f e. tt) (chain none buffer calls) same)),
    )
