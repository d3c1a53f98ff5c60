-- Any run of a chain is within the strays of the loads of the frames that it begins and ends in.
use Prim.Native.Nat.{ℕ, suc, zero, ◌+◌, ◌*◌, ◌-◌, ◌/◌, ◌^◌, ◌≤◌}
use mathlib.Core.Path.{◌≡◌, refl, ap, ◌∙◌}
use mathlib.Core.List.{List, [], ◌∷◌}
use native.Mathlib.Nat.{mul-le-mul_left}
use native.Mathlib.Omega.{arith}
use lib.ListN.{length}
use Rattle.rules.specs.Words.{Every}
use Rattle.rules.specs.Flows.{Class, OnSwitch, load}
use Rattle.rules.specs.Frames.{cells, run_of}
use Rattle.strays.specs.Stray.{stray}
use Rattle.strays.specs.Deviation.{deviation}
use Rattle.wire.specs.Wire.{Carried, none, chain, cells_in, Shape}
use Rattle.wire.specs.Loads.{load_of}
use Rattle.bounds.specs.ByLoad.{NearShare, StrayRun, StrayOn, Strays, StrayWithin, AtLeastOn, AtLeast, AtMostOn, AtMost}
use Rattle.bounds.specs.Sharp.{SharpOn, Sharp}
use Rattle.rules.proofs.Cases.{by_lt}
use Rattle.rules.proofs.Lists.{every_map}
use Rattle.strays.proofs.Strays.{stray_has, stray_none}
use Rattle.strays.proofs.Deviations.{stray_deviation}
use Rattle.strays.proofs.Balanced.{at_none, at_all}
use Rattle.strays.proofs.Frames.{least_off, most_off}
use Rattle.wire.proofs.Chains.{Sound, SoundFrame, good_of, none_in, in_more, in_first, in_rest, first_whole, touches, anywhere, at_seam, run_off}
use Rattle.wire.proofs.Demand3.{chain_sound}

-- ---- by the loads of the two frames
module _ (c : Class) (ports k : ℕ) (of : OnSwitch ports c) (fs : List Carried) (good : Every (SoundFrame ports (2 ^ k)) fs) where
  pub run_stray : (start len : ℕ) → start + len ≤ length fs * 2 ^ k → StrayRun c k fs start len
  run_stray start len fits =
      record {
        any = λ a b p q. run_off c ports k of fs good start len _ _ _ (anywhere c ports k of fs good a start p (omega arith)) (anywhere c ports k of fs good b (start + len) q fits) (omega arith);
        begins_frame = λ a b e q. run_off c ports k of fs good start len 0 _ _ (at_seam c ports k of fs good a start e (omega arith)) (anywhere c ports k of fs good b (start + len) q fits) (omega arith);
        ends_frame = λ a b p e. run_off c ports k of fs good start len _ 0 _ (anywhere c ports k of fs good a start p (omega arith)) (at_seam c ports k of fs good b (start + len) e fits) (omega arith);
      }

-- Frames that are legal and balanced, whoever made them,
pub sound_stray : (ports k : ℕ) (fs : List Carried) → Every Sound fs → Every (Shape ports (2 ^ k)) fs → StrayOn ports k fs
sound_stray ports k fs sound shape start len fits c of = run_stray c ports k of fs (good_of ports (2 ^ k) fs sound shape) start len fits

-- and so those of every list of Build calls.
pub strays : Strays
strays buffer calls ports k shape = sound_stray ports k (chain none buffer calls) (chain_sound buffer calls) shape

-- ---- where no frame strays further than s
module _ (k s : ℕ) (c : Class) where
  -- nor does what is beyond the last
  pub within_at : (fs : List Carried) → StrayWithin k s c fs → (b : ℕ) → stray k (load_of c fs b) ≤ s
  unfolding load_of
  within_at [] w b = omega (arith, stray_none k)
  within_at (f ∷ fs) w zero = w.0
  within_at (f ∷ fs) w (suc b) = within_at fs w.1 b

  -- a run is off by at most 2 × s, and by s where it begins or ends with a frame
  pub within_run : (fs : List Carried) (start len : ℕ) → StrayWithin k s c fs → StrayRun c k fs start len
      → NearShare (2 * s) c k fs start len
      × ((b : ℕ) → start ≡ b * 2 ^ k → NearShare s c k fs start len)
      × ((b : ℕ) → start + len ≡ b * 2 ^ k → NearShare s c k fs start len)
  within_run fs start len w r =
      let end = start + len in
      let x = within_at fs w (start / 2 ^ k) in
      let y = within_at fs w (end / 2 ^ k) in (
        (let law = r.any (start / 2 ^ k) (end / 2 ^ k) (touches k start) (touches k end) in (omega arith, omega arith)),
        (λ b e. let law = r.begins_frame b (end / 2 ^ k) e (touches k end) in (omega arith, omega arith)),
        (λ b e. let law = r.ends_frame (start / 2 ^ k) b (touches k start) e in (omega arith, omega arith)),
      )

-- frames with one load of the class stray by that of it
pub same_within : (k m : ℕ) (c : Class) (fs : List Carried) → Every (λ f. load c f.call.list ≡ m) fs → StrayWithin k (stray k m) c fs
same_within k m c fs same = every_map _ _ (λ f e. omega (arith, ap (stray k) e)) fs same

-- none strays further than the deviation
pub all_within : (k : ℕ) (c : Class) (fs : List Carried) → StrayWithin k (deviation k) c fs
all_within k c [] = tt
all_within k c (f ∷ fs) = (stray_deviation k (load c f.call.list), all_within k c fs)

-- so the sharp bound follows, of such frames and of every list of Build calls
pub stray_sharp : (ports k : ℕ) (fs : List Carried) → StrayOn ports k fs → SharpOn ports k fs
stray_sharp ports k fs on start len fits c of =
    let r = within_run k (deviation k) c fs start len (all_within k c fs) (on start len fits c of) in
    record { any = (omega (arith, r.0.0), omega (arith, r.0.1)); begins_frame = r.1; ends_frame = r.2 }

pub sharp : Sharp
sharp buffer calls ports k shape = stray_sharp ports k (chain none buffer calls) (strays buffer calls ports k shape)

-- ---- by a load that every frame has at least, or at most
module _ (c : Class) (ports k : ℕ) (of : OnSwitch ports c) (m : ℕ) where
  abbrev n : ℕ
  n = 2 ^ k

  abbrev AllLeast : List Carried → Type 0
  AllLeast fs = Every (λ f. m ≤ load c f.call.list) fs

  abbrev AllMost : List Carried → Type 0
  AllMost fs = Every (λ f. load c f.call.list ≤ m) fs

  -- the cells of len slots are at most gap below their share of m cells a frame, or above it
  abbrev Apart : ℕ → List Carried → ℕ → ℕ → Type 0
  Apart gap fs start len =
      (AllLeast fs → len * m ≤ n * cells_in c fs start len + gap) × (AllMost fs → n * cells_in c fs start len ≤ len * m + gap)

  -- a run of no slots
  none_apart : (gap : ℕ) (fs : List Carried) (start len : ℕ) → len ≡ 0 → Apart gap fs start len
  none_apart gap fs start len e =
      let cells_none : n * cells_in c fs start len ≡ 0 = omega (arith, ap (λ z. n * cells_in c fs start z) e, ap (λ z. n * z) (none_in c fs start)) in
      let share_none = ap (λ z. z * m) e in
      ((λ h. omega arith), λ h. omega arith)

  -- a run inside the first frame, with t of its slots before it and u behind it
  module _ (f : Carried) (fs : List Carried) (g : SoundFrame ports n f) (t len u : ℕ) (parts : t + len + u ≡ n) where
    inside_cells : n * cells_in c (f ∷ fs) t len ≡ n * cells c ports f.call.list (run_of ports t len f.entries)
    inside_cells = ap (λ z. n * z) (in_first c ports n f fs g.shape g.legal.size t len (omega arith))

    inside_apart : Apart (2 * stray k m) (f ∷ fs) t len
    inside_apart = (
      (λ h. omega (arith, inside_cells, least_off g.legal g.balanced c of k refl m t len u parts h.0 _ _ (stray_has k m t (omega arith)) (stray_has k m u (omega arith)))),
      (λ h. omega (arith, inside_cells, most_off g.legal g.balanced c of k refl m t len u parts h.0 _ _ (stray_has k m (t + len) (omega arith)) (stray_has k m (len + u) (omega arith)))),
    )

    -- one end of which is an end of the frame
    begins_apart : t ≡ 0 → Apart (stray k m) (f ∷ fs) t len
    begins_apart e =
        let all : len + u ≡ n = omega arith in (
          (λ h. omega (arith, inside_cells, least_off g.legal g.balanced c of k refl m t len u parts h.0 0 _ (rw e (at_none k m)) (stray_has k m u (omega arith)))),
          (λ h. omega (arith, inside_cells, most_off g.legal g.balanced c of k refl m t len u parts h.0 _ 0 (stray_has k m (t + len) (omega arith)) (rw all (at_all k m)))),
        )

    ends_apart : u ≡ 0 → Apart (stray k m) (f ∷ fs) t len
    ends_apart e =
        let all : t + len ≡ n = omega arith in (
          (λ h. omega (arith, inside_cells, least_off g.legal g.balanced c of k refl m t len u parts h.0 _ 0 (stray_has k m t (omega arith)) (rw e (at_none k m)))),
          (λ h. omega (arith, inside_cells, most_off g.legal g.balanced c of k refl m t len u parts h.0 0 _ (rw all (at_all k m)) (stray_has k m (len + u) (omega arith)))),
        )

  -- the first slots of a chain
  first_apart : (fs : List Carried) → Every (SoundFrame ports n) fs → (t : ℕ) → t ≤ length fs * n → Apart (stray k m) fs 0 t
  first_apart [] good t fits = none_apart (stray k m) [] 0 t (omega arith)
  first_apart (f ∷ fs) good t fits =
      by_lt n t
      (λ l.
      let r = t - n in
      let at : n + r ≡ t = omega arith in
      let whole : n * cells_in c (f ∷ fs) 0 t ≡ n * load c f.call.list + n * cells_in c fs 0 r
      = ap (λ z. n * cells_in c (f ∷ fs) 0 z) (omega arith) ∙ ap (λ z. n * z) (first_whole c ports n f fs good.0 r) ∙ omega arith in
      let rest = first_apart fs good.1 r (omega arith) in
      let share = ap (λ z. z * m) at in (
        (λ h. omega (arith, whole, share, rest.0 h.1, mul-le-mul_left n h.0)),
        (λ h. omega (arith, whole, share, rest.1 h.1, mul-le-mul_left n h.0)),
      ))
      (λ l. begins_apart f fs good.0 0 t (n - t) (omega arith) refl)

  pub run_apart : (fs : List Carried) → Every (SoundFrame ports n) fs → (start len : ℕ) → start + len ≤ length fs * n → Apart (2 * stray k m) fs start len
  run_apart [] good start len fits = none_apart (2 * stray k m) [] start len (omega arith)
  run_apart (f ∷ fs) good start len fits =
      by_lt start n
      (λ l. by_lt n (start + len)
      (λ g.
      let head = n - start in
      let tail = start + len - n in
      let both : head + tail ≡ len = omega arith in
      let at : start + head ≡ n + 0 = omega arith in
      let sum : n * cells_in c (f ∷ fs) start len ≡ n * cells_in c (f ∷ fs) start head + n * cells_in c fs 0 tail
      = ap (λ z. n * cells_in c (f ∷ fs) start z) (omega arith) ∙ ap (λ z. n * z) (in_more c (f ∷ fs) start head tail)
      ∙ omega (arith, ap (λ z. n * cells_in c (f ∷ fs) z tail) at, ap (λ z. n * z) (in_rest c ports n f fs good.0.shape 0 tail)) in
      let one = ends_apart f fs good.0 start head 0 (omega arith) refl in
      let two = first_apart fs good.1 tail (omega arith) in
      let share = ap (λ z. z * m) both in (
        (λ h. omega (arith, sum, share, one.0 h, two.0 h.1)),
        (λ h. omega (arith, sum, share, one.1 h, two.1 h.1)),
      ))
      (λ g. inside_apart f fs good.0 start len (n - (start + len)) (omega arith)))
      (λ l.
      let s = start - n in
      let at : start ≡ n + s = omega arith in
      let later : n * cells_in c (f ∷ fs) start len ≡ n * cells_in c fs s len
      = ap (λ z. n * cells_in c (f ∷ fs) z len) at ∙ ap (λ z. n * z) (in_rest c ports n f fs good.0.shape s len) in
      let rest = run_apart fs good.1 s len (omega arith) in (
        (λ h. omega (arith, later, rest.0 h.1)),
        (λ h. omega (arith, later, rest.1 h.1)),
      ))

-- Frames that are legal and balanced, whoever made them, and so those of every list of Build calls.
pub sound_least : (ports k : ℕ) (fs : List Carried) → Every Sound fs → Every (Shape ports (2 ^ k)) fs → AtLeastOn ports k fs
sound_least ports k fs sound shape start len fits c of m h =
    omega (arith, (run_apart c ports k of m fs (good_of ports (2 ^ k) fs sound shape) start len fits).0 h)

pub sound_most : (ports k : ℕ) (fs : List Carried) → Every Sound fs → Every (Shape ports (2 ^ k)) fs → AtMostOn ports k fs
sound_most ports k fs sound shape start len fits c of m h =
    omega (arith, (run_apart c ports k of m fs (good_of ports (2 ^ k) fs sound shape) start len fits).1 h)

pub at_least : AtLeast
at_least buffer calls ports k shape = sound_least ports k (chain none buffer calls) (chain_sound buffer calls) shape

pub at_most : AtMost
at_most buffer calls ports k shape = sound_most ports k (chain none buffer calls) (chain_sound buffer calls) shape
