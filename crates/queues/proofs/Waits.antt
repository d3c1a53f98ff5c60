-- Waits: a run that is long enough has w cells, and a cell that was w-th in its queue has left after it.
use Prim.Native.Nat.{ℕ, suc, zero, ◌+◌, ◌*◌, ◌-◌, ◌^◌, ◌≤◌, ◌<◌, min}
use mathlib.Core.Path.{◌≡◌, refl, ap, ap₂, sym, ◌∙◌}
use mathlib.Core.Logic.{◌≢◌}
use mathlib.Core.List.{List, [], ◌∷◌, ◌++◌}
use native.Mathlib.Nat.{mul-le-mul_left, div-lt_iff_lt-mul, lt-mul-div-succ, add-zero, add-suc}
use native.Mathlib.Omega.{arith}
use lib.ListN.{length, get_or, drop}
use Rattle.rules.specs.Words.{up_from, sum_to, Every}
use Rattle.rules.specs.Flows.{Class, OnSwitch, load}
use Rattle.wire.specs.Wire.{Carried, none, chain, cells_at, cells_in, share, Shape}
use Rattle.queues.specs.Queue.{waiting, queue, arrived, sent}
use Rattle.queues.specs.Wait.{HasAtLeast, by_demand3, by_stray, Leaves, Suffices, WaitsOn, LongestWait, least_enough, Least, LeastWait, PacedOn, PacedWait}
use Rattle.rules.proofs.Cases.{by_lt}
use Rattle.rules.proofs.Sums.{sum_append}
use Rattle.rules.proofs.Legal.{legal_exact}
use Rattle.strays.proofs.Deviations.{deviation_most, stray_deviation}
use Rattle.wire.proofs.Chains.{Sound, SoundFrame, good_of}
use Rattle.wire.proofs.Demand3.{chain_sound}
use Rattle.bounds.proofs.ByLoad.{run_stray, within_run, sound_least}
use Rattle.queues.proofs.Queues.{since, share_least, share_more, arrived_append, served}
use Rattle.queues.proofs.Rows.{kept}
use Rattle.rules.proofs.Kept.{up_add}

-- ---- numbers in a row
up_same : (a b n m : ℕ) → a ≡ b → n ≡ m → up_from a n ≡ up_from b m
up_same a b n m e f = ap₂ up_from e f

up_drop : (d a n : ℕ) → drop d (up_from a n) ≡ up_from (a + min n d) (n - d)
up_drop zero a n = up_same a (a + min n 0) n (n - 0) (omega arith) (omega arith)
up_drop (suc d) a zero = let e : 0 - suc d ≡ 0 = omega arith in rw e
up_drop (suc d) a (suc n) = up_drop d (suc a) n ∙ up_same (suc a + min n d) (a + min (suc n) (suc d)) (n - d) (suc n - suc d) (omega arith) (omega arith)

up_at : (a n x : ℕ) → x < n → get_or (up_from a n) x 0 ≡ a + x
up_at a zero x h = absurd (omega arith)
up_at a (suc n) zero h = sym (add-zero a)
up_at a (suc n) (suc x) h = up_at (suc a) n x (omega arith) ∙ omega arith

up_length : (a n : ℕ) → length (up_from a n) ≡ n
up_length a zero = refl
up_length a (suc n) = ap suc (up_length (suc a) n)

up_above : (x a n : ℕ) → x < a → Every (λ y. y ≢ x) (up_from a n)
up_above x a zero h = tt
up_above x a (suc n) h = (λ e. omega arith, up_above x (suc a) n (omega arith))

-- ---- the queue cell by cell
module _ (arrive scheduled : ℕ → ℕ) where
  -- how many cells the first t slots sent
  abbrev gone : ℕ → ℕ
  gone t = sum_to t (sent arrive scheduled)

  -- every cell that arrived has been sent or waits
  gone_waits : (t : ℕ) → gone t + waiting arrive scheduled t ≡ sum_to t arrive
  unfolding waiting sum_to
  gone_waits zero = refl
  gone_waits (suc t) = omega (arith, gone_waits t, kept arrive scheduled t)

  -- those that wait are the next after those that were sent
  queue_is : (t : ℕ) → queue arrive scheduled t ≡ up_from (gone t) (waiting arrive scheduled t)
  unfolding queue waiting sum_to
  queue_is zero = refl
  queue_is (suc t) =
      let w = waiting arrive scheduled t in
      ap₂ (λ q a. drop (scheduled t) (q ++ up_from a (arrive t))) (queue_is t) (sym (gone_waits t))
      ∙ ap (drop (scheduled t)) (sym (up_add (gone t) w (arrive t)))
      ∙ up_drop (scheduled t) (gone t) (w + arrive t)

  -- so its cells are as many as wait
  pub queue_waits : (t : ℕ) → length (queue arrive scheduled t) ≡ waiting arrive scheduled t
  queue_waits t = ap length (queue_is t) ∙ up_length (gone t) (waiting arrive scheduled t)

  -- and one that was sent is none of them
  nowhere : (t x : ℕ) → x < gone t → Every (λ cell. cell ≢ x) (queue arrive scheduled t)
  nowhere t x h = rw (queue_is t) (up_above x (gone t) (waiting arrive scheduled t) h)

  module _ (t w : ℕ) (many : w ≤ waiting arrive scheduled t) where
    -- what waited has been sent or waits still
    waits_on : (len : ℕ) → w ≤ arrived (sent arrive scheduled) t len + waiting arrive scheduled (t + len)
    unfolding arrived sum_to
    waits_on zero = rw (add-zero t) (omega arith)
    waits_on (suc len) = rw (add-suc t len) (omega (arith, waits_on len, kept arrive scheduled (t + len)))

    -- as many as are scheduled are sent, or at least w
    sent_least : (len : ℕ) → min w (arrived scheduled t len) ≤ arrived (sent arrive scheduled) t len
    unfolding arrived sum_to
    sent_least zero = omega arith
    sent_least (suc len) = omega (arith, sent_least len, waits_on len)

    -- so the cell that was w-th has left where at least w are scheduled
    pub leaves_after : (len : ℕ) → 1 ≤ w → w ≤ arrived scheduled t len → Leaves arrive scheduled t w len
    unfolding arrived
    leaves_after len least enough =
        let is : get_or (queue arrive scheduled t) (w - 1) 0 ≡ gone t + (w - 1)
        = ap (λ q. get_or q (w - 1) 0) (queue_is t) ∙ up_at (gone t) (waiting arrive scheduled t) (w - 1) (omega arith) in
        nowhere (t + len) _ (omega (arith, is, sent_least len, sum_append t len (sent arrive scheduled)))

-- ---- lengths
-- the least length that is long enough
pub longest_least : (gap k m w : ℕ) → 1 ≤ m → Least gap k m w (least_enough gap k m w)
longest_least gap k m w h =
    let a = gap + 3 * 2 ^ k * (w - 1) in
    record {
      enough = omega (arith, lt-mul-div-succ a {b = 3 * m} (omega arith));
      none_less = λ other e. omega (arith, (div-lt_iff_lt-mul {k = 3 * m} {x = a} {y = other} (omega arith)).1 (omega (arith, e)));
    }

pub longest_only : (gap k m w len : ℕ) → 1 ≤ m → Least gap k m w len → len ≡ least_enough gap k m w
longest_only gap k m w len h l =
    let is = longest_least gap k m w h in
    omega (arith, l.none_less (least_enough gap k m w) is.enough, is.none_less len l.enough)

-- in sound frames a class has what is reserved for it
module _ (c : Class) (ports k : ℕ) (of : OnSwitch ports c) where
  reserved : (m : ℕ) (fs : List Carried) → Every (SoundFrame ports (2 ^ k)) fs → HasAtLeast m c ports fs → Every (λ f. m ≤ load c f.call.list) fs
  reserved m [] good has = tt
  reserved m (f ∷ fs) good has = (omega (arith, has.0, legal_exact good.0.legal c), reserved m fs good.1 has.1)

  -- where every run has w cells, a cell that was w-th has left after it
  pub suffices : (fs : List Carried) → Every (SoundFrame ports (2 ^ k)) fs → (w len : ℕ) → 1 ≤ w
      → ((start : ℕ) → start + len ≤ length fs * 2 ^ k → w ≤ cells_in c fs start len) → Suffices c k fs w len
  suffices fs good w len least runs =
      record { runs = runs; leaves = λ arrive t fits many. leaves_after arrive _ t w many len least (omega (arith, runs t fits, served c fs t len)) }

-- Frames that are legal and balanced, whoever made them, keep the longest wait by the bound of the load, and so by any that is no less.
pub sound_waits : (gap : ℕ → ℕ → ℕ) → ((k m : ℕ) → by_stray k m ≤ gap k m)
    → (ports k : ℕ) (fs : List Carried) → Every Sound fs → Every (Shape ports (2 ^ k)) fs → WaitsOn gap ports k fs
sound_waits gap wide ports k fs sound shape c of m w one least has len enough = suffices c ports k of fs good w len least runs
  where
    good : Every (SoundFrame ports (2 ^ k)) fs
    good = good_of ports (2 ^ k) fs sound shape

    runs : (start : ℕ) → start + len ≤ length fs * 2 ^ k → w ≤ cells_in c fs start len
    runs start fits =
        let n = cells_in c fs start len in
        let most = sound_least ports k fs sound shape start len fits c of m (reserved c ports k of m fs good has) in
        by_lt n w
        (λ h. let few : 2 ^ k * n ≤ 2 ^ k * (w - 1) = mul-le-mul_left (2 ^ k) (omega arith) in absurd (omega (arith, most, enough, wide k m)))
        (λ h. h)

-- The longest wait over every list of Build calls, by the bound of the load, and by demand 3's, which is no less.
pub stray_wait : LongestWait by_stray
stray_wait buffer calls ports k shape = sound_waits by_stray (λ k m. omega arith) ports k (chain none buffer calls) (chain_sound buffer calls) shape

pub longest_wait : LongestWait by_demand3
longest_wait buffer calls ports k shape =
    sound_waits by_demand3 (λ k m. omega (arith, stray_deviation k m, deviation_most k)) ports k (chain none buffer calls) (chain_sound buffer calls) shape

-- So the least length that is long enough suffices, by the one and by the other.
pub least_wait : (gap : ℕ → ℕ → ℕ) → LongestWait gap → LeastWait gap
least_wait gap waits buffer calls ports k shape c of m w one least has = waits buffer calls ports k shape c of m w one least has _ (longest_least (gap k m) k m w one).enough

-- ---- a flow that keeps to its share
-- Of a flow that keeps to its share with an allowance no cell waits longer than its allowance and twice what the loads stray come to.
pub sound_paced : (ports k : ℕ) (fs : List Carried) → Every Sound fs → Every (Shape ports (2 ^ k)) fs → PacedOn ports k fs
sound_paced ports k fs sound shape c of s within m has a arrive paced len enough t w fits least many =
    leaves_after arrive scheduled t w many len least (omega (arith, all_sent))
  where
    good : Every (SoundFrame ports (2 ^ k)) fs
    good = good_of ports (2 ^ k) fs sound shape

    scheduled : ℕ → ℕ
    scheduled = cells_at c fs

    -- since the queue was last empty no more came than the share of those slots and the allowance, and from then to the end of the next len no
    -- less is given than their share, less what its two ends stray
    all_sent : waiting arrive scheduled t ≤ arrived scheduled t len
    all_sent =
        let z = since arrive scheduled t in
        let inside : z.start + (z.len + len) ≤ length fs * 2 ^ k = omega (arith, z.ends, fits) in
        let near = (within_run k s c fs z.start (z.len + len) within (run_stray c ports k of fs good z.start (z.len + len) inside)).0 in
        let given : arrived scheduled z.start z.len + arrived scheduled t len ≡ cells_in c fs z.start (z.len + len)
        = omega (
          arith,
          served c fs z.start (z.len + len),
          arrived_append scheduled z.start z.len len,
          ap (λ x. arrived scheduled x len) z.ends,
        ) in
        let most = share_least c ports k m fs shape (reserved c ports k of m fs good has) t len fits in
        by_lt (arrived scheduled t len) (waiting arrive scheduled t)
        (λ h.
        absurd
        (omega (
          arith,
          near.1,
          most,
          enough,
          paced z.start z.len (omega (arith, inside)),
          share_more c fs z.start z.len len,
          ap (λ x. share c 0 fs x len) z.ends,
          mul-le-mul_left (2 ^ k) z.waits,
          mul-le-mul_left (2 ^ k) h,
          ap (λ x. 2 ^ k * x) given,
        )))
        (λ h. h)

pub paced_wait : PacedWait
paced_wait buffer calls ports k shape = sound_paced ports k (chain none buffer calls) (chain_sound buffer calls) shape
