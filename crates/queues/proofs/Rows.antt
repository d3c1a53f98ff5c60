-- Rows: what a switch sends keeps to the flow's share, so the next switch holds it, and so does every one after that.
use Prim.Native.Nat.{ℕ, suc, zero, ◌+◌, ◌*◌, ◌-◌, ◌^◌, ◌≤◌}
use mathlib.Core.Path.{◌≡◌, ap}
use mathlib.Core.List.{List, [], ◌∷◌}
use native.Mathlib.Nat.{mul-le-mul_right, mul-le-mul_left}
use native.Mathlib.Omega.{arith}
use lib.Dec.{ltb}
use lib.ListN.{length}
use borrow.Author.Tests.{le-ltb, lt-ltb}
use Rattle.rules.specs.Words.{if, sum_to, Every}
use Rattle.rules.specs.Flows.{Class, OnSwitch}
use Rattle.strays.specs.Stray.{stray}
use Rattle.wire.specs.Wire.{Carried, none, chain, cells_at, share}
use Rattle.bounds.specs.ByLoad.{StrayWithin}
use Rattle.queues.specs.Queue.{waiting, arrived, Paced, sent}
use Rattle.queues.specs.Row.{Sends, Hop, frames_at, scheduled_at, Reserved, onward, HeldAlong, Row}
use Rattle.rules.proofs.Cases.{by_lt}
use Rattle.rules.proofs.Sums.{sum_append, sum_le}
use Rattle.wire.proofs.Chains.{SoundFrame, good_of, at_beyond}
use Rattle.wire.proofs.Demand3.{chain_sound}
use Rattle.bounds.proofs.ByLoad.{run_stray, within_run, same_within}
use Rattle.queues.proofs.Queues.{served, share_is, sound_steady}

module _ (arrive scheduled : ℕ → ℕ) where
  -- no cell is lost: what waits, with what arrives, is sent or waits on
  pub kept : (t : ℕ) → sent arrive scheduled t + waiting arrive scheduled (suc t) ≡ waiting arrive scheduled t + arrive t
  unfolding waiting
  kept t = omega arith

  -- in any run what is sent is at most what is scheduled
  pub sent_most : (start len : ℕ) → arrived (sent arrive scheduled) start len ≤ arrived scheduled start len
  unfolding arrived
  sent_most start len = sum_le len _ _ (λ t h. omega arith)

-- ---- a chain of sound frames
module _ (c : Class) (ports k : ℕ) (of : OnSwitch ports c) (fs : List Carried) (good : Every (SoundFrame ports (2 ^ k)) fs)
    (s : ℕ) (within : StrayWithin k s c fs) (arrive : ℕ → ℕ) where
  abbrev scheduled : ℕ → ℕ
  scheduled = cells_at c fs

  pub chain_sends : Paced k (2 * s) (length fs * 2 ^ k) (share c 0 fs) (sent arrive scheduled)
  chain_sends start len fits =
      let near = (within_run k s c fs start len within (run_stray c ports k of fs good start len fits)).0 in
      omega (
        arith,
        near.0,
        mul-le-mul_left (2 ^ k) (sent_most arrive scheduled start len),
        ap (λ x. 2 ^ k * x) (served c fs start len),
      )

  -- where the flow's load is the same in every frame, that holds of any run, for nothing is sent after the last frame
  module _ (m : ℕ) (is : (start len : ℕ) → start + len ≤ length fs * 2 ^ k → share c 0 fs start len ≡ len * m) where
    beyond : (t : ℕ) → length fs * 2 ^ k ≤ t → sent arrive scheduled t ≡ 0
    beyond t h = omega (arith, at_beyond c ports (2 ^ k) fs good t h)

    pub always : (start len : ℕ) → 2 ^ k * arrived (sent arrive scheduled) start len ≤ len * m + 2 * s
    unfolding arrived sum_to
    always start zero = omega arith
    always start (suc len) =
        by_lt (start + len) (length fs * 2 ^ k)
        (λ h. omega (arith, chain_sends start (suc len) (omega arith), is start (suc len) (omega arith)))
        (λ h. omega (arith, always start len, ap (λ x. 2 ^ k * x) (beyond (start + len) h)))

-- ---- later by some slots
module _ (leave : ℕ → ℕ) (delay : ℕ) where
  abbrev late : ℕ → ℕ
  late t = if (ltb t delay) 0 (leave (t - delay))

  late_first : (t : ℕ) → sum_to t late ≡ sum_to (t - delay) leave
  unfolding sum_to
  late_first zero = let e : 0 - delay ≡ 0 = omega arith in rw e
  late_first (suc t) =
      by_lt t delay
      (λ h.
      let none : t - delay ≡ 0 = omega arith in
      let more : suc t - delay ≡ 0 = omega arith in
      rw (lt-ltb t delay h, more) (omega (arith, rw none at (late_first t))))
      (λ h.
      let more : suc t - delay ≡ suc (t - delay) = omega arith in
      rw (le-ltb t delay h, more) (omega (arith, late_first t)))

  -- what keeps to a pace keeps to it when it comes later
  late_paced : (k m a : ℕ) → ((start len : ℕ) → 2 ^ k * arrived leave start len ≤ len * m + a)
      → (start len : ℕ) → 2 ^ k * arrived late start len ≤ len * m + a
  unfolding arrived
  late_paced k m a paced start len =
      let from = start - delay in
      let on = (start + len - delay) - from in
      let whole : sum_to (start + len - delay) leave ≡ sum_to (from + on) leave = ap (λ z. sum_to z leave) (omega arith) in
      let same : sum_to len (λ t. late (start + t)) ≡ sum_to on (λ t. leave (from + t))
      = omega (arith, sum_append start len late, sum_append from on leave, late_first (start + len), late_first start) in
      let less : on * m ≤ len * m = mul-le-mul_right m (omega arith) in
      omega (arith, paced from on, ap (λ z. 2 ^ k * z) same)

-- ---- a row
-- In no run of its chain does a switch send more than the run's share and twice what its frames' loads may stray.
pub sends : Sends
sends buffer calls ports k shape c of =
    chain_sends c ports k of (chain none buffer calls) (good_of ports (2 ^ k) (chain none buffer calls) (chain_sound buffer calls) shape)

module _ (k m : ℕ) where
  -- so what comes to the next switch is paced with that allowance,
  pub onward_paced : (h : Hop) → Reserved k m h → (arrive : ℕ → ℕ) (slots : ℕ) → Paced k (2 * stray k m) slots (λ start len. len * m) (onward h arrive)
  onward_paced h r arrive slots start len fits =
      let good = good_of h.ports (2 ^ k) (frames_at h) (chain_sound h.buffer h.calls) r.shape in
      let is = share_is h.flow h.ports k m (frames_at h) r.shape r.steady in
      let within = same_within k m h.flow (frames_at h) r.steady in
      late_paced (sent arrive (scheduled_at h)) h.delay k m (2 * stray k m)
      (always h.flow h.ports k r.flow_of (frames_at h) good (stray k m) within arrive m is) start len

  -- and every switch after the first holds the flow.
  pub row_held : (a : ℕ) → 2 * stray k m ≤ a → (h : Hop) (hops : List Hop) → Every (Reserved k m) (h ∷ hops) → (arrive : ℕ → ℕ)
      → HeldAlong k m a hops (onward h arrive)
  row_held a enough h [] r arrive = tt
  row_held a enough h (g ∷ hops) r arrive = (
    sound_steady g.ports k (frames_at g) (chain_sound g.buffer g.calls) r.1.0.shape g.flow r.1.0.flow_of m r.1.0.steady
        a (onward h arrive) (λ start len fits. omega (arith, onward_paced h r.0 arrive (start + len) start len (omega arith))),
    row_held a enough g hops r.1 (onward h arrive),
  )

pub row : Row
row k m h hops r arrive = row_held k m _ (omega arith) h hops r arrive
