-- Queues: how many cells of a flow wait at most, for every list of Build calls.
use Prim.Native.Nat.{ℕ, suc, zero, ◌+◌, ◌*◌, ◌-◌, ◌/◌, ◌^◌, ◌≤◌, ◌<◌, min, max}
use mathlib.Core.Path.{◌≡◌, refl, ap, sym, ◌∙◌}
use mathlib.Core.List.{List, [], ◌∷◌}
use native.Mathlib.Nat.{mul-le-mul_right, mul-le-mul_left, mod-lt, div-add-mod'}
use native.Mathlib.Omega.{arith}
use native.Mathlib.Decide.{dec_le}
use lib.Pow.{pow_pos}
use lib.IntN.{pos, neg_ℤ}
use lib.ListN.{length}
use lib.Signed.{◌≤ℤ◌}
use Rattle.rules.specs.Words.{sum_to, Every}
use Rattle.rules.specs.Flows.{Class, OnSwitch, load, input}
use Rattle.rules.specs.Frames.{cells, repeated}
use Rattle.calls.specs.Service.{lead, lead_on}
use Rattle.strays.specs.Stray.{stray}
use Rattle.wire.specs.Wire.{Carried, none, chain, cells_at, cells_in, inside, share, Shape}
use Rattle.wire.specs.Loads.{load_of, Touches}
use Rattle.bounds.specs.ByLoad.{StrayWithin}
use Rattle.queues.specs.Queue.{waiting, arrived, Paced, HeldOn, Buffers, BuffersAtSeams, BuffersByLead}
use Rattle.rules.proofs.Sums.{sum_ext, sum_append}
use Rattle.rules.proofs.Runs.{cells_repeated, cells_once}
use Rattle.rules.proofs.Integers.{minus_least}
use Rattle.wire.proofs.Chains.{Sound, SoundFrame, good_of, share_split, touches}
use Rattle.wire.proofs.Demand3.{chain_sound}
use Rattle.bounds.proofs.ByLoad.{run_stray, within_at, same_within}

-- ---- the run since the queue was last empty: what waits now arrived in it and has not left
pub record Since (arrive scheduled : ℕ → ℕ) (t : ℕ) : Type 0 where
  pub start : ℕ
  pub len : ℕ
  pub ends : start + len ≡ t
  pub waits : waiting arrive scheduled t + arrived scheduled start len ≤ arrived arrive start len

module _ (arrive scheduled : ℕ → ℕ) where
  pub since : (t : ℕ) → Since arrive scheduled t
  unfolding waiting arrived sum_to
  since zero = record { start = 0; len = 0; ends = refl; waits = omega arith }
  since (suc t) =
      let s = since t in
      elim (dec_le (waiting arrive scheduled t + arrive t) (scheduled t)) as (λ _. Since arrive scheduled (suc t)) [
        | yes h ↦ record { start = suc t; len = 0; ends = omega arith; waits = omega arith }
        | no h ↦ (
            let a : arrive (s.start + s.len) ≡ arrive t = ap arrive s.ends in
            let b : scheduled (s.start + s.len) ≡ scheduled t = ap scheduled s.ends in
            record { start = s.start; len = suc s.len; ends = omega (arith, s.ends); waits = omega (arith, s.waits, a, b) })
      ]

-- ---- a chain in which a flow's load is the same in every frame, or at least so much
inside_parts : (lo hi start end : ℕ) → lo ≤ hi → hi ≤ end → (hi - max lo start) + (end - max hi start) ≡ end - max lo start
inside_parts lo hi start end below above = omega arith

inside_sum : (lo hi end start len : ℕ) → lo ≤ hi → hi ≤ end → inside lo hi start len + inside hi end start len ≡ inside lo end start len
inside_sum lo hi end start len below above =
    elim (dec_le (start + len) hi) as (λ _. inside lo hi start len + inside hi end start len ≡ inside lo end start len) [
      | yes h ↦ (
          let ends : min hi (start + len) ≡ start + len = omega arith in
          let late : min end (start + len) ≡ start + len = omega arith in
          let none : (start + len) - max hi start ≡ 0 = omega arith in
          rw (ends, late, none) (omega arith))
      | no h ↦ (
          let ends : min hi (start + len) ≡ hi = omega arith in
          let low : hi ≤ min end (start + len) = omega arith in
          rw ends (inside_parts lo hi start (min end (start + len)) below low))
    ]

-- where each load is in one relation to m, equal to it or at least as much, the share is in it to m times the slots in the chain
module _ (R : ℕ → ℕ → Type 0) (none : R 0 0) (add : (a b x y : ℕ) → R a b → R x y → R (a + x) (b + y)) (times : (z a b : ℕ) → R a b → R (a * z) (b * z)) where
  share_by : (c : Class) (ports n m : ℕ) (fs : List Carried) → Every (Shape ports n) fs → Every (λ f. R (load c f.call.list) m) fs
      → (lo start len : ℕ) → R (share c lo fs start len) (m * inside lo (lo + length fs * n) start len)
  unfolding share
  share_by c ports n m [] shape all lo start len =
      let e : inside lo (lo + 0 * n) start len ≡ 0 = omega arith in
      let z : m * inside lo (lo + 0 * n) start len ≡ 0 = omega (arith, ap (λ z. m * z) e) in
      rw z none
  share_by c ports n m (f ∷ fs) shape all lo start len =
      let hi = lo + n in
      let end = lo + suc (length fs) * n in
      let tail : hi + length fs * n ≡ end = omega arith in
      let sum : inside lo hi start len + inside hi end start len ≡ inside lo end start len = inside_sum lo hi end start len (omega arith) (omega arith) in
      let parts : m * inside lo end start len ≡ m * inside lo hi start len + m * inside hi end start len = omega (arith, ap (λ z. m * z) sum) in
      let law : R (share c hi fs start len) (m * inside hi end start len) = rw tail at (share_by c ports n m fs shape.1 all.1 hi start len) in
      rw (shape.0.slots_are, parts)
      (add _ _ _ _ (times (inside lo hi start len) (load c f.call.list) m all.0) law)

  -- so the share of a run of the chain is in it to its slots times m
  share_run : (c : Class) (ports k m : ℕ) (fs : List Carried) → Every (Shape ports (2 ^ k)) fs → Every (λ f. R (load c f.call.list) m) fs
      → (start len : ℕ) → start + len ≤ length fs * 2 ^ k → R (share c 0 fs start len) (len * m)
  share_run c ports k m fs shape all start len fits =
      let e : inside 0 (0 + length fs * 2 ^ k) start len ≡ len = omega arith in
      let is : m * inside 0 (0 + length fs * 2 ^ k) start len ≡ len * m = omega (arith, ap (λ z. m * z) e) in
      rw is at (share_by c ports (2 ^ k) m fs shape all 0 start len)

pub share_is : (c : Class) (ports k m : ℕ) (fs : List Carried) → Every (Shape ports (2 ^ k)) fs → Every (λ f. load c f.call.list ≡ m) fs
    → (start len : ℕ) → start + len ≤ length fs * 2 ^ k → share c 0 fs start len ≡ len * m
share_is = share_run (λ a b. a ≡ b) refl (λ a b x y p q. omega arith) (λ z a b p. ap (λ v. v * z) p)

pub share_least : (c : Class) (ports k m : ℕ) (fs : List Carried) → Every (Shape ports (2 ^ k)) fs → Every (λ f. m ≤ load c f.call.list) fs
    → (start len : ℕ) → start + len ≤ length fs * 2 ^ k → len * m ≤ share c 0 fs start len
share_least = share_run (λ a b. b ≤ a) (omega arith) (λ a b x y p q. omega arith) (λ z a b p. mul-le-mul_right z p)

-- a run is two runs end to end
pub share_more : (c : Class) (fs : List Carried) (start len more : ℕ)
    → share c 0 fs start (len + more) ≡ share c 0 fs start len + share c 0 fs (start + len) more
share_more c fs start len more =
    let all : share c 0 fs 0 (start + (len + more)) ≡ share c 0 fs 0 (start + len) + share c 0 fs (start + len) more
    = ap (λ z. share c 0 fs 0 z) (omega arith) ∙ share_split c fs 0 (start + len) more in
    omega (arith, all, share_split c fs 0 start (len + more), share_split c fs 0 start len)

pub arrived_append : (arrive : ℕ → ℕ) (start len more : ℕ) → arrived arrive start (len + more) ≡ arrived arrive start len + arrived arrive (start + len) more
unfolding arrived
arrived_append arrive start len more =
    let same = sum_ext more (λ t. arrive (start + (len + t))) (λ t. arrive (start + len + t)) (λ t l. ap arrive (omega arith)) in
    omega (arith, sum_append len more (λ t. arrive (start + t)))

arrived_one : (arrive : ℕ → ℕ) (start : ℕ) → arrived arrive start 1 ≡ arrive start
unfolding arrived sum_to
arrived_one arrive start = let e : start + 0 ≡ start = omega arith in omega (arith, ap arrive e)

pub arrived_more : (arrive : ℕ → ℕ) (start len : ℕ) → arrived arrive start (len + 1) ≡ arrived arrive start len + arrive (start + len)
arrived_more arrive start len = arrived_append arrive start len 1 ∙ ap (λ z. arrived arrive start len + z) (arrived_one arrive (start + len))

-- what a chain schedules in a run is the run's cells
pub served : (c : Class) (fs : List Carried) (start len : ℕ) → arrived (cells_at c fs) start len ≡ cells_in c fs start len
unfolding arrived cells_in
served c fs start len = refl

-- ---- every slot of a chain of sound frames, where no frame's load strays further than s
module _ (c : Class) (ports k : ℕ) (of : OnSwitch ports c) (fs : List Carried) (good : Every (SoundFrame ports (2 ^ k)) fs)
    (s : ℕ) (within : StrayWithin k s c fs) where
  -- what the run since the queue was last empty may be short by, where it ends in frame b
  abbrev gap : ℕ → ℕ
  gap b = s + stray k (load_of c fs b)

  module _ (a : ℕ) (arrive : ℕ → ℕ) (paced : Paced k a (length fs * 2 ^ k) (share c 0 fs) arrive) (t b : ℕ) (touch : Touches k b t)
      (z : Since arrive (cells_at c fs) t) where
    -- it has been given its share, less that
    given : t ≤ length fs * 2 ^ k → share c 0 fs z.start z.len ≤ 2 ^ k * arrived (cells_at c fs) z.start z.len + gap b
    given h =
        let from = z.start / 2 ^ k in
        let ends = z.ends in
        let near = (run_stray c ports k of fs good z.start z.len (omega arith)).any from b (touches k z.start) (rw ends touch) in
        omega (arith, near.1, within_at k s c fs within from, ap (λ x. 2 ^ k * x) (served c fs z.start z.len))

    after : t ≤ length fs * 2 ^ k → 2 ^ k * waiting arrive (cells_at c fs) t ≤ a + gap b
    after h = omega (arith, given h, paced z.start z.len (omega (arith, z.ends)), mul-le-mul_left (2 ^ k) z.waits)

    before : t < length fs * 2 ^ k → 2 ^ k * (waiting arrive (cells_at c fs) t + arrive t) ≤ a + gap b + share c 0 fs t 1
    before h =
        let last : arrived arrive z.start (z.len + 1) ≡ arrived arrive z.start z.len + arrive t
        = arrived_more arrive z.start z.len ∙ ap (λ x. arrived arrive z.start z.len + arrive x) z.ends in
        let shares : share c 0 fs z.start (z.len + 1) ≡ share c 0 fs z.start z.len + share c 0 fs t 1
        = share_more c fs z.start z.len 1 ∙ ap (λ x. share c 0 fs z.start z.len + share c 0 fs x 1) z.ends in
        omega (
          arith,
          given (omega arith),
          paced z.start (z.len + 1) (omega (arith, z.ends)),
          mul-le-mul_left (2 ^ k) z.waits,
          ap (λ x. 2 ^ k * x) last,
          shares,
        )

  pub chain_held : HeldOn c k (λ t. gap (t / 2 ^ k)) fs (share c 0 fs)
  chain_held a arrive paced t h =
      let z = since arrive (cells_at c fs) in
      let b = t / 2 ^ k in
      let touch = touches k t in
      let next : Touches k b (suc t) = (omega arith, omega (arith, div-add-mod' t (2 ^ k), mod-lt t (pow_pos k))) in
      record { after = omega (arith, after a arrive paced (suc t) b next (z (suc t)) (omega arith)); before = omega (arith, before a arrive paced t b touch (z t) h) }

-- Frames that are legal and balanced, whoever made them, hold a flow that keeps to its share,
pub sound_held : (ports k : ℕ) (fs : List Carried) → Every Sound fs → Every (Shape ports (2 ^ k)) fs → (c : Class) → OnSwitch ports c
    → (s : ℕ) → StrayWithin k s c fs → HeldOn c k (λ t. s + stray k (load_of c fs (t / 2 ^ k))) fs (share c 0 fs)
sound_held ports k fs sound shape c of s within = chain_held c ports k of fs (good_of ports (2 ^ k) fs sound shape) s within

-- and one whose load is the same in each of them.
pub sound_steady : (ports k : ℕ) (fs : List Carried) → Every Sound fs → Every (Shape ports (2 ^ k)) fs → (c : Class) → OnSwitch ports c
    → (m : ℕ) → Every (λ f. load c f.call.list ≡ m) fs → HeldOn c k (λ t. 2 * stray k m) fs (λ start len. len * m)
sound_steady ports k fs sound shape c of m same a arrive paced t h =
    let is = share_is c ports k m fs shape same in
    let within = same_within k m c fs same in
    let law = sound_held ports k fs sound shape c of (stray k m) within a arrive (λ start len fits. omega (arith, paced start len fits, is start len fits)) t h in
    let own = within_at k (stray k m) c fs within (t / 2 ^ k) in
    record { after = omega (arith, law.after); before = omega (arith, law.before, is t 1 (omega arith)) }

-- How deep a buffer to order, where the flow's load is the same in every frame, and where it changes at seams.
pub buffers : Buffers
buffers buffer calls ports k shape c of m same a arrive paced t h =
    let law = sound_steady ports k (chain none buffer calls) (chain_sound buffer calls) shape c of m same a arrive paced t h in
    record { after = omega (arith, law.after); before = omega (arith, law.before) }

pub buffers_at_seams : BuffersAtSeams
buffers_at_seams buffer calls ports k shape c of s within a arrive paced t h =
    let law = sound_held ports k (chain none buffer calls) (chain_sound buffer calls) shape c of s within a arrive paced t h in
    record { after = omega (arith, law.after); before = omega (arith, law.before) }

-- ---- one frame that repeats for ever
module _ (c : Class) (ports slots : ℕ) (list entries : List ℕ) (size : length entries ≡ slots * ports) (least : 1 ≤ slots) where
  -- the cells that it schedules in slot t
  abbrev in_turn : ℕ → ℕ
  in_turn t = cells c ports list (repeated ports slots entries t 1)

  turns_served : (start len : ℕ) → arrived in_turn start len ≡ cells c ports list (repeated ports slots entries start len)
  unfolding arrived
  turns_served start len =
      sum_ext len _ _ (λ t l. cells_once input ports slots list entries size c least (start + t)) ∙ sym (cells_repeated input ports slots list entries size c least start len)

  module _ (b : ℕ) (leads : (start len : ℕ) → neg_ℤ (pos b) ≤ℤ lead c ports slots list entries start len) (a : ℕ) (arrive : ℕ → ℕ)
      (paced : (start len : ℕ) → slots * arrived arrive start len ≤ len * cells c ports list entries + a) (t : ℕ) (s : Since arrive in_turn t) where
    not_behind : (start len : ℕ) → len * cells c ports list entries ≤ slots * cells c ports list (repeated ports slots entries start len) + b
    unfolding lead_on
    not_behind start len = minus_least b _ _ (leads start len)

    left_waiting : slots * waiting arrive in_turn t ≤ a + b
    left_waiting =
        omega (
          arith,
          paced s.start s.len,
          not_behind s.start s.len,
          mul-le-mul_left slots s.waits,
          ap (λ x. slots * x) (turns_served s.start s.len),
        )

    joined_waiting : slots * (waiting arrive in_turn t + arrive t) ≤ a + b + cells c ports list entries
    joined_waiting =
        let last : arrived arrive s.start (s.len + 1) ≡ arrived arrive s.start s.len + arrive t
        = arrived_more arrive s.start s.len ∙ ap (λ z. arrived arrive s.start s.len + arrive z) s.ends in
        omega (
          arith,
          paced s.start (s.len + 1),
          not_behind s.start s.len,
          mul-le-mul_left slots s.waits,
          ap (λ x. slots * x) (turns_served s.start s.len),
          ap (λ x. slots * x) last,
        )

-- How deep a buffer to order while one frame repeats.
pub buffers_by_lead : BuffersByLead
buffers_by_lead c ports slots list entries size least b leads a arrive paced t =
    let s = since arrive (in_turn c ports slots list entries size least) in
    record {
      after = omega (arith, left_waiting c ports slots list entries size least b leads a arrive paced (suc t) (s (suc t)));
      before = omega (arith, joined_waiting c ports slots list entries size least b leads a arrive paced t (s t));
    }
