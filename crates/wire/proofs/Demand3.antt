-- Demand 3: every list of Build calls is accurate on the wire.
use Prim.Native.Nat.{ℕ, ◌+◌, ◌*◌, ◌/◌, ◌^◌}
use mathlib.Core.Path.{◌≡◌, refl, subst, sym}
use mathlib.Core.List.{List, [], ◌∷◌}
use mathlib.Core.Bool.{Bool, true, false}
use native.Mathlib.Omega.{arith}
use Rattle.rules.specs.Words.{Every}
use Rattle.calls.specs.Build.{build_accepts, frame_after}
use Rattle.strays.specs.Deviation.{deviation}
use Rattle.wire.specs.Wire.{Call, Carried, Last, none, last, carry, next, chain, Shape, Accurate, Demand3}
use Rattle.wire.specs.Loads.{load_of}
use Rattle.rules.proofs.Lists.{every_append, every_replicate}
use Rattle.strays.proofs.Deviations.{deviation_most, stray_deviation}
use Rattle.calls.specs.Demand2.{Allows}
use Rattle.calls.proofs.Demand2.{accepts_is, build_sound, build_keeps}
use Rattle.wire.proofs.Chains.{Sound, good_of, touches, anywhere, run_off}

-- Frames that are legal and balanced, whoever made them, are accurate end to end: each end of a run strays by a deviation at most.
pub sound_accurate : (ports k : ℕ) (fs : List Carried) → Every Sound fs → Every (Shape ports (2 ^ k)) fs → Accurate ports k fs
sound_accurate ports k fs sound shape start len fits c of =
    let good = good_of ports (2 ^ k) fs sound shape in
    let end = start + len in
    let one = anywhere c ports k of fs good (start / 2 ^ k) start (touches k start) (omega arith) in
    let two = anywhere c ports k of fs good (end / 2 ^ k) end (touches k end) fits in
    let low = stray_deviation k (load_of c fs (start / 2 ^ k)) in
    let high = stray_deviation k (load_of c fs (end / 2 ^ k)) in
    omega (arith, run_off c ports k of fs good start len _ _ (2 * deviation k) one two (omega arith), deviation_most k)

-- ---- what holds of every frame that an accepted Build leaves holds of every one that a list of Build calls carries
module _ (P : Carried → Type 0)
    (built : (c : Call) (buffer : List ℕ) → build_accepts c.ports c.slots c.list c.limits buffer ≡ true
    → P (record { call = c; entries = frame_after c.ports c.slots c.list c.limits buffer })) where
  abbrev Known : Last → List ℕ → Type 0
  Known none buffer = Unit {0}
  Known (last call) buffer = P (record { call = call; entries = buffer })

  carry_every : (l : Last) (buffer : List ℕ) (times : ℕ) → Known l buffer → Every P (carry l buffer times)
  carry_every none buffer times p = tt
  carry_every (last call) buffer times p = every_replicate P times _ p

  known : (c : Call) (l : Last) (buffer : List ℕ) (a : Bool)
      → build_accepts c.ports c.slots c.list c.limits buffer ≡ a → Known l buffer → Known (next a c l) (frame_after c.ports c.slots c.list c.limits buffer)
  known c l buffer true e p = built c buffer e
  known c l buffer false e p = subst (Known l) (sym (build_keeps c.ports c.slots c.list c.limits buffer e)) p

  pub chain_every : (l : Last) (buffer : List ℕ) (calls : List Call) → Known l buffer → Every P (chain l buffer calls)
  unfolding chain
  chain_every l buffer [] p = tt
  chain_every l buffer (c ∷ calls) p =
      let ok = build_accepts c.ports c.slots c.list c.limits buffer in
      let after = frame_after c.ports c.slots c.list c.limits buffer in
      let q : Known (next ok c l) after = known c l buffer ok refl p in
      every_append P (carry (next ok c l) after c.times) (chain (next ok c l) after calls)
      (carry_every (next ok c l) after c.times q) (chain_every (next ok c l) after calls q)

-- such a frame is sound,
pub chain_sound : (buffer : List ℕ) (calls : List Call) → Every Sound (chain none buffer calls)
chain_sound buffer calls =
    chain_every Sound (λ c buffer e. build_sound c.ports c.slots c.list c.limits buffer e) none buffer calls tt

-- and no link of it is asked for more than the limit that its call gave.
abbrev pub Allowed : Carried → Type 0
Allowed f = Allows f.call.ports f.call.list f.call.limits

pub chain_allowed : (buffer : List ℕ) (calls : List Call) → Every Allowed (chain none buffer calls)
chain_allowed buffer calls =
    chain_every Allowed (λ c buffer e. (accepts_is c.ports c.slots c.list c.limits buffer e).allowed) none buffer calls tt

-- Demand 3.
pub accurate : Demand3
accurate buffer calls ports k shape = sound_accurate ports k (chain none buffer calls) (chain_sound buffer calls) shape
