-- Switches in a row, through which a flow goes one after the other: what each holds of it does not grow along the row.
use Rattle.std.specs.Prelude.{ℕ, ◌*◌, ◌-◌, ◌^◌, ◌<◌, ◌≡◌, List, [], ◌∷◌, ltb, length}
use Rattle.rules.specs.Words.{if, Every}
use Rattle.rules.specs.Flows.{Class, OnSwitch, load}
use Rattle.strays.specs.Stray.{stray}
use Rattle.wire.specs.Wire.{Call, Carried, none, chain, cells_at, share, Shape, EveryChain}
use Rattle.bounds.specs.ByLoad.{StrayWithin}
use Rattle.queues.specs.Queue.{Paced, Held, sent}

-- In no run of its chain does a switch send more than the run's share and 2 × s, whatever came to it, where no frame's load strays further
-- than s.
abbrev pub Sends : Type 0
Sends =
    EveryChain
    (λ ports k frames.
    (c : Class) → OnSwitch ports c → (s : ℕ) → StrayWithin k s c frames → (arrive : ℕ → ℕ)
    → Paced k (2 * s) (length frames * 2 ^ k) (share c 0 frames) (sent arrive (cells_at c frames)))

-- A switch of the row: its frame buffer and its list of Build calls, its ports, the flow as it is counted there, and how many
-- slots later what it sends is at the next switch.
pub record Hop : Type 0 where
  pub buffer : List ℕ
  pub calls : List Call
  pub ports : ℕ
  pub flow : Class
  pub delay : ℕ

abbrev pub frames_at : Hop → List Carried
frames_at h = chain none h.buffer h.calls

-- What its frames schedule for the flow; after the last of them, nothing.
abbrev pub scheduled_at : Hop → ℕ → ℕ
scheduled_at h = cells_at h.flow (frames_at h)

-- Its frames are as in demand 3, of 2 ^ k slots, and the flow's load is m in each of them.
pub record Reserved (k m : ℕ) (h : Hop) : Type 0 where
  pub shape : Every (Shape h.ports (2 ^ k)) (frames_at h)
  pub flow_of : OnSwitch h.ports h.flow
  pub steady : Every (λ f. load h.flow f.call.list ≡ m) (frames_at h)

-- What comes to the switch after h in slot t: what h sent delay slots before, and nothing in the first delay slots.
abbrev pub onward : Hop → (ℕ → ℕ) → ℕ → ℕ
onward h arrive t = if (ltb t h.delay) 0 (sent arrive (scheduled_at h) (t - h.delay))

-- Each switch of the row holds the flow with the allowance a, in every slot of its chain; arrive is what comes to the first.
abbrev pub HeldAlong : ℕ → ℕ → ℕ → List Hop → (ℕ → ℕ) → Type 0
HeldAlong k m a [] arrive = Unit {0}
HeldAlong k m a (h ∷ hops) arrive =
    ((t : ℕ) → t < length (frames_at h) * 2 ^ k → Held k a (2 * stray k m) (λ start len. len * m) arrive (scheduled_at h) t)
    × HeldAlong k m a hops (onward h arrive)

-- Behind a switch, whatever comes to that one, every switch of a row of any length holds the flow with the allowance 2 × stray k m: after
-- each slot at most 4 × stray k m parts of 1 / 2 ^ k of a cell wait, at the last switch as at the second.
abbrev pub Row : Type 0
Row =
    (k m : ℕ) (h : Hop) (hops : List Hop) → Every (Reserved k m) (h ∷ hops)
    → (arrive : ℕ → ℕ) → HeldAlong k m (2 * stray k m) hops (onward h arrive)
