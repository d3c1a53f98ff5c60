-- The line of a link, slower than the switch, and how deep the buffer at its card has to be.
use Rattle.std.specs.Prelude.{ℕ, suc, ◌+◌, ◌*◌, ◌^◌, ◌≤◌, ◌<◌, length, get_or}
use Rattle.rules.specs.Words.{Every}
use Rattle.rules.specs.Flows.{link}
use Rattle.strays.specs.Stray.{stray}
use Rattle.wire.specs.Wire.{cells_at, EveryChain}
use Rattle.queues.specs.Queue.{waiting, arrived, sent}

-- A line takes m cells a frame: in no run of the first slots does it take fewer than the run's share of them, less an allowance b,
-- both in parts of 1 / 2 ^ k of a cell.
abbrev pub Takes : ℕ → ℕ → ℕ → ℕ → (ℕ → ℕ) → Type 0
Takes k m b slots line = (start len : ℕ) → start + len ≤ slots → len * m ≤ 2 ^ k * arrived line start len + b

-- What comes from the switch in a slot joins before the line takes that slot's cells. After slot t at most b + 2 × stray k m parts of
-- 1 / 2 ^ k of a cell wait at the card, and just before its cells leave at most m more.
pub record HeldAtLink (k m b : ℕ) (come line : ℕ → ℕ) (t : ℕ) : Type 0 where
  pub after : 2 ^ k * waiting come line (suc t) ≤ b + 2 * stray k m
  pub before : 2 ^ k * (waiting come line t + come t) ≤ b + 2 * stray k m + m

-- How deep a buffer to order for a link: for every chain that demand 3 covers, where no call whose frame is carried gave the link a
-- limit above m, whatever comes to the switch, and the line takes m cells a frame.
abbrev pub LinkBuffers : Type 0
LinkBuffers =
    EveryChain
    (λ ports k frames.
    (x m : ℕ) → x < ports * 4 → Every (λ f. get_or f.call.limits x 0 ≤ m) frames
    → (b : ℕ) (arrive line : ℕ → ℕ) → Takes k m b (length frames * 2 ^ k) line
    → (t : ℕ) → t < length frames * 2 ^ k → HeldAtLink k m b (sent arrive (cells_at (link x) frames)) line t)
