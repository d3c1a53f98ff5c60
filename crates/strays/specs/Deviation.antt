-- The deviation: how far the first slots of a frame may be from their share, whatever the load.
use Rattle.std.specs.Prelude.{ℕ, suc, zero, ◌+◌, ◌*◌, ◌^◌}

-- How far the cells of the first slots of a frame of 2 ^ k may be from their share, in parts of 1 / 2 ^ k of a cell: the middle of
-- a block is within half a cell of the mean of its ends, one of which the halving before made, and the other an earlier one.
unfoldable pub deviation : ℕ → ℕ
deviation zero = 0
deviation (suc zero) = 1
deviation (suc (suc k)) = deviation (suc k) + 2 * deviation k + 2 ^ suc k

-- How far a run of one frame of 2 ^ k slots that repeats may be, whatever the load: from four slots on four times the deviation of half the
-- slots.
unfoldable pub repeat_deviation : ℕ → ℕ
repeat_deviation zero = 0
repeat_deviation (suc zero) = 1
repeat_deviation (suc (suc k)) = 4 * deviation (suc k)
