-- The loads of a chain's frames, by number, for the bounds that go by them.
use Rattle.std.specs.Prelude.{ℕ, suc, zero, ◌+◌, ◌*◌, ◌^◌, ◌≤◌, List, [], ◌∷◌}
use Rattle.rules.specs.Flows.{Class, load}
use Rattle.wire.specs.Wire.{Carried}

-- The load of a class in frame b of a chain, and 0 where there is none.
unfoldable pub load_of : Class → List Carried → ℕ → ℕ
load_of c [] b = 0
load_of c (f ∷ frames) zero = load c f.call.list
load_of c (f ∷ frames) (suc b) = load_of c frames b

-- The beginning of slot t is in frame b of a chain of frames of 2 ^ k slots, or at either end of it.
abbrev pub Touches : ℕ → ℕ → ℕ → Type 0
Touches k b t = (b * 2 ^ k ≤ t) × (t ≤ b * 2 ^ k + 2 ^ k)
