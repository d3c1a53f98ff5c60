-- The end of a loop, and what holds of each of the first numbers of a list.
use Prim.Native.Nat.{ℕ, suc, zero, ◌≤◌, ◌<◌}
use mathlib.Core.Path.{◌≡◌}
use mathlib.Core.List.{List, [], ◌∷◌}
use native.Mathlib.Omega.{arith}
use lib.ListN.{length, get_or, take}
use Rattle.rules.specs.Words.{Every}

-- what holds after i turns holds after n, where the loop was left at n
pub at_end : (P : ℕ → Type 0) {i n : ℕ} → P i → i ≤ n → n ≤ i → P n
at_end P {i} {n} h a b = let e : n ≡ i = omega arith in rw e h

pub every_get : (P : ℕ → Type 0) (j k : ℕ) (l : List ℕ) → Every P (take k l) → j < k → j < length l → P (get_or l j 0)
every_get P j zero l a h g = absurd (omega arith)
every_get P j (suc k) [] a h g = absurd (omega arith)
every_get P zero (suc k) (x ∷ l) a h g = a.0
every_get P (suc j) (suc k) (x ∷ l) a h g = every_get P j k l a.1 (omega arith) (omega arith)
