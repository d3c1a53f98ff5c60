-- A flow put into a list, number by number.
use Prim.Native.Nat.{ℕ, suc, ◌+◌}
use mathlib.Core.Path.{◌≡◌}
use mathlib.Core.List.{List, [], ◌∷◌}
use native.Mathlib.Omega.{arith}
use native.Mathlib.Numerals.{add-one}
use lib.ListN.{set}
use lib.Seq.{sets}

-- the four numbers of a flow, the last of which is given
pub put_four : (list : List ℕ) (at i o m l a b c : ℕ) → a ≡ i → b ≡ o → c ≡ m
    → set (set (set (set list at a) (at + 1) b) (at + 2) c) (at + 3) l ≡ sets list at (i ∷ o ∷ m ∷ l ∷ [])
put_four list at i o m l a b c d e f =
    let two : at + 2 ≡ suc (suc at) = omega arith in
    let three : at + 3 ≡ suc (suc (suc at)) = omega arith in
    rw (d, e, f, add-one at, two, three)
