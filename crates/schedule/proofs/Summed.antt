-- The odd counts settled in a block, from those of its halves.
use Prim.Native.Nat.{ℕ, suc, ◌+◌, ◌-◌, ◌*◌, ◌%◌, ◌^◌, ◌≤◌}
use mathlib.Core.Path.{◌≡◌, refl, sym, ap, ◌∙◌}
use mathlib.Core.List.{List}
use native.Mathlib.Omega.{arith}
use native.Mathlib.Nat.{mul-le-mul, pow-le-pow_right}
use lib.ListN.{length, get_or}
use Rattle.rules.specs.Words.{sum_to}
use Rattle.rules.specs.Flows.{End}
use Rattle.rules.specs.Rules.{odd}
use Rattle.rules.specs.Schedule.{half_of}
use Rattle.rules.specs.OddShares.{odd_shares, settled}
use Rattle.rules.proofs.Cases.{by_eq, is_yes, is_no}
use Rattle.rules.proofs.Sums.{sum_ext, sum_zero}
use Rattle.rules.proofs.Kept.{kept_length, keep_most}
use Rattle.rules.proofs.Splits.{split_is}
use Rattle.calls.proofs.Work.{settled_halves, settled_room}
use Rattle.planes.specs.Planes.{counts_in, odd_at, odds_in}
use Rattle.planes.proofs.Counts.{counts_length, odds_are}

-- ---- a block of one slot
pub none_settled : (m : ℕ) (c : List ℕ) → m ≡ 0 → 0 ≡ settled m c
unfolding odd_shares settled
none_settled m c e = sym (ap (λ (k : ℕ). settled k c) e ∙ sum_zero (length c) _ (λ p h. refl))

-- ---- a block of more
-- how many of the first n counts are odd
odds_number : (m n : ℕ) (planes : List ℕ) → length (odds_in n planes) ≡ sum_to n (λ p. get_or (counts_in (suc m) planes n) p 0 % 2)
odds_number m n planes =
    ap length (odds_are m n planes)
    ∙ kept_length (odd (counts_in (suc m) planes n)) n
    ∙ sum_ext n _ _ (λ p h.
    let x = get_or (counts_in (suc m) planes n) p 0 in
    by_eq (x % 2) 1 (λ e. is_yes (x % 2) 1 e ∙ sym e) (λ e. is_no (x % 2) 1 e ∙ omega arith))

-- what is settled in a half is small, and so is the sum of both and of these
half_low : (m k n : ℕ) (planes : List ℕ) (f : ℕ) → m ≤ 10 → n ≤ 528 → f ≡ settled (m - 1) (counts_in k planes n) → f ≤ 528 * 1024
half_low m k n planes f v t e =
    let size : 2 ^ (m - 1) ≤ 2 ^ 10 = pow-le-pow_right (omega arith) {j = 10} (omega arith) in
    let number : length (counts_in k planes n) ≤ 528 = omega (arith, counts_length k planes n) in
    omega (arith, settled_room (m - 1) (counts_in k planes n), mul-le-mul number size)

pub sum_low : (m k n : ℕ) (planes a b : List ℕ) (h f g : ℕ) → m ≤ 10 → n ≤ 528 → h ≡ length (odds_in n planes)
    → f ≡ settled (m - 1) (counts_in k a n) → g ≡ settled (m - 1) (counts_in k b n) → h + f + g ≤ 528 * 2049
sum_low m k n planes a b h f g v t eh ef eg = omega (arith, keep_most (odd_at planes) 0 n, half_low m k n a f v t ef, half_low m k n b g v t eg)

pub summed : (port : End → ℕ → ℕ) (m n : ℕ) (planes a b : List ℕ) (h f g : ℕ) → 1 ≤ m → h ≡ length (odds_in n planes)
    → a ≡ half_of port 1 (counts_in (suc m) planes n) → b ≡ half_of port 2 (counts_in (suc m) planes n)
    → f ≡ settled (m - 1) a → g ≡ settled (m - 1) b → h + f + g ≡ settled m (counts_in (suc m) planes n)
summed port m n planes a b h f g some eh ha hb ef eg =
    let c : List ℕ = counts_in (suc m) planes n in
    let odds : ℕ → ℕ = λ p. get_or c p 0 % 2 in
    let up : suc (m - 1) ≡ m = omega arith in
    let here : h ≡ sum_to (length c) odds = eh ∙ odds_number m n planes ∙ ap (λ j. sum_to j odds) (sym (counts_length (suc m) planes n)) in
    let front : f ≡ settled (m - 1) (half_of port 1 c) = ef ∙ ap (settled (m - 1)) ha in
    let back : g ≡ settled (m - 1) (half_of port 2 c) = eg ∙ ap (settled (m - 1)) hb in
    let whole = settled_halves port (m - 1) c (half_of port 1 c) (half_of port 2 c) (split_is port c) in
    omega (arith, here, front, back, whole, ap (λ (j : ℕ). settled j c) up)
