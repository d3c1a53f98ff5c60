-- One slot in which no entry is wrong and no port of the other side is used twice.
use Prim.Native.Nat.{ℕ, suc, zero, ◌-◌, ◌≤◌, ◌<◌}
use mathlib.Core.Path.{◌≡◌, refl, ap, ◌∙◌}
use mathlib.Core.List.{List}
use mathlib.Core.Bool.{Bool, true}
use native.Mathlib.Omega.{arith}
use lib.ListN.{length, get_or}
use borrow.Author.Tests.{eqb-true, eq-eqb}
use Rattle.rules.specs.Words.{bit, sum_to}
use Rattle.rules.specs.Flows.{flows, Side, on_side, port_of, port_on, is_of}
use Rattle.rules.specs.Frames.{is_flow, is_flow_of, right_on}
use Rattle.rules.proofs.Cases.{by_bool, by_eq, both_true, within_true}
use Rattle.rules.proofs.Sums.{sum_more, sum_none, sum_zero, sum_has_two}
use Rattle.rules.proofs.Flows.{is_flow_of_class, by_entry}

-- tests of which at most one holds
pub once_sum : (n : ℕ) (t : ℕ → Bool) → ((x y : ℕ) → x < n → y < n → t x ≡ true → t y ≡ true → x ≡ y) → sum_to n (λ q. bit (t q)) ≤ 1
once_sum zero t h = omega (arith, sum_none (λ q. bit (t q)))
once_sum (suc n) t h =
    by_bool (t n)
    (λ e.
    let none : sum_to n (λ q. bit (t q)) ≡ 0 = sum_zero n (λ q. bit (t q)) (λ q l. by_bool (t q) (λ d. absurd (let z = h q n (omega arith) (omega arith) d e in omega arith)) (λ d. ap bit d)) in
    omega (arith, none, sum_more n (λ q. bit (t q)), ap bit e))
    (λ e. omega (arith, once_sum n t (λ x y l k. h x y (omega arith) (omega arith)), sum_more n (λ q. bit (t q)), ap bit e))

-- an entry that is a flow of a port
pub by_flow : {P : Type 0} (list : List ℕ) (side : Side) (x e : ℕ) → is_flow_of (port_on side x) list e ≡ true
    → ((f : ℕ) → f < flows list → e ≡ suc f → on_side side (port_of list) f ≡ x → P) → P
by_flow list side x e h then =
    let b = both_true (is_flow list e) (is_of (port_on side x) (port_of list) (e - 1)) h in
    let w = within_true 1 (flows list) e b.0 in
    then (e - 1) (omega arith) (omega arith) (eqb-true (on_side side (port_of list) (e - 1)) x b.1)

pub flow_of : (list : List ℕ) (side : Side) (f : ℕ) → f < flows list → is_flow_of (port_on side (on_side side (port_of list) f)) list (suc f) ≡ true
flow_of list side f h = is_flow_of_class list (port_on side (on_side side (port_of list) f)) f h ∙ eq-eqb (on_side side (port_of list) f) (on_side side (port_of list) f) refl

-- A slot of one side in which no entry is wrong and no port of the other is used twice.
pub record Sound (side to : Side) (ports : ℕ) (list slot : List ℕ) : Type 0 where
  pub size : length slot ≡ ports
  pub ported : (s : Side) (f : ℕ) → f < flows list → on_side s (port_of list) f < ports
  pub each : (i : ℕ) → i < ports → right_on side list i (get_or slot i 0) ≡ true
  pub once : (x : ℕ) → x < ports → sum_to ports (λ i. bit (is_flow_of (port_on to x) list (get_or slot i 0))) ≤ 1

module _ {side to : Side} {ports : ℕ} {list slot : List ℕ} (g : Sound side to ports list slot) where
  abbrev at : ℕ → ℕ
  at i = get_or slot i 0

  -- entry i is a flow of port x of the other side
  abbrev goes : ℕ → ℕ → Bool
  goes x i = is_flow_of (port_on to x) list (get_or slot i 0)

  pub one_goes : (x i j : ℕ) → x < ports → i < ports → j < ports → goes x i ≡ true → goes x j ≡ true → i ≡ j
  one_goes x i j h a b d e =
      by_eq i j (λ z. z)
      (λ n. absurd (omega (arith, sum_has_two ports i j (λ i. bit (goes x i)) a b n, g.once x h, ap bit d, ap bit e)))

  -- an entry is 0 or the number of a flow
  pub at_most : (i : ℕ) → i < ports → get_or slot i 0 ≤ flows list
  at_most i h = by_entry side list i (at i) (g.each i h) (λ z. omega arith) (λ f l z p. omega arith)
