-- Inspect: what its tests of classes and blocks say.
use Prim.Native.Nat.{ℕ, suc, zero, ◌+◌, ◌*◌, ◌≤◌, ◌<◌}
use mathlib.Core.Path.{◌≡◌, refl, sym, ap, ◌∙◌}
use mathlib.Core.List.{List, [], ◌∷◌, ◌++◌, map}
use mathlib.Core.Bool.{Bool, true, false, not, true≢false}
use native.Mathlib.Omega.{arith}
use lib.Dec.{leb}
use borrow.Author.Tests.{leb-true, le-leb}
use Rattle.rules.specs.Words.{both, near, Near, up_from}
use Rattle.rules.specs.Flows.{flows, Side, Class, flow, port_on, input, output, link, total, OnSwitch}
use Rattle.rules.specs.Frames.{cells_on, run_of}
use Rattle.calls.specs.Inspect.{classes, all, unbalanced}
use Rattle.rules.proofs.Cases.{by_bool, by_eq, by_lt, both_true}
use Rattle.rules.proofs.Flows.{cells_not}

-- ---- near, as a test
pub near_yes : (gap a b : ℕ) → Near gap a b → near gap a b ≡ true
near_yes gap a b h = rw (le-leb a (b + gap) h.0, le-leb b (a + gap) h.1)

pub near_true : (gap a b : ℕ) → near gap a b ≡ true → Near gap a b
near_true gap a b e =
    let t = both_true (leb a (b + gap)) (leb b (a + gap)) e in
    (leb-true a (b + gap) t.0, leb-true b (a + gap) t.1)

-- ---- all that is counted
all_append : (t : Class → Bool) (xs ys : List Class) → all t (xs ++ ys) ≡ both (all t xs) (all t ys)
all_append t [] ys = refl
all_append t (c ∷ xs) ys = by_bool (t c) (λ e. rw e (all_append t xs ys)) (λ e. rw e)

module _ (t : Class → Bool) (f : ℕ → Class) where
  all_yes : (a n : ℕ) → ((x : ℕ) → a ≤ x → x < a + n → t (f x) ≡ true) → all t (map f (up_from a n)) ≡ true
  all_yes a zero h = refl
  all_yes a (suc n) h = rw (h a (omega arith) (omega arith)) (all_yes (suc a) n (λ x l k. h x (omega arith) (omega arith)))

  all_no : (a n x : ℕ) → a ≤ x → x < a + n → t (f x) ≡ false → all t (map f (up_from a n)) ≡ false
  all_no a zero x l h e = absurd (omega arith)
  all_no a (suc n) x l h e =
      by_eq a x (λ d. rw (rw (sym d) at e))
      (λ d. by_bool (t (f a)) (λ k. rw k (all_no (suc a) n x (omega arith) (omega arith) e)) (λ k. rw k))

-- the classes of a switch and a list: of flows, those in the list
abbrev pub InList : ℕ → List ℕ → Class → Type 0
InList ports list (flow f) = f < flows list
InList ports list (port_on input i) = i < ports
InList ports list (port_on output o) = o < ports
InList ports list (link x) = x < ports * 4
InList ports list total = Unit {0}

module _ (ports : ℕ) (list : List ℕ) (t : Class → Bool) where
  -- kind by kind
  all_kinds : all t (classes ports list)
      ≡ both (all t (map flow (up_from 0 (flows list)))) (both (all t (map (port_on input) (up_from 0 ports)))
      (both (all t (map (port_on output) (up_from 0 ports))) (both (all t (map link (up_from 0 (ports * 4)))) (both (t total) true))))
  all_kinds = rw (all_append, all_append, all_append, all_append)

  pub all_classes : ((c : Class) → InList ports list c → t c ≡ true) → all t (classes ports list) ≡ true
  all_classes h =
      rw (
        all_kinds,
        all_yes t flow 0 (flows list) (λ f _ k. h (flow f) (omega arith)),
        all_yes t (port_on input) 0 ports (λ i _ k. h (port_on input i) (omega arith)),
        all_yes t (port_on output) 0 ports (λ o _ k. h (port_on output o) (omega arith)),
        all_yes t link 0 (ports * 4) (λ x _ k. h (link x) (omega arith)),
        h total tt,
      )

  both_no : (a b : Bool) → b ≡ false → both a b ≡ false
  both_no true b e = e
  both_no false b e = refl

  pub some_class : (c : Class) → InList ports list c → t c ≡ false → all t (classes ports list) ≡ false
  some_class c of e = all_kinds ∙ by c of e
    where
      fs : Bool
      fs = all t (map flow (up_from 0 (flows list)))

      is : Bool
      is = all t (map (port_on input) (up_from 0 ports))

      os : Bool
      os = all t (map (port_on output) (up_from 0 ports))

      ls : Bool
      ls = all t (map link (up_from 0 (ports * 4)))

      by : (c : Class) → InList ports list c → t c ≡ false → both fs (both is (both os (both ls (both (t total) true)))) ≡ false
      by (flow f) of e = rw (all_no t flow 0 (flows list) f (omega arith) (omega arith) e)
      by (port_on input i) of e = both_no fs _ (rw (all_no t (port_on input) 0 ports i (omega arith) (omega arith) e))
      by (port_on output o) of e = both_no fs _ (both_no is _ (rw (all_no t (port_on output) 0 ports o (omega arith) (omega arith) e)))
      by (link x) of e = both_no fs _ (both_no is _ (both_no os _ (rw (all_no t link 0 (ports * 4) x (omega arith) (omega arith) e))))
      by total of e = both_no fs _ (both_no is _ (both_no os _ (both_no ls _ (rw e))))

-- ---- one block
module _ (count : Class → List ℕ → ℕ) (ports : ℕ) (list entries : List ℕ) (start half : ℕ) where
  -- the halves of the block differ by at most 1 for a class
  abbrev pub NearFor : Class → Type 0
  NearFor c = Near 1 (count c (run_of ports start half entries)) (count c (run_of ports (start + half) half entries))

  abbrev pub near_for : Class → Bool
  near_for c = near 1 (count c (run_of ports start half entries)) (count c (run_of ports (start + half) half entries))

  pub unbalanced_yes : (c : Class) → InList ports list c → near_for c ≡ false → unbalanced count ports list entries start half ≡ true
  unfolding unbalanced
  unbalanced_yes c of e = ap not (some_class ports list _ c of e)

  pub unbalanced_no : ((c : Class) → InList ports list c → near_for c ≡ true) → unbalanced count ports list entries start half ≡ false
  unfolding unbalanced
  unbalanced_no h = ap not (all_classes ports list _ h)

  pub in_near : unbalanced count ports list entries start half ≡ false → (c : Class) → InList ports list c → NearFor c
  in_near e c of =
      by_bool (near_for c)
      (λ k. near_true 1 _ _ k)
      (λ k. absurd (true≢false (sym (unbalanced_yes c of k) ∙ e)))

-- a flow that is not in the list has no cells in either half
pub balanced_near : (side : Side) (ports : ℕ) (list entries : List ℕ) (start half : ℕ) → unbalanced (cells_on side ports list) ports list entries start half ≡ false
    → (c : Class) → OnSwitch ports c → NearFor (cells_on side ports list) ports list entries start half c
balanced_near side ports list entries start half e c of = by c of
  where
    listed : (c : Class) → InList ports list c → NearFor (cells_on side ports list) ports list entries start half c
    listed = in_near (cells_on side ports list) ports list entries start half e

    by : (c : Class) → OnSwitch ports c → NearFor (cells_on side ports list) ports list entries start half c
    by (flow f) of =
        by_lt f (flows list) (λ l. listed (flow f) l)
        (λ l. rw (cells_not side list f ports (run_of ports start half entries) l, cells_not side list f ports (run_of ports (start + half) half entries) l) (omega arith))
    by (port_on input i) of = listed (port_on input i) of
    by (port_on output o) of = listed (port_on output o) of
    by (link x) of = listed (link x) of
    by total of = listed total of

-- the classes of a list are of the switch
pub in_of : (ports : ℕ) (list : List ℕ) (c : Class) → InList ports list c → OnSwitch ports c
in_of ports list (flow f) of = tt
in_of ports list (port_on input i) of = of
in_of ports list (port_on output o) of = of
in_of ports list (link x) of = of
in_of ports list total of = of
