-- Loads of halves: for each flow, input, output and link and for the total they sum to the whole and differ by at most 1, and what
-- fits twice the slots splits into what fits them.
use Prim.Native.Nat.{ℕ, suc, zero, ◌+◌, ◌*◌, ◌/◌, ◌%◌, ◌≤◌, ◌<◌}
use mathlib.Core.Path.{◌≡◌, refl, sym, ap, ap₂, ◌∙◌}
use mathlib.Core.Logic.{◌≢◌}
use mathlib.Core.List.{List, [], ◌∷◌}
use mathlib.Core.Bool.{Bool, true, not}
use native.Mathlib.Omega.{arith}
use lib.Dec.{eqb}
use lib.ListN.{length, get_or, get_or-eq_default}
use borrow.Author.Tests.{eq-eqb, ne_eqb}
use Rattle.rules.specs.Words.{if, both, bit, Near, sum_to, sum_if, Every}
use Rattle.rules.specs.Flows.{End, inputs, links, output_of, Class, flow, port_on, input, output, link, total, is_of, load_in, Fits}
use Rattle.rules.specs.Rules.{odd, odds_at, Partners, these, later, single, singles_of, partnered, Partnered, favours_first, Split}
use Rattle.rules.specs.Schedule.{favouring, favours, half_of}
use Rattle.rules.proofs.Cases.{by_bool, by_eq, by_lt}
use Rattle.rules.proofs.Sums.{sum_none, sum_ext, sum_add, sum_shift, sum_swap, sum_zero, sum_one, sum_has}
use Rattle.rules.proofs.Kept.{sum_over, over_append, kept_sum}
use Rattle.rules.proofs.Lists.{every_map}
use Rattle.rules.proofs.Partners.{AtPort, odds_every}
use Rattle.rules.proofs.Singles.{Single, singles_every}
use Rattle.rules.proofs.Favouring.{favouring_sum}
use Rattle.rules.proofs.Settled.{favours_law, favours_level}
use Rattle.rules.proofs.Splits.{half_at, more, less, alike, only_split}

-- ---- over the odd counts that are partnered, partner by partner
module _ (port : End → ℕ → ℕ) (m a b : List ℕ) (sp : Split (Partnered port m) m a b) where
  two : (p q : ℕ) → odd m p ≡ true → odd m q ≡ true → favours_first a b p ≡ not (favours_first a b q) → get_or a p 0 + get_or a q 0 ≡ get_or b p 0 + get_or b q 0
  two p q e f o =
      by_bool (favours_first a b q)
      (λ k. let x = more port m a b sp q f k in let y = less port m a b sp p e (o ∙ ap not k) in omega arith)
      (λ k. let x = less port m a b sp q f k in let y = more port m a b sp p e (o ∙ ap not k) in omega arith)

  -- partners give the halves the same, so that these differ by what a single one gives
  pairwise : (l : List ℕ) → Every (λ p. odd m p ≡ true) l → ((p q : ℕ) → Partners l p q → favours_first a b p ≡ not (favours_first a b q))
      → sum_over (λ p. get_or a p 0) l + sum_over (λ p. get_or b p 0) (single l) ≡ sum_over (λ p. get_or b p 0) l + sum_over (λ p. get_or a p 0) (single l)
  pairwise [] od op = refl
  pairwise (p ∷ []) od op = omega arith
  pairwise (p ∷ q ∷ l) od op =
      let r = pairwise l od.1.1 (λ x y w. op x y (later w)) in
      let h = two p q od.0 od.1.0 (op p q these) in
      omega arith

  -- and a single one gives one half one more
  single_near : (l : List ℕ) → Near 1 (sum_over (λ p. get_or a p 0) (single l)) (sum_over (λ p. get_or b p 0) (single l))
  single_near [] = omega arith
  single_near (p ∷ []) = let h = sp.evenly p in omega arith
  single_near (p ∷ q ∷ l) = single_near l

  -- over all that are partnered at a class
  class_near : (c : Class) → Every (λ p. odd m p ≡ true) (partnered c port m)
      → Near 1 (sum_over (λ p. get_or a p 0) (partnered c port m)) (sum_over (λ p. get_or b p 0) (partnered c port m))
  class_near c od = let e = pairwise (partnered c port m) od (λ p q w. sp.opposite p q (c, w)) in let n = single_near (partnered c port m) in omega arith

  -- ---- over all counts of a side that are at x: the even ones give both halves the same
  module _ (s : End) (x : ℕ) where
    at_x : ℕ → Bool
    at_x p = eqb (port s p) x

    apart : (c : List ℕ) → sum_if (length m) at_x (λ p. get_or c p 0) ≡ sum_over (λ p. get_or c p 0) (odds_at (port s) m x) + sum_if (length m) (λ p. both (not (odd m p)) (at_x p)) (λ p. get_or c p 0)
    unfolding at_x
    apart c =
        sum_ext (length m) _ _ (λ p h. by_parity p)
        ∙ sum_add (length m) (λ p. if (both (odd m p) (at_x p)) (get_or c p 0) 0) (λ p. if (both (not (odd m p)) (at_x p)) (get_or c p 0) 0)
        ∙ ap (λ z. z + sum_if (length m) (λ p. both (not (odd m p)) (at_x p)) (λ p. get_or c p 0)) (sym (kept_sum (λ p. both (odd m p) (at_x p)) (λ p. get_or c p 0) (length m)))
      where
        by_parity : (p : ℕ) → if (at_x p) (get_or c p 0) 0 ≡ if (both (odd m p) (at_x p)) (get_or c p 0) 0 + if (both (not (odd m p)) (at_x p)) (get_or c p 0) 0
        by_parity p = by_bool (odd m p) (λ e. rw e (omega arith)) (λ e. rw e (omega arith))

    evens : sum_if (length m) (λ p. both (not (odd m p)) (at_x p)) (λ p. get_or a p 0) ≡ sum_if (length m) (λ p. both (not (odd m p)) (at_x p)) (λ p. get_or b p 0)
    evens =
        sum_ext (length m) _ _ (λ p h. by_bool (odd m p) (λ e. rw e) (λ e. let k = alike port m a b sp p e in rw (k.0, k.1)))

    -- so the halves differ by what the odd ones give
    pub port_sums : sum_if (length m) (λ p. eqb (port s p) x) (λ p. get_or a p 0) + sum_over (λ p. get_or b p 0) (odds_at (port s) m x)
        ≡ sum_if (length m) (λ p. eqb (port s p) x) (λ p. get_or b p 0) + sum_over (λ p. get_or a p 0) (odds_at (port s) m x)
    unfolding at_x
    port_sums = omega (arith, apart a, apart b, evens)

    odds_odd : Every (λ p. odd m p ≡ true) (odds_at (port s) m x)
    odds_odd = every_map (AtPort (port s) m x) (λ p. odd m p ≡ true) (λ p h. h.0) (odds_at (port s) m x) (odds_every (port s) m x)

  pub input_near : (i : ℕ) → Near 1 (sum_if (length m) (λ p. eqb (port inputs p) i) (λ p. get_or a p 0)) (sum_if (length m) (λ p. eqb (port inputs p) i) (λ p. get_or b p 0))
  input_near i = let e = port_sums inputs i in let n = class_near (port_on input i) (odds_odd inputs i) in omega arith

  pub link_near : (x : ℕ) → Near 1 (sum_if (length m) (λ p. eqb (port links p) x) (λ p. get_or a p 0)) (sum_if (length m) (λ p. eqb (port links p) x) (λ p. get_or b p 0))
  link_near x = let e = port_sums links x in let n = class_near (link x) (odds_odd links x) in omega arith

  -- ---- over the links of an output: their halves differ by what the single ones give
  links_sums : (x n : ℕ)
      → sum_to n (λ l. sum_if (length m) (λ p. eqb (port links p) (x + l)) (λ p. get_or a p 0)) + sum_over (λ p. get_or b p 0) (singles_of (port links) m x n)
      ≡ sum_to n (λ l. sum_if (length m) (λ p. eqb (port links p) (x + l)) (λ p. get_or b p 0)) + sum_over (λ p. get_or a p 0) (singles_of (port links) m x n)
  links_sums x zero = omega (arith, sum_none (λ l. sum_if (length m) (λ p. eqb (port links p) (x + l)) (λ p. get_or a p 0)), sum_none (λ l. sum_if (length m) (λ p. eqb (port links p) (x + l)) (λ p. get_or b p 0)))
  links_sums x (suc n) =
      let r = links_sums (suc x) n in
      let e = port_sums links x in
      let f = pairwise (odds_at (port links) m x) (odds_odd links x) (λ p q w. sp.opposite p q (link x, w)) in
      omega (
        arith,
        first_link a,
        first_link b,
        over_append (λ p. get_or a p 0) (single (odds_at (port links) m x)) (singles_of (port links) m (suc x) n),
        over_append (λ p. get_or b p 0) (single (odds_at (port links) m x)) (singles_of (port links) m (suc x) n),
      )
    where
      first_link : (c : List ℕ) → sum_to (suc n) (λ l. sum_if (length m) (λ p. eqb (port links p) (x + l)) (λ p. get_or c p 0))
          ≡ sum_if (length m) (λ p. eqb (port links p) x) (λ p. get_or c p 0) + sum_to n (λ l. sum_if (length m) (λ p. eqb (port links p) (suc x + l)) (λ p. get_or c p 0))
      first_link c =
          sum_shift n (λ l. sum_if (length m) (λ p. eqb (port links p) (x + l)) (λ p. get_or c p 0))
          ∙ ap₂ ◌+◌ (ap (λ (y : ℕ). sum_if (length m) (λ p. eqb (port links p) y) (λ p. get_or c p 0)) (omega arith))
          (sum_ext n _ _ (λ l h. ap (λ (y : ℕ). sum_if (length m) (λ p. eqb (port links p) y) (λ p. get_or c p 0)) (omega arith)))

  -- what is at an output is at one of its links
  output_links : (o : ℕ) (c : List ℕ) → sum_if (length m) (λ p. eqb (output_of (port links p)) o) (λ p. get_or c p 0)
      ≡ sum_to 4 (λ l. sum_if (length m) (λ p. eqb (port links p) (o * 4 + l)) (λ p. get_or c p 0))
  output_links o c =
      sum_ext (length m) _ _ (λ p h. sym (one_link (port links p) (get_or c p 0)))
      ∙ sum_swap (length m) 4 (λ p l. if (eqb (port links p) (o * 4 + l)) (get_or c p 0) 0)
    where
      one_link : (y v : ℕ) → sum_to 4 (λ l. if (eqb y (o * 4 + l)) v 0) ≡ if (eqb (output_of y) o) v 0
      one_link y v =
          by_eq (output_of y) o
          (λ e. rw (eq-eqb (output_of y) o e)
          (sum_one 4 (y % 4) (λ l. if (eqb y (o * 4 + l)) v 0) (omega arith) (λ l h n. rw (ne_eqb y (o * 4 + l) (omega arith)))
          ∙ rw (eq-eqb y (o * 4 + y % 4) (omega arith))))
          (λ n. rw (ne_eqb (output_of y) o n) (sum_zero 4 _ (λ l h. rw (ne_eqb y (o * 4 + l) (omega arith)))))

  pub output_near : (o : ℕ) → Near 1 (sum_if (length m) (λ p. eqb (output_of (port links p)) o) (λ p. get_or a p 0)) (sum_if (length m) (λ p. eqb (output_of (port links p)) o) (λ p. get_or b p 0))
  output_near o =
      let e = links_sums (o * 4) 4 in
      let n = class_near (port_on output o) (every_map (Single (port links) m (o * 4) 4) (λ p. odd m p ≡ true) (λ p s. s.odd_count) (singles_of (port links) m (o * 4) 4) (singles_every (port links) m (o * 4) 4)) in
      rw (output_links o a, output_links o b) (omega arith)

-- ---- over all counts: half h gets half of each, and a cell more of those that favour it
module _ (port : End → ℕ → ℕ) (m : List ℕ) where
  half_total : (h : ℕ) → h ≢ 0 → sum_to (length m) (λ p. get_or (half_of port h m) p 0) ≡ sum_to (length m) (λ p. get_or m p 0 / 2) + favouring h (favours port m)
  half_total h n =
      let len = (favours_law port m).len in
      sum_ext (length m) _ _ (λ p _. half_at h m (favours port m) p n len)
      ∙ sum_add (length m) (λ p. get_or m p 0 / 2) (λ p. bit (eqb (get_or (favours port m) p 0) h))
      ∙ ap (λ z. sum_to (length m) (λ p. get_or m p 0 / 2) + z) (ap (λ (k : ℕ). sum_to k (λ p. bit (eqb (get_or (favours port m) p 0) h))) (sym len) ∙ sym (favouring_sum h (favours port m)))

  -- the halves that meet the rules are the function's, in which those that favour either half are level
  pub total_near : (a b : List ℕ) → Split (Partnered port m) m a b → Near 1 (sum_to (length m) (λ p. get_or a p 0)) (sum_to (length m) (λ p. get_or b p 0))
  total_near a b sp =
      let only = only_split port m a b sp in
      let level = favours_level port m in
      rw (only.0, only.1, half_total 1 (omega arith), half_total 2 (omega arith)) (omega arith)

-- ---- over the class
-- the load of a flow is its count
pub load_flow : (f : ℕ) (port : End → ℕ → ℕ) (m : List ℕ) → load_in (flow f) port m ≡ get_or m f 0
unfolding load_in
load_flow f port m =
    by_lt f (length m)
    (λ h. sum_one (length m) f _ h (λ p l n. rw (ne_eqb p f n)) ∙ rw (eq-eqb f f refl))
    (λ h. sum_zero (length m) _ (λ p l. rw (ne_eqb p f (omega arith))) ∙ sym (get_or-eq_default m 0 h))

-- and no load is below the count of a flow of its class
pub load_has : (c : Class) (port : End → ℕ → ℕ) (m : List ℕ) (f : ℕ) → f < length m → is_of c port f ≡ true → get_or m f 0 ≤ load_in c port m
unfolding load_in
load_has c port m f h e =
    let here : if (is_of c port f) (get_or m f 0) 0 ≡ get_or m f 0 = rw e in
    omega (arith, here, sum_has (length m) f (λ p. if (is_of c port p) (get_or m p 0) 0) h)

pub load_add : (c : Class) (port : End → ℕ → ℕ) (m a b : List ℕ) → length a ≡ length m → length b ≡ length m
    → ((p : ℕ) → get_or a p 0 + get_or b p 0 ≡ get_or m p 0) → load_in c port a + load_in c port b ≡ load_in c port m
unfolding load_in
load_add c port m a b la lb h =
    rw (la, lb)
    (sym (sum_add (length m) (λ p. if (is_of c port p) (get_or a p 0) 0) (λ p. if (is_of c port p) (get_or b p 0) 0))
    ∙ sum_ext (length m) _ _ (λ p _. by_bool (is_of c port p) (λ e. rw e (h p)) (λ e. rw e (omega arith))))

module _ (port : End → ℕ → ℕ) (m a b : List ℕ) (sp : Split (Partnered port m) m a b) where
  pub halves_sum : (c : Class) → load_in c port a + load_in c port b ≡ load_in c port m
  halves_sum c = load_add c port m a b sp.first_size sp.second_size sp.shared

  pub halves_near : (c : Class) → Near 1 (load_in c port a) (load_in c port b)
  unfolding load_in
  halves_near (flow f) = rw (load_flow f port a, load_flow f port b) (sp.evenly f)
  halves_near (port_on input i) = rw (sp.first_size, sp.second_size) (input_near port m a b sp i)
  halves_near (port_on output o) = rw (sp.first_size, sp.second_size) (output_near port m a b sp o)
  halves_near (link x) = rw (sp.first_size, sp.second_size) (link_near port m a b sp x)
  halves_near total = rw (sp.first_size, sp.second_size) (total_near port m a b sp)

  pub halves_fit : (ports n : ℕ) → Fits ports (2 * n) port m → (Fits ports n port a) × (Fits ports n port b)
  halves_fit ports n fits = ((λ x h. ((fit (port_on input x) (fits x h).0).0, (fit (port_on output x) (fits x h).1).0)), λ x h. ((fit (port_on input x) (fits x h).0).1, (fit (port_on output x) (fits x h).1).1))
    where
      fit : (c : Class) → load_in c port m ≤ 2 * n → (load_in c port a ≤ n) × (load_in c port b ≤ n)
      fit c h = let s = halves_sum c in let d = halves_near c in omega arith
