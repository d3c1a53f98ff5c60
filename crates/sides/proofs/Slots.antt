-- One slot by two sides: what stands in it, and that nothing is lost.
use Prim.Native.Nat.{ℕ, suc, zero, ◌-◌, ◌≤◌, ◌<◌}
use mathlib.Core.Path.{◌≡◌, refl, sym, ap, ◌∙◌}
use mathlib.Core.List.{List}
use mathlib.Core.Bool.{Bool, true, false}
use native.Mathlib.Omega.{arith}
use lib.ListN.{length, get_or, get_or-eq_default}
use borrow.Author.Tests.{eqb-true, eq-eqb, ne_eqb}
use Rattle.rules.specs.Words.{if, bit, first, sum_to}
use Rattle.rules.specs.Flows.{flows, Side, on_side, port_of, port_on, is_of}
use Rattle.rules.specs.Frames.{is_flow, is_flow_of, right_on}
use Rattle.rules.proofs.Cases.{by_bool, by_eq, by_lt, both_true, within_true}
use Rattle.rules.proofs.Sums.{sum_more, sum_none, sum_ext, sum_zero, sum_one, sum_swap, sum_has_two}
use Rattle.rules.proofs.Searches.{first_is, first_none, first_found, first_before}
use Rattle.rules.proofs.Flows.{is_flow_of_class, by_entry, right_flow}
use Rattle.sides.specs.Turn.{entry_of}

-- tests of which at most one holds
once_sum : (n : ℕ) (t : ℕ → Bool) → ((x y : ℕ) → x < n → y < n → t x ≡ true → t y ≡ true → x ≡ y) → sum_to n (λ q. bit (t q)) ≤ 1
once_sum zero t h = omega (arith, sum_none (λ q. bit (t q)))
once_sum (suc n) t h =
    by_bool (t n)
    (λ e.
    let none : sum_to n (λ q. bit (t q)) ≡ 0 = sum_zero n (λ q. bit (t q)) (λ q l. by_bool (t q) (λ d. absurd (let z = h q n (omega arith) (omega arith) d e in omega arith)) (λ d. ap bit d)) in
    omega (arith, none, sum_more n (λ q. bit (t q)), ap bit e))
    (λ e. omega (arith, once_sum n t (λ x y l k. h x y (omega arith) (omega arith)), sum_more n (λ q. bit (t q)), ap bit e))

-- an entry that is a flow of a port
pub by_flow : {P : Type 0} (list : List ℕ) (side : Side) (x e : ℕ) → is_flow_of (port_on side x) list e ≡ true
    → ((f : ℕ) → f < flows list → e ≡ suc f → on_side side (port_of list) f ≡ x → P) → P
by_flow list side x e h then =
    let b = both_true (is_flow list e) (is_of (port_on side x) (port_of list) (e - 1)) h in
    let w = within_true 1 (flows list) e b.0 in
    then (e - 1) (omega arith) (omega arith) (eqb-true (on_side side (port_of list) (e - 1)) x b.1)

pub flow_of : (list : List ℕ) (side : Side) (f : ℕ) → f < flows list → is_flow_of (port_on side (on_side side (port_of list) f)) list (suc f) ≡ true
flow_of list side f h = is_flow_of_class list (port_on side (on_side side (port_of list) f)) f h ∙ eq-eqb (on_side side (port_of list) f) (on_side side (port_of list) f) refl

-- A slot of one side in which no entry is wrong and no port of the other is used twice.
pub record Sound (side to : Side) (ports : ℕ) (list slot : List ℕ) : Type 0 where
  pub size : length slot ≡ ports
  pub ported : (s : Side) (f : ℕ) → f < flows list → on_side s (port_of list) f < ports
  pub each : (i : ℕ) → i < ports → right_on side list i (get_or slot i 0) ≡ true
  pub once : (x : ℕ) → x < ports → sum_to ports (λ i. bit (is_flow_of (port_on to x) list (get_or slot i 0))) ≤ 1

module _ {side to : Side} {ports : ℕ} {list slot : List ℕ} (g : Sound side to ports list slot) where
  abbrev at : ℕ → ℕ
  at i = get_or slot i 0

  -- entry i is a flow of port x of the other side
  abbrev goes : ℕ → ℕ → Bool
  goes x i = is_flow_of (port_on to x) list (get_or slot i 0)

  pub one_goes : (x i j : ℕ) → x < ports → i < ports → j < ports → goes x i ≡ true → goes x j ≡ true → i ≡ j
  one_goes x i j h a b d e =
      by_eq i j (λ z. z)
      (λ n. absurd (omega (arith, sum_has_two ports i j (λ i. bit (goes x i)) a b n, g.once x h, ap bit d, ap bit e)))

  -- an entry is 0 or the number of a flow
  pub at_most : (i : ℕ) → i < ports → get_or slot i 0 ≤ flows list
  at_most i h = by_entry side list i (at i) (g.each i h) (λ z. omega arith) (λ f l z p. omega arith)

  -- the entry of a port is the one that goes to it
  pub entry_there : (x i : ℕ) → x < ports → i < ports → goes x i ≡ true → entry_of to ports list slot x ≡ get_or slot i 0
  unfolding entry_of
  entry_there x i h l e =
      ap at (first_is (goes x) ports 0 i (omega arith) (omega arith) e
      (λ y _ k. by_bool (goes x y) (λ d. absurd (let z = one_goes x y i h (omega arith) l d e in omega arith)) (λ d. d)))

  pub entry_none : (x : ℕ) → ((i : ℕ) → i < ports → goes x i ≡ false) → entry_of to ports list slot x ≡ 0
  unfolding entry_of
  entry_none x h =
      let none = first_none (goes x) ports 0 (λ i _ l. h i (omega arith)) in
      get_or-eq_default slot 0 {n = first (goes x) 0 ports} (omega (arith, none, g.size))

  -- either none goes there, or one does, from its own port
  pub by_port : {P : Type 0} (x : ℕ) → x < ports → (entry_of to ports list slot x ≡ 0 → ((i : ℕ) → i < ports → goes x i ≡ false) → P)
      → ((i f : ℕ) → i < ports → f < flows list → get_or slot i 0 ≡ suc f → entry_of to ports list slot x ≡ suc f → on_side to (port_of list) f ≡ x
      → on_side side (port_of list) f ≡ i → P) → P
  by_port x h none some =
      by_lt (first (goes x) 0 ports) ports
      (λ l.
      let i = first (goes x) 0 ports in
      let e = first_found (goes x) ports 0 (omega arith) in
      by_flow list to x (at i) e (λ f k z p.
      by_entry side list i (at i) (g.each i l)
      (λ d. absurd (omega arith))
      (λ v _ d q. let same : v ≡ f = omega arith in some i f l k z (entry_there x i h l e ∙ z) p (ap (on_side side (port_of list)) (sym same) ∙ q))))
      (λ l.
      let out : (i : ℕ) → i < ports → goes x i ≡ false = λ i k. first_before (goes x) ports 0 i (omega arith) (omega arith) in
      none (entry_none x out) out)

  -- a flow that stands in the slot stands at its port of the other side
  pub entry_flow : (i f : ℕ) → i < ports → f < flows list → get_or slot i 0 ≡ suc f → entry_of to ports list slot (on_side to (port_of list) f) ≡ suc f
  entry_flow i f l k z = entry_there (on_side to (port_of list) f) i (g.ported to f k) l (rw z (flow_of list to f k)) ∙ z

  -- ---- the slot by the other side
  module _ (other : List ℕ) (length_is : length other ≡ ports) (is : (x : ℕ) → x < ports → get_or other x 0 ≡ entry_of to ports list slot x) where
    -- a flow of port i of the slot's own side stands at i
    pub stood : (i x f : ℕ) → i < ports → x < ports → get_or other x 0 ≡ suc f → on_side side (port_of list) f ≡ i → (get_or slot i 0 ≡ suc f) × (on_side to (port_of list) f ≡ x)
    stood i x f h l z p =
        by_port x l (λ e _. absurd (let d = is x l in omega arith))
        (λ j v a b c d q r.
        let same : v ≡ f = (let y = is x l in omega arith) in
        let here : i ≡ j = sym p ∙ ap (on_side side (port_of list)) (sym same) ∙ r in
        (ap at here ∙ c ∙ ap suc same, ap (on_side to (port_of list)) (sym same) ∙ q))

    pub sound_other : Sound to side ports list other
    sound_other =
        record {
          size = length_is;
          ported = g.ported;
          each = λ x h. rw (is x h) (by_port x h (λ e _. rw e) (λ i f a b c d p q. rw d (right_flow to list x f b p)));
          once = λ i h. once_sum ports (λ x. is_flow_of (port_on side i) list (get_or other x 0)) (λ x y a b d e.
              by_flow list side i (get_or other x 0) d (λ f _ z p.
              by_flow list side i (get_or other y 0) e (λ v _ w q.
              let one = stood i x f h a z p in
              let two = stood i y v h b w q in
              let same : f ≡ v = omega (arith, one.0, two.0) in
              sym one.1 ∙ ap (on_side to (port_of list)) same ∙ two.1)));
        }

    -- every flow is counted once on either side
    pub sums_same : (count : ℕ → ℕ) → count 0 ≡ 0 → sum_to ports (λ x. count (get_or other x 0)) ≡ sum_to ports (λ i. count (get_or slot i 0))
    sums_same count none =
        sum_ext ports _ _ counts_by_place
        ∙ sum_swap ports ports (λ x i. if (goes x i) (count (at i)) 0)
        ∙ sum_ext ports _ _ (λ i h. by_entry side list i (at i) (g.each i h)
        (λ z. sum_zero ports _ (λ x _. by_bool (goes x i) (λ b. rw b (ap count z ∙ none)) (λ b. rw b)) ∙ sym (ap count z ∙ none))
        (λ f k z p. sum_one ports (on_side to (port_of list) f) _ (g.ported to f k)
        (λ x _ n. rw (z, is_flow_of_class list (port_on to x) f k, ne_eqb (on_side to (port_of list) f) x (λ e. n (sym e))))
        ∙ rw (z, flow_of list to f k)))
      where
        counts_by_place : (x : ℕ) → x < ports → count (get_or other x 0) ≡ sum_to ports (λ i. if (goes x i) (count (at i)) 0)
        counts_by_place x h =
            by_port x h
            (λ e out. ap count (is x h ∙ e) ∙ none ∙ sym (sum_zero ports _ (λ i l. rw (out i l))))
            (λ i f a b c d p q.
            let here : goes x i ≡ true = rw (c, sym p) (flow_of list to f b) in
            ap count (is x h ∙ d ∙ sym c)
            ∙ sym (sum_one ports i (λ i. if (goes x i) (count (at i)) 0) a
            (λ j l n. by_bool (goes x j) (λ y. absurd (n (one_goes x j i h l a y here))) (λ y. rw y))
            ∙ rw here))

-- turned back, it is the slot
pub entry_back : {side to : Side} {ports : ℕ} {list slot : List ℕ} (g : Sound side to ports list slot) (other : List ℕ) (length_is : length other ≡ ports)
    (is : (x : ℕ) → x < ports → get_or other x 0 ≡ entry_of to ports list slot x) (i : ℕ) → i < ports → entry_of side ports list other i ≡ get_or slot i 0
entry_back {side} {to} {ports} {list} {slot} g other length_is is i h =
    let s = sound_other g other length_is is in
    by_entry side list i (get_or slot i 0) (g.each i h)
    (λ z. entry_none s i (λ x l. by_bool (is_flow_of (port_on side i) list (get_or other x 0))
    (λ d. absurd (by_flow list side i (get_or other x 0) d (λ f _ y p. let here = (stood g other length_is is i x f h l y p).0 in omega arith)))
    (λ d. d)) ∙ sym z)
    (λ f k z p.
    let x = on_side to (port_of list) f in
    let low = g.ported to f k in
    let there : get_or other x 0 ≡ suc f = is x low ∙ entry_flow g i f h k z in
    entry_there s i x h low (rw (there, sym p) (flow_of list side f k)) ∙ there ∙ sym z)
