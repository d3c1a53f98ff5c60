-- The exchange of two slots, each by its entries at the inputs, step by step: no input is exchanged twice, and no output is used twice in either
-- slot.
use Prim.Native.Nat.{ℕ, ◌+◌, ◌<◌}
use mathlib.Core.Path.{◌≡◌, refl, sym, ap, ◌∙◌}
use mathlib.Core.Logic.{◌≢◌}
use mathlib.Core.Bool.{Bool, true, false, not, true≢false}
use native.Mathlib.Omega.{arith}
use lib.Dec.{eqb}
use borrow.Author.Tests.{eq-eqb, ne_eqb}
use Rattle.rules.specs.Words.{if, both, bit, sum_to}
use Rattle.rules.proofs.Cases.{by_bool, by_eq}
use Rattle.rules.proofs.Sums.{sum_ext, sum_add, sum_one}

-- A slot is the entry of each input, 0 for idle, and `to` the output of an entry. No output is used twice.
abbrev pub Once : ℕ → (ℕ → ℕ) → (ℕ → ℕ) → Type 0
Once ports to a = (i j : ℕ) → i < ports → j < ports → a i ≢ 0 → a j ≢ 0 → to (a i) ≡ to (a j) → i ≡ j

-- A cell e of input f is to come into the former slot, a, which is idle at f; the other slot, b, is idle at its output. `done` are the inputs at
-- which a cell came into the former slot, or is to come, and these are cells of c, in which no output is used twice; at the others the other slot
-- has the cells of c.
pub record Coming (ports : ℕ) (to c a b : ℕ → ℕ) (f e : ℕ) (done : ℕ → Bool) : Type 0 where
  pub low : f < ports
  pub some : e ≢ 0
  pub source : Once ports to c
  pub comes : c f ≡ e
  pub f_done : done f ≡ true
  pub vacant : a f ≡ 0
  pub came : (i : ℕ) → i < ports → i ≢ f → done i ≡ true → a i ≡ c i
  pub stays : (i : ℕ) → i < ports → done i ≡ false → b i ≡ c i
  pub former_once : Once ports to a
  pub other_once : Once ports to b
  pub other_idle : (i : ℕ) → i < ports → b i ≢ 0 → to (b i) ≢ to e

-- The cell of input j in a has the output of e.
pub record Clash (ports : ℕ) (to a : ℕ → ℕ) (e j : ℕ) : Type 0 where
  pub low : j < ports
  pub busy : a j ≢ 0
  pub same : to (a j) ≡ to e

-- How many inputs of b have a cell that has not come into the former slot.
abbrev pub left : ℕ → (ℕ → ℕ) → (ℕ → Bool) → ℕ
left ports b done = sum_to ports (λ i. bit (both (not (done i)) (not (eqb (b i) 0))))

abbrev pub next_done : (ℕ → Bool) → ℕ → ℕ → Bool
next_done done j i = if (eqb i j) true (done i)

module _ {ports : ℕ} {to c a b : ℕ → ℕ} {f e : ℕ} {done : ℕ → Bool} (g : Coming ports to c a b f e done) where
  pub only_clash : (i j : ℕ) → Clash ports to a e i → Clash ports to a e j → i ≡ j
  only_clash i j k l = g.former_once i j k.low l.low k.busy l.busy (k.same ∙ sym l.same)

  pub clash_else : (j : ℕ) → Clash ports to a e j → j ≢ f
  clash_else j k d = k.busy (ap a d ∙ g.vacant)

  -- where nothing clashes, the cell rests in the former slot
  pub rests_once : ((j : ℕ) → Clash ports to a e j → ⊥) → (a' : ℕ → ℕ) → a' f ≡ e → ((i : ℕ) → i < ports → i ≢ f → a' i ≡ a i) → Once ports to a'
  rests_once none a' at_f else i j hi hj zi zj q =
      by_eq i f
      (λ d. by_eq j f (λ t. d ∙ sym t) (λ t. absurd (none j (other j hj t zj (sym q ∙ ap (λ x. to (a' x)) d ∙ ap to at_f)))))
      (λ d. by_eq j f
      (λ t. absurd (none i (other i hi d zi (q ∙ ap (λ x. to (a' x)) t ∙ ap to at_f))))
      (λ t. g.former_once i j hi hj (λ z. zi (else i hi d ∙ z)) (λ z. zj (else j hj t ∙ z)) (ap to (sym (else i hi d)) ∙ q ∙ ap to (else j hj t))))
    where
      other : (i : ℕ) → i < ports → i ≢ f → a' i ≢ 0 → to (a' i) ≡ to e → Clash ports to a e i
      other i h n z q = record { low = h; busy = λ y. z (else i h n ∙ y); same = ap to (sym (else i h n)) ∙ q }

  -- ---- a cell is displaced, and with it the other slot's entry of its input
  module _ (j : ℕ) (k : Clash ports to a e j) where
    -- no input is exchanged twice: what it would be doubled with came from the same source, which has each output once
    pub not_done : done j ≡ false
    not_done = by_bool (done j) (λ d. absurd (twice d)) (λ d. d)
      where
        twice : done j ≡ true → ⊥
        twice d =
            let same = g.came j k.low (clash_else j k) d in
            let e_is = g.comes in
            clash_else j k
            (g.source j f k.low g.low (λ z. k.busy (same ∙ z)) (λ z. g.some (sym e_is ∙ z)) (ap to (sym same) ∙ k.same ∙ ap to (sym e_is)))

    module _ (a' b' : ℕ → ℕ) (at_f : a' f ≡ e) (at_j : a' j ≡ 0) (else_a : (i : ℕ) → i < ports → i ≢ f → i ≢ j → a' i ≡ a i) (in_b : b' j ≡ a j)
        (else_b : (i : ℕ) → i < ports → i ≢ j → b' i ≡ b i) where
      -- the output that was there twice is there once
      pub former_on : Once ports to a'
      former_on i x hi hx zi zx q =
          by_eq i f
          (λ d. by_eq x f (λ t. d ∙ sym t) (λ t. absurd (apart x hx t zx (sym q ∙ ap (λ y. to (a' y)) d ∙ ap to at_f))))
          (λ d. by_eq x f
          (λ t. absurd (apart i hi d zi (q ∙ ap (λ y. to (a' y)) t ∙ ap to at_f)))
          (λ t.
          let i_is = else_a i hi d (λ y. zi (ap a' y ∙ at_j)) in
          let x_is = else_a x hx t (λ y. zx (ap a' y ∙ at_j)) in
          g.former_once i x hi hx (λ z. zi (i_is ∙ z)) (λ z. zx (x_is ∙ z)) (ap to (sym i_is) ∙ q ∙ ap to x_is)))
        where
          apart : (x : ℕ) → x < ports → x ≢ f → a' x ≢ 0 → to (a' x) ≢ to e
          apart x h n z q =
              let else : x ≢ j = λ y. z (ap a' y ∙ at_j) in
              let is = else_a x h n else in
              else (only_clash x j (record { low = h; busy = λ y. z (is ∙ y); same = ap to (sym is) ∙ q }) k)

      pub other_on : Once ports to b'
      other_on i x hi hx zi zx q =
          by_eq i j
          (λ d. by_eq x j (λ t. d ∙ sym t) (λ t. absurd (apart x hx t zx (sym q ∙ ap (λ y. to (b' y)) d ∙ ap to in_b ∙ k.same))))
          (λ d. by_eq x j
          (λ t. absurd (apart i hi d zi (q ∙ ap (λ y. to (b' y)) t ∙ ap to in_b ∙ k.same)))
          (λ t. g.other_once i x hi hx (λ z. zi (else_b i hi d ∙ z)) (λ z. zx (else_b x hx t ∙ z)) (ap to (sym (else_b i hi d)) ∙ q ∙ ap to (else_b x hx t))))
        where
          apart : (x : ℕ) → x < ports → x ≢ j → b' x ≢ 0 → to (b' x) ≢ to e
          apart x h n z q = g.other_idle x h (λ y. z (else_b x h n ∙ y)) (ap to (sym (else_b x h n)) ∙ q)

      -- the entry that stood in the other slot is the next to come
      pub coming_on : b j ≢ 0 → Coming ports to c a' b' j (b j) (next_done done j)
      coming_on some =
          record {
            low = k.low;
            some = some;
            source = g.source;
            comes = sym (g.stays j k.low not_done);
            f_done = rw (eq-eqb j j refl);
            vacant = at_j;
            came = λ i h n d. by_eq i f
                (λ t. ap a' t ∙ at_f ∙ sym g.comes ∙ ap c (sym t))
                (λ t. else_a i h t n ∙ g.came i h t (rw (ne_eqb i j n) at d));
            stays = λ i h d. by_eq i j
                (λ t. absurd (true≢false (rw (eq-eqb i j t) at d)))
                (λ t. else_b i h t ∙ g.stays i h (rw (ne_eqb i j t) at d));
            former_once = former_on;
            other_once = other_on;
            other_idle = λ i h z q. by_eq i j
                (λ t. g.other_idle j k.low some (sym (sym k.same ∙ ap to (sym in_b) ∙ ap (λ y. to (b' y)) (sym t) ∙ q)))
                (λ t. t (g.other_once i j h k.low (λ y. z (else_b i h t ∙ y)) some (ap to (sym (else_b i h t)) ∙ q)));
          }

      -- and there is one less of them
      pub left_less : b j ≢ 0 → left ports b' (next_done done j) + 1 ≡ left ports b done
      left_less some =
          ap (λ z. left ports b' (next_done done j) + z) (sym one)
          ∙ sym (sum_add ports (λ i. bit (both (not (next_done done j i)) (not (eqb (b' i) 0)))) (λ i. bit (eqb i j)))
          ∙ sum_ext ports _ _ (λ i h. by_eq i j
          (λ t. rw (t, eq-eqb j j refl, not_done, ne_eqb (b j) 0 some))
          (λ t. rw (ne_eqb i j t, else_b i h t) (omega arith)))
        where
          one : sum_to ports (λ i. bit (eqb i j)) ≡ 1
          one = sum_one ports j (λ i. bit (eqb i j)) k.low (λ i h n. rw (ne_eqb i j n)) ∙ rw (eq-eqb j j refl)

      -- whatever is counted over the entries of both slots is what it was, less the cell that is still to come, and with the one that came
      pub both_kept : (w : ℕ → ℕ) → w 0 ≡ 0 → sum_to ports (λ i. w (a' i) + w (b' i)) + w (b j) ≡ sum_to ports (λ i. w (a i) + w (b i)) + w e
      both_kept w none =
          ap (λ z. sum_to ports (λ i. w (a' i) + w (b' i)) + z) (sym (at j k.low (w (b j))))
          ∙ sym (sum_add ports (λ i. w (a' i) + w (b' i)) (λ i. if (eqb i j) (w (b j)) 0))
          ∙ sum_ext ports _ _ each
          ∙ sum_add ports (λ i. w (a i) + w (b i)) (λ i. if (eqb i f) (w e) 0)
          ∙ ap (λ z. sum_to ports (λ i. w (a i) + w (b i)) + z) (at f g.low (w e))
        where
          at : (x : ℕ) → x < ports → (v : ℕ) → sum_to ports (λ i. if (eqb i x) v 0) ≡ v
          at x h v = sum_one ports x (λ i. if (eqb i x) v 0) h (λ i l n. rw (ne_eqb i x n)) ∙ rw (eq-eqb x x refl)

          each : (i : ℕ) → i < ports → w (a' i) + w (b' i) + if (eqb i j) (w (b j)) 0 ≡ w (a i) + w (b i) + if (eqb i f) (w e) 0
          each i h =
              by_eq i j
              (λ t. rw (t, eq-eqb j j refl, ne_eqb j f (clash_else j k), at_j, in_b, none) (omega arith))
              (λ t. by_eq i f
              (λ d. rw (ne_eqb i j t, else_b i h t, d, eq-eqb f f refl, at_f, g.vacant, none) (omega arith))
              (λ d. rw (ne_eqb i j t, ne_eqb i f d, else_a i h d t, else_b i h t)))
