-- Rule 6: the slot of counts that fit one slot, which is the only one, and its cells.
use Prim.Native.Nat.{ℕ, suc, zero, ◌+◌, ◌%◌, ◌≤◌, ◌<◌}
use mathlib.Core.Path.{◌≡◌, refl, sym, ap, ◌∙◌, subst}
use mathlib.Core.Logic.{◌≢◌}
use mathlib.Core.List.{List, [], ◌∷◌}
use mathlib.Core.Bool.{true}
use native.Mathlib.Omega.{arith}
use native.Mathlib.Nat.{mod-eq_of_lt}
use lib.Dec.{eqb}
use lib.ListN.{length, get_or, set, replicate, length-set, length-replicate}
use lib.Seq.{get_or-set_same, get_or-set_other, ext_get_or}
use borrow.Author.Tests.{eqb-true, eq-eqb}
use Rattle.rules.specs.Words.{if, up_from, keep}
use Rattle.rules.specs.Flows.{flows, End, inputs, port_of, Class, flow, load_in, Fits, input}
use Rattle.rules.specs.Frames.{right, cells}
use Rattle.rules.specs.Rules.{odd, Slot}
use Rattle.rules.specs.Schedule.{put, slot_of}
use Rattle.rules.proofs.Cases.{by_bool, by_eq, is_yes, is_no}
use Rattle.rules.proofs.Sums.{sum_ext, sum_one, sum_has, sum_has_two}
use Rattle.rules.proofs.Cells.{cells_slot}
use Rattle.rules.proofs.Partners.{odd_lt}
use Rattle.rules.proofs.Lists.{zero_at}
use Rattle.rules.proofs.Flows.{right_flow, flow_counts, exact_all}

-- ---- what is written into a slot
put_length : (port : End → ℕ → ℕ) (l s : List ℕ) → length (put port l s) ≡ length s
put_length port [] s = refl
put_length port (p ∷ l) s = put_length port l (set s (port inputs p) (suc p)) ∙ length-set s (port inputs p) (suc p)

pub slot_length : (ports : ℕ) (port : End → ℕ → ℕ) (m : List ℕ) → length (slot_of ports port m) ≡ ports
unfolding slot_of
slot_length ports port m = put_length port (keep (odd m) (up_from 0 (length m))) (replicate ports 0) ∙ length-replicate ports 0

module _ (port : End → ℕ → ℕ) (m : List ℕ) (i : ℕ) where
  -- what is at i after all is as it was, or was written
  put_any : (P : ℕ → Type 0) (n a : ℕ) (s : List ℕ) → i < length s → ((p : ℕ) → a ≤ p → p < a + n → odd m p ≡ true → port inputs p ≡ i → P (suc p)) → P (get_or s i 0)
      → P (get_or (put port (keep (odd m) (up_from a n)) s) i 0)
  put_any P zero a s h f g = g
  put_any P (suc n) a s h f g =
      by_bool (odd m a)
      (λ e. rw e (put_any P n (suc a) (set s (port inputs a) (suc a)) (rw (length-set s (port inputs a) (suc a)) h) (λ p l k. f p (omega arith) (omega arith))
      (by_eq i (port inputs a)
      (λ d. rw d (rw (get_or-set_same s (port inputs a) (suc a) 0 (rw d at h)) (f a (omega arith) (omega arith) e (sym d))))
      (λ d. rw (get_or-set_other s (port inputs a) i (suc a) 0 d) g))))
      (λ e. rw e (put_any P n (suc a) s h (λ p l k. f p (omega arith) (omega arith)) g))

  -- what is at i after all, where one flow alone is written there
  put_one : (q : ℕ) → odd m q ≡ true → port inputs q ≡ i → ((p : ℕ) → p ≢ q → odd m p ≡ true → port inputs p ≡ i → ⊥) → (n a : ℕ) (s : List ℕ) → i < length s → a ≤ q → q < a + n
      → get_or (put port (keep (odd m) (up_from a n)) s) i 0 ≡ suc q
  put_one q o d only zero a s h l k = absurd (omega arith)
  put_one q o d only (suc n) a s h l k =
      by_eq a q
      (λ e.
      let oa = rw (sym e) at o in
      let da = rw (sym e) at d in
      rw oa (put_any (λ v. v ≡ suc q) n (suc a) (set s (port inputs a) (suc a)) (rw (length-set s (port inputs a) (suc a)) h)
      (λ p g _ x y. absurd (only p (omega arith) x y))
      (subst (λ (t : ℕ). get_or (set s (port inputs a) (suc a)) t 0 ≡ suc a) da (get_or-set_same s (port inputs a) (suc a) 0 (rw (sym da) at h)) ∙ ap suc e)))
      (λ e. by_bool (odd m a)
      (λ x. rw x (put_one q o d only n (suc a) (set s (port inputs a) (suc a)) (rw (length-set s (port inputs a) (suc a)) h) (omega arith) (omega arith)))
      (λ x. rw x (put_one q o d only n (suc a) s h (omega arith) (omega arith))))

  module _ (ports : ℕ) (h : i < ports) where
    start : i < length (replicate {A = ℕ} ports 0)
    start = rw (length-replicate {A = ℕ} ports 0) h

    -- an entry of the slot is 0 or an odd count's flow
    pub slot_any : (P : ℕ → Type 0) → P 0 → ((p : ℕ) → p < length m → odd m p ≡ true → port inputs p ≡ i → P (suc p)) → P (get_or (slot_of ports port m) i 0)
    unfolding slot_of
    slot_any P z f = put_any P (length m) 0 (replicate ports 0) start (λ p _ l od d. f p (omega arith) od d) (rw (zero_at ports i) z)

    pub slot_one : (q : ℕ) → odd m q ≡ true → port inputs q ≡ i → ((p : ℕ) → p ≢ q → odd m p ≡ true → port inputs p ≡ i → ⊥) → get_or (slot_of ports port m) i 0 ≡ suc q
    unfolding slot_of
    slot_one q od d only = let l = odd_lt m q od in put_one q od d only (length m) 0 (replicate ports 0) start (omega arith) (omega arith)

-- ---- the slot of counts that fit one slot
-- the first n flows are of inputs of the switch
abbrev pub AtInputs : ℕ → (End → ℕ → ℕ) → ℕ → Type 0
AtInputs ports port n = (f : ℕ) → f < n → port inputs f < ports

module _ (ports : ℕ) (port : End → ℕ → ℕ) (m : List ℕ) (placed : AtInputs ports port (length m)) (fits : Fits ports 1 port m) where
  -- what a flow adds to the load of its input
  at_own : (f : ℕ) → if (eqb (port inputs f) (port inputs f)) (get_or m f 0) 0 ≡ get_or m f 0
  at_own f = rw (eq-eqb (port inputs f) (port inputs f) refl)

  count_one : (f : ℕ) → f < length m → get_or m f 0 ≤ 1
  unfolding load_in
  count_one f h =
      omega (arith, (fits (port inputs f) (placed f h)).0, sum_has (length m) f (λ p. if (eqb (port inputs p) (port inputs f)) (get_or m p 0) 0) h, at_own f)

  input_one : (f p : ℕ) → f < length m → p < length m → p ≢ f → odd m p ≡ true → port inputs p ≡ port inputs f → get_or m f 0 ≡ 1 → ⊥
  unfolding load_in
  input_one f p hf hp n od e one =
      let z = eqb-true (get_or m p 0 % 2) 1 od in
      let other : if (eqb (port inputs p) (port inputs f)) (get_or m p 0) 0 ≡ get_or m p 0 = rw (eq-eqb (port inputs p) (port inputs f) e) in
      omega (arith, (fits (port inputs f) (placed f hf)).0, sum_has_two (length m) p f (λ p. if (eqb (port inputs p) (port inputs f)) (get_or m p 0) 0) hp hf n, at_own f, other)

  pub slot_is : Slot ports port m (slot_of ports port m)
  slot_is =
      record {
        size = slot_length ports port m;
        few = fits;
        own = λ i f h. slot_any port m i ports h (λ v. v ≡ suc f → (f < length m) × (port inputs f ≡ i))
            (λ e. absurd (omega arith)) (λ p l od d e. let k : p ≡ f = omega arith in rw (sym k) (l, d));
        same = λ f h. by_eq (get_or m f 0) 1
            (λ e. is_yes (get_or (slot_of ports port m) (port inputs f) 0) (suc f) (slot_one port m (port inputs f) ports (placed f h) f (eq-eqb (get_or m f 0 % 2) 1 (omega arith)) refl
            (λ p n od d. input_one f p h (odd_lt m p od) n od d e)) ∙ sym e)
            (λ e. is_no (get_or (slot_of ports port m) (port inputs f) 0) (suc f) (other f h e) ∙ (let k = count_one f h in omega arith));
      }
    where
      other : (f : ℕ) → f < length m → get_or m f 0 ≢ 1 → get_or (slot_of ports port m) (port inputs f) 0 ≢ suc f
      other f h e =
          slot_any port m (port inputs f) ports (placed f h) (λ v. v ≢ suc f) (omega arith)
          (λ p l od d k.
          let z = eqb-true (get_or m p 0 % 2) 1 od in
          let g : p ≡ f = omega arith in
          let w = ap (λ (t : ℕ). get_or m t 0) g in
          let c = count_one f h in
          omega arith)

-- ---- whatever meets the rule
module _ (ports : ℕ) (port : End → ℕ → ℕ) (m entries : List ℕ) (sl : Slot ports port m entries) where
  one_of : (f : ℕ) → f < length m → odd m f ≡ true → get_or entries (port inputs f) 0 ≡ suc f
  one_of f h od =
      by_eq (get_or entries (port inputs f) 0) (suc f) (λ e. e)
      (λ n. let z = eqb-true (get_or m f 0 % 2) 1 od in let s = sl.same f h in let k = is_no (get_or entries (port inputs f) 0) (suc f) n in absurd (omega arith))

  at_input : (i f : ℕ) → f < length m → odd m f ≡ true → port inputs f ≡ i → get_or entries i 0 ≡ suc f
  at_input i f h od d = rw (sym d) (one_of f h od)

  only_at : (i v : ℕ) → i < ports → get_or entries i 0 ≡ v → get_or (slot_of ports port m) i 0 ≡ v
  only_at i zero hi e = slot_any port m i ports hi (λ v. v ≡ 0) refl (λ p l od d. let k = at_input i p l od d in absurd (omega arith))
  only_at i (suc f) hi e =
      let o = sl.own i f hi e in
      let s = sl.same f o.0 in
      let k = is_yes (get_or entries (port inputs f) 0) (suc f) (rw o.1 e) in
      slot_one port m i ports hi f (eq-eqb (get_or m f 0 % 2) 1 (omega arith)) o.1 (λ p n od d. n (let g = at_input i p (odd_lt m p od) od d in omega arith))

  pub only_slot : entries ≡ slot_of ports port m
  only_slot =
      ext_get_or 0 entries (slot_of ports port m) (sl.size ∙ sym (slot_length ports port m))
      (λ i h. let hi : i < ports = (let k = sl.size in omega arith) in sym (only_at i (get_or entries i 0) hi refl))

-- ---- its entries are right, and its cells are its counts
module _ (ports : ℕ) (list m entries : List ℕ) (size : length m ≡ flows list) (placed : AtInputs ports (port_of list) (flows list))
    (sl : Slot ports (port_of list) m entries) where
  right_at : (i v : ℕ) → i < ports → get_or entries i 0 ≡ v → right list i v ≡ true
  right_at i zero h e = refl
  right_at i (suc f) h e = let o = sl.own i f h e in right_flow input list i f (omega (arith, o.0)) o.1

  pub slot_right : (q : ℕ) → q < length entries → right list (q % ports) (get_or entries q 0) ≡ true
  slot_right q h = let l : q < ports = omega (arith, sl.size) in rw (mod-eq_of_lt l) (right_at q (get_or entries q 0) l refl)

  pub slot_flow : (f : ℕ) → f < flows list → cells (flow f) ports list entries ≡ get_or m f 0
  slot_flow f h =
      cells_slot input ports list (flow f) entries sl.size
      ∙ sum_ext ports _ _ (λ i _. flow_counts input list f i (get_or entries i 0) h)
      ∙ sum_one ports (port_of list inputs f) _ (placed f h) (λ i l n. is_no (get_or entries i 0) (suc f) (λ e. n (sym (sl.own i f l e).1)))
      ∙ sl.same f (omega arith)

  pub slot_exact : (c : Class) → cells c ports list entries ≡ load_in c (port_of list) m
  slot_exact = exact_all input ports list entries slot_right m size slot_flow
