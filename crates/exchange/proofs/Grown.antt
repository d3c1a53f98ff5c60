-- A frame with one cell more: what it has of every class.
use Prim.Native.Nat.{ℕ, suc, ◌+◌, ◌*◌, ◌-◌, ◌<◌}
use mathlib.Core.Path.{◌≡◌, refl, sym, ap, ◌∙◌}
use mathlib.Core.Logic.{◌≢◌}
use mathlib.Core.List.{List}
use mathlib.Core.Bool.{true}
use native.Mathlib.Omega.{arith}
use lib.Arith.{digits_mod}
use lib.ListN.{length, get_or}
use lib.Seq.{ext_get_or}
use Rattle.rules.specs.Words.{bit, sum_to, Within}
use Rattle.rules.specs.Flows.{flows, input, output, port_of, Class, port_on, is_of}
use Rattle.rules.specs.Frames.{is_flow_of, right, cells, cells_on, run_of}
use Rattle.rules.proofs.Cases.{by_eq, from_one}
use Rattle.rules.proofs.Sums.{sum_ext, sum_add, sum_at, sum_two, sum_rows}
use Rattle.rules.proofs.Flows.{is_flow_of_class, right_counts}
use Rattle.usable_frames.specs.Usable.{Usable}
use Rattle.usable_frames.proofs.Sound.{once_sum, by_flow}
use Rattle.usable_frames.proofs.Slots.{slot_size, slot_at, other_cells}
use Rattle.exchange.specs.Exchange.{entry_at, put_at, port_to}
use Rattle.exchange.proofs.Steps.{Once}
use Rattle.exchange.proofs.Puts.{put_size, put_same, put_slot, put_input}
use Rattle.exchange.proofs.Walked.{right_own, Ended}
use Rattle.exchange.proofs.Chosen.{port_low, slot_once}

-- ---- a frame with one cell of flow number e more, seen from the one before; `Changed` are the slots that may differ
pub record Grown (ports slots : ℕ) (list frame new : List ℕ) (e : ℕ) (Changed : ℕ → Type 0) : Type 0 where
  pub size : length new ≡ slots * ports
  pub elsewhere : (u x : ℕ) → x < ports → (Changed u → ⊥) → entry_at ports new u x ≡ entry_at ports frame u x
  pub each_right : (u i : ℕ) → u < slots → i < ports → right list i (entry_at ports new u i) ≡ true
  pub each_once : (u : ℕ) → u < slots → Once ports (port_to output list) (entry_at ports new u)
  pub kept : (w : ℕ → ℕ) → w 0 ≡ 0
      → sum_to slots (λ u. sum_to ports (λ i. w (entry_at ports new u i))) ≡ sum_to slots (λ u. sum_to ports (λ i. w (entry_at ports frame u i))) + w e

module _ {ports slots : ℕ} {list frame : List ℕ} (u : Usable input ports slots list frame) {e : ℕ} (listed : Within 1 (flows list) e) where
  abbrev f : ℕ
  f = port_to input list e

  -- ---- by a slot in which both ports are idle
  module _ (s : ℕ) (hs : s < slots) (vacant : entry_at ports frame s f ≡ 0)
      (idle : (i : ℕ) → i < ports → entry_at ports frame s i ≢ 0 → port_to output list (entry_at ports frame s i) ≢ port_to output list e) where
    abbrev put : List ℕ
    put = put_at ports frame s f e

    put_at_is : entry_at ports put s f ≡ e
    put_at_is = put_same ports slots frame u.size s f e hs (port_low u input e listed)

    put_else : (v x : ℕ) → x < ports → x ≢ f → entry_at ports put v x ≡ entry_at ports frame v x
    put_else = put_input ports slots frame u.size s f e hs (port_low u input e listed)

    put_away : (v x : ℕ) → x < ports → v ≢ s → entry_at ports put v x ≡ entry_at ports frame v x
    put_away = put_slot ports slots frame u.size s f e hs (port_low u input e listed)

    once_here : Once ports (port_to output list) (entry_at ports put s)
    once_here i j hi hj =
        by_eq i f
        (λ d. by_eq j f (λ p _ _ _. d ∙ sym p) (λ p. rw (d, put_at_is, put_else s j hj p) (λ _ z q. absurd (idle j hj z (sym q)))))
        (λ d. by_eq j f
        (λ p. rw (p, put_at_is, put_else s i hi d) (λ z _ q. absurd (idle i hi z q)))
        (λ p. rw (put_else s i hi d, put_else s j hj p) (slot_once u s hs i j hi hj)))

    pub put_grown : Grown ports slots list frame (put_at ports frame s (port_to input list e) e) e (λ v. v ≡ s)
    put_grown =
        record {
          size = put_size ports slots frame u.size s f e hs (port_low u input e listed);
          elsewhere = λ v x h n. put_away v x h n;
          each_right = λ v i hv hi. by_eq v s
              (λ d. rw d (by_eq i f (λ p. rw (p, put_at_is) (right_own list e listed)) (λ p. rw (put_else s i hi p) (u.each_right s i hs hi))))
              (λ d. rw (put_away v i hi d) (u.each_right v i hv hi));
          each_once = λ v hv. by_eq v s (λ d. rw d once_here)
              (λ d i j hi hj. rw (put_away v i hi d, put_away v j hj d) (slot_once u v hv i j hi hj));
          kept = λ w z.
              let in_the_slot = sum_at ports f (λ i. w (entry_at ports put s i)) (λ i. w (entry_at ports frame s i)) (port_low u input e listed) (λ i h n. ap w (put_else s i h n)) in
              let Slots-kept = sum_at slots s (λ v. sum_to ports (λ i. w (entry_at ports put v i))) (λ v. sum_to ports (λ i. w (entry_at ports frame v i))) hs
              (λ v h n. sum_ext ports _ _ (λ i l. ap w (put_away v i l n))) in
              let one = ap w put_at_is in
              let none : w (entry_at ports frame s f) ≡ 0 = ap w vacant ∙ z in
              omega arith;
        }

  -- ---- by the exchange of two slots
  pub ended_grown : (s t : ℕ) → s < slots → t < slots → t ≢ s → {new : List ℕ} → Ended ports slots list frame new e s t
      → Grown ports slots list frame new e (λ v. (v ≢ s → v ≢ t → ⊥))
  ended_grown s t hs ht apart {new} g =
      record {
        size = g.size;
        elsewhere = λ v x h n. by_eq v s (λ d. absurd (n (λ p _. p d))) (λ d. by_eq v t (λ p. absurd (n (λ _ q. q p))) (λ p. g.elsewhere v x h d p));
        each_right = λ v i hv hi. by_eq v s (λ d. rw d (g.right_former i hi))
            (λ d. by_eq v t (λ p. rw p (g.right_other i hi)) (λ p. rw (g.elsewhere v i hi d p) (u.each_right v i hv hi)));
        each_once = λ v hv. by_eq v s (λ d. rw d g.former_once)
            (λ d. by_eq v t (λ p. rw p g.other_once) (λ p i j hi hj. rw (g.elsewhere v i hi d p, g.elsewhere v j hj d p) (slot_once u v hv i j hi hj)));
        kept = λ w z.
            let two = sum_two slots s t (λ v. sum_to ports (λ i. w (entry_at ports new v i))) (λ v. sum_to ports (λ i. w (entry_at ports frame v i))) hs ht apart
            (λ v h n d. sum_ext ports _ _ (λ i l. ap w (g.elsewhere v i l n d))) in
            omega (arith, g.kept w z, sum_add ports (λ i. w (entry_at ports new s i)) (λ i. w (entry_at ports new t i)), sum_add ports (λ i. w (entry_at ports frame s i)) (λ i. w (entry_at ports frame t i)));
      }

-- ---- what such a frame has
-- the cells of a class are those of its entries that are flows of it
pub cells_by_entry : (ports slots : ℕ) (list entries : List ℕ) → length entries ≡ slots * ports
    → ((s i : ℕ) → s < slots → i < ports → right list i (entry_at ports entries s i) ≡ true)
    → (c : Class) → cells c ports list entries ≡ sum_to slots (λ s. sum_to ports (λ i. bit (is_flow_of c list (entry_at ports entries s i))))
unfolding cells_on
cells_by_entry ports slots list entries size each c =
    rw size
    (sum_rows slots ports _
    ∙ sum_ext slots _ _ (λ s h. sum_ext ports _ _ (λ i l. rw (digits_mod s l) (ap bit (right_counts input list c i (entry_at ports entries s i) (each s i h l))))))

module _ {ports slots : ℕ} {list frame new : List ℕ} {e : ℕ} {Changed : ℕ → Type 0} (u : Usable input ports slots list frame) (listed : Within 1 (flows list) e)
    (g : Grown ports slots list frame new e Changed) where
  pub grown_usable : Usable input ports slots list new
  grown_usable =
      record {
        well = u.well;
        size = g.size;
        each_right = g.each_right;
        each_once = λ s x h l.
            omega (
              arith,
              other_cells input output ports list (run_of ports s 1 new) refl (slot_size ports slots new g.size s h) x,
              once_sum ports (λ i. is_flow_of (port_on output x) list (get_or (run_of ports s 1 new) i 0)) (λ i j hi hj y z.
                  g.each_once s h i j hi hj (some s x i h hi y) (some s x j h hj z) (to_x s x i h hi y ∙ sym (to_x s x j h hj z))),
            );
      }
    where
      some : (s x i : ℕ) → s < slots → i < ports → is_flow_of (port_on output x) list (get_or (run_of ports s 1 new) i 0) ≡ true → entry_at ports new s i ≢ 0
      some s x i h l y z =
          by_flow list output x (get_or (run_of ports s 1 new) i 0) y (λ f _ d _. omega (arith, slot_at ports slots new g.size s h i l))

      to_x : (s x i : ℕ) → s < slots → i < ports → is_flow_of (port_on output x) list (get_or (run_of ports s 1 new) i 0) ≡ true → port_to output list (entry_at ports new s i) ≡ x
      to_x s x i h l y =
          by_flow list output x (get_or (run_of ports s 1 new) i 0) y
          (λ f _ d p. let is : entry_at ports new s i - 1 ≡ f = omega (arith, slot_at ports slots new g.size s h i l) in rw is p)

  pub grown_cells : (c : Class) → cells c ports list new ≡ cells c ports list frame + bit (is_of c (port_of list) (e - 1))
  grown_cells c =
      cells_by_entry ports slots list new g.size g.each_right c
      ∙ g.kept (λ x. bit (is_flow_of c list x)) refl
      ∙ ap (λ z. z + bit (is_flow_of c list e)) (sym (cells_by_entry ports slots list frame u.size u.each_right c))
      ∙ ap (λ z. cells c ports list frame + bit z) flow_is
    where
      flow_is : is_flow_of c list e ≡ is_of c (port_of list) (e - 1)
      flow_is =
          from_one (λ x. is_flow_of c list x ≡ is_of c (port_of list) (x - 1)) (flows list) e listed
          (λ f h. let d : suc f - 1 ≡ f = omega arith in is_flow_of_class list c f h ∙ ap (is_of c (port_of list)) (sym d))

  -- a slot that may not differ is as it was
  pub grown_slot : (s : ℕ) → s < slots → (Changed s → ⊥) → run_of ports s 1 new ≡ run_of ports s 1 frame
  grown_slot s h n =
      let in_new = slot_size ports slots new g.size s h in
      ext_get_or 0 (run_of ports s 1 new) (run_of ports s 1 frame) (in_new ∙ sym (slot_size ports slots frame u.size s h))
      (λ i l.
      let low : i < ports = omega arith in
      slot_at ports slots new g.size s h i low ∙ g.elsewhere s i low n ∙ sym (slot_at ports slots frame u.size s h i low))
