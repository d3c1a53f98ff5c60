-- The exchange goes to its end: what it leaves, what it keeps, and how many cells it moves.
use Prim.Native.Nat.{ℕ, suc, zero, ◌+◌, ◌*◌, ◌-◌, ◌≤◌, ◌<◌}
use mathlib.Core.Path.{◌≡◌, refl, sym, ap, ap₂, ◌∙◌, subst}
use mathlib.Core.Logic.{◌≢◌}
use mathlib.Core.List.{List}
use mathlib.Core.Bool.{Bool, true, false, not, true≢false}
use native.Mathlib.Omega.{arith}
use lib.Dec.{eqb}
use lib.ListN.{length}
use lib.Seq.{set-set}
use borrow.Author.Tests.{eq-eqb, ne_eqb, eqb-true}
use Rattle.rules.specs.Words.{if, both, bit, first, sum_to, Within}
use Rattle.rules.specs.Flows.{flows, input, output, on_side, port_of}
use Rattle.rules.specs.Frames.{right}
use Rattle.rules.proofs.Cases.{by_bool, by_eq, by_lt, both_true, from_one}
use Rattle.rules.proofs.Sums.{sum_ext, sum_add, sum_one}
use Rattle.rules.proofs.Searches.{first_found, first_before, first_is, first_none}
use Rattle.rules.proofs.Flows.{by_entry, right_flow}
use Rattle.exchange.specs.Exchange.{entry_at, put_at, port_to, collides, cell_put, displacing, Exchanges, rests, displaces, Exchanged, one_more_moved, exchange}
use Rattle.exchange.specs.Swaps.{output_number, lowest_to, swapped, moved_by, more_moved, swaps}
use Rattle.exchange.proofs.Puts.{put_size, put_same, put_slot, put_input}
use Rattle.exchange.proofs.Steps.{Once, Coming, Clash, left, next_done, only_clash, clash_else, rests_once, former_on, other_on, coming_on, left_less, both_kept}
use Rattle.exchange.proofs.Swapped.{exchange_rests, exchange_displaces, swaps_stop, swaps_rest, swaps_on, output_number_is, idle_number, lowest_collides, swapped_is, next_is}

-- ---- entries that are right
-- one that is not idle is of a flow of its input
pub own_flow : (list : List ℕ) (i x : ℕ) → right list i x ≡ true → x ≢ 0 → (port_to input list x ≡ i) × Within 1 (flows list) x
own_flow list i x h n =
    by_entry input list i x h (λ z. absurd (n z))
    (λ f l z p. let d : x - 1 ≡ f = omega arith in (ap (on_side input (port_of list)) d ∙ p, (omega arith, omega arith)))

pub right_own : (list : List ℕ) (x : ℕ) → Within 1 (flows list) x → right list (port_to input list x) x ≡ true
right_own list x h =
    from_one (λ x. right list (port_to input list x) x ≡ true) (flows list) x h
    (λ f l. let d : suc f - 1 ≡ f = omega arith in right_flow input list (port_to input list (suc f)) f l (ap (on_side input (port_of list)) (sym d)))

-- ---- two slots of a frame, and a cell of flow number e that is to come into the former
pub record Moving (ports slots : ℕ) (list frame : List ℕ) (c : ℕ → ℕ) (e s t : ℕ) (done : ℕ → Bool) : Type 0 where
  pub size : length frame ≡ slots * ports
  pub former : s < slots
  pub other : t < slots
  pub apart : t ≢ s
  pub listed : Within 1 (flows list) e
  pub right_former : (i : ℕ) → i < ports → right list i (entry_at ports frame s i) ≡ true
  pub right_other : (i : ℕ) → i < ports → right list i (entry_at ports frame t i) ≡ true
  pub coming : Coming ports (port_to output list) c (entry_at ports frame s) (entry_at ports frame t) (port_to input list e) e done

-- What the exchange leaves, seen from the frame that it began with.
pub record Ended (ports slots : ℕ) (list frame new : List ℕ) (e s t : ℕ) : Type 0 where
  pub size : length new ≡ slots * ports
  pub elsewhere : (u x : ℕ) → x < ports → u ≢ s → u ≢ t → entry_at ports new u x ≡ entry_at ports frame u x
  pub right_former : (i : ℕ) → i < ports → right list i (entry_at ports new s i) ≡ true
  pub right_other : (i : ℕ) → i < ports → right list i (entry_at ports new t i) ≡ true
  pub former_once : Once ports (port_to output list) (entry_at ports new s)
  pub other_once : Once ports (port_to output list) (entry_at ports new t)
  pub kept : (w : ℕ → ℕ) → w 0 ≡ 0
      → sum_to ports (λ i. w (entry_at ports new s i) + w (entry_at ports new t i)) ≡ sum_to ports (λ i. w (entry_at ports frame s i) + w (entry_at ports frame t i)) + w e

-- The exchange from there on, where n bounds how many inputs of the other slot have a cell that may come.
pub record Walk (ports slots : ℕ) (list frame : List ℕ) (e s t n : ℕ) : Type 0 where
  pub new : List ℕ
  pub moved : ℕ
  pub ended : Ended ports slots list frame new e s t
  pub by_exchange : (k : ℕ) → 2 * n + 2 ≤ k → exchange k ports list frame e s t ≡ record { frame = new; moved = moved }
  pub by_swap : (k : ℕ) → n + 1 ≤ k → swaps k ports list (cell_put ports list frame e s) s t (port_to input list e) ≡ record { frame = new; moved = moved }
  pub meets : Exchanges ports list frame e s t new moved
  pub only : (given : List ℕ) (m : ℕ) → Exchanges ports list frame e s t given m → (given ≡ new) × (m ≡ moved)
  pub few : moved ≤ 2 * n + 1

module _ {ports slots : ℕ} {list frame : List ℕ} {c : ℕ → ℕ} {e s t : ℕ} {done : ℕ → Bool} (m : Moving ports slots list frame c e s t done) where
  abbrev f : ℕ
  f = port_to input list e

  abbrev to : ℕ → ℕ
  to = port_to output list

  abbrev a : ℕ → ℕ
  a = entry_at ports frame s

  abbrev b : ℕ → ℕ
  b = entry_at ports frame t

  -- what collides with the cell has its output
  clash_of : (i : ℕ) → i < ports → collides ports list frame e s i ≡ true → Clash ports to a e i
  unfolding collides
  clash_of i h y =
      let p = both_true (not (eqb (a i) 0)) (if (eqb i f) true (eqb (to (a i)) (to e))) y in
      let busy : a i ≢ 0 = λ z. true≢false (sym (rw (eq-eqb (a i) 0 z) at p.0)) in
      let else : i ≢ f = λ d. busy (ap a d ∙ m.coming.vacant) in
      record { low = h; busy = busy; same = eqb-true (to (a i)) (to e) (rw (ne_eqb i f else) at p.1) }

  of_clash : (i : ℕ) → Clash ports to a e i → collides ports list frame e s i ≡ true
  unfolding collides
  of_clash i k = rw (ne_eqb (a i) 0 k.busy, ne_eqb i f (clash_else m.coming i k), eq-eqb (to (a i)) (to e) k.same)

  -- ---- nothing collides
  module _ (none : ports ≤ first (collides ports list frame e s) 0 ports) where
    no_clash : (i : ℕ) → Clash ports to a e i → ⊥
    no_clash i k = true≢false (sym (of_clash i k) ∙ first_before (collides ports list frame e s) ports 0 i (omega arith) (omega (arith, k.low)))

    no_collision : (i : ℕ) → i < ports → collides ports list frame e s i ≡ false
    no_collision i h = first_before (collides ports list frame e s) ports 0 i (omega arith) (omega arith)

    abbrev rest : List ℕ
    rest = put_at ports frame s f e

    rest_at : entry_at ports rest s f ≡ e
    rest_at = put_same ports slots frame m.size s f e m.former m.coming.low

    rest_else : (u x : ℕ) → x < ports → x ≢ f → entry_at ports rest u x ≡ entry_at ports frame u x
    rest_else = put_input ports slots frame m.size s f e m.former m.coming.low

    rest_slot : (u x : ℕ) → x < ports → u ≢ s → entry_at ports rest u x ≡ entry_at ports frame u x
    rest_slot = put_slot ports slots frame m.size s f e m.former m.coming.low

    rest_ended : Ended ports slots list frame rest e s t
    rest_ended =
        record {
          size = put_size ports slots frame m.size s f e m.former m.coming.low;
          elsewhere = λ u x h n _. rest_slot u x h n;
          right_former = λ i h. by_eq i f (λ d. rw (d, rest_at) (right_own list e m.listed)) (λ n. rw (rest_else s i h n) (m.right_former i h));
          right_other = λ i h. rw (rest_slot t i h m.apart) (m.right_other i h);
          former_once = rests_once m.coming no_clash (entry_at ports rest s) rest_at (λ i h n. rest_else s i h n);
          other_once = λ i j hi hj. rw (rest_slot t i hi m.apart, rest_slot t j hj m.apart) (m.coming.other_once i j hi hj);
          kept = kept;
        }
      where
        kept : (w : ℕ → ℕ) → w 0 ≡ 0 → sum_to ports (λ i. w (entry_at ports rest s i) + w (entry_at ports rest t i)) ≡ sum_to ports (λ i. w (a i) + w (b i)) + w e
        kept w zero-w =
            sum_ext ports _ _ each
            ∙ sum_add ports (λ i. w (a i) + w (b i)) (λ i. if (eqb i f) (w e) 0)
            ∙ ap (λ z. sum_to ports (λ i. w (a i) + w (b i)) + z)
            (sum_one ports f (λ i. if (eqb i f) (w e) 0) m.coming.low (λ i l n. rw (ne_eqb i f n)) ∙ rw (eq-eqb f f refl))
          where
            each : (i : ℕ) → i < ports → w (entry_at ports rest s i) + w (entry_at ports rest t i) ≡ w (a i) + w (b i) + if (eqb i f) (w e) 0
            each i h =
                rw (rest_slot t i h m.apart)
                (by_eq i f
                (λ d. rw (d, rest_at, eq-eqb f f refl, m.coming.vacant, zero-w) (omega arith))
                (λ n. rw (rest_else s i h n, ne_eqb i f n) (omega arith)))

    only_rests : (given : List ℕ) (n : ℕ) → Exchanges ports list frame e s t given n → (given ≡ rest) × (n ≡ 0)
    only_rests given n (rests free) = (refl, refl)
    only_rests given n (displaces i h y more) = absurd (true≢false (sym y ∙ no_collision i h))

    pub walk_rests : (n : ℕ) → Walk ports slots list frame e s t n
    walk_rests n =
        record {
          new = rest;
          moved = 0;
          ended = rest_ended;
          by_exchange = λ k h. exchange_rests ports list frame e s t k (omega arith) none;
          by_swap = λ k h. swaps_rest ports list rest s t f k (omega (arith, lowest_collides ports slots list frame m.size e s f m.former m.coming.low refl m.coming.some m.coming.vacant));
          meets = rests no_collision;
          only = only_rests;
          few = omega arith;
        }

  -- ---- a cell is displaced
  module _ (j : ℕ) (is : first (collides ports list frame e s) 0 ports ≡ j) (hj : j < ports) where
    clash : Clash ports to a e j
    clash = clash_of j hj (subst (λ (i : ℕ). collides ports list frame e s i ≡ true) is (first_found (collides ports list frame e s) ports 0 (omega arith)))

    else : j ≢ f
    else = clash_else m.coming j clash

    own_d : (port_to input list (a j) ≡ j) × Within 1 (flows list) (a j)
    own_d = own_flow list j (a j) (m.right_former j hj) clash.busy

    -- the cell in its place, which is out of the slot
    abbrev out : List ℕ
    out = put_at ports (put_at ports frame s j 0) s f e

    idle_size : length (put_at ports frame s j 0) ≡ slots * ports
    idle_size = put_size ports slots frame m.size s j 0 m.former hj

    out_size : length out ≡ slots * ports
    out_size = put_size ports slots (put_at ports frame s j 0) idle_size s f e m.former m.coming.low

    out_slot : (u x : ℕ) → x < ports → u ≢ s → entry_at ports out u x ≡ entry_at ports frame u x
    out_slot u x h n =
        put_slot ports slots (put_at ports frame s j 0) idle_size s f e m.former m.coming.low u x h n ∙ put_slot ports slots frame m.size s j 0 m.former hj u x h n

    -- and in the other one
    abbrev over : List ℕ
    over = put_at ports out t j (a j)

    over_is : cell_put ports list out (a j) t ≡ over
    over_is = ap (λ x. put_at ports out t x (a j)) own_d.0

    over_slot : (u x : ℕ) → x < ports → u ≢ t → entry_at ports over u x ≡ entry_at ports out u x
    over_slot = put_slot ports slots out out_size t j (a j) m.other hj

    over_f : entry_at ports over s f ≡ e
    over_f =
        over_slot s f m.coming.low (λ d. m.apart (sym d)) ∙ put_same ports slots (put_at ports frame s j 0) idle_size s f e m.former m.coming.low

    over_j : entry_at ports over s j ≡ 0
    over_j =
        over_slot s j hj (λ d. m.apart (sym d))
        ∙ put_input ports slots (put_at ports frame s j 0) idle_size s f e m.former m.coming.low s j hj else
        ∙ put_same ports slots frame m.size s j 0 m.former hj

    over_else : (x : ℕ) → x < ports → x ≢ f → x ≢ j → entry_at ports over s x ≡ a x
    over_else x h n d =
        over_slot s x h (λ d. m.apart (sym d))
        ∙ put_input ports slots (put_at ports frame s j 0) idle_size s f e m.former m.coming.low s x h n
        ∙ put_input ports slots frame m.size s j 0 m.former hj s x h d

    over_there : entry_at ports over t j ≡ a j
    over_there = put_same ports slots out out_size t j (a j) m.other hj

    over_rest : (x : ℕ) → x < ports → x ≢ j → entry_at ports over t x ≡ b x
    over_rest x h n = put_input ports slots out out_size t j (a j) m.other hj t x h n ∙ out_slot t x h m.apart

    over_size : length over ≡ slots * ports
    over_size = put_size ports slots out out_size t j (a j) m.other hj

    over_elsewhere : (u x : ℕ) → x < ports → u ≢ s → u ≢ t → entry_at ports over u x ≡ entry_at ports frame u x
    over_elsewhere u x h n d = over_slot u x h d ∙ out_slot u x h n

    over_right_s : (i : ℕ) → i < ports → right list i (entry_at ports over s i) ≡ true
    over_right_s i h =
        by_eq i f (λ d. rw (d, over_f) (right_own list e m.listed))
        (λ n. by_eq i j (λ d. rw (d, over_j)) (λ d. rw (over_else i h n d) (m.right_former i h)))

    over_right_t : (i : ℕ) → i < ports → right list i (entry_at ports over t i) ≡ true
    over_right_t i h = by_eq i j (λ d. rw (d, over_there) (m.right_former j hj)) (λ n. rw (over_rest i h n) (m.right_other i h))

    -- in the other slot it collides with that slot's entry of its input alone
    there : (i : ℕ) → i < ports → collides ports list out (a j) t i ≡ both (not (eqb (b i) 0)) (eqb i j)
    unfolding collides
    there i h =
        rw (out_slot t i h m.apart, own_d.0, clash.same)
        (by_eq (b i) 0
        (λ z. rw (eq-eqb (b i) 0 z))
        (λ z. rw (ne_eqb (b i) 0 z)
        (by_eq i j (λ d. rw (eq-eqb i j d)) (λ d. rw (ne_eqb i j d, ne_eqb (to (b i)) (to e) (m.coming.other_idle i h z))))))

    lowest : lowest_to ports list (put_at ports frame s f e) s (output_number list (entry_at ports (put_at ports frame s f e) s f)) f ≡ j
    lowest = lowest_collides ports slots list frame m.size e s f m.former m.coming.low refl m.coming.some m.coming.vacant ∙ is

    some_output : output_number list (entry_at ports (put_at ports frame s f e) s f) ≢ 0
    some_output z =
        let q = ap (output_number list) (put_same ports slots frame m.size s f e m.former m.coming.low) ∙ output_number_is list e m.coming.some in
        omega arith

    swap_is : swapped ports (put_at ports frame s f e) s t j ≡ put_at ports (put_at ports (put_at ports frame s j (b j)) s f e) t j (a j)
    swap_is = swapped_is ports slots list frame m.size e s f m.former m.coming.low refl m.coming.some m.coming.vacant t j m.other hj m.apart else

    moved_is : moved_by ports (put_at ports frame s f e) t j ≡ moved_by ports frame t j
    moved_is = ap (λ x. 1 + bit (not (eqb x 0))) (put_slot ports slots frame m.size s f e m.former m.coming.low t j hj m.apart)

    -- ---- where that is idle, nothing else is displaced
    module _ (idle : b j ≡ 0) where
      free : (i : ℕ) → i < ports → collides ports list out (a j) t i ≡ false
      free i h = there i h ∙ by_eq i j (λ d. rw (d, idle)) (λ d. rw (ne_eqb i j d) (by_bool (not (eqb (b i) 0)) (λ y. rw y) (λ y. rw y)))

      free_first : ports ≤ first (collides ports list out (a j) t) 0 ports
      free_first = omega (arith, first_none (collides ports list out (a j) t) ports 0 (λ i _ h. free i (omega arith)))

      one_moved : moved_by ports (put_at ports frame s f e) t j ≡ 1
      one_moved = moved_is ∙ ap (λ x. 1 + bit (not (eqb x 0))) idle

      swap_over : swapped ports (put_at ports frame s f e) s t j ≡ over
      swap_over = swap_is ∙ ap (λ x. put_at ports (put_at ports (put_at ports frame s j x) s f e) t j (a j)) idle

      over_ended : Ended ports slots list frame over e s t
      over_ended =
          record {
            size = over_size;
            elsewhere = over_elsewhere;
            right_former = over_right_s;
            right_other = over_right_t;
            former_once = former_on m.coming j clash (entry_at ports over s) (entry_at ports over t) over_f over_j over_else over_there over_rest;
            other_once = other_on m.coming j clash (entry_at ports over s) (entry_at ports over t) over_f over_j over_else over_there over_rest;
            kept = λ w z.
                let k = both_kept m.coming j clash (entry_at ports over s) (entry_at ports over t) over_f over_j over_else over_there over_rest w z in
                let none : w (b j) ≡ 0 = ap w idle ∙ z in
                omega arith;
          }

      only_there : (given : List ℕ) (n : ℕ) → Exchanges ports list out (a j) t s given n → (given ≡ over) × (n ≡ 0)
      only_there given n (rests none) = (over_is, refl)
      only_there given n (displaces i h y more) = absurd (true≢false (sym y ∙ free i h))

      only_half : (given : List ℕ) (n : ℕ) → Exchanges ports list frame e s t given n → (given ≡ over) × (n ≡ 1)
      only_half given n (rests none) = absurd (true≢false (sym (of_clash j clash) ∙ none j hj))
      only_half given n (displaces {moved = k} i h y more) =
          let same : i ≡ j = only_clash m.coming i j (clash_of i h y) clash in
          let r = only_there given k (subst (λ (i : ℕ). Exchanges ports list (displacing ports list frame e s i) (a i) t s given k) same more) in
          (r.0, ap suc r.1)

      pub walk_half : (n : ℕ) → Walk ports slots list frame e s t n
      walk_half n =
          record {
            new = over;
            moved = 1;
            ended = over_ended;
            by_exchange = λ k h.
                exchange_displaces ports list frame e s t k j (omega arith) is hj
                ∙ ap one_more_moved (exchange_rests ports list out (a j) t s (k - 1) (omega arith) free_first ∙ ap (λ (l : List ℕ). record { frame = l; moved = 0 }) over_is);
            by_swap = λ k h.
                swaps_on ports list (put_at ports frame s f e) s t f k j (omega arith) some_output lowest hj
                ∙ ap₂ more_moved one_moved (ap (λ (l : List ℕ). swaps (k - 1) ports list l s t j) swap_over
                ∙ swaps_stop ports list over s t j (k - 1) (ap (output_number list) over_j ∙ idle_number list));
            meets = displaces j hj (of_clash j clash) (subst (λ (l : List ℕ). Exchanges ports list out (a j) t s l 0) over_is (rests free));
            only = only_half;
            few = omega arith;
          }

    -- ---- where it is not, that entry is the next to come
    module _ (busy : b j ≢ 0) where
      own_g : (port_to input list (b j) ≡ j) × Within 1 (flows list) (b j)
      own_g = own_flow list j (b j) (m.right_other j hj) busy

      next_first : first (collides ports list out (a j) t) 0 ports ≡ j
      next_first =
          first_is (collides ports list out (a j) t) ports 0 j (omega arith) (omega arith) (there j hj ∙ rw (ne_eqb (b j) 0 busy, eq-eqb j j refl))
          (λ y _ h. there y (omega arith) ∙ rw (ne_eqb y j (omega arith)) (by_bool (not (eqb (b y) 0)) (λ z. rw z) (λ z. rw z)))

      displaced_is : displacing ports list out (a j) t j ≡ over
      displaced_is = ap (λ x. put_at ports (put_at ports out t j 0) t x (a j)) own_d.0 ∙ set-set out (t * ports + j) 0 (a j)

      entry_is : entry_at ports out t j ≡ b j
      entry_is = out_slot t j hj m.apart

      next_moving : Moving ports slots list over c (b j) s t (next_done done j)
      next_moving =
          record {
            size = over_size;
            former = m.former;
            other = m.other;
            apart = m.apart;
            listed = own_g.1;
            right_former = over_right_s;
            right_other = over_right_t;
            coming = subst (λ (i : ℕ). Coming ports to c (entry_at ports over s) (entry_at ports over t) i (b j) (next_done done j)) (sym own_g.0)
                (coming_on m.coming j clash (entry_at ports over s) (entry_at ports over t) over_f over_j over_else over_there over_rest busy);
          }

      next_left : left ports (entry_at ports over t) (next_done done j) + 1 ≡ left ports b done
      next_left = left_less m.coming j clash (entry_at ports over s) (entry_at ports over t) over_f over_j over_else over_there over_rest busy

      two_moved : moved_by ports (put_at ports frame s f e) t j ≡ 2
      two_moved = moved_is ∙ ap (λ x. 1 + bit (not x)) (ne_eqb (b j) 0 busy)

      swap_next : swapped ports (put_at ports frame s f e) s t j ≡ cell_put ports list over (b j) s
      swap_next =
          swap_is
          ∙ sym (next_is ports slots list frame m.size e s f m.former m.coming.low refl m.coming.some m.coming.vacant t j m.other hj m.apart else (a j) (b j))
          ∙ ap (λ x. put_at ports over s x (b j)) (sym own_g.0)

      module _ (n : ℕ) (w : Walk ports slots list over (b j) s t n) where
        next_ended : Ended ports slots list frame w.new e s t
        next_ended =
            record {
              size = w.ended.size;
              elsewhere = λ u x h p q. w.ended.elsewhere u x h p q ∙ over_elsewhere u x h p q;
              right_former = w.ended.right_former;
              right_other = w.ended.right_other;
              former_once = w.ended.former_once;
              other_once = w.ended.other_once;
              kept = λ v z.
                  w.ended.kept v z
                  ∙ both_kept m.coming j clash (entry_at ports over s) (entry_at ports over t) over_f over_j over_else over_there over_rest v z;
            }

        only_next : (given : List ℕ) (k : ℕ) → Exchanges ports list out (a j) t s given k → (given ≡ w.new) × (k ≡ suc w.moved)
        only_next given k (rests none) = absurd (true≢false (sym (there j hj ∙ rw (ne_eqb (b j) 0 busy, eq-eqb j j refl)) ∙ none j hj))
        only_next given k (displaces {moved = q} i h y more) =
            let p = both_true (not (eqb (b i) 0)) (eqb i j) (sym (there i h) ∙ y) in
            let same : i ≡ j = eqb-true i j p.1 in
            let here = subst (λ (i : ℕ). Exchanges ports list (displacing ports list out (a j) t i) (entry_at ports out t i) s t given q) same more in
            let next = subst (λ (l : List ℕ). Exchanges ports list l (b j) s t given q) displaced_is (subst (λ (x : ℕ). Exchanges ports list (displacing ports list out (a j) t j) x s t given q) entry_is here) in
            let r = w.only given q next in
            (r.0, ap suc r.1)

        only_on : (given : List ℕ) (k : ℕ) → Exchanges ports list frame e s t given k → (given ≡ w.new) × (k ≡ 2 + w.moved)
        only_on given k (rests none) = absurd (true≢false (sym (of_clash j clash) ∙ none j hj))
        only_on given k (displaces {moved = q} i h y more) =
            let same : i ≡ j = only_clash m.coming i j (clash_of i h y) clash in
            let r = only_next given q (subst (λ (i : ℕ). Exchanges ports list (displacing ports list frame e s i) (a i) t s given q) same more) in
            (r.0, omega (arith, r.1))

        pub walk_on : Walk ports slots list frame e s t (suc n)
        walk_on =
            record {
              new = w.new;
              moved = 2 + w.moved;
              ended = next_ended;
              by_exchange = λ k h.
                  exchange_displaces ports list frame e s t k j (omega arith) is hj
                  ∙ ap one_more_moved (exchange_displaces ports list out (a j) t s (k - 1) j (omega arith) next_first hj
                  ∙ ap one_more_moved (ap₂ (λ (l : List ℕ) (x : ℕ). exchange (k - 1 - 1) ports list l x s t) displaced_is entry_is ∙ w.by_exchange (k - 1 - 1) (omega arith)))
                  ∙ two_more;
              by_swap = λ k h.
                  swaps_on ports list (put_at ports frame s f e) s t f k j (omega arith) some_output lowest hj
                  ∙ ap₂ more_moved two_moved (ap₂ (λ (l : List ℕ) (x : ℕ). swaps (k - 1) ports list l s t x) swap_next (sym own_g.0) ∙ w.by_swap (k - 1) (omega arith));
              meets = subst (λ (x : ℕ). Exchanges ports list frame e s t w.new x) two_is
                  (displaces j hj (of_clash j clash)
                  (displaces j hj (there j hj ∙ rw (ne_eqb (b j) 0 busy, eq-eqb j j refl))
                  (subst (λ (x : ℕ). Exchanges ports list (displacing ports list out (a j) t j) x s t w.new w.moved) (sym entry_is)
                  (subst (λ (l : List ℕ). Exchanges ports list l (b j) s t w.new w.moved) (sym displaced_is) w.meets))));
              only = only_on;
              few = omega (arith, w.few);
            }
          where
            two_is : suc (suc w.moved) ≡ 2 + w.moved
            two_is = omega arith

            two_more : ◌≡◌ {A = Exchanged} (record { frame = w.new; moved = suc (suc w.moved) }) (record { frame = w.new; moved = 2 + w.moved })
            two_more = ap (λ x. record { frame = w.new; moved = x }) two_is

-- ---- to its end
pub walk : (n : ℕ) {ports slots : ℕ} {list frame : List ℕ} {c : ℕ → ℕ} {e s t : ℕ} {done : ℕ → Bool} → Moving ports slots list frame c e s t done
    → left ports (entry_at ports frame t) done ≤ n → Walk ports slots list frame e s t n
walk zero {ports} {slots} {list} {frame} {c} {e} {s} {t} {done} m h =
    let j = first (collides ports list frame e s) 0 ports in
    by_lt j ports
    (λ l. by_eq (entry_at ports frame t j) 0 (λ z. walk_half m j refl l z zero) (λ z. absurd (omega (arith, next_left m j refl l z))))
    (λ l. walk_rests m l zero)
walk (suc n) {ports} {slots} {list} {frame} {c} {e} {s} {t} {done} m h =
    let j = first (collides ports list frame e s) 0 ports in
    by_lt j ports
    (λ l. by_eq (entry_at ports frame t j) 0
    (λ z. walk_half m j refl l z (suc n))
    (λ z. walk_on m j refl l z n (walk n (next_moving m j refl l z) (omega (arith, next_left m j refl l z)))))
    (λ l. walk_rests m l (suc n))
