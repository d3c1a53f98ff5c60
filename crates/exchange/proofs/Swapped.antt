-- The steps of the exchange, and of its other form, one by one.
use Prim.Native.Nat.{ℕ, suc, zero, ◌+◌, ◌*◌, ◌-◌, ◌≤◌, ◌<◌}
use mathlib.Core.Path.{◌≡◌, refl, sym, ap, ap₂, ◌∙◌}
use mathlib.Core.Logic.{◌≢◌}
use mathlib.Core.List.{List}
use native.Mathlib.Omega.{arith}
use lib.ListN.{length}
use lib.Seq.{set-set, set_comm}
use borrow.Author.Tests.{lt-ltb, le-ltb, eq-eqb, ne_eqb}
use Rattle.rules.specs.Words.{first}
use Rattle.rules.specs.Flows.{input, output}
use Rattle.rules.proofs.Cases.{by_eq, eqb_alike}
use Rattle.rules.proofs.Searches.{first_ext}
use Rattle.exchange.specs.Exchange.{entry_at, put_at, port_to, collides, cell_put, displacing, one_more_moved, exchange}
use Rattle.exchange.specs.Swaps.{output_number, goes_to, lowest_to, swapped, moved_by, more_moved, swaps}
use Rattle.exchange.proofs.Puts.{slots_apart, inputs_apart, put_same, put_slot, put_input}

-- ---- one cell put
module _ (ports : ℕ) (list frame : List ℕ) (e s t : ℕ) where
  pub exchange_rests : (k : ℕ) → 1 ≤ k → ports ≤ first (collides ports list frame e s) 0 ports
      → exchange k ports list frame e s t ≡ record { frame = cell_put ports list frame e s; moved = 0 }
  unfolding exchange
  exchange_rests zero h l = absurd (omega arith)
  exchange_rests (suc k) h l = rw (le-ltb (first (collides ports list frame e s) 0 ports) ports l)

  pub exchange_displaces : (k i : ℕ) → 1 ≤ k → first (collides ports list frame e s) 0 ports ≡ i → i < ports
      → exchange k ports list frame e s t ≡ one_more_moved (exchange (k - 1) ports list (displacing ports list frame e s i) (entry_at ports frame s i) t s)
  unfolding exchange
  exchange_displaces zero i h is l = absurd (omega arith)
  exchange_displaces (suc k) i h is l = let d : suc k - 1 ≡ k = omega arith in rw (is, lt-ltb i ports l, d)

-- ---- one swap
module _ (ports : ℕ) (list frame : List ℕ) (s t f : ℕ) where
  abbrev o : ℕ
  o = output_number list (entry_at ports frame s f)

  pub swaps_stop : (k : ℕ) → output_number list (entry_at ports frame s f) ≡ 0 → swaps k ports list frame s t f ≡ record { frame = frame; moved = 0 }
  unfolding swaps
  swaps_stop zero z = refl
  swaps_stop (suc k) z = rw z

  pub swaps_rest : (k : ℕ) → ports ≤ lowest_to ports list frame s (output_number list (entry_at ports frame s f)) f
      → swaps k ports list frame s t f ≡ record { frame = frame; moved = 0 }
  unfolding swaps
  swaps_rest zero l = refl
  swaps_rest (suc k) l =
      by_eq o 0 (λ z. rw z)
      (λ n. rw (ne_eqb o 0 n, le-ltb (lowest_to ports list frame s o f) ports l))

  pub swaps_on : (k j : ℕ) → 1 ≤ k → output_number list (entry_at ports frame s f) ≢ 0
      → lowest_to ports list frame s (output_number list (entry_at ports frame s f)) f ≡ j → j < ports
      → swaps k ports list frame s t f ≡ more_moved (moved_by ports frame t j) (swaps (k - 1) ports list (swapped ports frame s t j) s t j)
  unfolding swaps
  swaps_on zero j h n is l = absurd (omega arith)
  swaps_on (suc k) j h n is l = let d : suc k - 1 ≡ k = omega arith in rw (ne_eqb o 0 n, is, lt-ltb j ports l, d)

-- the output of an entry that is not idle, from 1
pub output_number_is : (list : List ℕ) (x : ℕ) → x ≢ 0 → output_number list x ≡ suc (port_to output list x)
unfolding output_number
output_number_is list x n = rw (ne_eqb x 0 n)

pub idle_number : (list : List ℕ) → output_number list 0 ≡ 0
unfolding output_number
idle_number list = refl

-- ---- a cell e of input f put into slot s, which is idle at f
module _ (ports slots : ℕ) (list frame : List ℕ) (size : length frame ≡ slots * ports) (e s f : ℕ) (hs : s < slots) (hf : f < ports)
    (own : port_to input list e ≡ f) (some : e ≢ 0) (vacant : entry_at ports frame s f ≡ 0) where
  abbrev here : List ℕ
  here = put_at ports frame s f e

  -- who clashes with it is who collides with it
  pub goes_collides : (i : ℕ) → i < ports → goes_to ports list (put_at ports frame s f e) s (suc (port_to output list e)) f i ≡ collides ports list frame e s i
  unfolding goes_to collides
  goes_collides i h =
      rw own
      (by_eq i f
      (λ d. rw (d, eq-eqb f f refl, vacant))
      (λ n. rw (ne_eqb i f n, put_input ports slots frame size s f e hs hf s i h n)
      (by_eq (entry_at ports frame s i) 0
      (λ z. rw (z, idle_number list, ne_eqb 0 (suc (port_to output list e)) (omega arith)))
      (λ z. rw (output_number_is list (entry_at ports frame s i) z, ne_eqb (entry_at ports frame s i) 0 z)
      (eqb_alike (suc (port_to output list (entry_at ports frame s i))) (suc (port_to output list e)) (port_to output list (entry_at ports frame s i)) (port_to output list e) (λ q. omega arith) (λ q. omega arith))))))

  pub lowest_collides : lowest_to ports list (put_at ports frame s f e) s (output_number list (entry_at ports (put_at ports frame s f e) s f)) f
      ≡ first (collides ports list frame e s) 0 ports
  lowest_collides =
      ap (λ q. lowest_to ports list here s q f) (ap (output_number list) (put_same ports slots frame size s f e hs hf) ∙ output_number_is list e some)
      ∙ first_ext _ _ ports 0 (λ i _ h. goes_collides i (omega arith))

  -- ---- and input j's entries exchanged with slot t
  module _ (t j : ℕ) (ht : t < slots) (hj : j < ports) (apart : t ≢ s) (else : j ≢ f) where
    sj_sf : s * ports + j ≢ s * ports + f
    sj_sf = inputs_apart ports s s f j hf hj else

    tj_sj : t * ports + j ≢ s * ports + j
    tj_sj = slots_apart ports s t j j hj hj apart

    pub swapped_is : swapped ports (put_at ports frame s f e) s t j
        ≡ put_at ports (put_at ports (put_at ports frame s j (entry_at ports frame t j)) s f e) t j (entry_at ports frame s j)
    swapped_is =
        ap₂ (λ (x y : ℕ). put_at ports (put_at ports here s j x) t j y) (put_slot ports slots frame size s f e hs hf t j hj apart) (put_input ports slots frame size s f e hs hf s j hj else)
        ∙ ap (λ (l : List ℕ). put_at ports l t j (entry_at ports frame s j)) (set_comm frame (s * ports + f) (s * ports + j) e (entry_at ports frame t j) (λ q. sj_sf (sym q)))

    -- the cell g put into slot s at j, where that has become idle
    pub next_is : (d g : ℕ) → put_at ports (put_at ports (put_at ports (put_at ports frame s j 0) s f e) t j d) s j g
        ≡ put_at ports (put_at ports (put_at ports frame s j g) s f e) t j d
    next_is d g =
        set_comm (put_at ports (put_at ports frame s j 0) s f e) (t * ports + j) (s * ports + j) d g tj_sj
        ∙ ap (λ (l : List ℕ). put_at ports l t j d)
        (set_comm (put_at ports frame s j 0) (s * ports + f) (s * ports + j) e g (λ q. sj_sf (sym q))
        ∙ ap (λ (l : List ℕ). put_at ports l s f e) (set-set frame (s * ports + j) 0 g))
