-- Budget: how many odd counts Build can settle.
use Prim.Native.Nat.{ℕ, suc, zero, ◌+◌, ◌*◌, ◌/◌, ◌%◌, ◌^◌, ◌≤◌, ◌<◌, min}
use mathlib.Core.Path.{◌≡◌, refl, sym, ap, ◌∙◌}
use mathlib.Core.Logic.{◌≢◌}
use mathlib.Core.List.{List}
use mathlib.Core.Bool.{true}
use native.Mathlib.Omega.{arith}
use native.Mathlib.Nat.{mod-le, mod-lt, mul-mod_left, div-lt_iff_lt-mul, mul-le-mul, mul-le-mul_right, pow-le-pow_right, le-min, min-le_left}
use lib.Arith.{digits_div, digits_mod}
use lib.Dec.{eqb}
use lib.Pow.{pow_pos}
use lib.ListN.{length, get_or, replicate, length-replicate, get_or-replicate}
use borrow.Author.Tests.{eq-eqb, ne_eqb}
use Rattle.rules.specs.Words.{if, bit, sum_to, sum_if}
use Rattle.rules.specs.Flows.{stride, flows, End, inputs, links, output_of, port_of, counts_of, flow, port_on, input, output, total, load_in, load, Fits}
use Rattle.rules.specs.Frames.{counts, cells, cells_on, Power}
use Rattle.calls.specs.Refusals.{slots_each}
use Rattle.rules.specs.OddShares.{odd_shares, settled}
use Rattle.calls.specs.Work.{odd_flows, block_of, work}
use Rattle.calls.specs.Build.{build_accepts, frame_after}
use Rattle.bounds.specs.Budget.{WorkMost, WorkByDepth, ones, WorkReached}
use Rattle.rules.proofs.Cases.{by_eq, by_lt, is_yes, is_no}
use Rattle.rules.proofs.Sums.{sum_none, sum_more, sum_ext, sum_le, sum_most, sum_zero, sum_one, sum_swap, sum_rows, sum_times, sum_ones}
use Rattle.rules.proofs.Levels.{level_is, depth_fill}
use Rattle.rules.proofs.Shares.{two_halves}
use Rattle.rules.proofs.Flows.{link_under, flow_counts}
use Rattle.calls.specs.Demand2.{Ported, Allows}
use Rattle.rules.proofs.Cells.{run_length}
use Rattle.rules.proofs.Pairs.{order_length, order_flows, order_number, order_counts, order_linked, order_input, order_output}
use Rattle.calls.proofs.Overloads.{each_allows}
use Rattle.calls.proofs.Demand2.{accepts_is, accepts_yes, build_sound}
use Rattle.calls.proofs.Work.{work_built, at_depth}

-- ---- how many they can be
-- no more than k for each cell,
shares_most : (k c : ℕ) → odd_shares k c ≤ k * c
unfolding odd_shares
shares_most zero c = omega arith
shares_most (suc k) c =
    let a = shares_most k (c / 2) in
    let b = shares_most k ((c + 1) / 2) in
    let s : k * (c / 2) + k * ((c + 1) / 2) ≡ k * c = omega (arith, ap (λ n. k * n) (two_halves c)) in
    let o : c % 2 ≤ c = omega arith in
    omega arith

-- and as many where the flow has one cell, or none
shares_none : (k : ℕ) → odd_shares k 0 ≡ 0
unfolding odd_shares
shares_none zero = refl
shares_none (suc k) = omega (arith, shares_none k)

shares_one : (k : ℕ) → odd_shares k 1 ≡ k
unfolding odd_shares
shares_one zero = refl
shares_one (suc k) = omega (arith, shares_none k, shares_one k)

settled_most : (port : End → ℕ → ℕ) (k : ℕ) (m : List ℕ) → settled k m ≤ k * load_in total port m
unfolding load_in settled
settled_most port k m =
    let each = sum_le (length m) (λ p. odd_shares k (get_or m p 0)) (λ p. k * get_or m p 0) (λ p h. shares_most k (get_or m p 0)) in
    omega (arith, each, sum_times (length m) k (λ p. get_or m p 0))

-- No load that Build accepts settles more than k for each of its cells.
pub work_cells : (ports slots : ℕ) (list limits buffer : List ℕ)
    → build_accepts ports slots list limits buffer ≡ true → (k : ℕ) → slots ≡ 2 ^ k
    → work ports slots list (frame_after ports slots list limits buffer) ≤ k * load total list
work_cells ports slots list limits buffer e k power =
    let a = accepts_is ports slots list limits buffer e in
    rw (work_built ports slots list limits buffer e, level_is a.well.power power) (settled_most (port_of list) k (counts_of list))

-- ---- nor more than the cells of all slots, whatever the entries
-- an entry is a cell of one flow at most
one_number : (e n : ℕ) → sum_to n (λ f. bit (eqb e (suc f))) ≤ 1
one_number e zero = omega (arith, sum_none (λ f. bit (eqb e (suc f))))
one_number e (suc n) =
    by_eq e (suc n)
    (λ d. omega (arith, sum_more n (λ f. bit (eqb e (suc f))), is_yes e (suc n) d, sum_zero n (λ f. bit (eqb e (suc f))) (λ f h. is_no e (suc f) (omega arith))))
    (λ d. omega (arith, sum_more n (λ f. bit (eqb e (suc f))), is_no e (suc n) d, one_number e n))

odd_cells : (ports : ℕ) (list entries : List ℕ) → odd_flows ports list entries ≤ length entries
unfolding cells_on
odd_cells ports list entries =
    let one : ℕ → ℕ → ℕ = λ f q. bit (counts (flow f) list (q % ports) (get_or entries q 0)) in
    let odd = sum_le (flows list) _ (λ f. sum_to (length entries) (one f)) (λ f h. mod-le (sum_to (length entries) (one f)) 2) in
    let entry = sum_most (length entries) 1 (λ q. sum_to (flows list) (λ f. one f q)) (λ q h.
    rw (sum_ext (flows list) _ _ (λ f l. flow_counts input list f (q % ports) (get_or entries q 0) l)) (one_number (get_or entries q 0) (flows list))) in
    omega (arith, odd, entry, sum_swap (flows list) (length entries) one)

odd_flows_most : (ports : ℕ) (list entries : List ℕ) → odd_flows ports list entries ≤ flows list
odd_flows_most ports list entries = omega (arith, sum_most (flows list) 1 _ (λ f h. low (cells (flow f) ports list entries)))
  where
    low : (n : ℕ) → n % 2 ≤ 1
    low n = omega arith

-- at depth t there are 2 ^ t blocks, and together they have all slots
depth_most : (ports k : ℕ) (list entries : List ℕ) → length entries ≡ 2 ^ k * ports → (t : ℕ) → t < k
    → at_depth ports (2 ^ k) list entries t ≤ min (ports * 2 ^ k) (2 ^ t * flows list)
depth_most ports k list entries size t h =
    let z : ℕ = 2 ^ k / 2 ^ t in
    let fill : 2 ^ t * z ≡ 2 ^ k = depth_fill k t (omega arith) in
    let in_cells = sum_most (2 ^ t) (z * ports) (λ b. odd_flows ports list (block_of ports z b entries)) (λ b l.
    let m : suc b * z ≤ 2 ^ t * z = mul-le-mul_right z l in
    let n : (b * z + z) * ports ≤ 2 ^ k * ports = mul-le-mul_right ports (omega arith) in
    omega (arith, odd_cells ports list (block_of ports z b entries), run_length ports (b * z) z entries (omega arith))) in
    let in_flows = sum_most (2 ^ t) (flows list) (λ b. odd_flows ports list (block_of ports z b entries)) (λ b l. odd_flows_most ports list (block_of ports z b entries)) in
    le-min (omega (arith, in_cells, ap (λ n. n * ports) fill)) in_flows

pub frame_most : (ports slots k : ℕ) (list entries : List ℕ) → Power slots → slots ≡ 2 ^ k → length entries ≡ slots * ports
    → work ports slots list entries ≤ sum_to k (λ t. min (ports * slots) (2 ^ t * flows list))
unfolding work
frame_most ports slots k list entries p power size =
    rw (level_is p power, power) (sum_le k (at_depth ports (2 ^ k) list entries) _ (depth_most ports k list entries (size ∙ ap (λ n. n * ports) power)))

pub work_by_depth : WorkByDepth
work_by_depth ports slots list limits buffer e k power =
    let power_of = (accepts_is ports slots list limits buffer e).well.power in
    let size = (build_sound ports slots list limits buffer e).0.size in
    omega (arith, frame_most ports slots k list (frame_after ports slots list limits buffer) power_of power size)

-- Nor more than ports × slots × k.
pub work_most : WorkMost
work_most ports slots list limits buffer e k power =
    let most = sum_most k (ports * slots) (λ t. min (ports * slots) (2 ^ t * flows list)) (λ t h. min-le_left (ports * slots) (2 ^ t * flows list)) in
    omega (arith, most, work_by_depth ports slots list limits buffer e k power)

-- ---- that is reached
-- Where no flow has more than one cell, each cell settles k.
pub work_single : (ports slots : ℕ) (list limits buffer : List ℕ)
    → build_accepts ports slots list limits buffer ≡ true → (k : ℕ) → slots ≡ 2 ^ k
    → ((f : ℕ) → get_or (counts_of list) f 0 ≤ 1) → work ports slots list (frame_after ports slots list limits buffer) ≡ k * load total list
unfolding load_in settled
work_single ports slots list limits buffer e k power low =
    let a = accepts_is ports slots list limits buffer e in
    let m = counts_of list in
    rw (work_built ports slots list limits buffer e, level_is a.well.power power)
    (sum_ext (length m) _ (λ f. k * get_or m f 0) (λ f h. one_or_none f) ∙ sum_times (length m) k (λ f. get_or m f 0))
  where
    one_or_none : (f : ℕ) → odd_shares k (get_or (counts_of list) f 0) ≡ k * get_or (counts_of list) f 0
    one_or_none f =
        by_eq (get_or (counts_of list) f 0) 0 (λ z. rw z (omega (arith, shares_none k)))
        (λ n. let one : get_or (counts_of list) f 0 ≡ 1 = (let l = low f in omega arith) in rw one (omega (arith, shares_one k)))

one_most : (n p : ℕ) → get_or (replicate {A = ℕ} n 1) p 0 ≤ 1
one_most zero p = omega arith
one_most (suc n) zero = omega arith
one_most (suc n) (suc p) = one_most n p

module _ (k : ℕ) (low : k ≤ 4) where
  abbrev n : ℕ
  n = 2 ^ k

  abbrev each : List ℕ
  each = replicate (n * n) 1

  most : n ≤ 16
  most = let p : 2 ^ k ≤ 2 ^ 4 = pow-le-pow_right (omega arith) {j = 4} low in omega arith

  size : length each ≡ n * n
  size = length-replicate {A = ℕ} (n * n) 1

  pairs : flows (ones k) ≡ n * n
  pairs = order_flows n each ∙ size

  -- each input has a cell of every output, and each output one of every input
  row_load : (x : ℕ) → x < n → sum_if (n * n) (λ p. eqb (p / n) x) (λ p. get_or each p 0) ≤ n
  row_load x h =
      let at : ℕ → ℕ → ℕ = λ i o. if (eqb ((i * n + o) / n) x) (get_or each (i * n + o) 0) 0 in
      let one = sum_one n x (λ i. sum_to n (at i)) h (λ i hi d. sum_zero n (at i) (λ o ho. rw (ne_eqb ((i * n + o) / n) x (λ e. d (sym (digits_div i ho) ∙ e))))) in
      let few = sum_most n 1 (at x) (λ o ho. rw (eq-eqb ((x * n + o) / n) x (digits_div x ho)) (one_most (n * n) (x * n + o))) in
      omega (arith, sum_rows n n (λ p. if (eqb (p / n) x) (get_or each p 0) 0))

  column_load : (x : ℕ) → sum_if (n * n) (λ p. eqb (p % n) x) (λ p. get_or each p 0) ≤ n
  column_load x =
      let at : ℕ → ℕ → ℕ = λ i o. if (eqb ((i * n + o) % n) x) (get_or each (i * n + o) 0) 0 in
      let other : (i o : ℕ) → o < n → o ≢ x → at i o ≡ 0
      = λ i o ho d. rw (ne_eqb ((i * n + o) % n) x (λ e. d (sym (digits_mod i ho) ∙ e))) in
      let few = sum_most n 1 (λ i. sum_to n (at i)) (λ i hi.
      by_lt x n
      (λ h.
      let one = sum_one n x (at i) h (other i) in
      let own : at i x ≤ 1 = rw (eq-eqb ((i * n + x) % n) x (digits_mod i h)) (one_most (n * n) (i * n + x)) in
      omega arith)
      (λ h. omega (arith, sum_zero n (at i) (λ o ho. other i o ho (omega arith))))) in
      omega (arith, sum_rows n n (λ p. if (eqb (p % n) x) (get_or each p 0) 0))

  -- the list has the same ports
  input_load : (x : ℕ) → x < n → load_in (port_on input x) (port_of (ones k)) each ≤ n
  unfolding load_in
  input_load x h =
      rw size
      (omega (
        arith,
        row_load x h,
        sum_ext (n * n) _ _
            (λ p l. ap (λ z. if (eqb z x) (get_or each p 0) 0) (order_input n each p (omega (arith, size)))),
      ))

  output_load : (x : ℕ) → load_in (port_on output x) (port_of (ones k)) each ≤ n
  unfolding load_in
  output_load x =
      rw size
      (omega (
        arith,
        column_load x,
        sum_ext (n * n) _ _
            (λ p l. ap (λ z. if (eqb z x) (get_or each p 0) 0) (order_output n each p (omega (arith, size)))),
      ))

  fits : Fits n n (port_of (ones k)) (counts_of (ones k))
  fits x h = rw (order_counts n each) (input_load x h, output_load x)

  allowed : Allows n (ones k) (slots_each n)
  allowed =
      each_allows n n (ones k) most
      (λ x h. rw (order_counts n each) (omega (arith, link_under x (port_of (ones k)) each, output_load (output_of x))))

  ported : Ported n (ones k)
  ported inputs f h =
      let l : f < n * n = omega (arith, pairs) in
      rw (order_number n each f (omega (arith, size))).0 (omega arith, (div-lt_iff_lt-mul {k = n} {x = f} {y = n} (pow_pos k)).1 l)
  ported links f h =
      let l : f < n * n = omega (arith, pairs) in
      rw (order_number n each f (omega (arith, size))).1 (omega arith, mod-lt f (pow_pos k))

  pub ones_accepted : (buffer : List ℕ) → length buffer ≡ n * n → build_accepts n n (ones k) (slots_each n) buffer ≡ true
  ones_accepted buffer e =
      accepts_yes n n (ones k) (slots_each n) buffer
      (record {
        well = record {
          rack = (pow_pos k, most);
          power = record { k = k; most = omega arith; is = refl };
          whole = rw (order_length n each) (mul-mod_left (length each) stride);
          few = omega (arith, pairs, mul-le-mul most most);
          ported = ported;
          linked = order_linked n each;
        };
        size = e;
        fits = fits;
        allowed = allowed;
      })

  pub ones_cells : load total (ones k) ≡ n * n
  unfolding load_in
  ones_cells = rw (order_counts n each, size) (sum_ext (n * n) _ (λ p. 1) (λ p h. get_or-replicate (n * n) p 1 0 h) ∙ sum_ones (n * n))

pub work_reached : WorkReached
work_reached k low buffer size =
    let a = ones_accepted k low buffer size in (
      a,
      work_single (2 ^ k) (2 ^ k) (ones k) (slots_each (2 ^ k)) buffer a k refl
          (λ f. rw (order_counts (2 ^ k) (replicate (2 ^ k * 2 ^ k) 1)) (one_most (2 ^ k * 2 ^ k) f))
          ∙ ap (λ n. k * n) (ones_cells k low) ∙ omega arith,
    )
