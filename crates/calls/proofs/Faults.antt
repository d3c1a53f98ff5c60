-- Faults: Inspect's searches report the first place that is wrong, and the first block that is not balanced.
use Prim.Native.Nat.{ℕ, suc, ◌+◌, ◌-◌, ◌*◌, ◌/◌, ◌%◌, ◌^◌, ◌≤◌, ◌<◌}
use mathlib.Core.Path.{◌≡◌, sym, ap, ap₂, ◌∙◌, subst}
use mathlib.Core.List.{List, [], ◌∷◌}
use mathlib.Core.Bool.{Bool, true, false, not, true≢false}
use native.Mathlib.Omega.{arith}
use native.Mathlib.Nat.{div-lt_iff_lt-mul, mod-lt, div-add-mod', two-pow-succ, mul-le-mul_right}
use lib.Arith.{digits_div, digits_mod, digits_lt}
use lib.Dec.{ltb}
use lib.Pow.{pow_pos}
use borrow.Author.Tests.{lt-ltb, le-ltb, ltb-true, ltb-false, eq-eqb, eqb-true, not-false}
use Rattle.rules.specs.Words.{first}
use Rattle.rules.specs.Flows.{flows, Side, other, Class, flow, port_on, load}
use Rattle.rules.specs.Frames.{cells_on, run_of, Block, BalancedOn, levels, Power}
use Rattle.calls.specs.Refusals.{Check}
use Rattle.calls.specs.Inspect.{first_place, is_wrong, twice_in, used_twice, wrong_count, unbalanced_number, first_at, unbalanced_at, wrong_entry, port_twice, flow_count, unbalanced_block}
use Rattle.rules.proofs.Cases.{by_eq, by_bool, by_lt}
use Rattle.rules.proofs.Searches.{first_found, first_before, first_is, first_none}
use Rattle.rules.proofs.Levels.{pow_less, levels_power, power_known, depth_size, depth_half}
use Rattle.rules.proofs.Blocks.{number_block, block_numbered}
use Rattle.calls.proofs.Reports.{Tells, search_tells}
use Rattle.calls.proofs.Inspected.{in_of, near_yes, unbalanced_no, balanced_near}
use Rattle.calls.specs.Answers.{Each, FirstNot, Throughout, FirstWrong, HalvesNear, FirstUnbalanced, EntryRight, PortOnce, CountRight}

-- ---- a place
-- each position below rows × width is a place
pub place_of : (rows width q : ℕ) → q < rows * width → (q / width < rows) × (q % width < width) × (q ≡ q / width * width + q % width)
place_of rows width q h =
    by_eq width 0 (λ e. absurd (let z : rows * width ≡ 0 = rw e (omega arith) in omega arith))
    (λ n. ((div-lt_iff_lt-mul {k = width} {x = q} {y = rows} (omega arith)).1 h, mod-lt q {m = width} (omega arith), sym (div-add-mod' q width)))

-- A check that reports the first wrong place, by its numbers from 1.
pub record FirstOf (number rows width : ℕ) (Fact : ℕ → ℕ → Type 0) (check : Check) : Type 0 where
  pub tells : Tells check (Throughout rows width Fact)
  pub found : check.0 ≡ true → (r c : ℕ) × FirstWrong rows width Fact r c
  pub reported : {r c : ℕ} → FirstWrong rows width Fact r c → check ≡ (true, number ∷ suc r ∷ suc c ∷ [])

module _ (number rows width : ℕ) (test : ℕ → Bool) (Fact : ℕ → ℕ → Type 0)
    (right : (r c : ℕ) → c < width → Fact r c → test (r * width + c) ≡ false) (known : (r c : ℕ) → c < width → test (r * width + c) ≡ false → Fact r c) where
  abbrev place : Check
  place = first_place number test width (rows * width)

  place_found : ltb (first test 0 (rows * width)) (rows * width) ≡ true → FirstWrong rows width Fact (first test 0 (rows * width) / width) (first test 0 (rows * width) % width)
  place_found e =
      let q = first test 0 (rows * width) in
      let l = ltb-true q (rows * width) e in
      let d = place_of rows width q l in
      let at = d.2 in
      record {
        row = d.0;
        column = d.1;
        wrong = λ f. true≢false (sym (first_found test (rows * width) 0 (omega arith)) ∙ (ap test at ∙ right (q / width) (q % width) d.1 f));
        rows_before = λ y z a b. known y z b
            (first_before test (rows * width) 0 (y * width + z) (omega arith) (let h = digits_lt {q = y} {m = q / width} {r = z} {c = width} a b in omega arith));
        columns_before = λ z a. (let b = d.1 in known (q / width) z (omega arith) (first_before test (rows * width) 0 (q / width * width + z) (omega arith) (omega arith)));
      }

  -- the check tells that no place is wrong
  place_tells : Tells place (Throughout rows width Fact)
  place_tells =
      record {
        met = λ f.
            le-ltb (first test 0 (rows * width)) (rows * width)
            (let e = first_none test (rows * width) 0 (λ y _ l. let d = place_of rows width y (omega arith) in subst (λ (x : ℕ). test x ≡ false) (sym d.2) (right (y / width) (y % width) d.1 (f (y / width) (y % width) d.0 d.1))) in omega arith);
        known = λ e r c a b.
            known r c b
            (first_before test (rows * width) 0 (r * width + c) (omega arith)
            (let l = ltb-false (first test 0 (rows * width)) (rows * width) e in let h = digits_lt {q = r} {m = rows} {r = c} {c = width} a b in omega arith));
      }

  -- the first wrong place is reported, by its numbers from 1
  place_reported : (r c : ℕ) → FirstWrong rows width Fact r c → place ≡ (true, number ∷ suc r ∷ suc c ∷ [])
  place_reported r c f =
      let h = digits_lt {q = r} {m = rows} {r = c} {c = width} f.row f.column in
      let e = first_is test (rows * width) 0 (r * width + c) (omega arith) (omega arith) here before in
      rw (e, lt-ltb (r * width + c) (rows * width) h, digits_div r f.column, digits_mod r f.column)
    where
      here : test (r * width + c) ≡ true
      here = by_bool (test (r * width + c)) (λ e. e) (λ e. absurd (f.wrong (known r c f.column e)))

      before : (y : ℕ) → 0 ≤ y → y < r * width + c → test y ≡ false
      before y _ l =
          let k = f.column in
          let d = place_of rows width y (let h = digits_lt {q = r} {m = rows} {r = c} {c = width} f.row k in omega arith) in
          let at = d.2 in
          let a : y / width < suc r = (div-lt_iff_lt-mul {k = width} {x = y} {y = suc r} (omega arith)).1 (omega arith) in
          subst (λ (x : ℕ). test x ≡ false) (sym at)
          (right (y / width) (y % width) d.1
          (by_eq (y / width) r
          (λ e. subst (λ (x : ℕ). Fact x (y % width)) (sym e) (f.columns_before (y % width) (let z = ap (λ x. x * width) e in omega arith)))
          (λ n. f.rows_before (y / width) (y % width) (omega arith) d.1)))

  first_of : FirstOf number rows width Fact place
  first_of =
      record {
        tells = place_tells;
        found = λ e. let q = first test 0 (rows * width) in (q / width, q % width, place_found e);
        reported = λ {r} {c} f. place_reported r c f;
      }

-- the first two, each by its test
pub entries_search : (side : Side) (ports slots : ℕ) (list entries : List ℕ) → FirstOf 101 slots ports (EntryRight side ports list entries) (wrong_entry side ports slots list entries)
unfolding is_wrong
entries_search side ports slots list entries =
    first_of 101 slots ports (is_wrong side ports list entries) (EntryRight side ports list entries)
    (λ s i h f. rw (digits_mod s h) (ap not f))
    (λ s i h e. not-false _ (rw (digits_mod s h) at e))

pub twice_search : (side : Side) (ports slots : ℕ) (list entries : List ℕ) → FirstOf 102 slots ports (PortOnce side ports list entries) (port_twice side ports slots list entries)
unfolding used_twice twice_in
twice_search side ports slots list entries =
    first_of 102 slots ports (used_twice side ports list entries) (PortOnce side ports list entries)
    (λ s o h f. rw (digits_div s h, digits_mod s h) (le-ltb 1 (cells_on side ports list (port_on (other side) o) (run_of ports s 1 entries)) f))
    (λ s o h e. ltb-false 1 (cells_on side ports list (port_on (other side) o) (run_of ports s 1 entries)) (rw (digits_div s h, digits_mod s h) at e))

-- ---- a flow
module _ (side : Side) (ports : ℕ) (list entries : List ℕ) where
  abbrev test : ℕ → Bool
  test = wrong_count side ports list entries

  right_test : (f : ℕ) → CountRight side ports list entries f → test f ≡ false
  unfolding wrong_count
  right_test f e = ap not (eq-eqb (cells_on side ports list (flow f) entries) (load (flow f) list) e)

  test_right : (f : ℕ) → test f ≡ false → CountRight side ports list entries f
  unfolding wrong_count
  test_right f e = eqb-true (cells_on side ports list (flow f) entries) (load (flow f) list) (not-false _ e)

  pub count_tells : Tells (flow_count side ports list entries) (Each (flows list) (CountRight side ports list entries))
  count_tells =
      let t = search_tells test (flows list) [] in
      record { met = λ e. t.met (λ f h. right_test f (e f h)); known = λ e f h. test_right f (t.known e f h) }

  pub count_found : (flow_count side ports list entries).0 ≡ true → (f : ℕ) × FirstNot (flows list) (CountRight side ports list entries) f
  count_found e =
      let f = first test 0 (flows list) in
      let l = ltb-true f (flows list) e in (
        f,
        record {
          low = l;
          wrong = λ r. true≢false (sym (first_found test (flows list) 0 (omega (arith, l))) ∙ right_test f r);
          before = λ y h. test_right y (first_before test (flows list) 0 y (omega arith) h);
        },
      )

  pub count_reported : {f : ℕ} → FirstNot (flows list) (CountRight side ports list entries) f → flow_count side ports list entries ≡ (true, 103 ∷ suc f ∷ [])
  count_reported {f} n =
      let here : test f ≡ true = by_bool (test f) (λ e. e) (λ e. absurd (n.wrong (test_right f e))) in
      let e : first test 0 (flows list) ≡ f = first_is test (flows list) 0 f (omega arith) (omega (arith, n.low)) here (λ y _ h. right_test y (n.before y h)) in
      rw (e, lt-ltb f (flows list) n.low)

-- ---- a block
module _ (side : Side) (ports slots : ℕ) (list entries : List ℕ) (p : Power slots) where
  abbrev count : Class → List ℕ → ℕ
  count = cells_on side ports list

  abbrev k : ℕ
  k = levels slots

  power : slots ≡ 2 ^ k
  power = levels_power slots (power_known p)

  -- blocks at depth t have two halves of so many slots
  abbrev half_at_depth : ℕ → ℕ
  half_at_depth t = slots / 2 ^ suc t

  half_power : (t : ℕ) → t < k → half_at_depth t ≡ 2 ^ (k - suc t)
  half_power t h = ap (λ y. y / 2 ^ suc t) power ∙ depth_size k (suc t) h

  half_twice : (t : ℕ) → t < k → slots / 2 ^ t ≡ 2 * half_at_depth t
  half_twice t h =
      let a : slots / 2 ^ t ≡ 2 ^ k / 2 ^ t = ap (λ y. y / 2 ^ t) power in
      let b : half_at_depth t ≡ 2 ^ k / 2 ^ suc t = ap (λ y. y / 2 ^ suc t) power in
      omega (arith, depth_half k t h)

  half_deeper : (y t : ℕ) → y < t → t < k → half_at_depth t < half_at_depth y
  half_deeper y t l h =
      let a = half_power y (omega arith) in
      let b = half_power t h in
      let c = pow_less (k - suc t) (k - suc y) (omega arith) in
      omega arith

  -- block x of depth t
  at_number : (t x : ℕ) → t < k → x < 2 ^ t → Block slots (x * (2 * half_at_depth t)) (2 * half_at_depth t)
  at_number t x h l =
      number_block slots k power t x (2 * half_at_depth t) (omega arith) l
      (sym (half_twice t h) ∙ (ap (λ y. y / 2 ^ t) power ∙ depth_size k t (omega arith)))

  even_test : (t x : ℕ) → HalvesNear side ports list entries (x * (2 * half_at_depth t)) (half_at_depth t) → unbalanced_number count ports list entries (half_at_depth t) x ≡ false
  unfolding unbalanced_number
  even_test t x e = unbalanced_no count ports list entries (x * (2 * half_at_depth t)) (half_at_depth t) (λ c of. near_yes 1 _ _ (e c (in_of ports list c of)))

  test_even : (t x : ℕ) → unbalanced_number count ports list entries (half_at_depth t) x ≡ false → HalvesNear side ports list entries (x * (2 * half_at_depth t)) (half_at_depth t)
  unfolding unbalanced_number
  test_even t x e = balanced_near side ports list entries (x * (2 * half_at_depth t)) (half_at_depth t) e

  -- a block that has halves, by depth and number
  record Placed (start half : ℕ) : Type 0 where
    depth : ℕ
    number : ℕ
    deep : depth < k
    low : number < 2 ^ depth
    half_is : half ≡ half_at_depth depth
    start_is : start ≡ number * (2 * half_at_depth depth)

  placed : (start half : ℕ) → Block slots start (2 * half) → Placed start half
  placed start half b =
      let d = block_numbered slots k start (2 * half) power b in
      let less : d.depth < k = by_lt d.depth k (λ x. x) (λ x.
      let a : k - d.depth ≡ 0 = omega arith in
      let o : 2 * half ≡ 1 = d.size ∙ ap (λ y. 2 ^ y) a in absurd (omega arith)) in
      let h : half ≡ half_at_depth d.depth = (
      let a : k - d.depth ≡ suc (k - suc d.depth) = omega arith in
      let q = d.size in
      omega (arith, half_power d.depth less, ap (λ y. 2 ^ y) a, two-pow-succ (k - suc d.depth))) in
      record {
        depth = d.depth;
        number = d.number;
        deep = less;
        low = d.number_most;
        half_is = h;
        start_is = d.start ∙ ap (λ y. d.number * (2 * y)) h;
      }

  placed_even : {start half : ℕ} (d : Placed start half) → unbalanced_number count ports list entries (half_at_depth d.depth) d.number ≡ false → HalvesNear side ports list entries start half
  placed_even d e = rw (d.start_is, d.half_is) (test_even d.depth d.number e)

  -- no block of a depth is unbalanced
  depth_test : (t : ℕ) → ((x : ℕ) → x < 2 ^ t → HalvesNear side ports list entries (x * (2 * half_at_depth t)) (half_at_depth t)) → unbalanced_at count ports slots list entries t ≡ false
  unfolding unbalanced_at
  depth_test t e =
      le-ltb (first_at count ports slots list entries t) (2 ^ t)
      (let n = first_none (unbalanced_number count ports list entries (half_at_depth t)) (2 ^ t) 0 (λ x _ l. even_test t x (e x (omega arith))) in omega arith)

  depth_even : {start half : ℕ} (d : Placed start half) → unbalanced_at count ports slots list entries d.depth ≡ false → HalvesNear side ports list entries start half
  unfolding unbalanced_at
  depth_even d e =
      let n = ltb-false (first_at count ports slots list entries d.depth) (2 ^ d.depth) e in
      placed_even d
      (first_before (unbalanced_number count ports list entries (half_at_depth d.depth)) (2 ^ d.depth) 0 d.number (omega arith) (let l = d.low in omega arith))

  -- the check tells that the frame is balanced
  pub block_tells : Tells (unbalanced_block count ports slots list entries) (BalancedOn side ports slots list entries)
  block_tells =
      record {
        met = λ b.
            le-ltb (first (unbalanced_at count ports slots list entries) 0 k) k
            (let n = first_none (unbalanced_at count ports slots list entries) k 0
            (λ t _ h. depth_test t (λ x l c of. b c of (x * (2 * half_at_depth t)) (half_at_depth t) (at_number t x (omega arith) l))) in omega arith);
        known = λ e c of start half b.
            let d = placed start half b in
            depth_even d
            (first_before (unbalanced_at count ports slots list entries) k 0 d.depth (omega arith)
            (let n = ltb-false (first (unbalanced_at count ports slots list entries) 0 k) k e in let l = d.deep in omega arith)) c of;
      }

  -- the first unbalanced block is reported, by its first slot's number from 1 and its size
  module _ {start half : ℕ} (f : FirstUnbalanced side ports slots list entries start half) (d : Placed start half) where
    abbrev t : ℕ
    t = d.depth

    number_is : first_at count ports slots list entries t ≡ d.number
    number_is =
        first_is (unbalanced_number count ports list entries (half_at_depth t)) (2 ^ t) 0 d.number (omega arith) (let l = d.low in omega arith)
        (by_bool (unbalanced_number count ports list entries (half_at_depth t) d.number) (λ e. e) (λ e. absurd (f.unbalanced (placed_even d e))))
        (λ y _ l. even_test t y
        (subst (λ (z : ℕ). HalvesNear side ports list entries (y * (2 * half_at_depth t)) z) d.half_is
        (f.earlier (y * (2 * half_at_depth t)) (sooner y d.number l)
        (subst (λ (z : ℕ). Block slots (y * (2 * half_at_depth t)) (2 * z)) (sym d.half_is) (at_number t y d.deep (let n = d.low in omega arith))))))
      where
        sooner : (y x : ℕ) → y < d.number → y * (2 * half_at_depth t) < start
        sooner y x l =
            let a = mul-le-mul_right (2 * half_at_depth t) l in
            let b = pow_pos (k - suc t) in
            omega (arith, d.start_is, half_power t d.deep)

    depth_is : first (unbalanced_at count ports slots list entries) 0 k ≡ t
    unfolding unbalanced_at
    depth_is =
        first_is (unbalanced_at count ports slots list entries) k 0 t (omega arith) (let h = d.deep in omega arith)
        (lt-ltb (first_at count ports slots list entries t) (2 ^ t) (let l = d.low in omega (arith, number_is)))
        (λ y _ l. depth_test y (λ x m.
        let h = d.deep in
        f.larger (x * (2 * half_at_depth y)) (half_at_depth y) (omega (arith, half_deeper y t l h, d.half_is)) (at_number y x (omega arith) m)))

    block_answer : unbalanced_block count ports slots list entries ≡ (true, 104 ∷ suc start ∷ 2 * half ∷ [])
    block_answer =
        let as_check : ℕ → ℕ → Check = λ s z. (true, 104 ∷ suc s ∷ z ∷ []) in
        rw (depth_is, lt-ltb t k d.deep, number_is, half_twice t d.deep)
        (ap₂ as_check (sym d.start_is) (ap (λ y. 2 * y) (sym d.half_is)))

  pub block_reported : (start half : ℕ) → FirstUnbalanced side ports slots list entries start half → unbalanced_block count ports slots list entries ≡ (true, 104 ∷ suc start ∷ 2 * half ∷ [])
  block_reported start half f = block_answer f (placed start half f.block)

  block_found : ltb (first (unbalanced_at count ports slots list entries) 0 k) k ≡ true → (start half : ℕ) × FirstUnbalanced side ports slots list entries start half
  unfolding unbalanced_at
  block_found e = (
    b * (2 * half_at_depth t),
    half_at_depth t,
    record {
      block = at_number t b l n;
      unbalanced = λ v. true≢false (sym (first_found u (2 ^ t) 0 (omega (arith, n))) ∙ even_test t b v);
      larger = λ a h less bl.
          let d = placed a h bl in
          depth_even d (first_before (unbalanced_at count ports slots list entries) k 0 d.depth (omega arith)
          (by_lt d.depth t (λ x. x) (λ x. absurd (no_larger d.depth x d.deep (let z = d.half_is in omega arith)))));
      earlier = λ a less bl.
          let d = placed a (half_at_depth t) bl in
          let z = same_depth d.depth d.deep d.half_is in
          placed_even d
          (subst (λ (y : ℕ). unbalanced_number count ports list entries (half_at_depth y) d.number ≡ false) z
          (first_before u (2 ^ t) 0 d.number (omega arith)
          (by_lt d.number b (λ x. x) (λ x. absurd (
          let m = mul-le-mul_right (2 * half_at_depth t) x in
          let y : a ≡ d.number * (2 * half_at_depth t) = d.start_is ∙ ap (λ (w : ℕ). d.number * (2 * half_at_depth w)) (sym z) in
          omega arith)))));
    },
  )
    where
      t : ℕ
      t = first (unbalanced_at count ports slots list entries) 0 k

      l : t < k
      l = ltb-true t k e

      b : ℕ
      b = first_at count ports slots list entries t

      n : b < 2 ^ t
      n = ltb-true b (2 ^ t) (first_found (unbalanced_at count ports slots list entries) k 0 (omega (arith, l)))

      u : ℕ → Bool
      u = unbalanced_number count ports list entries (half_at_depth t)

      no_larger : (y : ℕ) → t ≤ y → y < k → half_at_depth t < half_at_depth y → ⊥
      no_larger y a h m =
          by_eq t y (λ q. let z = ap half_at_depth q in omega arith) (λ q. let z = half_deeper t y (omega arith) h in omega arith)

      same_depth : (y : ℕ) → y < k → half_at_depth t ≡ half_at_depth y → t ≡ y
      same_depth y h q =
          by_lt t y (λ m. absurd (let z = half_deeper t y m h in omega arith))
          (λ m. by_eq t y (λ w. w) (λ w. absurd (let z = half_deeper y t (omega arith) l in omega arith)))

  -- one block is the first unbalanced one, or the frame is balanced
  pub by_block : {P : Type 0} → ((start half : ℕ) → FirstUnbalanced side ports slots list entries start half → P) → (BalancedOn side ports slots list entries → P) → P
  by_block off on =
      by_bool (unbalanced_block count ports slots list entries).0
      (λ e. let f = block_found e in off f.0 f.1 f.2)
      (λ e. on (block_tells.known e))
