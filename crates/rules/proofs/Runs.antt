-- Runs: the cells of whole slots end to end, and of a run of a frame that repeats for ever.
use Prim.Native.Nat.{ℕ, suc, zero, ◌+◌, ◌-◌, ◌*◌, ◌/◌, ◌%◌, ◌≤◌, ◌<◌, min}
use mathlib.Core.Path.{◌≡◌, sym, ap, ◌∙◌}
use mathlib.Core.List.{List}
use mathlib.Core.Bool.{Bool}
use native.Mathlib.Omega.{arith}
use native.Mathlib.Nat.{mod-eq_of_lt, add-mul-mod_self_right, mul-le-mul_right, div-add-mod', add-mod_left, mod-add-mod, mod-lt}
use lib.ListN.{length, length-append, get_or, drop, length-take}
use Rattle.rules.specs.Words.{bit, sum_to}
use Rattle.rules.specs.Flows.{Side, Class}
use Rattle.rules.specs.Frames.{counts_on, cells_on, run_of, repeated}
use Rattle.rules.proofs.Cases.{by_bool}
use Rattle.rules.proofs.Cells.{cells_append, cells_none, cells_run, run_none, run_length, run_all}
use Rattle.rules.proofs.Sums.{sum_none, sum_more, sum_ext, sum_append}

-- ---- sums of what comes round after n
sum_single : (f : ℕ → ℕ) → sum_to 1 f ≡ f 0
sum_single f = omega (arith, sum_more 0 f, sum_none f)

-- n in a row add up to the same from wherever they start
pub sum_round : (n : ℕ) (f : ℕ → ℕ) → ((t : ℕ) → f (n + t) ≡ f t) → (a : ℕ) → sum_to n (λ t. f (a + t)) ≡ sum_to n f
sum_round n f h zero = sum_ext n (λ t. f (0 + t)) f (λ t l. ap f (omega arith))
sum_round n f h (suc a) =
    let g : ℕ → ℕ = λ t. f (a + t) in
    let e : 1 + n ≡ suc n = omega arith in
    let front = ap (λ z. sum_to z g) (sym e) ∙ sum_append 1 n g in
    let rest : sum_to n (λ t. g (1 + t)) ≡ sum_to n (λ t. f (suc a + t)) = sum_ext n (λ t. g (1 + t)) (λ t. f (suc a + t)) (λ t l. ap f (omega arith)) in
    let last : g n ≡ g 0 = ap f (omega arith) ∙ h a ∙ ap f (omega arith) in
    omega (arith, front, sum_single g, rest, last, sum_more n g, sum_round n f h a)

-- so w times n in a row are w times as much
pub sum_rounds : (n : ℕ) (f : ℕ → ℕ) → ((t : ℕ) → f (n + t) ≡ f t) → (w a : ℕ) → sum_to (w * n) (λ t. f (a + t)) ≡ w * sum_to n f
sum_rounds n f h zero a =
    let e : 0 * n ≡ 0 = omega arith in
    ap (λ z. sum_to z (λ t. f (a + t))) e ∙ sum_none (λ t. f (a + t)) ∙ omega arith
sum_rounds n f h (suc w) a =
    let e : suc w * n ≡ n + w * n = omega arith in
    let g : ℕ → ℕ = λ t. f (a + t) in
    let rest : sum_to (w * n) (λ t. g (n + t)) ≡ sum_to (w * n) (λ t. f (a + n + t)) =
    sum_ext (w * n) (λ t. g (n + t)) (λ t. f (a + n + t)) (λ t l. ap f (omega arith)) in
    omega (arith, ap (λ z. sum_to z g) e, sum_append n (w * n) g, sum_round n f h a, rest, sum_rounds n f h w (a + n))

-- ---- the cells of entries
pub sum_bits : (n : ℕ) (t : ℕ → Bool) → sum_to n (λ q. bit (t q)) ≤ n
sum_bits zero t = omega (arith, sum_none (λ q. bit (t q)))
sum_bits (suc n) t =
    let most : bit (t n) ≤ 1 = by_bool (t n) (λ e. rw e (omega arith)) (λ e. rw e (omega arith)) in
    omega (arith, sum_more n (λ q. bit (t q)), sum_bits n t)

pub cells_most : (side : Side) (c : Class) (ports : ℕ) (list entries : List ℕ) → cells_on side ports list c entries ≤ length entries
unfolding cells_on
cells_most side c ports list entries = sum_bits (length entries) (λ q. counts_on side c list (q % ports) (get_or entries q 0))

-- a run of a frame that repeats has at most ports cells for each slot
repeated_length : (ports slots : ℕ) (entries : List ℕ) (start len : ℕ) → length (repeated ports slots entries start len) ≤ len * ports
unfolding repeated run_of
repeated_length ports slots entries start zero = omega arith
repeated_length ports slots entries start (suc len) =
    let slot = run_of ports (start % slots) 1 entries in
    let rest = repeated ports slots entries (suc start) len in
    omega (
      arith,
      length-append slot rest,
      length-take (1 * ports) (drop (start % slots * ports) entries),
      repeated_length ports slots entries (suc start) len,
    )

pub repeated_most : (side : Side) (c : Class) (ports slots : ℕ) (list entries : List ℕ) (start len : ℕ) → cells_on side ports list c (repeated ports slots entries start len) ≤ len * ports
repeated_most side c ports slots list entries start len =
    omega (arith, cells_most side c ports list (repeated ports slots entries start len), repeated_length ports slots entries start len)

module _ (side : Side) (ports slots : ℕ) (list entries : List ℕ) (size : length entries ≡ slots * ports) where
  -- a run of so many slots is inside the frame
  run_ends : (start len : ℕ) → start + len ≤ slots → (start + len) * ports ≤ length entries
  run_ends start len h = let m = mul-le-mul_right ports h in omega arith

  -- the cells of one slot
  abbrev pub in_slot : Class → ℕ → ℕ
  in_slot c s = cells_on side ports list c (run_of ports s 1 entries)

  -- a run inside the frame, slot by slot
  pub cells_slots : (c : Class) (start len : ℕ) → start + len ≤ slots → cells_on side ports list c (run_of ports start len entries) ≡ sum_to len (λ t. in_slot c (start + t))
  cells_slots c start zero h =
      ap (cells_on side ports list c) (run_none ports start entries) ∙ cells_none side ports list c ∙ sym (sum_none (λ t. in_slot c (start + t)))
  cells_slots c start (suc len) h =
      let e : len + 1 ≡ suc len = omega arith in
      let l : start + len ≤ slots = omega arith in
      ap (λ z. cells_on side ports list c (run_of ports start z entries)) (sym e)
      ∙ cells_run side ports list c start len 1 entries (run_ends start len l)
      ∙ ap (λ z. z + in_slot c (start + len)) (cells_slots c start len l)
      ∙ sym (sum_more len (λ t. in_slot c (start + t)))

  -- a run of the frame that repeats for ever, slot by slot
  pub cells_repeated : (c : Class) → 1 ≤ slots → (start len : ℕ)
      → cells_on side ports list c (repeated ports slots entries start len) ≡ sum_to len (λ t. in_slot c ((start + t) % slots))
  unfolding repeated
  cells_repeated c h start zero = cells_none side ports list c ∙ sym (sum_none (λ t. in_slot c ((start + t) % slots)))
  cells_repeated c h start (suc len) =
      let f : ℕ → ℕ = λ t. in_slot c ((start + t) % slots) in
      let m : start % slots < slots = mod-lt start h in
      let e : suc len ≡ 1 + len = omega arith in
      let s : start + 0 ≡ start = omega arith in
      let one : sum_to 1 f ≡ in_slot c (start % slots) = sum_single f ∙ ap (λ z. in_slot c (z % slots)) s in
      let rest : sum_to len (λ t. f (1 + t)) ≡ sum_to len (λ t. in_slot c ((suc start + t) % slots)) =
      sum_ext len (λ t. f (1 + t)) (λ t. in_slot c ((suc start + t) % slots)) (λ t l. ap (λ z. in_slot c (z % slots)) (omega arith)) in
      cells_append side ports list c 1 (run_of ports (start % slots) 1 entries) (repeated ports slots entries (suc start) len) (run_length ports (start % slots) 1 entries (run_ends (start % slots) 1 (omega arith)))
      ∙ omega (arith, cells_repeated c h (suc start) len, one, rest, sum_append 1 len f, ap (λ z. sum_to z f) e)

  pub cells_once : (c : Class) → 1 ≤ slots → (t : ℕ) → cells_on side ports list c (repeated ports slots entries t 1) ≡ in_slot c (t % slots)
  cells_once c h t =
      cells_repeated c h t 1 ∙ sum_single (λ x. in_slot c ((t + x) % slots)) ∙ ap (λ z. in_slot c (z % slots)) (omega arith)

  -- where in the frame a run starts is all that its start says
  pub cells_from : (c : Class) → 1 ≤ slots → (start len : ℕ)
      → cells_on side ports list c (repeated ports slots entries start len) ≡ cells_on side ports list c (repeated ports slots entries (start % slots) len)
  cells_from c h start len =
      cells_repeated c h start len
      ∙ sum_ext len _ _ (λ t l. ap (in_slot c) (sym (mod-add-mod start slots t)))
      ∙ sym (cells_repeated c h (start % slots) len)

  -- the whole frame, slot by slot
  cells_whole : (c : Class) → sum_to slots (λ t. in_slot c (t % slots)) ≡ cells_on side ports list c entries
  cells_whole c =
      sum_ext slots (λ t. in_slot c (t % slots)) (λ t. in_slot c (0 + t)) (λ t l. ap (in_slot c) (mod-eq_of_lt l ∙ omega arith))
      ∙ sym (cells_slots c 0 slots (omega arith))
      ∙ ap (cells_on side ports list c) (run_all ports slots entries size)

  -- whole turns of the frame, from wherever they start
  pub cells_rounds : (c : Class) → 1 ≤ slots → (start w : ℕ) → cells_on side ports list c (repeated ports slots entries start (w * slots)) ≡ w * cells_on side ports list c entries
  cells_rounds c h start w =
      cells_repeated c h start (w * slots)
      ∙ sum_rounds slots (λ t. in_slot c (t % slots)) (λ t. ap (in_slot c) (add-mod_left slots t)) w start
      ∙ ap (λ z. w * z) (cells_whole c)

  -- whole turns, the slots from start to the frame's end, and the rest from the frame's first slot on
  pub cells_turns : (c : Class) (start len turns head tail : ℕ) → start < slots → turns ≡ len / slots
      → head ≡ min (len % slots) (slots - start) → head + tail ≡ len % slots
      → cells_on side ports list c (repeated ports slots entries start len)
      ≡ turns * cells_on side ports list c entries + (cells_on side ports list c (run_of ports start head entries) + cells_on side ports list c (run_of ports 0 tail entries))
  cells_turns c start len turns head tail s t d r =
      let g : ℕ → ℕ = in_slot c in
      let h : ℕ → ℕ = λ x. g (x % slots) in
      let one : 1 ≤ slots = omega arith in
      let small : len % slots < slots = mod-lt len one in
      let round : (x : ℕ) → h (slots + x) ≡ h x = λ x. ap g (add-mod_left slots x) in
      let on : (x : ℕ) → h (start + (turns * slots + x)) ≡ h (start + x) =
      λ x. ap g (ap (λ z. z % slots) (omega arith) ∙ add-mul-mod_self_right (start + x) turns slots) in
      let parts : len ≡ turns * slots + (head + tail) = omega (arith, div-add-mod' len slots, ap (λ z. z * slots) t) in
      let split = sum_append (turns * slots) (head + tail) (λ x. h (start + x)) in
      let split' = sum_append head tail (λ x. h (start + x)) in
      let again = sum_ext (head + tail) (λ x. h (start + (turns * slots + x))) (λ x. h (start + x)) (λ x l. on x) in
      let front : sum_to head (λ x. h (start + x)) ≡ cells_on side ports list c (run_of ports start head entries) =
      sum_ext head (λ x. h (start + x)) (λ x. g (start + x)) (λ x l. ap g (mod-eq_of_lt (omega arith)))
      ∙ sym (cells_slots c start head (omega arith)) in
      let back : sum_to tail (λ x. h (start + (head + x))) ≡ cells_on side ports list c (run_of ports 0 tail entries) =
      sum_ext tail (λ x. h (start + (head + x))) (λ x. g (0 + x))
      (λ x l. ap g (ap (λ z. z % slots) (omega arith) ∙ add-mod_left slots x ∙ mod-eq_of_lt (omega arith) ∙ omega arith))
      ∙ sym (cells_slots c 0 tail (omega arith)) in
      cells_repeated c one start len
      ∙ ap (λ z. sum_to z (λ x. h (start + x))) parts
      ∙ omega (arith, split, split', again, sum_rounds slots h round turns start, ap (λ z. turns * z) (cells_whole c), front, back)
