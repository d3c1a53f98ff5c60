-- One frame that repeats: both ends of a run stray in halves whose loads differ by at most one, of which one is even and strays less.
use Prim.Native.Nat.{ℕ, suc, zero, ◌+◌, ◌-◌, ◌*◌, ◌/◌, ◌%◌, ◌^◌, ◌≤◌, ◌<◌, min}
use mathlib.Core.Path.{◌≡◌, refl, sym, ap, ap₂, subst, ◌∙◌}
use mathlib.Core.List.{List}
use native.Mathlib.Omega.{arith}
use native.Mathlib.Nat.{mod-lt, div-add-mod', mul-le-mul_left, mul-le-mul_right}
use lib.Pow.{pow_pos}
use Rattle.rules.specs.Words.{Near}
use Rattle.rules.specs.Flows.{Class, OnSwitch, load, input}
use Rattle.rules.specs.Frames.{cells, run_of, Legal, Block, front, back, Balanced, repeated}
use Rattle.rules.proofs.Cases.{by_eq, by_lt}
use Rattle.rules.proofs.Runs.{cells_from, cells_turns}
use Rattle.rules.proofs.Legal.{legal_exact}
use Rattle.rules.proofs.Levels.{double}
use Rattle.strays.specs.Stray.{earliest}
use Rattle.strays.specs.Deviation.{deviation, repeat_deviation}
use Rattle.strays.proofs.Earliest.{earliest_none, earliest_all, earliest_near, earliest_far}
use Rattle.strays.proofs.Strays.{stray_has, stray_double}
use Rattle.strays.proofs.Deviations.{deviation_rises, deviation_least, deviation_third, stray_deviation}
use Rattle.strays.proofs.Balanced.{BalancedCount, block_run}
use Rattle.strays.proofs.Frames.{before, before_more, before_all, before_none, before_balanced, whole_block, whole_cells}

-- ---- two ends
-- an even load strays as half of it in half the slots
even_stray : (k e u : ℕ) → u ≤ 2 ^ suc k → 2 ^ suc k * earliest (suc k) (2 * e) u ≤ u * (2 * e) + 2 * deviation k
even_stray k e u h = omega (arith, stray_has (suc k) (2 * e) u h, stray_double k e, stray_deviation k e)

-- the larger half of an odd load, and the smaller
odd_larger : (j c u : ℕ) → u ≤ 2 ^ j → 2 * (2 ^ j * earliest j (suc c) u) ≤ u * (2 * c + 1) + deviation (suc j)
odd_larger j c u h =
    let half : (2 * c + 1 + 1) / 2 ≡ suc c = omega arith in
    let e : earliest (suc j) (2 * c + 1) u ≡ earliest j (suc c) u = earliest_near j (2 * c + 1) u h ∙ ap (λ z. earliest j z u) half in
    let g : 2 ^ suc j * earliest (suc j) (2 * c + 1) u ≡ 2 * (2 ^ j * earliest j (suc c) u) = ap₂ ◌*◌ (double j) e ∙ omega arith in
    omega (arith, stray_has (suc j) (2 * c + 1) u (omega (arith, double j)), stray_deviation (suc j) (2 * c + 1))

odd_smaller : (j c v : ℕ) → v ≤ 2 ^ j → 2 * (2 ^ j * earliest j c v) + 2 ^ j ≤ v * (2 * c + 1) + deviation (suc j)
odd_smaller j c v h =
    let n = 2 ^ j in
    let half : (2 * c + 1 + 1) / 2 ≡ suc c = omega arith in
    let other : (2 * c + 1) / 2 ≡ c = omega arith in
    let e : earliest (suc j) (2 * c + 1) (n + v) ≡ suc c + earliest j c v = earliest_far j (2 * c + 1) v ∙ ap₂ (λ x y. x + earliest j y v) half other in
    let g : 2 ^ suc j * earliest (suc j) (2 * c + 1) (n + v) ≡ 2 * (n * suc c + n * earliest j c v) = ap₂ ◌*◌ (double j) e ∙ omega arith in
    omega (arith, stray_has (suc j) (2 * c + 1) (n + v) (omega (arith, double j)), stray_deviation (suc j) (2 * c + 1))

-- u slots of a block with c + 1 cells and v of one with c
odd_cross : (i c u v : ℕ) → let j = suc i in u ≤ 2 ^ j → v ≤ 2 ^ j
    → 2 * (2 ^ j * earliest j (suc c) u) + 2 * (2 ^ j * earliest j c v) ≤ (2 * c + 1) * (u + v) + 4 * deviation j
unfolding deviation
odd_cross i c u v hu hv =
    let j = suc i in
    let n = 2 ^ j in
    let third = deviation_third i in
    let least = deviation_least i in
    let rises = (deviation_rises i).0 in
    let twice = double i in
    let larger = odd_larger j c u hu in
    let smaller = odd_smaller j c v hv in
    by_eq (c % 2) 0
    (λ z.
    let e = c / 2 in
    let is : c ≡ 2 * e = omega arith in
    let few : n * earliest j c v ≤ v * c + 2 * deviation i = subst (λ (y : ℕ). n * earliest j y v ≤ v * y + 2 * deviation i) (sym is) (even_stray i e v hv) in
    by_eq v 0
    (λ w. omega (arith, ap (λ y. n * y) (ap (earliest j c) w ∙ earliest_none j c)))
    (λ w. omega arith))
    (λ z.
    let e = suc c / 2 in
    let is : suc c ≡ 2 * e = omega arith in
    let few : n * earliest j (suc c) u ≤ u * suc c + 2 * deviation i = subst (λ (y : ℕ). n * earliest j y u ≤ u * y + 2 * deviation i) (sym is) (even_stray i e u hu) in
    by_eq u n
    (λ w. omega (arith, ap (λ y. n * y) (ap (earliest j (suc c)) w ∙ earliest_all j (suc c)), ap (λ y. y * c) w))
    (λ w. omega arith))

-- ---- a run inside a block
-- from the halves to the whole
repeat_more : (j : ℕ) → 2 * repeat_deviation j + 2 ^ j ≤ repeat_deviation (suc j)
unfolding repeat_deviation deviation
repeat_more zero = omega arith
repeat_more (suc zero) = omega arith
repeat_more (suc (suc i)) = omega (arith, deviation_third (suc i), double (suc i), double i, pow_pos i)

abbrev Cross : ℕ → ℕ → ℕ → ℕ → ℕ → Type 0
Cross j a b u v = 2 * (2 ^ j * earliest j a u) + 2 * (2 ^ j * earliest j b v) ≤ (a + b) * (u + v) + repeat_deviation (suc j)

cross : (j a b u v : ℕ) → Near 1 a b → u ≤ 2 ^ j → v ≤ 2 ^ j → Cross j a b u v
unfolding repeat_deviation
cross zero a b u v near hu hv =
    by_eq u 0
    (λ e. by_eq v 0
    (λ g. rw (e, g) (omega (arith, earliest_none 0 a, earliest_none 0 b)))
    (λ g. let y : v ≡ 1 = omega arith in rw (e, y) (omega (arith, earliest_none 0 a, earliest_all 0 b))))
    (λ e.
    let x : u ≡ 1 = omega arith in
    by_eq v 0
    (λ g. rw (x, g) (omega (arith, earliest_all 0 a, earliest_none 0 b)))
    (λ g. let y : v ≡ 1 = omega arith in rw (x, y) (omega (arith, earliest_all 0 a, earliest_all 0 b))))
cross (suc i) a b u v near hu hv =
    by_eq a b
    (λ e. omega (arith, stray_has (suc i) a u hu, stray_has (suc i) b v hv, stray_deviation (suc i) a, stray_deviation (suc i) b, ap (λ z. z * u) e, ap (λ z. z * v) e))
    (λ e. by_lt a b
    (λ l. let g : b ≡ suc a = omega arith in rw g (omega (arith, odd_cross i a v u hv hu)))
    (λ l. let g : a ≡ suc b = omega arith in rw g (omega (arith, odd_cross i b u v hu hv))))

-- n cells in a run of len slots over the middle, u of them in the half with a cells and v in the half with b, and t and r left of either
over_middle : (j a b u v t r len n : ℕ) → Near 1 a b → t + u ≡ 2 ^ j → v + r ≡ 2 ^ j → u + v ≡ len
    → n ≤ earliest j a u + earliest j b v → a + b ≤ n + earliest j a t + earliest j b r → Near (repeat_deviation (suc j)) (2 ^ suc j * n) ((a + b) * len)
over_middle j a b u v t r len n near first second long most least =
    let w = 2 ^ j in
    let above = cross j a b u v near (omega arith) (omega arith) in
    let below = cross j a b t r near (omega arith) (omega arith) in
    let short : t + r + len ≡ 2 * w = omega arith in
    let power = ap (λ z. z * n) (double j) in
    (omega (arith, mul-le-mul_left w most, ap (λ z. (a + b) * z) long), omega (arith, mul-le-mul_left w least, ap (λ z. (a + b) * z) short))

-- n cells in a run of len slots from slot x on, of a block of 2 ^ j slots with m cells
inside_run : (slots : ℕ) (f : ℕ → ℕ) → BalancedCount slots f
    → (j lo m : ℕ) → Block slots lo (2 ^ j) → f (lo + 2 ^ j) ≡ f lo + m → (x len n : ℕ) → lo ≤ x → x + len ≤ lo + 2 ^ j → f (x + len) ≡ f x + n
    → Near (repeat_deviation j) (2 ^ j * n) (m * len)
unfolding repeat_deviation
inside_run slots f halves zero lo m block is x len n low high run =
    by_eq len 0
    (λ e.
    let a : x + len ≡ x = omega arith in
    omega (arith, ap f a, ap (λ z. m * z) e))
    (λ e.
    let one : len ≡ 1 = omega arith in
    let a : x + len ≡ lo + 2 ^ 0 = omega arith in
    let b : x ≡ lo = omega arith in
    omega (arith, ap f a, ap f b, ap (λ z. m * z) one))
inside_run slots f halves (suc j) lo m block is x len n low high run =
    let w = 2 ^ j in
    let twice = double j in
    let b2 : Block slots lo (2 * w) = rw twice at block in
    let h = halves lo w b2 in
    let a = h.first in
    let b = h.second in
    let mid = lo + w in
    let end : mid + w ≡ lo + 2 ^ suc j = omega arith in
    let sum : a + b ≡ m = omega (arith, ap f end, h.first_is, h.second_is) in
    let near = h.near in
    let share = ap (λ z. z * len) sum in
    let power = ap (λ z. z * n) twice in
    let more = repeat_more j in
    let up = mul-le-mul_right len near.0 in
    let down = mul-le-mul_right len near.1 in
    by_lt mid (x + len)
    (λ l.
    by_lt x mid
    (λ k.
    let u = mid - x in
    let v = x + len - mid in
    let t = x - lo in
    let r = w - v in
    let one = block_run slots f halves j lo a (front lo w b2) h.first_is a t u 0 (omega arith) in
    let two = block_run slots f halves j mid b (back lo w b2) h.second_is b 0 v r (omega arith) in
    let at : lo + t ≡ x = omega arith in
    let to : lo + t + u ≡ mid = omega arith in
    let again : mid + 0 ≡ mid = omega arith in
    let last : mid + 0 + v ≡ x + len = omega arith in
    let all_first : earliest j a (t + u) ≡ a = ap (earliest j a) (omega arith) ∙ earliest_all j a in
    let all_second : earliest j b (v + r) ≡ b = ap (earliest j b) (omega arith) ∙ earliest_all j b in
    let u_is : earliest j a (u + 0) ≡ earliest j a u = ap (earliest j a) (omega arith) in
    let v_is : earliest j b (0 + v) ≡ earliest j b v = ap (earliest j b) (omega arith) in
    let p = ap f at in
    let q = ap f to in
    let again_is = ap f again in
    let s = ap f last in
    let None-first = earliest_none j a in
    let none_second = earliest_none j b in
    let fi = h.first_is in
    let si = h.second_is in
    let most : n ≤ earliest j a u + earliest j b v = omega (arith, one.1 (omega arith), two.1 (omega arith)) in
    let least : a + b ≤ n + earliest j a t + earliest j b r = omega (arith, one.0 (omega arith), two.0 (omega arith)) in
    rw (← sum) (over_middle j a b u v t r len n near (omega arith) (omega arith) (omega arith) most least))
    (λ k.
    let law = inside_run slots f halves j mid b (back lo w b2) h.second_is x len n k (omega arith) run in
    (omega (arith, law), omega (arith, law))))
    (λ l.
    let law = inside_run slots f halves j lo a (front lo w b2) h.first_is x len n low l run in
    (omega (arith, law), omega (arith, law)))

-- ---- a frame
module _ {ports slots : ℕ} {list entries : List ℕ} (legal : Legal ports slots list entries) (balanced : Balanced ports slots list entries) (c : Class) (of : OnSwitch ports c) (k : ℕ) (power : slots ≡ 2 ^ k) where
  -- a run inside it
  frame_run : (x len : ℕ) → x + len ≤ slots → Near (repeat_deviation k) (2 ^ k * cells c ports list (run_of ports x len entries)) (load c list * len)
  frame_run x len fits =
      inside_run slots (before legal balanced c of) (before_balanced legal balanced c of) k 0 (load c list) (whole_block legal balanced c of k power) (whole_cells legal balanced c of k power)
      x len _ (omega arith) (omega arith) (before_more legal balanced c of x len (omega arith))

  -- a run of it again and again: whole turns, and a run inside it or all but one
  pub repeat_run : (start len : ℕ) → Near (repeat_deviation k) (2 ^ k * cells c ports list (repeated ports slots entries start len)) (load c list * len)
  repeat_run start len =
      let m = load c list in
      let f = before legal balanced c of in
      let some : 1 ≤ slots = omega (arith, pow_pos k) in
      let s = start % slots in
      let low : s < slots = mod-lt start some in
      let turns = len / slots in
      let rest = len % slots in
      let small : rest < slots = mod-lt len some in
      let parts : len ≡ turns * slots + rest = sym (div-add-mod' len slots) in
      let head = min rest (slots - s) in
      let tail = rest - head in
      let full : cells c ports list entries ≡ m = legal_exact legal c in
      let is : cells c ports list (repeated ports slots entries start len)
      ≡ turns * cells c ports list entries + (cells c ports list (run_of ports s head entries) + cells c ports list (run_of ports 0 tail entries))
      = cells_from input ports slots list entries legal.size c some start len
      ∙ cells_turns input ports slots list entries legal.size c s len turns head tail low refl refl (omega arith) in
      let is2 : 2 ^ k * cells c ports list (repeated ports slots entries start len)
      ≡ m * (turns * slots) + (2 ^ k * cells c ports list (run_of ports s head entries) + 2 ^ k * cells c ports list (run_of ports 0 tail entries))
      = ap (λ z. 2 ^ k * z) is ∙ omega (arith, ap (λ z. 2 ^ k * (turns * z)) full, ap (λ z. m * (turns * z)) power) in
      let share : m * len ≡ m * (turns * slots) + m * rest = ap (λ z. m * z) parts ∙ omega arith in
      by_lt (slots - s) rest
      (λ l.
      let law = frame_run tail (s - tail) (omega arith) in
      let at : tail + (s - tail) ≡ s = omega arith in
      let to : s + head ≡ slots = omega arith in
      let one : f s ≡ f tail + cells c ports list (run_of ports tail (s - tail) entries) = ap f (sym at) ∙ before_more legal balanced c of tail (s - tail) (omega arith) in
      let two : f slots ≡ f s + cells c ports list (run_of ports s head entries) = ap f (sym to) ∙ before_more legal balanced c of s head (omega arith) in
      let sum : cells c ports list (run_of ports s head entries) + cells c ports list (run_of ports 0 tail entries) + cells c ports list (run_of ports tail (s - tail) entries) ≡ m
      = omega (arith, before_all legal balanced c of) in
      let long : rest + (s - tail) ≡ slots = omega arith in
      omega (arith, ap (λ z. 2 ^ k * z) sum, ap (λ z. m * z) long, ap (λ z. m * z) power))
      (λ l.
      let law = frame_run s rest (omega arith) in
      let h : head ≡ rest = omega arith in
      let t : tail ≡ 0 = omega arith in
      let none : cells c ports list (run_of ports 0 tail entries) ≡ 0 = ap f t ∙ before_none legal balanced c of in
      omega (arith, ap (λ z. 2 ^ k * z) none, ap (λ z. 2 ^ k * cells c ports list (run_of ports s z entries)) h))
