-- Chains: the cells and the shares of runs of sound frames, and how far the first slots of a chain are from their share.
use Prim.Native.Nat.{ℕ, suc, zero, ◌+◌, ◌*◌, ◌-◌, ◌/◌, ◌^◌, ◌≤◌, ◌<◌, min}
use mathlib.Core.Path.{◌≡◌, refl, ap, sym, ◌∙◌}
use mathlib.Core.List.{List, [], ◌∷◌}
use native.Mathlib.Nat.{zero-add, mod-lt, div-add-mod'}
use native.Mathlib.Omega.{arith}
use lib.Pow.{pow_pos}
use lib.ListN.{length}
use borrow.Author.Tests.{lt-ltb, le-ltb}
use Rattle.rules.specs.Words.{sum_to, Near, Every}
use Rattle.rules.specs.Flows.{Class, OnSwitch, load, input}
use Rattle.rules.specs.Frames.{cells, run_of, Legal, Balanced}
use Rattle.strays.specs.Stray.{stray}
use Rattle.wire.specs.Wire.{Carried, cells_at, cells_in, inside, share, Shape}
use Rattle.wire.specs.Loads.{load_of, Touches}
use Rattle.rules.proofs.Sums.{sum_none, sum_ext, sum_append}
use Rattle.rules.proofs.Cells.{cells_none, run_none, run_all}
use Rattle.rules.proofs.Runs.{cells_slots}
use Rattle.rules.proofs.Legal.{legal_exact}
use Rattle.strays.proofs.Frames.{first_off}

-- a carried frame is legal for its load, and balanced
abbrev pub Sound : Carried → Type 0
Sound f = Legal f.call.ports f.call.slots f.call.list f.entries × Balanced f.call.ports f.call.slots f.call.list f.entries

-- ---- shares of runs end to end add up
module _ (c : Class) where
  share_none : (fs : List Carried) (lo start len : ℕ) → start + len ≤ lo → share c lo fs start len ≡ 0
  unfolding share
  share_none [] lo start len h = refl
  share_none (f ∷ fs) lo start len h =
      let hi = lo + f.call.slots in
      let e : inside lo hi start len ≡ 0 = omega arith in
      omega (arith, ap (λ z. load c f.call.list * z) e, share_none fs hi start len (omega arith))

  inside_first : (lo hi x : ℕ) → inside lo hi 0 x ≡ min hi x - lo
  inside_first lo hi x = omega arith

  inside_split : (lo hi start len : ℕ) → lo ≤ hi → inside lo hi 0 (start + len) ≡ inside lo hi 0 start + inside lo hi start len
  inside_split lo hi start len h =
      let split : min hi (start + len) - lo ≡ (min hi start - lo) + inside lo hi start len = omega arith in
      cc (inside_first lo hi (start + len), inside_first lo hi start)

  pub share_split : (fs : List Carried) (lo start len : ℕ) → share c lo fs 0 (start + len) ≡ share c lo fs 0 start + share c lo fs start len
  unfolding share
  share_split [] lo start len = refl
  share_split (f ∷ fs) lo start len =
      let hi = lo + f.call.slots in
      omega (arith, ap (λ z. load c f.call.list * z) (inside_split lo hi start len (omega arith)), share_split fs hi start len)

-- ---- a chain of sound frames of one shape
pub record SoundFrame (ports slots : ℕ) (f : Carried) : Type 0 where
  pub shape : Shape ports slots f
  pub legal : Legal ports slots f.call.list f.entries
  pub balanced : Balanced ports slots f.call.list f.entries

pub good_of : (ports slots : ℕ) (fs : List Carried) → Every Sound fs → Every (Shape ports slots) fs → Every (SoundFrame ports slots) fs
good_of ports slots [] sound shape = tt
good_of ports slots (f ∷ fs) sound shape =
    let s : Legal ports slots f.call.list f.entries × Balanced ports slots f.call.list f.entries = rw (shape.0.ports_are, shape.0.slots_are) at sound.0 in
    (record { shape = shape.0; legal = s.0; balanced = s.1 }, good_of ports slots fs sound.1 shape.1)

-- ---- the cells of runs of a chain
pub cells_nowhere : (c : Class) (t : ℕ) → cells_at c [] t ≡ 0
unfolding cells_at
cells_nowhere c t = refl

-- a run is two runs end to end
pub in_more : (c : Class) (fs : List Carried) (start a b : ℕ) → cells_in c fs start (a + b) ≡ cells_in c fs start a + cells_in c fs (start + a) b
unfolding cells_in
in_more c fs start a b =
    sum_append a b (λ t. cells_at c fs (start + t))
    ∙ ap (λ z. sum_to a (λ t. cells_at c fs (start + t)) + z) (sum_ext b _ _ (λ t _. ap (cells_at c fs) (omega arith)))

module _ (c : Class) (ports n : ℕ) (f : Carried) (fs : List Carried) (shape : Shape ports n f) where
  -- a slot of the first frame
  first_slots_at : (t : ℕ) → t < n → cells_at c (f ∷ fs) t ≡ cells c ports f.call.list (run_of ports t 1 f.entries)
  unfolding cells_at
  first_slots_at t h = rw (shape.ports_are, shape.slots_are, lt-ltb t n h)

  rest_at : (t : ℕ) → cells_at c (f ∷ fs) (n + t) ≡ cells_at c fs t
  unfolding cells_at
  rest_at t = let d : n + t - n ≡ t = omega arith in rw (shape.slots_are, le-ltb (n + t) n (omega arith), d)

  -- a run inside the first frame, and one after it
  pub in_first : length f.entries ≡ n * ports → (start len : ℕ) → start + len ≤ n → cells_in c (f ∷ fs) start len ≡ cells c ports f.call.list (run_of ports start len f.entries)
  unfolding cells_in
  in_first size start len h =
      sum_ext len _ _ (λ t l. first_slots_at (start + t) (omega arith))
      ∙ sym (cells_slots input ports n f.call.list f.entries size c start len h)

  pub in_rest : (start len : ℕ) → cells_in c (f ∷ fs) (n + start) len ≡ cells_in c fs start len
  unfolding cells_in
  in_rest start len = sum_ext len _ _ (λ t l. ap (cells_at c (f ∷ fs)) (omega arith) ∙ rest_at (start + t))

-- a run of no slots has none
pub none_in : (c : Class) (fs : List Carried) (start : ℕ) → cells_in c fs start 0 ≡ 0
unfolding cells_in
none_in c fs start = sum_none (λ t. cells_at c fs (start + t))

-- beyond the last slot there are none
pub at_beyond : (c : Class) (ports n : ℕ) (fs : List Carried) → Every (SoundFrame ports n) fs → (t : ℕ) → length fs * n ≤ t → cells_at c fs t ≡ 0
at_beyond c ports n [] good t h = cells_nowhere c t
at_beyond c ports n (f ∷ fs) good t h =
    let r = t - n in
    let e : t ≡ n + r = omega arith in
    ap (cells_at c (f ∷ fs)) e ∙ rest_at c ports n f fs good.0.shape r ∙ at_beyond c ports n fs good.1 r (omega arith)

-- the first frame has its load, and what follows it is the rest
pub first_whole : (c : Class) (ports n : ℕ) (f : Carried) (fs : List Carried) → SoundFrame ports n f → (t : ℕ)
    → cells_in c (f ∷ fs) 0 (n + t) ≡ load c f.call.list + cells_in c fs 0 t
first_whole c ports n f fs g t =
    let first : cells_in c (f ∷ fs) 0 n ≡ load c f.call.list
    = in_first c ports n f fs g.shape g.legal.size 0 n (omega arith)
    ∙ ap (cells c ports f.call.list) (run_all ports n f.entries g.legal.size) ∙ legal_exact g.legal c in
    let shift : 0 + n ≡ n + 0 = omega arith in
    let second : cells_in c (f ∷ fs) (0 + n) t ≡ cells_in c fs 0 t = rw shift (in_rest c ports n f fs g.shape 0 t) in
    in_more c (f ∷ fs) 0 n t ∙ omega (arith, first, second)

-- ---- the first slots of a chain of frames of which Q holds
module _ (c : Class) (ports k : ℕ) (Q : Carried → Type 0) (known : (f : Carried) → Q f → SoundFrame ports (2 ^ k) f) where
  -- in a frame, the first r slots are off by at most one gap above and another below, which go by the load
  abbrev Off : ℕ → (ℕ → ℕ) → (ℕ → ℕ) → Type 0
  Off r up down = (f : Carried) → Q f
      → let m = load c f.call.list in
      let n = 2 ^ k * cells c ports f.call.list (run_of ports 0 r f.entries) in
      (n ≤ m * r + up m) × (m * r ≤ n + down m)

  -- so are the first t slots of a chain, b frames and r slots, by the load of frame b, from the share of as many slots that end where they end
  pub prefix_chain : (r : ℕ) (up down : ℕ → ℕ) → r ≤ 2 ^ k → Off r up down → (fs : List Carried) → Every Q fs → (b lo start len t : ℕ)
      → t ≡ b * 2 ^ k + r → start ≤ lo → start + len ≡ lo + t → t ≤ length fs * 2 ^ k
      → let m = load_of c fs b in
      (2 ^ k * cells_in c fs 0 t ≤ share c lo fs start len + up m) × (share c lo fs start len ≤ 2 ^ k * cells_in c fs 0 t + down m)
  unfolding share load_of
  prefix_chain r up down less off [] good b lo start len t is before ends fits =
      let e : t ≡ 0 = omega arith in
      let z : cells_in c [] 0 t ≡ 0 = rw e (none_in c [] 0) in
      omega (arith, ap (λ x. 2 ^ k * x) z)
  prefix_chain r up down less off (f ∷ fs) good zero lo start len t is before ends fits =
      let n = 2 ^ k in
      let g = known f good.0 in
      let m = load c f.call.list in
      let hi = lo + f.call.slots in
      let top : f.call.slots ≡ n = g.shape.slots_are in
      let short : t ≡ r = omega arith in
      let first : cells_in c (f ∷ fs) 0 t ≡ cells c ports f.call.list (run_of ports 0 r f.entries)
      = ap (cells_in c (f ∷ fs) 0) short ∙ in_first c ports n f fs g.shape g.legal.size 0 r (omega arith) in
      let e : inside lo hi start len ≡ r = omega arith in
      let none = share_none c fs hi start len (omega arith) in
      let law = off f good.0 in
      omega (arith, ap (λ x. n * x) first, ap (λ x. m * x) e)
  prefix_chain r up down less off (f ∷ fs) good (suc b) lo start len t is before ends fits =
      let n = 2 ^ k in
      let g = known f good.0 in
      let m = load c f.call.list in
      let hi = lo + f.call.slots in
      let top : f.call.slots ≡ n = g.shape.slots_are in
      let later = b * n + r in
      let at : t ≡ n + later = omega arith in
      let e : inside lo hi start len ≡ n = omega arith in
      let whole = first_whole c ports n f fs g later in
      let law = prefix_chain r up down less off fs good.1 b hi start len later refl (omega arith) (omega arith) (omega arith) in
      omega (arith, ap (λ x. n * cells_in c (f ∷ fs) 0 x) at, ap (λ x. n * x) whole, ap (λ x. m * x) e, law.0, law.1)

-- every slot touches the frame that it is in
pub touches : (k t : ℕ) → Touches k (t / 2 ^ k) t
touches k t = let e = div-add-mod' t (2 ^ k) in let l = mod-lt t (pow_pos k) in (omega arith, omega arith)

module _ (c : Class) (ports k : ℕ) (of : OnSwitch ports c) (fs : List Carried) (good : Every (SoundFrame ports (2 ^ k)) fs) where
  -- the first t slots of the chain are off by at most gap
  abbrev pub OffAt : ℕ → ℕ → Type 0
  OffAt gap t = Near gap (2 ^ k * cells_in c fs 0 t) (share c 0 fs 0 t)

  -- which is the stray of the load of a frame that they end in,
  pub anywhere : (b t : ℕ) → Touches k b t → t ≤ length fs * 2 ^ k → OffAt (stray k (load_of c fs b)) t
  anywhere b t touch fits =
      let r = t - b * 2 ^ k in
      prefix_chain c ports k (SoundFrame ports (2 ^ k)) (λ f g. g) r (stray k) (stray k) (omega arith) (λ f g. first_off g.legal g.balanced c of k refl r (omega arith)) fs good
      b 0 0 t t (omega arith) (omega arith) (omega arith) fits

  -- and nothing where they end with a frame
  pub at_seam : (b t : ℕ) → t ≡ b * 2 ^ k → t ≤ length fs * 2 ^ k → OffAt 0 t
  at_seam b t e fits =
      prefix_chain c ports k (SoundFrame ports (2 ^ k)) (λ f g. g) 0 (λ _. 0) (λ _. 0) (omega arith)
      (λ f g. omega (arith, ap (λ x. 2 ^ k * x) (ap (cells c ports f.call.list) (run_none ports 0 f.entries) ∙ cells_none input ports f.call.list c))) fs good
      b 0 0 t t (omega arith) (omega arith) (omega arith) fits

  -- a run is what is left of one prefix after another
  pub run_off : (start len x y gap : ℕ) → OffAt x start → OffAt y (start + len) → x + y ≤ gap → Near gap (2 ^ k * cells_in c fs start len) (share c 0 fs start len)
  run_off start len x y gap one two most =
      let sum : cells_in c fs 0 (start + len) ≡ cells_in c fs 0 start + cells_in c fs start len = rw zero-add at (in_more c fs 0 start len) in
      omega (arith, ap (λ x. 2 ^ k * x) sum, share_split c fs 0 start len)
