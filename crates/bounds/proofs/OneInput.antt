-- One input: frames of two ports in which only the first input sends, by a flow to each output. Two odd counts favour opposite halves, a
-- lone one the first.
use Prim.Native.Nat.{ℕ, suc, zero, ◌+◌, ◌*◌, ◌/◌, ◌%◌, ◌^◌, ◌≤◌}
use mathlib.Core.Path.{◌≡◌, refl, ap, ap₂, ◌∙◌}
use mathlib.Core.Logic.{◌≢◌}
use mathlib.Core.List.{List, [], ◌∷◌, ◌++◌}
use mathlib.Core.Bool.{true, false}
use native.Mathlib.Omega.{arith}
use native.Mathlib.Nat.{add-zero, zero-add}
use lib.Dec.{eqb}
use lib.ListN.{length, get_or, replicate, length-append}
use Rattle.rules.specs.Words.{if, both, sum_to, up_from}
use Rattle.rules.specs.Flows.{End, inputs, links, port_of, counts_of, Class, flow, link, is_of, load_in, Fits, input}
use Rattle.rules.specs.Frames.{cells, run_of}
use Rattle.calls.specs.Refusals.{slots_each}
use Rattle.rules.specs.Rules.{odd}
use Rattle.rules.specs.Schedule.{walk, group_of, level, settle_at, settle, favours, frame_of}
use Rattle.calls.specs.Build.{build_accepts}
use Rattle.wire.specs.Wire.{Call, Carried, none, chain}
use Rattle.rules.proofs.Cases.{by_bool}
use Rattle.rules.proofs.Levels.{levels_of}
use Rattle.rules.proofs.Walks.{walk_on, walk_off}
use Rattle.rules.proofs.Cells.{cells_run, run_first, run_second, run_all}
use Rattle.rules.proofs.OneFrame.{frame_is, frame_length, rules_sound}
use Rattle.rules.proofs.Slots.{AtInputs}
use Rattle.calls.specs.Demand2.{Ported, Linked}
use Rattle.calls.proofs.Overloads.{each_allows}
use Rattle.calls.proofs.Demand2.{accepts_yes}

-- a flow of d cells from the first input to the first output, and one of c to the second, each on link 1: the list, and its counts
abbrev pub listed : ℕ → ℕ → List ℕ
listed d c = 1 ∷ 1 ∷ d ∷ 1 ∷ 1 ∷ 2 ∷ c ∷ 1 ∷ []

abbrev pub row : ℕ → ℕ → List ℕ
row d c = d ∷ c ∷ []

pub listed_counts : (d c : ℕ) → counts_of (listed d c) ≡ row d c
unfolding counts_of
listed_counts d c = refl

-- the second of them
abbrev pub second : Class
second = flow 1

-- ---- what each count favours
-- a walk whose first step comes to a settled count changes nothing
still : (n : ℕ) (go back : ℕ → ℕ) (p q h : ℕ) (c : List ℕ) → go p ≡ q → get_or c q 0 ≢ 0 → walk (suc n) go back p h c ≡ c
still n go back p q h c e s = walk_off n go back p h c (rw e s)

-- an odd count that is not settled favours the first half where the halves are then level
settle_on : (i o : ℕ → ℕ) (m : List ℕ) (p : ℕ) (c d : List ℕ) → both (odd m p) (eqb (get_or c p 0) 0) ≡ true
    → group_of i o m 1 p c ≡ d → level d ≡ true → settle_at i o m p c ≡ d
unfolding settle_at
settle_on i o m p c d e g l = rw (e, settle_at, g, l)

-- a lone odd count is the first of its group, and the whole of it
alone_settled : (i o : ℕ → ℕ) (c : ℕ) → c % 2 ≡ 1 → i 1 ≡ 1 → o 1 ≡ 1 → settle i o (row 0 c) (up_from 0 2) (replicate 2 0) ≡ row 0 1
unfolding settle_at
alone_settled i o c e f g =
    settle_on i o (row 0 c) 1 (replicate 2 0) (row 0 1) (rw e)
    (ap (walk 2 o i 1 1) (still 1 i o 1 1 1 (row 0 1) f (omega arith)) ∙ still 1 o i 1 1 1 (row 0 1) g (omega arith))
    refl

-- two odd counts are a group, and the first of them is first in it
full_settled : (i o : ℕ → ℕ) (d c : ℕ) → d % 2 ≡ 1 → c % 2 ≡ 1 → i 0 ≡ 1 → o 0 ≡ 0 → o 1 ≡ 1
    → settle i o (row d c) (up_from 0 2) (replicate 2 0) ≡ row 1 2
unfolding settle_at
full_settled i o d c e f g h k =
    ap (settle_at i o (row d c) 1)
    (settle_on i o (row d c) 0 (replicate 2 0) (row 1 2) (rw e)
    (ap (walk 2 o i 0 1) (walk_on 1 i o 0 1 (row 1 0) (rw g) ∙ rw g (still 0 o i 1 1 2 (row 1 2) k (omega arith)))
    ∙ still 1 o i 0 0 1 (row 1 2) h (omega arith))
    refl)
    ∙ rw (f, settle_at)

-- an even count is not settled
settle_off : (i o : ℕ → ℕ) (m : List ℕ) (p : ℕ) (c : List ℕ) → odd m p ≡ false → settle_at i o m p c ≡ c
unfolding settle_at
settle_off i o m p c e = rw (settle_at, e)

even_settled : (i o : ℕ → ℕ) (d c : ℕ) → d % 2 ≡ 0 → c % 2 ≡ 0 → settle i o (row d c) (up_from 0 2) (replicate 2 0) ≡ row 0 0
even_settled i o d c e f =
    ap (settle_at i o (row d c) 1) (settle_off i o (row d c) 0 (row 0 0) (rw e)) ∙ settle_off i o (row d c) 1 (row 0 0) (rw f)

-- over the ports of a list of such flows, whatever their cells
module _ (D C : ℕ) where
  abbrev pub port : End → ℕ → ℕ
  port = port_of (listed D C)

  -- an odd count alone favours the first half
  alone_favours : (c : ℕ) → c % 2 ≡ 1 → favours port (row 0 c) ≡ row 0 1
  unfolding favours port_of
  alone_favours c e = alone_settled _ _ c e (rw e) (rw e)

  -- of two odd counts the first favours the first half and the other the second
  full_favours : (d c : ℕ) → d % 2 ≡ 1 → c % 2 ≡ 1 → favours port (row d c) ≡ row 1 2
  unfolding favours port_of
  full_favours d c e f = full_settled _ _ d c e f (rw (e, f)) (rw (e, f)) (rw (e, f))

  -- two even ones favour neither
  even_favours : (d c : ℕ) → d % 2 ≡ 0 → c % 2 ≡ 0 → favours port (row d c) ≡ row 0 0
  unfolding favours
  even_favours d c e f = even_settled _ _ d c e f

  -- the entries of a block with d cells of the one and c of the other
  abbrev pub laid : ℕ → ℕ → ℕ → List ℕ
  laid j d c = frame_of 2 port j (row d c)

  pub laid_length : (j d c : ℕ) → length (laid j d c) ≡ 2 ^ j * 2
  laid_length j d c = frame_length 2 port j (row d c)

  -- ---- the halves of a frame
  -- of an odd count alone the first half gets one more
  pub alone_halves : (j x : ℕ) → laid (suc j) 0 (2 * x + 1) ≡ laid j 0 (x + 1) ++ laid j 0 x
  unfolding frame_of
  alone_halves j x =
      let h : (2 * x + 1) / 2 ≡ x = omega arith in
      rw (alone_favours (2 * x + 1) (omega arith), h, add-zero x)

  -- of two odd counts the first half gets one more of the first, and the second half one more of the other
  pub full_halves : (j y x : ℕ) → laid (suc j) (2 * y + 1) (2 * x + 1) ≡ laid j (y + 1) x ++ laid j y (x + 1)
  unfolding frame_of
  full_halves j y x =
      let g : (2 * y + 1) / 2 ≡ y = omega arith in
      let h : (2 * x + 1) / 2 ≡ x = omega arith in
      rw (full_favours (2 * y + 1) (2 * x + 1) (omega arith) (omega arith), g, h, add-zero y, add-zero x)

  -- of two even counts each half gets half
  pub even_halves : (j y x : ℕ) → laid (suc j) (2 * y) (2 * x) ≡ laid j y x ++ laid j y x
  unfolding frame_of
  even_halves j y x =
      let g : 2 * y / 2 ≡ y = omega arith in
      let h : 2 * x / 2 ≡ x = omega arith in
      rw (even_favours (2 * y) (2 * x) (omega arith) (omega arith), g, h, add-zero y, add-zero x)

  -- ---- the cells of the flow
  abbrev pub cells_of : List ℕ → ℕ
  cells_of entries = cells second 2 (listed D C) entries

  -- no more cells than slots fit
  pub row_fits : (n d c : ℕ) → d + c ≤ n → Fits 2 n port (row d c)
  unfolding load_in sum_to port_of
  row_fits n d c h zero l = (omega arith, omega arith)
  row_fits n d c h (suc zero) l = (omega arith, omega arith)
  row_fits n d c h (suc (suc x)) l = absurd (omega arith)

  -- nor are there more for a link
  row_link : (n d c : ℕ) → d + c ≤ n → (x : ℕ) → load_in (link x) port (row d c) ≤ n
  unfolding load_in sum_to
  row_link n d c h x =
      let has : ℕ → ℕ → ℕ = λ f m. if (is_of (link x) port f) m 0 in
      let most : (f m : ℕ) → has f m ≤ m = λ f m. by_bool (is_of (link x) port f) (λ e. rw e (omega arith)) (λ e. rw e (omega arith)) in
      omega (arith, most 0 d, most 1 c)

  pub row_placed : AtInputs 2 port 2
  unfolding port_of
  row_placed zero h = omega arith
  row_placed (suc zero) h = omega arith
  row_placed (suc (suc f)) h = absurd (omega arith)

  -- the whole frame has the flow's count
  pub row_whole : (j d c : ℕ) → d + c ≤ 2 ^ j → cells_of (laid j d c) ≡ c
  row_whole j d c h =
      let fits = row_fits (2 ^ j) d c h in
      (rules_sound 2 j (listed D C) (row d c) (laid j d c) refl row_placed (frame_is 2 port j (row d c) row_placed fits)).0.exact 1 (omega arith)

  -- and so have all its slots
  pub row_cells : (j d c : ℕ) → d + c ≤ 2 ^ j → cells_of (run_of 2 0 (2 ^ j) (laid j d c)) ≡ c
  row_cells j d c h = ap cells_of (run_all 2 (2 ^ j) (laid j d c) (laid_length j d c)) ∙ row_whole j d c h

  -- those before one and those from it on, together, too
  pub row_parts : (j d c s t : ℕ) → d + c ≤ 2 ^ j → s + t ≡ 2 ^ j → cells_of (run_of 2 0 s (laid j d c)) + cells_of (run_of 2 s t (laid j d c)) ≡ c
  row_parts j d c s t h e =
      let f = laid j d c in
      let sum : cells_of (run_of 2 0 (s + t) f) ≡ cells_of (run_of 2 0 s f) + cells_of (run_of 2 s t f) = rw zero-add at (cells_run input 2 (listed D C) second 0 s t f (omega (arith, laid_length j d c))) in
      omega (arith, ap (λ z. cells_of (run_of 2 0 z f)) e, row_cells j d c h)

  -- a run over the seam of v, of n slots, and w
  pub seam_cells : (n s t r : ℕ) (v w : List ℕ) → length v ≡ n * 2 → s + t ≡ n
      → cells_of (run_of 2 s (t + r) (v ++ w)) ≡ cells_of (run_of 2 s t v) + cells_of (run_of 2 0 r w)
  seam_cells n s t r v w e h =
      let z : s + t ≡ n + 0 = omega arith in
      cells_run input 2 (listed D C) second s t r (v ++ w) (omega (arith, length-append v w))
      ∙ ap₂ ◌+◌
      (ap cells_of (run_first 2 n s t v w e (omega arith)))
      (ap (λ y. cells_of (run_of 2 y r (v ++ w))) z ∙ ap cells_of (run_second 2 n 0 r v w e))

-- ---- Build
-- a call of two ports and 2 ^ k slots, carried once
abbrev pub once : ℕ → List ℕ → Call
once k list = record { ports = 2; slots = 2 ^ k; list = list; limits = slots_each (2 ^ k); times = 1 }

-- what it puts on the wire
abbrev pub framed : ℕ → ℕ → ℕ → Carried
framed k d c = record { call = once k (listed d c); entries = laid d c k d c }

-- Build accepts no more cells than slots
pub row_accepted : (k d c : ℕ) (buffer : List ℕ) → k ≤ 10 → d + c ≤ 2 ^ k → length buffer ≡ 2 ^ k * 2
    → build_accepts 2 (2 ^ k) (listed d c) (slots_each (2 ^ k)) buffer ≡ true
row_accepted k d c buffer h l e =
    accepts_yes 2 (2 ^ k) (listed d c) (slots_each (2 ^ k)) buffer
    (record {
      well = record {
        rack = (omega arith, omega arith);
        power = record { k = k; most = h; is = refl };
        whole = refl;
        few = omega arith;
        ported = ported;
        linked = linked;
      };
      size = e;
      fits = rw (listed_counts d c) (row_fits d c (2 ^ k) d c l);
      allowed = each_allows 2 (2 ^ k) (listed d c) (omega arith) (λ x _. rw (listed_counts d c) (row_link d c (2 ^ k) d c l x));
    })
  where
    ported : Ported 2 (listed d c)
    ported inputs zero h = (omega arith, omega arith)
    ported inputs (suc zero) h = (omega arith, omega arith)
    ported inputs (suc (suc f)) h = absurd (omega arith)
    ported links zero h = (omega arith, omega arith)
    ported links (suc zero) h = (omega arith, omega arith)
    ported links (suc (suc f)) h = absurd (omega arith)

    linked : Linked (listed d c)
    linked zero h = (omega arith, omega arith)
    linked (suc zero) h = (omega arith, omega arith)
    linked (suc (suc f)) h = absurd (omega arith)

-- so two such calls put their two frames on the wire
pub rows_framed : (k d c d' c' : ℕ) (buffer : List ℕ) → k ≤ 10 → d + c ≤ 2 ^ k → d' + c' ≤ 2 ^ k → length buffer ≡ 2 ^ k * 2
    → chain none buffer (once k (listed d c) ∷ once k (listed d' c') ∷ []) ≡ framed k d c ∷ framed k d' c' ∷ []
unfolding chain
rows_framed k d c d' c' buffer h l l' e =
    rw (row_accepted k d c buffer h l e, levels_of k h, listed_counts d c, row_accepted k d' c' (laid d c k d c) h l' (laid_length d c k d c), listed_counts d' c')
