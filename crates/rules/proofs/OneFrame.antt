-- One frame: for a load that fits, the rules' frame exists, is the only one, is legal and is balanced.
use Prim.Native.Nat.{ℕ, suc, zero, ◌+◌, ◌-◌, ◌*◌, ◌%◌, ◌^◌, ◌≤◌, ◌<◌}
use mathlib.Core.Path.{◌≡◌, refl, sym, ap, ap₂, ◌∙◌}
use mathlib.Core.Logic.{◌⊎◌, inl, inr}
use mathlib.Core.List.{List, ◌++◌}
use mathlib.Core.Bool.{true}
use native.Mathlib.Omega.{arith}
use native.Mathlib.Nat.{mul-add-mod_self_right}
use lib.ListN.{length, get_or, length-append, get_or-append}
use lib.Seq.{get_or-append-add}
use Rattle.rules.specs.Words.{Near}
use Rattle.rules.specs.Flows.{flows, End, port_of, counts_of, Class, flow, port_on, output, OnSwitch, Fits, input}
use Rattle.rules.specs.Frames.{right, cells, run_of, Legal, Block, Balanced}
use Rattle.rules.specs.Rules.{Partnered, Split, Slot, Scheduled}
use Rattle.rules.specs.Schedule.{half_of, frame_of}
use Rattle.rules.specs.OneFrame.{OneFrame}
use Rattle.rules.proofs.Cases.{by_lt}
use Rattle.rules.proofs.Cells.{cells_append, run_all, run_first, run_second}
use Rattle.rules.proofs.Splits.{split_is, only_split}
use Rattle.rules.proofs.Halves.{load_flow, halves_near, halves_fit}
use Rattle.rules.proofs.Flows.{counts_length, exact_all}
use Rattle.rules.proofs.Slots.{AtInputs, slot_length, slot_is, only_slot, slot_right, slot_flow, slot_exact}
use Rattle.rules.proofs.Blocks.{block_fits, block_one, block_part}
use Rattle.rules.proofs.Levels.{double}

-- ---- it exists
pub frame_is : (ports : ℕ) (port : End → ℕ → ℕ) (k : ℕ) (m : List ℕ) → AtInputs ports port (length m) → Fits ports (2 ^ k) port m
    → Scheduled ports port k m (frame_of ports port k m)
unfolding Scheduled frame_of
frame_is ports port zero m placed fits = slot_is ports port m placed fits
frame_is ports port (suc k) m placed fits =
    let sp = split_is port m in
    let half = halves_fit port m (half_of port 1 m) (half_of port 2 m) sp ports (2 ^ k) (rw (double k) at fits) in
    record {
      first = half_of port 1 m;
      second = half_of port 2 m;
      front = frame_of ports port k (half_of port 1 m);
      back = frame_of ports port k (half_of port 2 m);
      split = sp;
      first_half = frame_is ports port k (half_of port 1 m) (rw sp.first_size placed) half.0;
      second_half = frame_is ports port k (half_of port 2 m) (rw sp.second_size placed) half.1;
      joined = refl;
    }

-- ---- it is the only one
pub only_frame : (ports : ℕ) (port : End → ℕ → ℕ) (k : ℕ) (m entries : List ℕ) → Scheduled ports port k m entries → entries ≡ frame_of ports port k m
unfolding Scheduled frame_of
only_frame ports port zero m entries s = only_slot ports port m entries s
only_frame ports port (suc k) m entries s =
    let o = only_split port m s.first s.second s.split in
    s.joined
    ∙ ap₂ ◌++◌
    (only_frame ports port k s.first s.front s.first_half ∙ ap (frame_of ports port k) o.0)
    (only_frame ports port k s.second s.back s.second_half ∙ ap (frame_of ports port k) o.1)

pub frame_length : (ports : ℕ) (port : End → ℕ → ℕ) (k : ℕ) (m : List ℕ) → length (frame_of ports port k m) ≡ 2 ^ k * ports
unfolding frame_of
frame_length ports port zero m = slot_length ports port m ∙ omega arith
frame_length ports port (suc k) m =
    length-append (frame_of ports port k (half_of port 1 m)) (frame_of ports port k (half_of port 2 m))
    ∙ omega (arith, frame_length ports port k (half_of port 1 m), frame_length ports port k (half_of port 2 m), ap (λ z. z * ports) (double k))

-- ---- it is legal and balanced
-- the entries of a block are right, its cells are its counts m, and its slots use no output twice
pub record Laid (ports slots : ℕ) (list m entries : List ℕ) : Type 0 where
  pub size : length entries ≡ slots * ports
  pub each_right : (q : ℕ) → q < length entries → right list (q % ports) (get_or entries q 0) ≡ true
  pub exact : (f : ℕ) → f < flows list → cells (flow f) ports list entries ≡ get_or m f 0
  pub once : (s o : ℕ) → s < slots → o < ports → cells (port_on output o) ports list (run_of ports s 1 entries) ≤ 1

pub legal_laid : {ports slots : ℕ} {list entries : List ℕ} → Laid ports slots list (counts_of list) entries → Legal ports slots list entries
legal_laid {ports} {slots} {list} {entries} l =
    record {
      size = l.size;
      each_right = l.each_right;
      exact = λ f h. l.exact f h ∙ sym (load_flow f (port_of list) (counts_of list));
      once = l.once;
    }

abbrev pub LaidEvenly : ℕ → ℕ → List ℕ → List ℕ → List ℕ → Type 0
LaidEvenly ports slots list m entries = Laid ports slots list m entries × Balanced ports slots list entries

slot_sound : (ports : ℕ) (list m entries : List ℕ) → length m ≡ flows list → AtInputs ports (port_of list) (flows list)
    → Slot ports (port_of list) m entries → LaidEvenly ports 1 list m entries
slot_sound ports list m entries size placed s = (
  record {
    size = s.size ∙ omega arith;
    each_right = slot_right ports list m entries size placed s;
    exact = slot_flow ports list m entries size placed s;
    once = λ t o ht ho.
        let z : t ≡ 0 = omega arith in
        let e = slot_exact ports list m entries size placed s (port_on output o) in
        rw (z, run_all ports 1 entries (s.size ∙ omega arith)) (omega (arith, (s.few o ho).1));
  },
  λ c of start half b. let e = block_one start (2 * half) b in absurd (omega arith),
)

module _ (ports n : ℕ) (list m a b f g : List ℕ) (size : length m ≡ flows list) (sp : Split (Partnered (port_of list) m) m a b) (sf : LaidEvenly ports n list a f) (sg : LaidEvenly ports n list b g) where
  lf : length f ≡ n * ports
  lf = sf.0.size

  each_right : (q : ℕ) → q < length (f ++ g) → right list (q % ports) (get_or (f ++ g) q 0) ≡ true
  each_right q h =
      by_lt q (length f)
      (λ l. rw (get_or-append f g 0 q l) (sf.0.each_right q l))
      (λ l.
      let r = q - length f in
      let e : q ≡ length f + r = omega arith in
      let at : (length f + r) % ports ≡ r % ports = ap (λ z. (z + r) % ports) lf ∙ mul-add-mod_self_right n ports r in
      let k : r < length g = omega (arith, length-append f g) in
      rw (e, get_or-append-add f g r 0, at) (sg.0.each_right r k))

  slot_once : (t o : ℕ) → t < 2 * n → o < ports → cells (port_on output o) ports list (run_of ports t 1 (f ++ g)) ≤ 1
  slot_once t o h ho =
      by_lt t n
      (λ l. rw (run_first ports n t 1 f g lf (omega arith)) (sf.0.once t o l ho))
      (λ l.
      let r = t - n in
      let e : t ≡ n + r = omega arith in
      rw (e, run_second ports n r 1 f g lf) (sg.0.once r o (omega arith) ho))

  whole_near : (c : Class) → (start half : ℕ) → start ≡ 0 → half ≡ n
      → Near 1 (cells c ports list (run_of ports start half (f ++ g))) (cells c ports list (run_of ports (start + half) half (f ++ g)))
  whole_near c start half e d =
      let z : 0 + n ≡ n + 0 = omega arith in
      let front = exact_all input ports list f sf.0.each_right a (sp.first_size ∙ size) sf.0.exact c in
      let back = exact_all input ports list g sg.0.each_right b (sp.second_size ∙ size) sg.0.exact c in
      rw (e, d, z, run_first ports n 0 n f g lf (omega arith), run_all ports n f lf, run_second ports n 0 n f g lf, run_all ports n g sg.0.size, front, back)
      (halves_near (port_of list) m a b sp c)

  halves_balanced : (c : Class) → OnSwitch ports c → (start half : ℕ) → ((start ≡ 0) × (2 * half ≡ 2 * n)) ⊎ (Block n start (2 * half) ⊎ ((t : ℕ) × (start ≡ n + t) × Block n t (2 * half)))
      → Near 1 (cells c ports list (run_of ports start half (f ++ g))) (cells c ports list (run_of ports (start + half) half (f ++ g)))
  halves_balanced c of start half (inl (e, d)) = whole_near c start half e (omega arith)
  halves_balanced c of start half (inr (inl b)) =
      let l = block_fits n start (2 * half) b in
      rw (run_first ports n start half f g lf (omega arith), run_first ports n (start + half) half f g lf (omega arith)) (sf.1 c of start half b)
  halves_balanced c of start half (inr (inr (t, e, b))) =
      let d : n + t + half ≡ n + (t + half) = omega arith in
      rw (e, d, run_second ports n t half f g lf, run_second ports n (t + half) half f g lf) (sg.1 c of t half b)

  pub halves_sound : LaidEvenly ports (2 * n) list m (f ++ g)
  halves_sound = (
    record {
      size = length-append f g ∙ omega (arith, lf, sg.0.size);
      each_right = each_right;
      exact = λ x h. cells_append input ports list (flow x) n f g lf ∙ ap₂ ◌+◌ (sf.0.exact x h) (sg.0.exact x h) ∙ sp.shared x;
      once = slot_once;
    },
    λ c of start half b. halves_balanced c of start half (block_part (2 * n) n start (2 * half) refl b),
  )

pub rules_sound : (ports k : ℕ) (list m entries : List ℕ) → length m ≡ flows list → AtInputs ports (port_of list) (flows list)
    → Scheduled ports (port_of list) k m entries → LaidEvenly ports (2 ^ k) list m entries
unfolding Scheduled
rules_sound ports zero list m entries size placed s = slot_sound ports list m entries size placed s
rules_sound ports (suc k) list m entries size placed s =
    let sp = s.split in
    rw (s.joined, double k)
    (halves_sound ports (2 ^ k) list m s.first s.second s.front s.back size sp
    (rules_sound ports k list s.first s.front (sp.first_size ∙ size) placed s.first_half)
    (rules_sound ports k list s.second s.back (sp.second_size ∙ size) placed s.second_half))

-- Demand 2, for a list whose load fits: the entries meet the rules, nothing else does, and they are legal and balanced.
pub one_frame : (ports k : ℕ) (list : List ℕ) → AtInputs ports (port_of list) (flows list) → Fits ports (2 ^ k) (port_of list) (counts_of list)
    → OneFrame ports k list (frame_of ports (port_of list) k (counts_of list))
one_frame ports k list placed fits =
    let m = counts_of list in
    let port = port_of list in
    let s = frame_is ports port k m (rw (counts_length list) placed) fits in
    let v = rules_sound ports k list m (frame_of ports port k m) (counts_length list) placed s in
    record { meets = s; only = only_frame ports port k m; legal = legal_laid v.0; balanced = v.1 }
