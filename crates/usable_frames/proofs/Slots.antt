-- The slots of a frame, and those of one in which no entry is wrong and no port is used twice.
use Prim.Native.Nat.{ℕ, suc, ◌+◌, ◌*◌, ◌/◌, ◌%◌, ◌<◌}
use mathlib.Core.Path.{◌≡◌, sym, ◌∙◌, subst}
use mathlib.Core.List.{List}
use mathlib.Core.Bool.{true, false}
use native.Mathlib.Omega.{arith}
use native.Mathlib.Nat.{mul-le-mul_right}
use lib.ListN.{length, get_or, drop}
use lib.Seq.{get_or-take, get_or-drop, ext_get_or}
use Rattle.rules.specs.Words.{bit, sum_to}
use Rattle.rules.specs.Flows.{Side, other, same, port_on}
use Rattle.rules.specs.Frames.{is_flow_of, cells_on, run_of, LegalOn}
use Rattle.rules.proofs.Sums.{sum_ext}
use Rattle.rules.proofs.Cells.{cells_slot, run_length}
use Rattle.rules.proofs.Flows.{other_side}
use Rattle.calls.specs.Refusals.{none_holds}
use Rattle.calls.specs.Inspect.{bad_entries}
use Rattle.calls.specs.Demand2.{WellFormed}
use Rattle.calls.proofs.Reports.{passes_clear, clear_passes}
use Rattle.calls.proofs.Demand2.{ported_on}
use Rattle.calls.proofs.Faults.{place_of, entries_search, twice_search}
use Rattle.calls.proofs.Clean.{legal_entries}
use Rattle.usable_frames.specs.Usable.{Usable}
use Rattle.usable_frames.proofs.Sound.{Sound}

-- ---- entries of a slot
module _ (ports slots : ℕ) (entries : List ℕ) (size : length entries ≡ slots * ports) (s : ℕ) (h : s < slots) where
  pub slot_size : length (run_of ports s 1 entries) ≡ ports
  slot_size = run_length ports s 1 entries (let m = mul-le-mul_right {m = suc s} {n = slots} ports h in omega arith) ∙ omega arith

  pub slot_at : (i : ℕ) → i < ports → get_or (run_of ports s 1 entries) i 0 ≡ get_or entries (s * ports + i) 0
  unfolding run_of
  slot_at i l = get_or-take (1 * ports) (drop (s * ports) entries) i 0 (omega arith) ∙ get_or-drop (s * ports) entries i 0

-- entries that agree place by place
pub places_same : (ports slots : ℕ) (v w : List ℕ) → length v ≡ slots * ports → length w ≡ slots * ports
    → ((s x : ℕ) → s < slots → x < ports → get_or v (s * ports + x) 0 ≡ get_or w (s * ports + x) 0) → v ≡ w
places_same ports slots v w a b h =
    ext_get_or 0 v w (a ∙ sym b)
    (λ q l. let d = place_of slots ports q (omega arith) in subst (λ (z : ℕ). get_or v z 0 ≡ get_or w z 0) (sym d.2) (h (q / ports) (q % ports) d.0 d.1))

-- the cells of a port of the other side in a slot are the flows of it
pub other_cells : (side to : Side) (ports : ℕ) (list slot : List ℕ) → same side to ≡ false → length slot ≡ ports → (x : ℕ)
    → cells_on side ports list (port_on to x) slot ≡ sum_to ports (λ i. bit (is_flow_of (port_on to x) list (get_or slot i 0)))
other_cells side to ports list slot apart size x = cells_slot side ports list (port_on to x) slot size ∙ sum_ext ports _ _ (λ i _. rw apart)

-- ---- frames that neither 14 nor 16 turns away
module _ (number : ℕ) (side : Side) (ports slots : ℕ) (list entries : List ℕ) where
  pub usable : WellFormed ports slots list → length entries ≡ slots * ports → none_holds (bad_entries number side ports slots list entries) ≡ true
      → Usable side ports slots list entries
  usable well size clear =
      let p = clear_passes (bad_entries number side ports slots list entries) clear in
      record {
        well = well;
        size = size;
        each_right = (entries_search side ports slots list entries).tells.known p.0;
        each_once = (twice_search side ports slots list entries).tells.known p.1.0;
      }

  pub usable_clear : Usable side ports slots list entries → none_holds (bad_entries number side ports slots list entries) ≡ true
  usable_clear u =
      passes_clear (bad_entries number side ports slots list entries)
      ((entries_search side ports slots list entries).tells.met u.each_right, ((twice_search side ports slots list entries).tells.met u.each_once, tt))

-- a legal frame is one
pub legal_usable : {side : Side} {ports slots : ℕ} {list entries : List ℕ} → WellFormed ports slots list → LegalOn side ports slots list entries
    → Usable side ports slots list entries
legal_usable {side} {ports} {slots} {list} {entries} w l =
    record { well = w; size = l.size; each_right = legal_entries side ports slots list entries w l.size l; each_once = l.once }

module _ {side : Side} {ports slots : ℕ} {list entries : List ℕ} (t : Usable side ports slots list entries) where
  pub slot_sound : (s : ℕ) → s < slots → Sound side (other side) ports list (run_of ports s 1 entries)
  slot_sound s h =
      let size = slot_size ports slots entries t.size s h in
      record {
        size = size;
        ported = λ d f l. ported_on list t.well.ported t.well.linked d f l;
        each = λ i l. rw (slot_at ports slots entries t.size s h i l) (t.each_right s i h l);
        once = λ x l. omega (arith, t.each_once s x h l, other_cells side (other side) ports list (run_of ports s 1 entries) (other_side side) size x);
      }
