-- Writing a frame slot by slot.
use Prim.Native.Nat.{ℕ, suc, ◌+◌, ◌-◌, ◌*◌, ◌≤◌, ◌<◌}
use mathlib.Core.Path.{◌≡◌, sym, ap, subst, ◌∙◌}
use mathlib.Core.List.{List, [], ◌++◌, append_assoc, append-nil}
use mathlib.Core.Bool.{true}
use native.Mathlib.Omega.{arith}
use native.Mathlib.Numerals.{add-one}
use lib.ListN.{length, get_or, take, drop, drop_of_length-le}
use lib.Seq.{drop-cons, drop-drop}
use borrow.Author.Tests.{eq-eqb, le-leb}
use Rattle.rules.specs.Words.{if}
use Rattle.sheets.specs.Text.{text, decimal}
use Rattle.sheets.specs.Sheet.{print_cells, print_slots, print_frame}
use Rattle.lines.specs.Lines.{Printed, PrintedIn, Prints, word_then}
use Rattle.lines.proofs.Pieces.{prints_on, prints_all, prints_end, prints_as, piece}
use Rattle.printing.specs.Printing.{Sized, of_size, frame_bytes, cell_of, slot_line}

-- ---- a slot
pub record Celled (out : List ℕ) (at : ℕ) (slot new : List ℕ) (next i : ℕ) : Type 0 where
  pub passed : i ≤ length slot
  pub most_bytes : next ≤ at + 21 * i
  pub prints : Prints out at (print_cells slot) new next (print_cells (drop i slot))

pub cells_next : (out : List ℕ) (at : ℕ) (slot mid : List ℕ) (at' i e : ℕ) (new : List ℕ) (next : ℕ) → Celled out at slot mid at' i → i < length slot
    → e ≡ get_or slot i 0 → PrintedIn 21 mid at' (cell_of e) new next → Celled out at slot new next (i + 1)
cells_next out at slot mid at' i e new next x h f y =
    let p = x.most_bytes in
    let q = y.most_bytes in
    record {
      passed = omega arith;
      most_bytes = omega arith;
      prints = prints_on out at (print_cells slot) mid at' (cell_of e) (print_cells (drop (i + 1) slot)) new next
          (prints_as out at (print_cells slot) mid at' (print_cells (drop i slot)) (cell_of e ++ print_cells (drop (i + 1) slot))
          (ap print_cells (drop-cons slot i 0 h)
          ∙ (ap (λ z. cell_of z ++ print_cells (drop (suc i) slot)) (sym f) ∙ ap (λ z. cell_of e ++ print_cells (drop z slot)) (sym (add-one i))))
          x.prints) y.printed;
    }

pub cells_done : (out : List ℕ) (at : ℕ) (slot new : List ℕ) (next i : ℕ) → Celled out at slot new next i → length slot ≤ i → length slot ≤ 16
    → PrintedIn 336 out at (print_cells slot) new next
cells_done out at slot new next i x h l =
    let p = x.most_bytes in
    let q = x.passed in
    record {
      printed = prints_end out at (print_cells slot) new next
          (prints_as out at (print_cells slot) new next (print_cells (drop i slot)) [] (ap print_cells (drop_of_length-le slot h)) x.prints);
      most_bytes = omega arith;
    }

pub slot_printed : (out : List ℕ) (at number : ℕ) (slot mid : List ℕ) (at' : ℕ) (mid2 : List ℕ) (at2 : ℕ) (new : List ℕ) (next : ℕ)
    → PrintedIn 26 out at (word_then (text "(slot ") number) mid at' → PrintedIn 336 mid at' (print_cells slot) mid2 at2 → Printed mid2 at2 (text ")\n") new next
    → PrintedIn 400 out at (slot_line number slot) new next
slot_printed out at number slot mid at' mid2 at2 new next x y z =
    let b = slot_line number slot in
    let p = x.most_bytes in
    let q = y.most_bytes in
    let r = z.place in
    record {
      printed = prints_end out at b new next
          (prints_on out at b mid2 at2 (text ")\n") [] new next
          (prints_on out at b mid at' (print_cells slot) (text ")\n") mid2 at2 (piece (text "(slot ") number (print_cells slot ++ text ")\n") (prints_all out at b) x) y.printed) z);
      most_bytes = omega arith;
    }

-- ---- the slots of a frame
pub record Slotted (out : List ℕ) (at ports slots : ℕ) (frame new : List ℕ) (next s : ℕ) : Type 0 where
  pub passed : s ≤ slots
  pub most_bytes : next ≤ at + 400 * s
  pub prints : Prints out at (print_slots ports 1 slots frame) new next (print_slots ports (suc s) (slots - s) (drop (s * ports) frame))

slots_step : (ports s k : ℕ) (l : List ℕ) → print_slots ports s (suc k) l ≡ slot_line s (take ports l) ++ print_slots ports (suc s) k (drop ports l)
unfolding print_slots
slots_step ports s k l = simp append_assoc

slots_at : (ports slots s : ℕ) (frame : List ℕ) → s < slots
    → print_slots ports (suc s) (slots - s) (drop (s * ports) frame)
    ≡ slot_line (s + 1) (take ports (drop (s * ports) frame)) ++ print_slots ports (suc (s + 1)) (slots - (s + 1)) (drop ((s + 1) * ports) frame)
slots_at ports slots s frame h =
    let a : slots - s ≡ suc (slots - (s + 1)) = omega arith in
    let b : s * ports + ports ≡ (s + 1) * ports = omega arith in
    ap (λ z. print_slots ports (suc s) z (drop (s * ports) frame)) a
    ∙ (slots_step ports (suc s) (slots - (s + 1)) (drop (s * ports) frame)
    ∙ (ap (λ z. slot_line z (take ports (drop (s * ports) frame)) ++ print_slots ports (suc z) (slots - (s + 1)) (drop ports (drop (s * ports) frame))) (sym (add-one s))
    ∙ ap (λ z. slot_line (s + 1) (take ports (drop (s * ports) frame)) ++ print_slots ports (suc (s + 1)) (slots - (s + 1)) z)
    (drop-drop ports (s * ports) frame ∙ ap (λ z. drop z frame) b)))

pub slots_next : (out : List ℕ) (at ports slots : ℕ) (frame mid : List ℕ) (at' s : ℕ) (slot new : List ℕ) (next : ℕ) → Slotted out at ports slots frame mid at' s → s < slots
    → slot ≡ take ports (drop (s * ports) frame) → PrintedIn 400 mid at' (slot_line (s + 1) slot) new next → Slotted out at ports slots frame new next (s + 1)
slots_next out at ports slots frame mid at' s slot new next x h e y =
    let p = x.most_bytes in
    let q = y.most_bytes in
    let rest = print_slots ports (suc (s + 1)) (slots - (s + 1)) (drop ((s + 1) * ports) frame) in
    record {
      passed = omega arith;
      most_bytes = omega arith;
      prints = prints_on out at (print_slots ports 1 slots frame) mid at' (slot_line (s + 1) slot) rest new next
          (prints_as out at (print_slots ports 1 slots frame) mid at' (print_slots ports (suc s) (slots - s) (drop (s * ports) frame)) (slot_line (s + 1) slot ++ rest)
          (slots_at ports slots s frame h ∙ ap (λ z. slot_line (s + 1) z ++ rest) (sym e)) x.prints) y.printed;
    }

pub slots_done : (out : List ℕ) (at ports slots : ℕ) (frame new : List ℕ) (next s : ℕ) → Slotted out at ports slots frame new next s → slots ≤ s
    → Printed out at (print_slots ports 1 slots frame) new next
unfolding print_slots
slots_done out at ports slots frame new next s x h =
    let e : slots - s ≡ 0 = omega arith in
    prints_end out at (print_slots ports 1 slots frame) new next
    (prints_as out at (print_slots ports 1 slots frame) new next (print_slots ports (suc s) (slots - s) (drop (s * ports) frame)) []
    (ap (λ z. print_slots ports (suc s) z (drop (s * ports) frame)) e) x.prints)

sized_printed : (out : List ℕ) (ports slots : ℕ) (frame mid : List ℕ) (at' : ℕ) (mid2 : List ℕ) (at2 : ℕ) (mid3 : List ℕ) (at3 : ℕ) (new : List ℕ) (next : ℕ)
    → PrintedIn 34 out 0 (word_then (text "(frame (ports ") ports) mid at' → PrintedIn 29 mid at' (word_then (text ") (slots ") slots) mid2 at2
    → Printed mid2 at2 (text "))\n") mid3 at3 → Printed mid3 at3 (print_slots ports 1 slots frame) new next → Printed out 0 (print_frame ports slots frame) new next
sized_printed out ports slots frame mid at' mid2 at2 mid3 at3 new next x y z u =
    let b = print_frame ports slots frame in
    let last = print_slots ports 1 slots frame in
    prints_end out 0 b new next
    (prints_on out 0 b mid3 at3 last [] new next
    (prints_as out 0 b mid3 at3 last (last ++ []) (sym (append-nil last))
    (prints_on out 0 b mid2 at2 (text "))\n") last mid3 at3
    (piece (text ") (slots ") slots (text "))\n" ++ last)
    (piece (text "(frame (ports ") ports (text ") (slots " ++ (decimal slots ++ (text "))\n" ++ last))) (prints_all out 0 b) x) y) z)) u)

-- ---- a frame of any size
size_is : (ports slots : ℕ) (frame : List ℕ) → Sized ports slots frame → of_size ports slots (length frame) ≡ true
size_is ports slots frame x =
    rw (le-leb ports 16 x.most_ports, le-leb slots 1024 x.most_slots, eq-eqb (length frame) (slots * ports) x.size)

pub frame_bytes_are : (ports slots : ℕ) (frame : List ℕ) → Sized ports slots frame → frame_bytes ports slots frame ≡ print_frame ports slots frame
frame_bytes_are ports slots frame x = ap (λ b. if b (print_frame ports slots frame) []) (size_is ports slots frame x)

pub frame_printed : (out : List ℕ) (ports slots : ℕ) (frame : List ℕ) (p k : ℕ) (entries mid : List ℕ) (at' : ℕ) (mid2 : List ℕ) (at2 : ℕ) (mid3 : List ℕ) (at3 : ℕ) (new : List ℕ) (next : ℕ)
    → (p ≡ ports) × (k ≡ slots) × (entries ≡ frame) → Sized p k entries
    → PrintedIn 34 out 0 (word_then (text "(frame (ports ") ports) mid at' → PrintedIn 29 mid at' (word_then (text ") (slots ") slots) mid2 at2
    → Printed mid2 at2 (text "))\n") mid3 at3 → Printed mid3 at3 (print_slots p 1 k entries) new next → Printed out 0 (frame_bytes ports slots frame) new next
frame_printed out ports slots frame p k entries mid at' mid2 at2 mid3 at3 new next e f x y z u =
    let g : Sized ports slots frame = rw (sym e.0, sym e.1, sym e.2) f in
    let v : Printed mid3 at3 (print_slots ports 1 slots frame) new next = rw (sym e.0, sym e.1, sym e.2) u in
    subst (λ b. Printed out 0 b new next) (sym (frame_bytes_are ports slots frame g)) (sized_printed out ports slots frame mid at' mid2 at2 mid3 at3 new next x y z v)
