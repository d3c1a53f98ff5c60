-- Lengths: no response is longer than that to 16 ports and 1,024 slots, each input in each slot with a flow of three digits.
use Prim.Native.Nat.{ℕ, suc, zero, ◌+◌, ◌-◌, ◌*◌, ◌^◌, ◌≤◌, ◌<◌}
use mathlib.Core.Path.{◌≡◌, refl, ap}
use mathlib.Core.List.{List, [], ◌∷◌, ◌++◌}
use mathlib.Core.Bool.{true, false, not}
use native.Mathlib.Omega.{arith}
use lib.Dec.{eqb, ltb, leb}
use lib.ListN.{length, get_or, set, take, drop, replicate, length-append, length-take}
use lib.Seq.{get_or-drop, set_out, get_or-set_same, get_or-set_other}
use borrow.Author.Tests.{eq-eqb, ne_eqb, eqb-false, leb-true, leb-false, ltb-false, not-true, not-false}
use Rattle.rules.specs.Words.{if, both, within, up_from, keep, Every}
use Rattle.rules.specs.Flows.{flows, End, inputs, port_of, counts_of, Class, port_on, input, output, is_of, load_in, load}
use Rattle.calls.specs.Refusals.{Check, report, none_holds, bad_ports, bad_slots, lowest_above, overload, port_overloads}
use Rattle.rules.specs.Frames.{levels}
use Rattle.rules.specs.Rules.{odd}
use Rattle.rules.specs.Schedule.{favours, half_by, put, slot_of, frame_of}
use Rattle.sheets.specs.Text.{text, decimal, lines, number_in, same}
use Rattle.sheets.specs.Sheet.{ports_line, slots_line, pair_line, bad_line, line_past_512, bad_port, Asked, loads, refused, unless, most, read_pairs, read_slots, read_ports, bad_sheet, overloaded, read_sheet, print_cells, print_slots, print_frame, print_refusal, printed, response}
use Rattle.rules.proofs.Cases.{by_bool, by_eq, by_lt, both_true, within_true}
use Rattle.rules.proofs.Sums.{sum_most}
use Rattle.rules.proofs.Searches.{first_high}
use Rattle.rules.proofs.Levels.{known_power, power_most}
use Rattle.rules.proofs.Kept.{keep_every}
use Rattle.rules.proofs.Lists.{zero_at}
use Rattle.rules.proofs.Flows.{counts_length, counts_at}
use Rattle.sheets.proofs.Text.{decimal_short, lines_most}
use Rattle.sheets.proofs.Sheets.{most_low}

-- ---- numbers
-- how many digits the numbers 1 to n have together, n at most 9,999
digits_to : ℕ → ℕ
digits_to n = n + (n - 9) + (n - 99) + (n - 999)

-- the digits of the next number are among them
digits_next : (n : ℕ) → n < 9999 → digits_to n + length (decimal (suc n)) ≤ digits_to (suc n)
unfolding digits_to
digits_next n h =
    by_lt n 9 (λ a. omega (arith, decimal_short 0 (suc n) (omega arith)))
    (λ a. by_lt n 99 (λ b. omega (arith, decimal_short 1 (suc n) (omega arith)))
    (λ b. by_lt n 999 (λ c. omega (arith, decimal_short 2 (suc n) (omega arith))) (λ c. omega (arith, decimal_short 3 (suc n) (omega arith)))))

-- no number has no digit
digits_none : digits_to 0 ≡ 0
unfolding digits_to
digits_none = refl

-- the slots of a frame have no more than 2,989 digits together
digits_slots : (n : ℕ) → n ≤ 1024 → digits_to n ≤ 2989
unfolding digits_to
digits_slots n h = omega arith

-- ---- lists of low numbers
-- no number of a list is above n
abbrev Low : ℕ → List ℕ → Type 0
Low n l = (q : ℕ) → get_or l q 0 ≤ n

append_low : (n : ℕ) (a b : List ℕ) → Low n a → Low n b → Low n (a ++ b)
append_low n [] b x y q = y q
append_low n (e ∷ a) b x y zero = x 0
append_low n (e ∷ a) b x y (suc q) = append_low n a b (λ p. x (suc p)) y q

take_low : (n k : ℕ) (l : List ℕ) → Low n l → Low n (take k l)
take_low n zero l x q = omega arith
take_low n (suc k) [] x q = omega arith
take_low n (suc k) (e ∷ l) x zero = x 0
take_low n (suc k) (e ∷ l) x (suc q) = take_low n k l (λ p. x (suc p)) q

drop_low : (n k : ℕ) (l : List ℕ) → Low n l → Low n (drop k l)
drop_low n k l x q = rw (get_or-drop k l q 0) (x (k + q))

set_low : (n : ℕ) (l : List ℕ) (p v : ℕ) → v ≤ n → Low n l → Low n (set l p v)
set_low n l p v h low q =
    by_eq q p
    (λ e. rw e (by_lt p (length l) (λ k. rw (get_or-set_same l p v 0 k) h) (λ k. rw (set_out l p v k) (low p))))
    (λ e. rw (get_or-set_other l p q v 0 e) (low q))

-- ---- the entries of a frame
-- those that are written into a slot are numbers of flows
put_low : (n : ℕ) (port : End → ℕ → ℕ) (m l slot : List ℕ) → Every (λ f. (odd m f ≡ true) × (f < n)) l → Low n slot → Low n (put port l slot)
put_low n port m [] slot e x = x
put_low n port m (f ∷ l) slot e x = put_low n port m l (set slot (port inputs f) (suc f)) e.1 (set_low n slot (port inputs f) (suc f) e.0.1 x)

slot_low : (ports : ℕ) (port : End → ℕ → ℕ) (m : List ℕ) → Low (length m) (slot_of ports port m)
unfolding slot_of
slot_low ports port m =
    put_low (length m) port m (keep (odd m) (up_from 0 (length m))) (replicate ports 0)
    (keep_every (odd m) (length m) 0 (length m) (omega arith)) (λ q. omega (arith, zero_at ports q))

half_short : (h : ℕ) (m c : List ℕ) → length (half_by h m c) ≤ length m
half_short h [] c = omega arith
half_short h (x ∷ m) [] = omega arith
half_short h (x ∷ m) (y ∷ c) = omega (arith, half_short h m c)

-- no entry is above the number of flows
frame_low : (ports : ℕ) (port : End → ℕ → ℕ) (k n : ℕ) (m : List ℕ) → length m ≤ n → Low n (frame_of ports port k m)
unfolding frame_of
frame_low ports port zero n m h = λ q. omega (arith, slot_low ports port m q)
frame_low ports port (suc k) n m h =
    let c = favours port m in
    append_low n (frame_of ports port k (half_by 1 m c)) (frame_of ports port k (half_by 2 m c))
    (frame_low ports port k n (half_by 1 m c) (omega (arith, half_short 1 m c)))
    (frame_low ports port k n (half_by 2 m c) (omega (arith, half_short 2 m c)))

-- ---- a frame
-- each cell is printed as no more than 4 bytes
cells_most : (slot : List ℕ) → Low 512 slot → length (print_cells slot) ≤ 4 * length slot
cells_most [] low = omega arith
cells_most (e ∷ slot) low =
    let r = cells_most slot (λ q. low (suc q)) in
    let l = low 0 in
    by_eq e 0
    (λ z. rw (eq-eqb e 0 z) (omega arith))
    (λ z. rw (ne_eqb e 0 z) (simp length-append (omega (arith, decimal_short 2 e (omega arith)))))

-- where no slot is left nothing is printed
slots_none : (ports s : ℕ) (entries : List ℕ) → length (print_slots ports s 0 entries) ≡ 0
unfolding print_slots
slots_none ports s entries = refl

-- a slot is printed as its number, its cells and 8 bytes
line_length : (ports s n : ℕ) (entries : List ℕ)
    → length (print_slots ports s (suc n) entries) ≡ 8 + length (decimal s) + length (print_cells (take ports entries)) + length (print_slots ports (suc s) n (drop ports entries))
unfolding print_slots
line_length ports s n entries =
    let rest = print_slots ports (suc s) n (drop ports entries) in
    let cs = print_cells (take ports entries) in
    omega (arith, length-append (decimal s) (cs ++ (text ")\n" ++ rest)), length-append cs (text ")\n" ++ rest))

-- the slots from s on are printed as their digits and no more than 72 bytes each
slots_most : (ports s n : ℕ) (entries : List ℕ) → ports ≤ 16 → s + n ≤ 1024 → Low 512 entries
    → digits_to s + length (print_slots ports (suc s) n entries) ≤ digits_to (s + n) + 72 * n
slots_most ports s zero entries a b low = let e : s + 0 ≡ s = omega arith in omega (arith, ap digits_to e, slots_none ports (suc s) entries)
slots_most ports s (suc n) entries a b low =
    let f : s + suc n ≡ suc s + n = omega arith in
    omega (
      arith,
      ap digits_to f,
      slots_most ports (suc s) n (drop ports entries) a (omega arith) (drop_low 512 ports entries low),
      line_length ports (suc s) n entries,
      cells_most (take ports entries) (take_low 512 ports entries low),
      length-take ports entries,
      digits_next s (omega arith),
    )

-- a frame of up to 512 flows is printed as no more than 76,749 bytes
frame_most : (ports slots : ℕ) (entries : List ℕ) → ports ≤ 16 → slots ≤ 1024 → Low 512 entries → length (print_frame ports slots entries) ≤ 76749
frame_most ports slots entries a b low =
    let s = slots_most ports 0 slots entries a (omega arith) low in
    let y : 0 + slots ≡ slots = omega arith in
    simp length-append (omega (arith, s, digits_none, digits_slots slots b, decimal_short 1 ports (omega arith), decimal_short 3 slots (omega arith), ap digits_to y))

-- ---- a refusal
-- no number of a refusal has more than 8 digits
abbrev Short : List ℕ → Type 0
Short r = Every (λ v. v < 10 ^ 8) r

-- a short refusal is printed as fewer bytes than a frame may have
refusal_most : (r : List ℕ) → Short r → length (print_refusal r) ≤ 76749
refusal_most [] s = omega arith
refusal_most (number ∷ []) s = simp length-append (omega (arith, decimal_short 7 number s.0))
refusal_most (number ∷ line ∷ []) s =
    simp length-append (omega (arith, decimal_short 7 number s.0, decimal_short 7 line s.1.0))
refusal_most (number ∷ port ∷ count ∷ []) s =
    simp length-append (omega (arith, decimal_short 7 number s.0, decimal_short 7 port s.1.0, decimal_short 7 count s.1.1.0))
refusal_most (number ∷ o ∷ x ∷ count ∷ l) s =
    simp length-append
    (omega (arith, decimal_short 7 number s.0, decimal_short 7 o s.1.0, decimal_short 7 x s.1.1.0, decimal_short 7 count s.1.1.1.0))

-- the first of some short refusals is short
report_short : (cs : List Check) → Every (λ c. Short c.1) cs → Short (report cs [])
report_short [] s = tt
report_short (c ∷ cs) s = by_bool c.0 (λ e. rw e s.0) (λ e. rw e (report_short cs s.1))

-- ---- what a sheet asks for
-- loads as they are read: of few ports, slots and flows, and no number of the list above 65,535
record Read (ports slots : ℕ) (list : List ℕ) : Type 0 where
  rack : ports ≤ 16
  power : slots ≤ 1024
  few : flows list ≤ 512
  low : Low 65535 list

-- such loads, or a short refusal
abbrev Asks : Asked → Type 0
Asks (loads ports slots list) = Read ports slots list
Asks (refused r) = Short r

-- checks that refuse shortly leave what is asked for, or a short refusal
unless_asks : (cs : List Check) (asked : Asked) → Every (λ c. Short c.1) cs → (none_holds cs ≡ true → Asks asked) → Asks (unless cs asked)
unless_asks cs asked s f = by_bool (none_holds cs) (λ e. rw e (f e)) (λ e. rw e (report_short cs s))

-- a flow more
flow_read : {ports slots : ℕ} {list : List ℕ} (i o m : ℕ) → Read ports slots list → flows list < 512 → i ≤ 65535 → o ≤ 65535 → m ≤ 65535
    → Read ports slots (list ++ (i ∷ o ∷ m ∷ 1 ∷ []))
flow_read {list = list} i o m x h a b c =
    record {
      rack = x.rack;
      power = x.power;
      few = omega (arith, length-append list (i ∷ o ∷ m ∷ 1 ∷ []));
      low = append_low 65535 list (i ∷ o ∷ m ∷ 1 ∷ []) x.low four_low;
    }
  where
    four_low : Low 65535 (i ∷ o ∷ m ∷ 1 ∷ [])
    four_low zero = a
    four_low (suc zero) = b
    four_low (suc (suc zero)) = c
    four_low (suc (suc (suc zero))) = omega arith
    four_low (suc (suc (suc (suc q)))) = omega arith

-- the pair lines are read as such loads, or refused
pairs_read : (ports slots number : ℕ) (list : List ℕ) (ls : List (List ℕ)) → number + length ls ≤ 32769 → Read ports slots list
    → Asks (read_pairs ports slots number list ls)
unfolding read_pairs
pairs_read ports slots number list [] h x = x
pairs_read ports slots number list (line ∷ ls) h x =
    let i = number_in 0 line in
    let o = number_in 1 line in
    let m = number_in 2 line in
    unless_asks (bad_line number line (pair_line i o m) (most i (most o m)) ∷ line_past_512 list ∷ bad_port number ports i o ∷ [])
    (read_pairs ports slots (suc number) (list ++ (i ∷ o ∷ m ∷ 1 ∷ [])) ls)
    ((omega arith, (omega arith, tt)), ((omega arith, tt), ((omega arith, (omega arith, tt)), tt)))
    (λ e.
    let a = both_true (not (not (both (same line (pair_line i o m)) (leb (most i (most o m)) 65535)))) _ e in
    let b = both_true (same line (pair_line i o m)) _ (not-false _ (not-true _ a.0)) in
    let c = most_low i (most o m) 65535 (leb-true (most i (most o m)) 65535 b.1) in
    let d = most_low o m 65535 c.1 in
    let f = both_true (not (leb 512 (flows list))) _ a.1 in
    pairs_read ports slots (suc number) (list ++ (i ∷ o ∷ m ∷ 1 ∷ [])) ls (omega arith)
    (flow_read i o m x (leb-false 512 (flows list) (not-true _ f.0)) c.0 d.0 d.1))

-- line 2 and what follows are read so, or refused
slots_read : (ports : ℕ) (ls : List (List ℕ)) → ports ≤ 16 → length ls ≤ 32767 → Asks (read_slots ports ls)
slots_read ports [] b h = (omega arith, (omega arith, tt))
slots_read ports (line ∷ ls) b h =
    let slots = number_in 0 line in
    unless_asks (bad_line 2 line (slots_line slots) slots ∷ bad_slots slots ∷ []) (read_pairs ports slots 3 [] ls)
    ((omega arith, (omega arith, tt)), ((omega arith, tt), tt))
    (λ e.
    let c = both_true (not (not (both (same line (slots_line slots)) (leb slots 65535)))) _ e in
    let d = both_true (not (eqb (levels slots) 11)) true c.1 in
    pairs_read ports slots 3 [] ls (omega arith)
    (record {
      rack = b;
      power = power_most (known_power slots (eqb-false (levels slots) 11 (not-true _ d.0)));
      few = omega arith;
      low = λ p. omega arith;
    }))

-- line 1 and what follows are read so, or refused
ports_read : (ls : List (List ℕ)) → length ls ≤ 32768 → Asks (read_ports ls)
ports_read [] h = (omega arith, (omega arith, tt))
ports_read (line ∷ ls) h =
    let ports = number_in 0 line in
    unless_asks (bad_line 1 line (ports_line ports) ports ∷ bad_ports ports ∷ []) (read_slots ports ls)
    ((omega arith, (omega arith, tt)), ((omega arith, tt), tt))
    (λ e.
    let c = both_true (not (not (both (same line (ports_line ports)) (leb ports 65535)))) _ e in
    let d = both_true (not (not (within 1 16 ports))) true c.1 in
    let r = within_true 1 16 ports (not-false _ (not-true _ d.0)) in
    slots_read ports ls r.1 (omega arith))

-- ---- overload
-- no load is above 512 × 65,535
load_most : {ports slots : ℕ} {list : List ℕ} → Read ports slots list → (c : Class) → load c list ≤ 33553920
unfolding load_in
load_most {list = list} x c =
    let n = counts_length list in
    let few = x.few in
    omega (arith, sum_most (length (counts_of list)) 65535 (λ f. if (is_of c (port_of list) f) (get_or (counts_of list) f 0) 0) each)
  where
    each : (f : ℕ) → f < length (counts_of list) → if (is_of c (port_of list) f) (get_or (counts_of list) f 0) 0 ≤ 65535
    each f h =
        by_bool (is_of c (port_of list) f)
        (λ e. rw e (omega (arith, counts_at list f (omega (arith, counts_length list)), x.low (f * 4 + 2))))
        (λ e. rw e (omega arith))

-- an overload is refused with a port and its load
overload_short : (number : ℕ) (kind : ℕ → Class) {ports slots : ℕ} {list : List ℕ} → Read ports slots list → number < 10
    → Short (overload number kind ports slots list).1
overload_short number kind {ports} {slots} {list} x h =
    let f = first_high (λ y. ltb slots (load (kind y) list)) ports 0 in
    let w = x.rack in
    (omega arith, (omega arith, (omega (arith, load_most x (kind (lowest_above ports slots (λ y. load (kind y) list)))), tt)))

-- loads as they are read are refused shortly, or stay
overloaded_asks : (asked : Asked) → Asks asked → Asks (overloaded asked)
overloaded_asks (refused r) x = x
overloaded_asks (loads ports slots list) x =
    unless_asks (port_overloads ports slots list) (loads ports slots list)
    (overload_short 5 (port_on input) x (omega arith), (overload_short 6 (port_on output) x (omega arith), tt)) (λ e. x)

-- what is asked for is printed as no more than 76,749 bytes
printed_most : (asked : Asked) → Asks asked → length (printed asked) ≤ 76749
printed_most (refused r) s = refusal_most r s
printed_most (loads ports slots list) x =
    frame_most ports slots (frame_of ports (port_of list) (levels slots) (counts_of list)) x.rack x.power
    (frame_low ports (port_of list) (levels slots) 512 (counts_of list) (omega (arith, counts_length list, x.few)))

-- a sheet that is not refused with 10 has at most 32,768 bytes
sheet_most : (bytes : List ℕ) → (bad_sheet bytes).0 ≡ false → length bytes ≤ 32768
sheet_most bytes e = omega (arith, ltb-false _ (length bytes) e)

-- No response is longer than 76,749 bytes, whatever the sheet.
pub response_most : (bytes : List ℕ) → length (response bytes) ≤ 76749
unfolding response read_sheet
response_most bytes =
    printed_most (read_sheet bytes)
    (unless_asks (bad_sheet bytes ∷ []) (overloaded (read_ports (lines bytes))) ((omega arith, tt), tt)
    (λ e.
    let a = both_true (not (bad_sheet bytes).0) true e in
    overloaded_asks (read_ports (lines bytes)) (ports_read (lines bytes)
    (omega (arith, sheet_most bytes (not-true _ a.0), lines_most bytes)))))
