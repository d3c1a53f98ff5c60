-- From what a sheet asks for to the bytes of its response.
use Prim.Native.Nat.{ℕ, ◌+◌, ◌*◌, ◌≤◌, ◌<◌}
use mathlib.Core.Path.{◌≡◌, refl, sym, ap, ◌∙◌}
use mathlib.Core.List.{List, [], ◌∷◌, ◌++◌}
use mathlib.Core.Bool.{true, false, not}
use native.Mathlib.Omega.{arith}
use native.Mathlib.Nat.{mul-le-mul}
use Rattle.std.proofs.Common.{Ok, Err}
use Rattle.std.specs.declared.result.Result.{Result}
use lib.ListN.{length, get_or, take, drop, length-take, length-append}
use lib.Seq.{sets, sets-eq, take_at}
use borrow.Author.Tests.{lt-ltb, le-ltb}
use Rattle.rules.specs.Words.{if, both, Every}
use Rattle.rules.specs.Flows.{stride}
use Rattle.calls.specs.Refusals.{report, none_holds, list_checks, bad_frame, refusal, port_overloads, link_overload, overloads, slots_each}
use Rattle.calls.specs.Build.{build_checks, frame_for, outcome, acceptance, built, frame_after}
use Rattle.sheets.specs.Sheet.{loads, refused, overloaded, read_ports, read_sheet, printed, print_frame, response}
use Rattle.sheets.specs.Text.{lines}
use Rattle.calls.specs.declared.Refusal.{Refusal}
use Rattle.calls.specs.declared.Refusal.TheVariants as variants
use Rattle.rules.proofs.Levels.{power_most}
use Rattle.calls.proofs.Overloads.{slots_report}
use Rattle.calls.proofs.Reports.{Refuses, report_refused, refusal_number, clear_none, clear_some, clear_then, clear_parts, frame_tells}
use Rattle.calls.specs.Demand2.{WellFormed}
use Rattle.calls.proofs.Demand2.{clear_well, past_frame}
use Rattle.sheets.proofs.Lengths.{response_most}
use Rattle.reading.specs.Reading.{LoadsRead}
use Rattle.reading.specs.declared.Loads.{Loads}
use Rattle.lines.specs.Lines.{Printed}
use Rattle.sheet.specs.Response.{ReadLines, bytes_of, Answered, Whole}

-- ---- building
module _ (ports slots n : ℕ) (list frame : List ℕ) (x : ReadLines ports slots n list frame) where
  abbrev part : List ℕ
  part = take (n * stride) list

  abbrev room : List ℕ
  room = take (slots * ports) frame

  well : WellFormed ports slots part
  well = clear_well ports slots part x.fine

  pub slots_low : slots ≤ 1024
  slots_low = power_most well.power

  pub ports_low : ports ≤ 16
  ports_low = well.rack.1

  pub size_low : slots * ports ≤ 16384
  size_low = let z : slots * ports ≤ 1024 * 16 = mul-le-mul slots_low ports_low in omega arith

  pub part_size : n * stride ≡ length part
  part_size = let l = x.few in omega (arith, length-take (n * stride) list, x.size)

  pub room_size : slots * ports ≡ length room
  room_size = let l = size_low in omega (arith, length-take (slots * ports) frame, x.room)

  pub size_inside : slots * ports ≤ length frame
  size_inside = omega (arith, size_low, x.room)

  abbrev each : List ℕ
  each = slots_each slots

  -- Build reports overload alone
  report_three : built ports slots part each room ≡ report (overloads ports slots part each) (acceptance ports slots part each room)
  unfolding build_checks
  report_three =
      past_frame ports slots part well room (sym room_size) (overloads ports slots part each) (acceptance ports slots part each room)

  clear_three : none_holds (build_checks ports slots part each room) ≡ none_holds (overloads ports slots part each)
  unfolding build_checks
  clear_three =
      clear_then (list_checks ports slots part) (bad_frame ports slots room ∷ overloads ports slots part each) x.fine
      ∙ rw ((frame_tells ports slots room).met (sym room_size))

  refuse_three : Every Refuses (overloads ports slots part each)
  refuse_three = ((λ e. omega arith), ((λ e. omega arith), ((λ e. omega arith), tt)))

  pub built_yes : (mid : List ℕ) (settled : ℕ) → outcome (Ok settled) ≡ built ports slots part each room → mid ≡ frame_after ports slots part each room
      → length mid ≡ length room → Answered (overloaded (loads ports slots part)) (mid ++ drop (slots * ports) frame) (Ok (record { ports = ports; slots = slots; flows = n }))
  built_yes mid settled e f k =
      let two = port_overloads ports slots part in
      let three = overloads ports slots part each in
      let c : none_holds three ≡ true =
      clear_none three (acceptance ports slots part each room) refuse_three (ap (λ l. get_or l 0 0) (sym report_three ∙ sym e)) in
      let d = (clear_parts two (link_overload ports part each ∷ []) c).0 in
      let h : take (slots * ports) (mid ++ drop (slots * ports) frame) ≡ mid = take_at mid (drop (slots * ports) frame) (slots * ports) (k ∙ sym room_size) in
      record {
        prints = ap printed (ap (λ b. if b (loads ports slots part) (refused (report two []))) d)
            ∙ ap (print_frame ports slots) (sym (h ∙ (f ∙ ap (λ b. if b (frame_for ports slots part) room) (clear_three ∙ c))));
        printable = record { most_ports = ports_low; most_slots = slots_low; inside = omega (arith, k, room_size, length-append mid (drop (slots * ports) frame)) };
      }

  -- with these limits what Build refuses for is 5 or 6
  pub built_no : (r : Refusal) (new : List ℕ) (q : Result Loads Refusal) → outcome (Err r) ≡ built ports slots part each room → q ≡ Err r
      → Answered (overloaded (loads ports slots part)) new q
  built_no r new q e f =
      let two = port_overloads ports slots part in
      let taken = acceptance ports slots part each room in
      let k : report two taken ≡ refusal r = sym (slots_report ports slots part ports_low taken) ∙ (sym report_three ∙ sym e) in
      let c : none_holds two ≡ false = clear_some two taken refl (λ z. refusal_number r (ap (λ l. get_or l 0 0) (sym k) ∙ z)) in
      rw f (record {
        prints = ap printed (ap (λ b. if b (loads ports slots part) (refused (report two []))) c
            ∙ ap refused (report_refused two [] taken c ∙ k));
        printable = tt;
      })

-- ---- the whole sheet
pub sheet_long : (s frame : List ℕ) → 32768 < length s → Answered (read_sheet s) frame (Err variants.SheetLength)
unfolding read_sheet
sheet_long s frame h = record { prints = ap (λ b. printed (if (both (not b) true) (overloaded (read_ports (lines s))) (refused (if b (10 ∷ []) [])))) (lt-ltb 32768 (length s) h); printable = tt }

sheet_short : (s : List ℕ) → length s ≤ 32768 → read_sheet s ≡ overloaded (read_ports (lines s))
unfolding read_sheet
sheet_short s h = ap (λ b. if (both (not b) true) (overloaded (read_ports (lines s))) (refused (if b (10 ∷ []) []))) (le-ltb 32768 (length s) h)

pub sheet_refused : (s frame : List ℕ) (r : Refusal) (q : Result Loads Refusal) → length s ≤ 32768 → read_ports (lines s) ≡ refused (refusal r) → q ≡ Err r
    → Answered (read_sheet s) frame q
sheet_refused s frame r q h x f = rw f (record { prints = ap printed (sheet_short s h ∙ ap overloaded x); printable = tt })

pub sheet_built : (s list frame : List ℕ) (ports slots n : ℕ) (r : Result Loads Refusal) → length s ≤ 32768 → LoadsRead (read_ports (lines s)) list ports slots n
    → Answered (overloaded (loads ports slots (take (n * stride) list))) frame r → Answered (read_sheet s) frame r
sheet_built s list frame ports slots n r h x y =
    record { prints = ap printed (sheet_short s h ∙ ap overloaded x.asks) ∙ y.prints; printable = y.printable }

-- ---- the response
module _ (s frame : List ℕ) (r : Result Loads Refusal) (x : Answered (read_sheet s) frame r) (one new : List ℕ) (n : ℕ) (y : Printed one 0 (bytes_of r frame) new n) where
  response_is : response s ≡ bytes_of r frame
  unfolding response
  response_is = x.prints

  counted : n ≡ length (response s)
  counted = let p = y.place in let q = ap length response_is in omega arith

  response_in : (out filled : List ℕ) (m : ℕ) → n ≤ length out → Printed out 0 (bytes_of r frame) filled m → filled ≡ response s ++ drop (length (response s)) out
  response_in out filled m h z =
      z.is ∙ (ap (sets out 0) (sym response_is) ∙ (sets-eq (response s) out 0 (let c = counted in omega arith)
      ∙ ap (λ k. response s ++ drop k out) (let k : 0 + length (response s) ≡ length (response s) = omega arith in k)))

  -- a buffer of 76,749 bytes holds any response
  pub whole : 76749 ≤ length one → Whole (response s) one new n
  whole h =
      let c = counted in
      let l = response_most s in
      let stands = response_in one new n (omega arith) y ∙ ap (λ k. response s ++ drop k one) (sym c) in
      record { size = c; most = omega arith; is = search stands }

-- the whole response lies in its buffer
pub whole_inside : {bytes out new : List ℕ} {r : ℕ} → Whole bytes out new r → r ≤ length new
whole_inside {bytes} {out} {new} {r} x =
    let a = x.size in
    let e = ap length x.is ∙ length-append bytes (drop r out) in
    omega arith
