-- The sheet program's response is that of its cases.
use Prim.Native.Nat.{ℕ, suc, ◌+◌, ◌*◌, ◌%◌, ◌≤◌, ◌<◌}
use mathlib.Core.Path.{◌≡◌, refl, sym, ap, ◌∙◌, subst}
use mathlib.Core.List.{List, [], ◌∷◌, ◌++◌}
use native.Mathlib.Omega.{arith}
use lib.ListN.{length, get_or, length-append, get_or-append}
use lib.Seq.{get_or-append-add}
use borrow.Author.Tests.{lt-leb, leb-false, not-false}
use Rattle.rules.specs.Words.{within, Within}
use Rattle.rules.specs.Flows.{stride, flows, number_of, inputs, links, port_of, counts_of, port_on, output, load, input}
use Rattle.calls.specs.Refusals.{Check, report, overload, port_overloads}
use Rattle.rules.specs.Schedule.{frame_of}
use Rattle.sheets.specs.Sheet.{bad_sheet, print_frame, ports_line, slots_line, pair_line, line_past_512, bad_port, Asked, loads, read_pairs, read_ports, read_sheet, response}
use Rattle.sheets.specs.Text.{digits, lines}
use Rattle.sheets.specs.Sheet as asked
use Rattle.rules.proofs.Cases.{by_lt, both_true, within_yes, within_true}
use Rattle.rules.specs.Frames.{Power}
use Rattle.rules.proofs.Levels.{power_level, power_most}
use Rattle.rules.proofs.OneFrame.{only_frame}
use Rattle.calls.specs.Demand2.{Ported, Linked, Light, Over, WellFormed}
use Rattle.calls.proofs.Reports.{report_found, report_on, Tells, ports_tells, slots_tells, clear_some, broken, by_fact, most_tells}
use Rattle.calls.proofs.Overloads.{over_reported, overload_tells, by_over}
use Rattle.calls.proofs.Demand2.{well_frame, light_fits, fits_clear}
use Rattle.calls.specs.Answers.{Exactly}
use Rattle.calls.proofs.Answers.{exactly}
use Rattle.sheets.specs.Responds.{input_5, output_6, flows_21, ReadsPairs, ended, form_7, port_8, taken, Reads, line_1_7, line_1_1, line_2_7, line_2_2, from_3, Responds, sheet_10, lines_refused, frame, RespondsByCases}
use Rattle.sheets.proofs.Sheets.{ports_yes, ports_no, by_ports_line, slots_yes, slots_no, by_slots_line, pairs_yes, pairs_none, pairs_no, by_pair_line, pair_lines, no_lines, some_lines}

-- 10: the sheet has at most 32,768 bytes
sheet_tells : (bytes : List ℕ) → Tells (bad_sheet bytes) (length bytes ≤ 32768)
sheet_tells bytes = most_tells 32768 (length bytes) _

-- ---- a list, flow by flow
-- a flow more, on link 1
module _ (list : List ℕ) (i o m : ℕ) (whole : length list % stride ≡ 0) where
  abbrev more : List ℕ
  more = list ++ (i ∷ o ∷ m ∷ 1 ∷ [])

  flows_more : flows more ≡ suc (flows list)
  flows_more = omega (arith, length-append list (i ∷ o ∷ m ∷ 1 ∷ []))

  -- the numbers of the flows before stay
  number_kept : (place f : ℕ) → place < stride → f < flows list → number_of place more f ≡ number_of place list f
  number_kept place f p h = get_or-append list (i ∷ o ∷ m ∷ 1 ∷ []) 0 (f * stride + place) (omega arith)

  -- and its own are those given
  number_new : (place : ℕ) → number_of place more (flows list) ≡ get_or (i ∷ o ∷ m ∷ 1 ∷ []) place 0
  number_new place =
      let e : flows list * stride + place ≡ length list + place = omega arith in
      ap (λ q. get_or more q 0) e ∙ get_or-append-add list (i ∷ o ∷ m ∷ 1 ∷ []) place 0

  ported_more : {ports : ℕ} → Ported ports list → Within 1 ports i → Within 1 ports o → Ported ports more
  ported_more w a b inputs f h =
      by_lt f (flows list) (λ l. rw (number_kept 0 f (omega arith) l) (w inputs f l))
      (λ l. let e : f ≡ flows list = omega (arith, flows_more) in rw (e, number_new 0) a)
  ported_more w a b links f h =
      by_lt f (flows list) (λ l. rw (number_kept 1 f (omega arith) l) (w links f l))
      (λ l. let e : f ≡ flows list = omega (arith, flows_more) in rw (e, number_new 1) b)

  linked_more : Linked list → Linked more
  linked_more w f h =
      by_lt f (flows list) (λ l. rw (number_kept 3 f (omega arith) l) (w f l))
      (λ l. let e : f ≡ flows list = omega (arith, flows_more) in rw (e, number_new 3) (omega arith, omega arith))

-- no flow is well-formed, and one more on link 1 within the limits
pub well_none : {ports slots : ℕ} → Within 1 16 ports → Power slots → WellFormed ports slots []
well_none w p =
    record {
      rack = w;
      power = p;
      whole = refl;
      few = omega arith;
      ported = λ s f h. absurd (omega arith);
      linked = λ f h. absurd (omega arith);
    }

pub well_more : {ports slots : ℕ} {list : List ℕ} (i o m : ℕ) → WellFormed ports slots list → flows list < 512 → Within 1 ports i → Within 1 ports o
    → WellFormed ports slots (list ++ (i ∷ o ∷ m ∷ 1 ∷ []))
well_more {list = list} i o m w h a b =
    record {
      rack = w.rack;
      power = w.power;
      whole = (let e = w.whole in omega (arith, length-append list (i ∷ o ∷ m ∷ 1 ∷ [])));
      few = (let e = flows_more list i o m w.whole in omega arith);
      ported = ported_more list i o m w.whole w.ported a b;
      linked = linked_more list i o m w.whole w.linked;
    }

-- ---- pair lines
-- 21: there is room for a flow more
few_tells : (list : List ℕ) → Tells (line_past_512 list) (flows list < 512)
few_tells list = record { met = lt-leb 512 (flows list); known = leb-false 512 (flows list) }

-- 8: both ports are ports of the switch
port_tells : (n ports i o : ℕ) → Tells (bad_port n ports i o) (Within 1 ports i × Within 1 ports o)
port_tells n ports i o =
    record {
      met = λ f. rw (within_yes 1 ports i f.0.0 f.0.1, within_yes 1 ports o f.1.0 f.1.1);
      known = λ e. (let b = both_true (within 1 ports i) (within 1 ports o) (not-false _ e) in (within_true 1 ports i b.0, within_true 1 ports o b.1));
    }

module _ (ports slots : ℕ) (rack : Within 1 16 ports) where
  -- what a case says is what is read
  pairs_only : {n : ℕ} {list bytes : List ℕ} {given : Asked} → ReadsPairs ports slots n list bytes given → given ≡ read_pairs ports slots n list (lines bytes)
  pairs_only {n} {list} ended = sym (pairs_none ports slots n list)
  pairs_only {n} {list} {bytes} (form_7 some none) = sym (pairs_no ports slots n list bytes some none)
  pairs_only {n} {list} (flows_21 i o c rest a b d full) =
      sym (pairs_yes ports slots n list i o c rest a b d ∙ rw (broken (few_tells list) (λ f. omega arith)))
  pairs_only {n} {list} (port_8 i o c rest a b d few out) =
      sym (pairs_yes ports slots n list i o c rest a b d ∙ rw ((few_tells list).met few, broken (port_tells n ports i o) out))
  pairs_only {n} {list} (taken i o c rest a b d few r) =
      pairs_only r
      ∙ sym (pairs_yes ports slots n list i o c rest (omega arith) (omega arith) d ∙ rw ((few_tells list).met few, (port_tells n ports i o).met (a, b)))

  -- and some case holds
  pairs_some : (ls : List (List ℕ)) (n : ℕ) (list bytes : List ℕ) → lines bytes ≡ ls → (given : Asked) × ReadsPairs ports slots n list bytes given
  pairs_some [] n list bytes e =
      (loads ports slots list, subst (λ (b : List ℕ). ReadsPairs ports slots n list b (loads ports slots list)) (sym (no_lines bytes e)) ended)
  pairs_some (l ∷ ls) n list bytes e =
      by_pair_line bytes
      (λ i o c rest a b d q. subst Some (sym q)
      (by_fact (few_tells list) (λ full. (asked.refused (21 ∷ []), flows_21 i o c rest a b d (omega arith)))
      (λ few. by_fact (port_tells n ports i o) (λ out. (asked.refused (8 ∷ n ∷ []), port_8 i o c rest a b d few out))
      (λ w.
      let both_lines : l ∷ ls ≡ pair_line i o c ∷ lines rest = sym e ∙ (ap lines q ∙ pair_lines i o c rest) in
      let z = pairs_some ls (suc n) (list ++ (i ∷ o ∷ c ∷ 1 ∷ [])) rest (cc) in
      (z.0, taken i o c rest w.0 w.1 d few z.1)))))
      (λ none. (asked.refused (7 ∷ n ∷ []), form_7 (some_lines bytes l ls e) none))
    where
      Some : List ℕ → Type 0
      Some bytes = (given : Asked) × ReadsPairs ports slots n list bytes given

-- ---- lines 1 and 2
-- what a case says is what is read
reads_only : {bytes : List ℕ} {given : Asked} → Reads bytes given → given ≡ read_ports (lines bytes)
reads_only {bytes} (line_1_7 none) = sym (ports_no bytes none)
reads_only (line_1_1 ports rest h b) = sym (ports_yes ports rest h ∙ rw (broken (ports_tells ports) b))
reads_only (line_2_7 ports rest w none) =
    sym (ports_yes ports rest (omega arith) ∙ rw ((ports_tells ports).met w) (slots_no ports rest none))
reads_only (line_2_2 ports slots rest w h b) =
    sym (ports_yes ports (slots_line slots ++ rest) (omega arith)
    ∙ rw ((ports_tells ports).met w) (slots_yes ports slots rest h ∙ rw (broken (slots_tells slots) b)))
reads_only (from_3 ports slots rest w p r) =
    pairs_only ports slots w r
    ∙ sym (ports_yes ports (slots_line slots ++ rest) (omega arith)
    ∙ rw ((ports_tells ports).met w) (slots_yes ports slots rest (omega (arith, power_most p)) ∙ rw ((slots_tells slots).met p)))

-- and some case holds
reads_some : (bytes : List ℕ) → (given : Asked) × Reads bytes given
reads_some bytes =
    by_ports_line bytes
    (λ ports rest h e. subst Some (sym e)
    (by_fact (ports_tells ports) (λ b. (asked.refused (1 ∷ []), line_1_1 ports rest h b))
    (λ w. by_slots_line rest
    (λ slots more l f. subst (λ (t : List ℕ). Some (ports_line ports ++ t)) (sym f)
    (by_fact (slots_tells slots) (λ b. (asked.refused (2 ∷ []), line_2_2 ports slots more w l b))
    (λ p.
    let z = pairs_some ports slots w (lines more) 3 [] more refl in
    (z.0, from_3 ports slots more w p z.1))))
    (λ none. (asked.refused (7 ∷ 2 ∷ []), line_2_7 ports rest w none)))))
    (λ none. (asked.refused (7 ∷ 1 ∷ []), line_1_7 none))
  where
    Some : List ℕ → Type 0
    Some bytes = (given : Asked) × Reads bytes given

-- what is read is a well-formed load
abbrev Well : Asked → Type 0
Well (loads ports slots list) = WellFormed ports slots list
Well (asked.refused r) = Unit {0}

pairs_well : {ports slots n : ℕ} {list bytes : List ℕ} {given : Asked} → WellFormed ports slots list → ReadsPairs ports slots n list bytes given → Well given
pairs_well w ended = w
pairs_well w (form_7 some none) = tt
pairs_well w (flows_21 i o c rest a b d full) = tt
pairs_well w (port_8 i o c rest a b d few out) = tt
pairs_well w (taken i o c rest a b d few r) = pairs_well (well_more i o c w few a b) r

asked_well : {bytes : List ℕ} {given : Asked} → Reads bytes given → Well given
asked_well (line_1_7 none) = tt
asked_well (line_1_1 ports rest h b) = tt
asked_well (line_2_7 ports rest w none) = tt
asked_well (line_2_2 ports slots rest w h b) = tt
asked_well (from_3 ports slots rest w p r) = pairs_well (well_none w p) r

reads_well : {bytes : List ℕ} {ports slots : ℕ} {list : List ℕ} → Reads bytes (loads ports slots list) → WellFormed ports slots list
reads_well r = asked_well r

-- ---- 5 and 6, after the lines
-- what is reported of some conditions is what the sheet is refused for
unless_refused : (cs : List Check) (read : Asked) {n : ℕ} {values : List ℕ} → 0 < n → ((other : List ℕ) → report cs other ≡ n ∷ values)
    → asked.unless cs read ≡ asked.refused (n ∷ values)
unless_refused cs read {n} {values} h e = rw (clear_some cs (0 ∷ []) refl (λ z. let y = ap (λ (l : List ℕ). get_or l 0 0) (e (0 ∷ [])) in omega arith), e [])

module _ (ports slots : ℕ) (list : List ℕ) where
  overload_asked : {n : ℕ} {values : List ℕ} → 0 < n → ((other : List ℕ) → report (port_overloads ports slots list) other ≡ n ∷ values)
      → asked.overloaded (loads ports slots list) ≡ asked.refused (n ∷ values)
  overload_asked h e = unless_refused (port_overloads ports slots list) (loads ports slots list) h e

  input_asked : (x : ℕ) → Over (port_on input) ports slots list x → asked.overloaded (loads ports slots list) ≡ asked.refused (5 ∷ suc x ∷ load (port_on input x) list ∷ [])
  input_asked x o =
      overload_asked (omega arith)
      (λ other. report_found (overload 5 (port_on input) ports slots list) (overload 6 (port_on output) ports slots list ∷ []) other (over_reported 5 (port_on input) ports slots list x o))

  output_asked : Light (port_on input) ports slots list → (x : ℕ) → Over (port_on output) ports slots list x
      → asked.overloaded (loads ports slots list) ≡ asked.refused (6 ∷ suc x ∷ load (port_on output x) list ∷ [])
  output_asked i x o =
      overload_asked (omega arith)
      (λ other. report_on (overload 5 (port_on input) ports slots list) (overload 6 (port_on output) ports slots list ∷ []) other ((overload_tells 5 (port_on input) ports slots list).met i)
      ∙ report_found (overload 6 (port_on output) ports slots list) [] other (over_reported 6 (port_on output) ports slots list x o))

module _ (bytes : List ℕ) where
  -- a sheet that is not too long is answered by what is read
  read_response : {given : Asked} → length bytes ≤ 32768 → Reads bytes given → response bytes ≡ asked.printed (asked.overloaded given)
  unfolding read_sheet response
  read_response h r = rw ((sheet_tells bytes).met h, ← (reads_only r))

  -- what a case says is printed
  respond_only : (given : List ℕ) → Responds bytes given → given ≡ response bytes
  unfolding read_sheet response digits
  respond_only given (sheet_10 h) = rw (broken (sheet_tells bytes) (λ l. omega arith))
  respond_only given (lines_refused h r) = sym (read_response h r)
  respond_only given (input_5 {ports} {slots} {list} h r x o) = sym (read_response h r ∙ ap asked.printed (input_asked ports slots list x o))
  respond_only given (output_6 {ports} {slots} {list} h r i x o) = sym (read_response h r ∙ ap asked.printed (output_asked ports slots list i x o))
  respond_only given (frame {ports} {slots} {list} h r f p laid s) =
      ap (print_frame ports slots) (only_frame ports (port_of list) p.k (counts_of list) laid s) ∙ sym (read_response h r ∙ rw (fits_clear ports slots list f, power_level p))

  -- and some case holds
  respond_some : length bytes ≤ 32768 → (given : Asked) → Reads bytes given → Exactly (Responds bytes) (response bytes)
  respond_some h (asked.refused r) g = exactly respond_only (lines_refused h g)
  respond_some h (loads ports slots list) g =
      by_over 5 (port_on input) ports slots list (λ x o. exactly respond_only (input_5 h g x o))
      (λ i. by_over 6 (port_on output) ports slots list (λ x o. exactly respond_only (output_6 h g i x o))
      (λ o.
      let w = reads_well g in
      let fits = light_fits ports slots list i o in
      exactly respond_only (frame h g fits w.power (frame_of ports (port_of list) w.power.k (counts_of list)) (well_frame ports slots list w fits))))

  -- the response is that of the cases
  pub respond_exactly : Exactly (Responds bytes) (response bytes)
  respond_exactly =
      by_fact (sheet_tells bytes) (λ b. exactly respond_only (sheet_10 (by_lt 32768 (length bytes) (λ l. l) (λ l. absurd (b l)))))
      (λ h. let r = reads_some bytes in respond_some h r.0 r.1)

-- The sheet program answers by its cases.
pub sheet_by_cases : RespondsByCases
sheet_by_cases = respond_exactly
