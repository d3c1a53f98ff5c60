-- What Inspect's answer means: clean exactly where the frame is legal and balanced; and what a fault names is wrong, and
-- nothing before it in the order is.
use Prim.Native.Nat.{ℕ, ◌+◌, ◌*◌, ◌/◌, ◌%◌}
use mathlib.Core.Path.{◌≡◌, sym, ap, ◌∙◌, subst}
use mathlib.Core.List.{List, [], ◌∷◌}
use mathlib.Core.Bool.{true}
use native.Mathlib.Omega.{arith}
use lib.Arith.{digits_mod, digits_lt}
use lib.ListN.{length, get_or}
use Rattle.rules.specs.Flows.{Side, input, flows}
use Rattle.rules.specs.Frames.{right_on, cells_on, LegalOn, BalancedOn}
use Rattle.calls.specs.Refusals.{Check, report}
use Rattle.calls.specs.Build.{build_accepts, frame_after}
use Rattle.calls.specs.Inspect.{wrong_entry, port_twice, flow_count, unbalanced_block, inspected}
use Rattle.rules.proofs.Cases.{by_bool}
use Rattle.calls.proofs.Reports.{report_found, report_on}
use Rattle.calls.specs.Demand2.{WellFormed}
use Rattle.calls.proofs.Demand2.{past_frame, accepts_is, build_sound}
use Rattle.calls.specs.Answers.{Each, Throughout, EntryRight, PortOnce, CountRight, Finds, entry_101, port_102, flow_103, block_104, clean_0}
use Rattle.calls.proofs.Faults.{entries_search, twice_search, count_tells, count_found, count_reported, block_tells, block_reported, by_block, place_of}

-- ---- a frame of the right size
module _ (side : Side) (ports slots : ℕ) (list entries : List ℕ) (w : WellFormed ports slots list) (size : length entries ≡ slots * ports) where
  -- legal is that the first three find nothing
  legal_of : Throughout slots ports (EntryRight side ports list entries) → Throughout slots ports (PortOnce side ports list entries)
      → Each (flows list) (CountRight side ports list entries) → LegalOn side ports slots list entries
  legal_of a b c =
      record {
        size = size;
        each_right = λ q h.
            let d = place_of slots ports q (omega arith) in
            subst (λ (x : ℕ). right_on side list (q % ports) (get_or entries x 0) ≡ true) (sym d.2) (a (q / ports) (q % ports) d.0 d.1);
        exact = c;
        once = b;
      }

  -- a legal frame has no wrong entry
  pub legal_entries : LegalOn side ports slots list entries → Throughout slots ports (EntryRight side ports list entries)
  legal_entries l s i a b =
      rw (digits_mod s b) at (l.each_right (s * ports + i) (omega (arith, digits_lt {q = s} {m = slots} {r = i} {c = ports} a b)))

  -- the four checks, of which the first that holds is reported
  abbrev pub one : Check
  one = wrong_entry side ports slots list entries

  abbrev pub two : Check
  two = port_twice side ports slots list entries

  abbrev pub three : Check
  three = flow_count side ports list entries

  abbrev pub four : Check
  four = unbalanced_block (cells_on side ports list) ports slots list entries

  -- 1 to 4 are past, and then each fault where nothing of it is found
  inspected_is : inspected side ports slots list entries ≡ report (one ∷ two ∷ three ∷ four ∷ []) (0 ∷ [])
  unfolding inspected
  inspected_is = past_frame ports slots list w entries size (one ∷ two ∷ three ∷ four ∷ []) (0 ∷ [])

  past_one : Throughout slots ports (EntryRight side ports list entries) → inspected side ports slots list entries ≡ report (two ∷ three ∷ four ∷ []) (0 ∷ [])
  past_one a = inspected_is ∙ report_on one (two ∷ three ∷ four ∷ []) (0 ∷ []) ((entries_search side ports slots list entries).tells.met a)

  pub past_two : Throughout slots ports (EntryRight side ports list entries) → Throughout slots ports (PortOnce side ports list entries) → inspected side ports slots list entries ≡ report (three ∷ four ∷ []) (0 ∷ [])
  past_two a b = past_one a ∙ report_on two (three ∷ four ∷ []) (0 ∷ []) ((twice_search side ports slots list entries).tells.met b)

  past_three : LegalOn side ports slots list entries → inspected side ports slots list entries ≡ report (four ∷ []) (0 ∷ [])
  past_three l = past_two (legal_entries l) l.once ∙ report_on three (four ∷ []) (0 ∷ []) ((count_tells side ports list entries).met l.exact)

  -- what a case says is the answer
  pub find_only : (given : List ℕ) → Finds side ports slots list entries given → given ≡ inspected side ports slots list entries
  find_only given (entry_101 f) =
      sym (inspected_is ∙ report_found one (two ∷ three ∷ four ∷ []) (0 ∷ []) ((entries_search side ports slots list entries).reported f))
  find_only given (port_102 a f) =
      sym (past_one a ∙ report_found two (three ∷ four ∷ []) (0 ∷ []) ((twice_search side ports slots list entries).reported f))
  find_only given (flow_103 a b f) =
      sym (past_two a b ∙ report_found three (four ∷ []) (0 ∷ []) (count_reported side ports list entries f))
  find_only given (block_104 {start} {half} l f) =
      sym (past_three l ∙ report_found four [] (0 ∷ []) (block_reported side ports slots list entries w.power start half f))
  find_only given (clean_0 l b) = sym (past_three l ∙ report_on four [] (0 ∷ []) ((block_tells side ports slots list entries w.power).met b))

  -- and some case holds of it: what a fault names is wrong, and nothing before it is
  pub fault_means : Finds side ports slots list entries (inspected side ports slots list entries)
  fault_means =
      by_bool one.0 (λ e. let f = (entries_search side ports slots list entries).found e in of (entry_101 f.2))
      (λ e. let a = (entries_search side ports slots list entries).tells.known e in
      by_bool two.0 (λ e. let f = (twice_search side ports slots list entries).found e in of (port_102 a f.2))
      (λ e. let b = (twice_search side ports slots list entries).tells.known e in
      by_bool three.0 (λ e. let f = count_found side ports list entries e in of (flow_103 a b f.1))
      (λ e. let l = legal_of a b ((count_tells side ports list entries).known e) in
      by_block side ports slots list entries w.power (λ start half f. of (block_104 l f)) (λ b. of (clean_0 l b)))))
    where
      of : {given : List ℕ} → Finds side ports slots list entries given → Finds side ports slots list entries (inspected side ports slots list entries)
      of {given} f = subst (Finds side ports slots list entries) (find_only given f) f

  -- clean exactly where the frame is legal and balanced
  pub clean_sound : inspected side ports slots list entries ≡ 0 ∷ [] → LegalOn side ports slots list entries × BalancedOn side ports slots list entries
  clean_sound e = only_clean (inspected side ports slots list entries) fault_means (ap (λ (l : List ℕ). get_or l 0 0) e)
    where
      only_clean : (given : List ℕ) → Finds side ports slots list entries given → get_or given 0 0 ≡ 0 → LegalOn side ports slots list entries × BalancedOn side ports slots list entries
      only_clean given (entry_101 f) z = absurd (omega arith)
      only_clean given (port_102 a f) z = absurd (omega arith)
      only_clean given (flow_103 a b f) z = absurd (omega arith)
      only_clean given (block_104 l f) z = absurd (omega arith)
      only_clean given (clean_0 l b) z = (l, b)

  pub sound_clean : LegalOn side ports slots list entries → BalancedOn side ports slots list entries → inspected side ports slots list entries ≡ 0 ∷ []
  sound_clean l b = sym (find_only (0 ∷ []) (clean_0 l b))

-- ---- the calls together
-- What an accepted Build leaves, inspected with what Build was given, is clean.
pub built_clean : (ports slots : ℕ) (list limits buffer : List ℕ) → build_accepts ports slots list limits buffer ≡ true
    → inspected input ports slots list (frame_after ports slots list limits buffer) ≡ 0 ∷ []
built_clean ports slots list limits buffer e =
    let a = accepts_is ports slots list limits buffer e in
    let s = build_sound ports slots list limits buffer e in
    sound_clean input ports slots list (frame_after ports slots list limits buffer) a.well s.0.size s.0 s.1
