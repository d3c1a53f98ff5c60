-- What Turn answers and leaves, refusal by refusal.
use Prim.Native.Nat.{ℕ, ◌*◌}
use mathlib.Core.Path.{◌≡◌, refl, sym, ap, ◌∙◌}
use mathlib.Core.Logic.{◌≢◌}
use mathlib.Core.List.{List, [], ◌∷◌}
use mathlib.Core.Bool.{Bool, true, false, not, true≢false}
use native.Mathlib.Omega.{arith}
use lib.Dec.{ltb}
use lib.ListN.{length, get_or}
use borrow.Author.Tests.{lt-ltb, le-ltb, eq-eqb, ne_eqb}
use Rattle.std.specs.Prelude.{Option, Some, None, is_some}
use Rattle.rules.specs.Words.{first, found}
use Rattle.rules.specs.Flows.{Side, other}
use Rattle.rules.proofs.Ranges.{first_of}
use Rattle.calls.specs.Refusals.{Check, report, refusal, accepted, list_checks, bad_frame}
use Rattle.calls.specs.Inspect.{is_wrong, used_twice, wrong_entry, bad_entries}
use Rattle.calls.specs.declared.Refusal.{Refusal}
use Rattle.calls.specs.declared.Refusal.TheVariants.{SecondLength, Entries}
use Rattle.calls.proofs.Reports.{Passes, report_clear, report_on, first_reported, clear_some, refusal_number}
use Rattle.calls.proofs.Faults.{entries_search, twice_search}
use Rattle.checks.specs.Fits.{Clear, EachFlow}
use Rattle.checks.proofs.Listed.{list_refused, list_well}
use Rattle.checks.proofs.Framed.{frame_refused, after_list}
use Rattle.entries.proofs.Found.{right_flows}
use Rattle.sides.specs.Turn.{by_side, Turnable, bad_second, turn_checks, turn_answer, second_after}
use Rattle.sides.proofs.Agreed.{turnable_accepts}

-- the answer is Turn's, and so are the entries of the second buffer
abbrev pub Done : Side → ℕ → ℕ → List ℕ → List ℕ → List ℕ → List ℕ → List ℕ → Type 0
Done side ports slots list frame second answer entries =
    (answer ≡ turn_answer side ports slots list frame second) × (entries ≡ second_after side ports slots list frame second)

-- a search that finds one, and one that finds none
some_low : (t : ℕ → Bool) (n : ℕ) (r : Option ℕ) → r ≡ found t 0 n → is_some r ≡ true → ltb (first t 0 n) n ≡ true
some_low t n (Some x) e d = let f = first_of t n 0 (Some x) e in lt-ltb (first t 0 n) n (omega (arith, f.0, f.1))
some_low t n None e d = absurd (true≢false (sym d))

none_high : (t : ℕ → Bool) (n : ℕ) (r : Option ℕ) → r ≡ found t 0 n → is_some r ≡ false → ltb (first t 0 n) n ≡ false
none_high t n (Some x) e d = absurd (true≢false d)
none_high t n None e d = le-ltb (first t 0 n) n (omega (arith, first_of t n 0 None e))

no_some : (r : Option ℕ) → is_some r ≡ false → None ≡ r
no_some (Some x) d = absurd (true≢false d)
no_some None d = refl

-- the entries of a frame in which no wrong entry is found
pub flows_alone : (side : Side) (ports slots : ℕ) (list frame : List ℕ) → length frame ≡ slots * ports → (r : Option ℕ)
    → r ≡ found (is_wrong side ports list frame) 0 (slots * ports) → is_some r ≡ false → EachFlow list frame
flows_alone side ports slots list frame size r wrong right = right_flows side ports slots list frame size (no_some r right ∙ wrong)

module _ (side : Side) (ports slots : ℕ) (list frame second : List ℕ) where
  -- the tests after those of the list, and after that of the frame
  abbrev rest : List Check
  rest = bad_second frame second ∷ bad_entries 14 side ports slots list frame

  -- a refusal leaves the second buffer
  refused : (x : Refusal) → refusal x ≡ turn_answer side ports slots list frame second → Done side ports slots list frame second (refusal x) second
  refused x e =
      let some : get_or (turn_answer side ports slots list frame second) 0 0 ≢ 0 = rw e at (refusal_number x) in
      (e, rw (clear_some (turn_checks side ports slots list frame second) accepted refl some))

  pub list_done : (x : Refusal) → refusal x ≡ report (list_checks ports slots list) accepted → Done side ports slots list frame second (refusal x) second
  unfolding turn_checks
  list_done x e = refused x (list_refused ports slots list x e (bad_frame ports slots frame ∷ rest) accepted)

  module _ {p s : ℕ} {l : List ℕ} (passed : Clear p s l) (told : (p ≡ ports) × (s ≡ slots) × (l ≡ list)) where
    clear : Clear ports slots list
    clear = rw (told.0, told.1, told.2) at passed

    pub frame_done : (x : Refusal) → refusal x ≡ report (bad_frame p s frame ∷ []) accepted → Done side ports slots list frame second (refusal x) second
    unfolding turn_checks
    frame_done x e = refused x (frame_refused frame clear x (rw (told.0, told.1) at e) rest accepted)

    module _ {q t : ℕ} {m e : List ℕ} (size : length e ≡ t * q) (kept : (q ≡ p) × (t ≡ s) × (m ≡ l) × (e ≡ frame)) where
      frame_size : length frame ≡ slots * ports
      frame_size = rw (kept.0, kept.1, kept.3, told.0, told.1) at size

      refused_by : (x : Refusal) → refusal x ≡ report rest accepted → Done side ports slots list frame second (refusal x) second
      unfolding turn_checks
      refused_by x h =
          refused x (h ∙ sym (after_list clear (bad_frame ports slots frame ∷ rest) accepted
          ∙ report_on (bad_frame ports slots frame) rest accepted (ap not (eq-eqb (length frame) (slots * ports) frame_size))))

      pub second_done : length second ≢ length e → Done side ports slots list frame second (15 ∷ []) second
      second_done n =
          refused_by SecondLength (first_reported 0 rest accepted tt (ap not (ne_eqb (length second) (length frame) (λ d. n (d ∙ sym (ap length kept.3))))))

      module _ (same : length second ≡ length e) (r : Option ℕ) (wrong : r ≡ found (is_wrong side q m e) 0 (t * q)) where
        passed_second : Passes (bad_second frame second)
        passed_second = ap not (eq-eqb (length second) (length frame) (same ∙ ap length kept.3))

        wrong_is : r ≡ found (is_wrong side ports list frame) 0 (slots * ports)
        wrong_is = rw (kept.0, kept.1, kept.2, kept.3, told.0, told.1, told.2) at wrong

        pub wrong_done : is_some r ≡ true → Done side ports slots list frame second (14 ∷ []) second
        wrong_done d = refused_by Entries (first_reported 1 rest accepted (passed_second, tt) (some_low (is_wrong side ports list frame) (slots * ports) r wrong_is d))

        module _ (right : is_some r ≡ false) (u : Option ℕ) (twice : u ≡ found (used_twice side q m e) 0 (t * q)) where
          passed_wrong : Passes (wrong_entry side ports slots list frame)
          passed_wrong = none_high (is_wrong side ports list frame) (slots * ports) r wrong_is right

          twice_is : u ≡ found (used_twice side ports list frame) 0 (slots * ports)
          twice_is = rw (kept.0, kept.1, kept.2, kept.3, told.0, told.1, told.2) at twice

          pub twice_done : is_some u ≡ true → Done side ports slots list frame second (14 ∷ []) second
          twice_done d =
              refused_by Entries (first_reported 2 rest accepted (passed_second, (passed_wrong, tt)) (some_low (used_twice side ports list frame) (slots * ports) u twice_is d))

          module _ (once : is_some u ≡ false) where
            here : Turnable side ports slots list frame
            here =
                record {
                  well = list_well clear;
                  size = frame_size;
                  each_right = (entries_search side ports slots list frame).tells.known passed_wrong;
                  each_once = (twice_search side ports slots list frame).tells.known (none_high (used_twice side ports list frame) (slots * ports) u twice_is once);
                }

            -- as the code names them
            pub turnable : Turnable side q t m e
            turnable = rw (kept.0, kept.1, kept.2, kept.3, told.0, told.1, told.2) here

            pub turns : {new : List ℕ} → new ≡ by_side (other side) q m e → Done side ports slots list frame second (0 ∷ []) new
            turns {new} n =
                let yes = turnable_accepts side ports slots list frame second here (same ∙ ap length kept.3) in
                let by : new ≡ by_side (other side) ports list frame = rw (kept.0, kept.2, kept.3, told.0, told.2) at n in
                (sym (report_clear (turn_checks side ports slots list frame second) accepted yes), by ∙ rw yes)
