-- The lines in turn: what each is read as, and the flows that were read so far.
use Rattle.std.proofs.Common.{◌≡◌, ℕ, suc, zero, ◌+◌, ◌-◌, ◌*◌, ◌≤◌, ◌<◌, List, [], ◌∷◌, ◌++◌, Bool, true, false, not, Some, None, Err, length, take, drop, sym, ap, ◌∙◌, arith}
use Rattle.std.specs.declared.option.Option.{Option}
use Rattle.std.specs.declared.result.Result.{Result}
use lib.Dec.{eqb}
use lib.ListN.{replicate, length-append}
use lib.Seq.{sets, length-sets, sets-eq, take_at, drop_at, drop-drop, length-take-le}
use borrow.Author.Tests.{le-leb, lt-leb, not-true, not-false}
use Rattle.rules.specs.Words.{within}
use Rattle.rules.specs.Flows.{stride, flows}
use Rattle.rules.specs.Frames.{levels}
use Rattle.calls.specs.Refusals.{bad_ports, bad_slots}
use Rattle.calls.specs.declared.Refusal.{Refusal}
use Rattle.calls.specs.declared.Refusal.TheVariants.{LineForm}
use Rattle.sheets.specs.Text.{text, lines}
use Rattle.sheets.specs.Sheet.{ports_line, slots_line, pair_line, line_past_512, bad_port, Asked, refused, unless, read_pairs, read_slots, read_ports}
use Rattle.calls.proofs.Reports.{within_known}
use Rattle.calls.proofs.Demand2.{well_clear, clear_well}
use Rattle.sheets.proofs.Responses.{well_more}
use Rattle.sheets.proofs.Sheets.{ports_yes, ports_no, slots_yes, slots_no, pairs_yes, pairs_no, pairs_none}
use Rattle.text.specs.Numbers.{Line, NoLine, LineOf}
use Rattle.text.specs.declared.NumberRead.{NumberRead}
use Rattle.reading.specs.Reading.{PairAt, NoPairAt, FormOf, PortsRead, PortsOf, SlotsRead, SlotsOf, PairRead, PairRefused, PairOf, LoadsRead, Reached}
use Rattle.reading.specs.declared.Pair.{Pair}

-- ---- line 1
module _ (s : List ℕ) (r : Option NumberRead) (y : LineOf 65535 (text "(ports ") s r) where
  pub ports_form : (q : Result NumberRead Refusal) → r ≡ None → q ≡ Err (LineForm 1) → PortsOf s q
  unfolding ports_line
  ports_form q e f = let x : NoLine 65535 (text "(ports ") s = rw e at y in rw f (ports_no s x.never)

  module _ (v : NumberRead) (e : r ≡ Some v) (b : Bool) (f : b ≡ not (within 1 16 v.value)) where
    ports_line_read : read_ports (lines s) ≡ unless (bad_ports v.value ∷ []) (read_slots v.value (lines v.rest.now))
    unfolding ports_line
    ports_line_read =
        let x : Line 65535 (text "(ports ") s v.value v.rest.now = rw e at y in
        ap (λ z. read_ports (lines z)) x.stands ∙ ports_yes v.value v.rest.now x.low

    pub ports_out : b ≡ true → read_ports (lines s) ≡ refused (1 ∷ [])
    ports_out g = ports_line_read ∙ rw (sym f ∙ g)

    pub ports_in : b ≡ false → PortsRead s v.value v.rest.now
    ports_in g = let w = within_known f g in record { reads = ports_line_read ∙ rw (sym f ∙ g); least = w.0; most = w.1 }

-- ---- line 2
module _ (ports : ℕ) (s : List ℕ) (r : Option NumberRead) (y : LineOf 65535 (text "(slots ") s r) where
  pub slots_form : (q : Result NumberRead Refusal) → r ≡ None → q ≡ Err (LineForm 2) → SlotsOf ports s q
  unfolding slots_line
  slots_form q e f = let x : NoLine 65535 (text "(slots ") s = rw e at y in rw f (slots_no ports s x.never)

  module _ (v : NumberRead) (e : r ≡ Some v) (b : Bool) (f : b ≡ eqb (levels v.value) 11) where
    slots_line_read : read_slots ports (lines s) ≡ unless (bad_slots v.value ∷ []) (read_pairs ports v.value 3 [] (lines v.rest.now))
    unfolding slots_line
    slots_line_read =
        let x : Line 65535 (text "(slots ") s v.value v.rest.now = rw e at y in
        ap (λ z. read_slots ports (lines z)) x.stands ∙ slots_yes ports v.value v.rest.now x.low

    pub slots_out : b ≡ true → read_slots ports (lines s) ≡ refused (2 ∷ [])
    slots_out g = slots_line_read ∙ rw (sym f ∙ g)

    pub slots_in : b ≡ false → SlotsRead ports s v.value v.rest.now
    slots_in g = record { reads = slots_line_read ∙ rw (sym f ∙ g); power = sym f ∙ g }

-- ---- a pair line
module _ (ports : ℕ) (s : List ℕ) (n : ℕ) (r : Option Pair) (y : FormOf s r) where
  pub pair_form : (q : Result Pair Refusal) → 0 < length s → r ≡ None → q ≡ Err (LineForm (n + 3)) → PairOf ports s n q
  pair_form q h e f =
      let x : NoPairAt s = rw e at y in
      rw f (record { reads = λ slots list _. pairs_no ports slots (n + 3) list s (λ z. let k = ap length z in omega arith) x.never })

  module _ (p : Pair) (e : r ≡ Some p) where
    pair_known : PairAt s p.input p.output p.cells p.rest.now
    pair_known = rw e at y

    pair_read : (slots : ℕ) (list : List ℕ) → read_pairs ports slots (n + 3) list (lines s)
        ≡ unless (line_past_512 list ∷ bad_port (n + 3) ports p.input p.output ∷ [])
        (read_pairs ports slots (n + 1 + 3) (list ++ (p.input ∷ p.output ∷ p.cells ∷ 1 ∷ [])) (lines p.rest.now))
    pair_read slots list =
        let x = pair_known in
        let k : suc (n + 3) ≡ n + 1 + 3 = omega arith in
        ap (λ z. read_pairs ports slots (n + 3) list (lines z)) x.stands
        ∙ (pairs_yes ports slots (n + 3) list p.input p.output p.cells p.rest.now x.low.0 x.low.1 x.low.2
        ∙ ap (λ z. unless (line_past_512 list ∷ bad_port (n + 3) ports p.input p.output ∷ [])
        (read_pairs ports slots z (list ++ (p.input ∷ p.output ∷ p.cells ∷ 1 ∷ [])) (lines p.rest.now))) k)

    pub pair_full : 512 ≤ n → PairRefused ports s n (21 ∷ [])
    pair_full h = record { reads = λ slots list c. pair_read slots list ∙ rw (le-leb 512 (flows list) (omega arith)) }

    module _ (few : n < 512) where
      pub pair_input : (b : Bool) → b ≡ not (within 1 ports p.input) → b ≡ true → PairRefused ports s n (8 ∷ (n + 3) ∷ [])
      pair_input b f g =
          record {
            reads = λ slots list c. pair_read slots list ∙ rw (lt-leb 512 (flows list) (omega arith), not-true (within 1 ports p.input) (sym f ∙ g));
          }

      module _ (b d : Bool) (f : b ≡ not (within 1 ports p.input)) (g : b ≡ false) (h : d ≡ not (within 1 ports p.output)) where
        pub pair_output : d ≡ true → PairRefused ports s n (8 ∷ (n + 3) ∷ [])
        pair_output k =
            record {
              reads = λ slots list c. pair_read slots list
                  ∙ rw (lt-leb 512 (flows list) (omega arith), not-false (within 1 ports p.input) (sym f ∙ g), not-true (within 1 ports p.output) (sym h ∙ k));
            }

        pair_shorter : length p.rest.now < length s
        unfolding pair_line
        pair_shorter =
            let x = pair_known in
            let k = ap length x.stands in
            omega (arith, length-append (pair_line p.input p.output p.cells) p.rest.now)

        pub pair_in : d ≡ false → PairRead ports s n p.input p.output p.cells p.rest.now
        pair_in k =
            record {
              reads = λ slots list c. pair_read slots list
                  ∙ rw (lt-leb 512 (flows list) (omega arith), not-false (within 1 ports p.input) (sym f ∙ g), not-false (within 1 ports p.output) (sym h ∙ k));
              few = few;
              of_input = within_known f g;
              of_output = within_known h k;
              low = pair_known.low;
              shorter = pair_shorter;
            }

-- ---- the flows read so far
drop_replicate : (n k : ℕ) (a : ℕ) → drop n (replicate k a) ≡ replicate (k - n) a
drop_replicate zero k a = let e : k ≡ k - 0 = omega arith in ap (λ z. replicate z a) e
drop_replicate (suc n) zero a = let e : 0 ≡ 0 - suc n = omega arith in ap (λ z. replicate z a) e
drop_replicate (suc n) (suc k) a = let e : k - n ≡ suc k - suc n = omega arith in drop_replicate n k a ∙ ap (λ z. replicate z a) e

-- what stands at the front has so many flows
front_length : (list : List ℕ) (n : ℕ) → length list ≡ 2048 → n ≤ 512 → length (take (n * stride) list) ≡ n * stride
front_length list n e h = length-take-le (n * stride) list (omega arith)

front_flows : (list : List ℕ) (n : ℕ) → length list ≡ 2048 → n ≤ 512 → flows (take (n * stride) list) ≡ n
front_flows list n e h = let l = front_length list n e h in omega arith

module _ (asked : Asked) (ports slots : ℕ) (s list : List ℕ) (n i o m : ℕ) (behind : List ℕ)
    (x : Reached asked ports slots s list n) (y : PairRead ports s n i o m behind) where
  abbrev four : List ℕ
  four = i ∷ o ∷ m ∷ 1 ∷ []

  abbrev front : List ℕ
  front = take (n * stride) list

  put_is : sets list (n * stride) four ≡ (front ++ four) ++ drop (n * stride + stride) list
  put_is =
      let k = x.size in
      let f = y.few in
      sets-eq four list (n * stride) (omega arith)

  put_length : length (front ++ four) ≡ (n + 1) * stride
  put_length = let l = front_length list n x.size x.few in omega (arith, length-append front four)

  pub reached_on : (new : List ℕ) → new ≡ sets list (n * stride) four → Reached asked ports slots behind new (n + 1)
  reached_on new e =
      let taken : take ((n + 1) * stride) new ≡ front ++ four =
      ap (take ((n + 1) * stride)) (e ∙ put_is) ∙ take_at (front ++ four) (drop (n * stride + stride) list) ((n + 1) * stride) put_length in
      let f = front_flows list n x.size x.few in
      record {
        reads = x.reads ∙ (y.reads slots front f ∙ ap (λ z. read_pairs ports slots (n + 1 + 3) z (lines behind)) (sym taken));
        fine = rw taken
            (well_clear ports slots (front ++ four)
            (well_more i o m (clear_well ports slots front x.fine) (let k = y.few in omega arith) y.of_input y.of_output));
        few = (let k = y.few in omega arith);
        size = ap length e ∙ (length-sets list (n * stride) four ∙ x.size);
        rest = ap (drop ((n + 1) * stride)) (e ∙ put_is)
            ∙ (drop_at (front ++ four) (drop (n * stride + stride) list) ((n + 1) * stride) put_length
            ∙ (sym (drop-drop stride (n * stride) list)
            ∙ (ap (drop stride) x.rest
            ∙ (drop_replicate stride (2048 - n * stride) 0
            ∙ ap (λ z. replicate z 0) (let k : 2048 - n * stride - stride ≡ 2048 - (n + 1) * stride = omega arith in k)))));
      }

pub reached_end : (asked : Asked) (ports slots : ℕ) (s list : List ℕ) (n : ℕ) → Reached asked ports slots s list n → s ≡ [] → LoadsRead asked list ports slots n
reached_end asked ports slots s list n x h =
    record {
      asks = x.reads
          ∙ (ap (λ z. read_pairs ports slots (n + 3) (take (n * stride) list) (lines z)) h
          ∙ pairs_none ports slots (n + 3) (take (n * stride) list));
      fine = x.fine;
      few = x.few;
      size = x.size;
      rest = x.rest;
    }
