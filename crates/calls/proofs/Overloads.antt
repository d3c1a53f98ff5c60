-- Overloads: the lowest port above slots, and the lowest link above its limit.
use Prim.Native.Nat.{ℕ, suc, ◌+◌, ◌*◌, ◌%◌, ◌≤◌, ◌<◌}
use mathlib.Core.Path.{◌≡◌, refl, sym, ap, ◌∙◌}
use mathlib.Core.List.{List, [], ◌∷◌}
use mathlib.Core.Bool.{Bool, true, false}
use native.Mathlib.Omega.{arith}
use native.Mathlib.Numerals.{add-one}
use lib.Dec.{ltb}
use lib.ListN.{get_or, get_or-replicate}
use borrow.Author.Tests.{lt-ltb, le-ltb, ltb-true, ltb-false}
use Rattle.rules.specs.Words.{first}
use Rattle.rules.specs.Flows.{output_of, port_of, counts_of, Class, port_on, input, output, link, load}
use Rattle.calls.specs.Demand2.{Under, Above, Light, Over, Allows, Past}
use Rattle.calls.specs.Refusals.{Check, report, lowest_above, above_slots, overload, port_overloads, lowest_past, above_limits, link_overload, overloads, slots_each}
use Rattle.rules.proofs.Cases.{by_bool, by_lt}
use Rattle.rules.proofs.Searches.{first_found, first_before, first_is, first_none}
use Rattle.rules.proofs.Flows.{output_low, link_under}
use Rattle.calls.proofs.Reports.{Tells, report_found, report_on, search_tells}

-- ---- the lowest of n places whose load is above its bound
module _ (n : ℕ) (bound loads : ℕ → ℕ) where
  abbrev past : ℕ → Bool
  past x = ltb (bound x) (loads x)

  abbrev lowest : ℕ
  lowest = first past 0 n

  -- the search finds that place
  lowest_is : (x : ℕ) → Above n bound loads x → x ≡ lowest
  lowest_is x o =
      sym (first_is past n 0 x (omega arith) (let l = o.low in omega arith) (lt-ltb (bound x) (loads x) o.above)
      (λ y _ l. le-ltb (bound y) (loads y) (o.lower y l)))

  -- a check by it tells that there is none
  under_tells : (answer : List ℕ) → Tells (ltb lowest n, answer) (Under n bound loads)
  under_tells answer =
      let t = search_tells past n answer in
      record {
        met = λ f. t.met (λ x h. le-ltb (bound x) (loads x) (f x h));
        known = λ e x h. ltb-false (bound x) (loads x) (t.known e x h);
      }

  -- one place is the lowest, or there is none
  by_above : {P : Type 0} → ((x : ℕ) → Above n bound loads x → P) → (Under n bound loads → P) → P
  by_above over under =
      by_bool (ltb lowest n)
      (λ e. over lowest (record {
        low = ltb-true lowest n e;
        above = ltb-true (bound lowest) (loads lowest) (first_found past n 0 (let l = ltb-true lowest n e in omega arith));
        lower = λ y h. ltb-false (bound y) (loads y) (first_before past n 0 y (omega arith) h);
      }))
      (λ e. under ((under_tells []).known e))

  -- a check by it, with what it carries of a place and its load
  abbrev lowest_check : (ℕ → ℕ → List ℕ) → Check
  lowest_check carries = (ltb lowest n, carries lowest (loads lowest))

  module _ (carries : ℕ → ℕ → List ℕ) (x : ℕ) (is : x ≡ lowest) where
    check_found : x < n → lowest_check carries ≡ (true, carries x (loads x))
    check_found l = rw (← is, lt-ltb x n l)

    check_none : n ≤ x → (lowest_check carries).0 ≡ false
    check_none l = rw (← is) (le-ltb x n l)

-- more numbers than places decide the same, if each place's is its load and those of no place are 0
module _ (n most : ℕ) (bound loads numbers : ℕ → ℕ) (room : n ≤ most)
    (each : (x : ℕ) → x < n → numbers x ≡ loads x) (none : (x : ℕ) → n ≤ x → numbers x ≡ 0) where
  below : (y : ℕ) → y < n → y < lowest n bound loads → ltb (bound y) (numbers y) ≡ false
  below y h l = ap (ltb (bound y)) (each y h) ∙ first_before (past n bound loads) n 0 y (omega arith) l

  same_found : lowest n bound loads < n → lowest n bound loads ≡ lowest most bound numbers
  same_found l =
      let x = lowest n bound loads in
      sym (first_is (past most bound numbers) most 0 x (omega arith) (omega arith)
      (ap (ltb (bound x)) (each x l) ∙ first_found (past n bound loads) n 0 (omega arith))
      (λ y _ k. below y (omega arith) k))

  same_none : n ≤ lowest n bound loads → most ≡ lowest most bound numbers
  same_none l =
      sym (first_none (past most bound numbers) most 0
      (λ y _ h. by_lt y n (λ k. below y k (omega arith)) (λ k. ap (ltb (bound y)) (none y k) ∙ le-ltb (bound y) 0 (omega arith)))
      ∙ omega arith)

  check_same : (carries : ℕ → ℕ → List ℕ) (cs : List Check) (asked : List ℕ)
      → report (lowest_check most bound numbers carries ∷ cs) asked ≡ report (lowest_check n bound loads carries ∷ cs) asked
  check_same carries cs asked =
      let x = lowest n bound loads in
      let more = lowest_check most bound numbers carries in
      let few = lowest_check n bound loads carries in
      by_lt x n
      (λ l. report_found more cs asked (check_found most bound numbers carries x (same_found l) (omega arith))
      ∙ ap (carries x) (each x l)
      ∙ sym (report_found few cs asked (check_found n bound loads carries x refl l)))
      (λ l. report_on more cs asked (check_none most bound numbers carries most (same_none l) (omega arith))
      ∙ sym (report_on few cs asked (check_none n bound loads carries x refl l)))

-- ---- 5 and 6, decided from the loads of so many ports
-- what they carry of a port and its load
abbrev of_port : ℕ → ℕ → ℕ → List ℕ
of_port number x cells = number ∷ suc x ∷ cells ∷ []

-- the search finds a port, which is carried with its load, or none
module _ (number ports slots : ℕ) (loads : ℕ → ℕ) (x : ℕ) (is : x ≡ lowest_above ports slots loads) where
  pub above_found : x < ports → above_slots number ports slots loads ≡ (true, number ∷ (x + 1) ∷ loads x ∷ [])
  above_found l = rw (add-one x) (check_found ports (λ _. slots) loads (of_port number) x is l)

  pub above_none : ports ≤ x → (above_slots number ports slots loads).0 ≡ false
  above_none l = check_none ports (λ _. slots) loads (of_port number) x is l

-- more numbers than ports decide the same, if each port's is its load and those of no port are 0
pub above_same : (number ports most slots : ℕ) (loads numbers : ℕ → ℕ) → ports ≤ most
    → ((x : ℕ) → x < ports → numbers x ≡ loads x) → ((x : ℕ) → ports ≤ x → numbers x ≡ 0) → (cs : List Check) (asked : List ℕ)
    → report (above_slots number most slots numbers ∷ cs) asked ≡ report (above_slots number ports slots loads ∷ cs) asked
above_same number ports most slots loads numbers room each none =
    check_same ports most (λ _. slots) loads numbers room each none (of_port number)

-- ---- 24, decided from the loads of the links of so many outputs and their limits
-- what it carries of a link and its load
abbrev of_link : ℕ → ℕ → List ℕ
of_link x cells = 24 ∷ suc (output_of x) ∷ suc (x % 4) ∷ cells ∷ []

-- the search finds a link, which is carried by its output and its place there, with its load, or none
module _ (ports : ℕ) (limits : List ℕ) (loads : ℕ → ℕ) (x : ℕ) (is : x ≡ lowest_past ports limits loads) where
  pub past_found : x < ports * 4 → above_limits ports limits loads ≡ (true, 24 ∷ (output_of x + 1) ∷ (x % 4 + 1) ∷ loads x ∷ [])
  past_found l =
      rw (add-one (output_of x), add-one (x % 4)) (check_found (ports * 4) (λ y. get_or limits y 0) loads of_link x is l)

  pub past_none : ports * 4 ≤ x → (above_limits ports limits loads).0 ≡ false
  past_none l = check_none (ports * 4) (λ y. get_or limits y 0) loads of_link x is l

-- the links of more outputs decide the same, if each link's number is its load and those of no link are 0
pub past_same : (ports most : ℕ) (limits : List ℕ) (loads numbers : ℕ → ℕ) → ports ≤ most
    → ((x : ℕ) → x < ports * 4 → numbers x ≡ loads x) → ((x : ℕ) → ports * 4 ≤ x → numbers x ≡ 0) → (cs : List Check) (asked : List ℕ)
    → report (above_limits most limits numbers ∷ cs) asked ≡ report (above_limits ports limits loads ∷ cs) asked
past_same ports most limits loads numbers room each none =
    check_same (ports * 4) (most * 4) (λ y. get_or limits y 0) loads numbers (omega arith) each none of_link

-- ---- the ports of a kind
module _ (number : ℕ) (kind : ℕ → Class) (ports slots : ℕ) (list : List ℕ) where
  abbrev loads : ℕ → ℕ
  loads x = load (kind x) list

  -- the lowest port above slots is reported, with its load
  pub over_reported : (x : ℕ) → Over kind ports slots list x → overload number kind ports slots list ≡ (true, number ∷ suc x ∷ load (kind x) list ∷ [])
  over_reported x o = check_found ports (λ _. slots) loads (of_port number) x (lowest_is ports (λ _. slots) loads x o) o.low

  -- the check tells whether the ports are light
  pub overload_tells : Tells (overload number kind ports slots list) (Light kind ports slots list)
  overload_tells = under_tells ports (λ _. slots) loads _

  -- one port is the lowest above slots, or all are light
  pub by_over : {P : Type 0} → ((x : ℕ) → Over kind ports slots list x → P) → (Light kind ports slots list → P) → P
  by_over over light = by_above ports (λ _. slots) loads over light

-- ---- the links
module _ (ports : ℕ) (list limits : List ℕ) where
  abbrev limit_of : ℕ → ℕ
  limit_of x = get_or limits x 0

  abbrev link_load : ℕ → ℕ
  link_load x = load (link x) list

  -- the lowest link above its limit is reported, with its load
  pub link_reported : (x : ℕ) → Past ports list limits x
      → link_overload ports list limits ≡ (true, 24 ∷ suc (output_of x) ∷ suc (x % 4) ∷ load (link x) list ∷ [])
  link_reported x o = check_found (ports * 4) limit_of link_load of_link x (lowest_is (ports * 4) limit_of link_load x o) o.low

  -- the check tells whether the limits allow the loads
  pub limits_tell : Tells (link_overload ports list limits) (Allows ports list limits)
  limits_tell = under_tells (ports * 4) limit_of link_load _

  -- one link is the lowest above its limit, or the limits allow the loads
  pub by_past : {P : Type 0} → ((x : ℕ) → Past ports list limits x → P) → (Allows ports list limits → P) → P
  by_past over allows = by_above (ports * 4) limit_of link_load over allows

-- limits of slots each allow loads of no more
pub each_allows : (ports slots : ℕ) (list : List ℕ) → ports ≤ 16 → ((x : ℕ) → x < ports * 4 → load (link x) list ≤ slots)
    → Allows ports list (slots_each slots)
each_allows ports slots list rack under x h = rw (get_or-replicate 64 x slots 0 (omega arith)) (under x h)

-- ---- limits of slots each, as the sheet has them
module _ (ports slots : ℕ) (list : List ℕ) (rack : ports ≤ 16) where
  -- they allow the loads of a list whose outputs are light
  pub slots_allow : Light (port_on output) ports slots list → Allows ports list (slots_each slots)
  slots_allow light =
      each_allows ports slots list rack
      (λ x h. omega (arith, link_under x (port_of list) (counts_of list), light (output_of x) (output_low ports x h)))

  -- so a list is answered as 5 and 6 alone do
  pub slots_report : (asked : List ℕ)
      → report (overloads ports slots list (slots_each slots)) asked ≡ report (port_overloads ports slots list) asked
  slots_report asked =
      let five = overload 5 (port_on input) ports slots list in
      let six = overload 6 (port_on output) ports slots list in
      by_bool six.0 (λ e. by_bool five.0 (λ d. rw d) (λ d. rw (d, e)))
      (λ e.
      let allows = slots_allow ((overload_tells 6 (port_on output) ports slots list).known e) in
      by_bool five.0 (λ d. rw d) (λ d. rw (d, e, (limits_tell ports list (slots_each slots)).met allows)))
