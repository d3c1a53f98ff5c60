-- Replies: Service count's answer where a condition holds, and where none does.
use Prim.Native.Nat.{ℕ, ◌-◌}
use mathlib.Core.Path.{◌≡◌, sym, ap, ◌∙◌}
use mathlib.Core.Logic.{◌≢◌}
use mathlib.Core.List.{List, [], ◌∷◌}
use mathlib.Core.Bool.{Bool, true, not}
use native.Mathlib.Omega.{arith}
use lib.IntN.{ℤ, pos}
use lib.ListN.{get_or}
use borrow.Author.Tests.{not-true, not-false}
use Rattle.rules.specs.Words.{if}
use Rattle.rules.specs.Flows.{Side, OnSwitch}
use Rattle.rules.specs.Frames.{cells_on, repeated}
use Rattle.calls.specs.Refusals.{Check, report, none_holds, list_checks, bad_frame, bad_slot}
use Rattle.calls.specs.Service.{class_of, who_within, bad_who, bad_length, lead_on, Reply, count_checks, service}
use Rattle.calls.specs.declared.Who.{Who}
use Rattle.calls.specs.declared.Who.TheVariants.{Flow, Input, Output}
use Rattle.rules.proofs.Cases.{by_bool, both_true, within_true}
use Rattle.calls.proofs.Reports.{report_clear, clear_parts}

module _ (side : Side) (ports slots : ℕ) (list entries : List ℕ) (who : Who) (start len : ℕ) where
  abbrev checks : List Check
  checks = count_checks ports slots list entries who start len

  -- the numbers that are asked for, and the lead
  abbrev pub count : List ℕ
  count = 0 ∷ cells_on side ports list (class_of who) (repeated ports slots entries (start - 1) len) ∷ []

  abbrev pub count_lead : ℤ
  count_lead = lead_on side (class_of who) ports slots list entries (start - 1) len

  reply_is : {numbers : List ℕ} {b : Bool} → none_holds checks ≡ b → report checks count ≡ numbers
      → ◌≡◌ {A = Reply} (record { numbers = numbers; ahead = if b count_lead (pos 0) }) (service side ports slots list entries who start len)
  unfolding service
  reply_is c n = rw (c, n)

  -- numbers that begin with another than 0 are a refusal's, and have lead 0
  pub reply_refused : {numbers : List ℕ} → report checks count ≡ numbers → get_or numbers 0 0 ≢ 0
      → ◌≡◌ {A = Reply} (record { numbers = numbers; ahead = pos 0 }) (service side ports slots list entries who start len)
  reply_refused e n =
      by_bool (none_holds checks)
      (λ c. absurd (n (ap (λ (l : List ℕ). get_or l 0 0) (sym e ∙ report_clear checks count c))))
      (λ c. reply_is c e)

  pub reply_counted : none_holds checks ≡ true → ◌≡◌ {A = Reply} (record { numbers = count; ahead = count_lead }) (service side ports slots list entries who start len)
  reply_counted c = reply_is c (report_clear checks count c)

-- ---- whom a count is for
-- whom a count that is not refused is for is of the switch
pub who_of : (ports : ℕ) (list : List ℕ) (who : Who) → who_within ports list who ≡ true → OnSwitch ports (class_of who)
who_of ports list (Flow f) e = tt
who_of ports list (Input i) e = let x = within_true 1 ports i e in omega (arith, x.0, x.1)
who_of ports list (Output o) e = let x = within_true 1 ports o e in omega (arith, x.0, x.1)

pub clear_who : (ports slots : ℕ) (list entries : List ℕ) (who : Who) (start len : ℕ) → none_holds (count_checks ports slots list entries who start len) ≡ true
    → who_within ports list who ≡ true
unfolding count_checks
clear_who ports slots list entries who start len e =
    let a = clear_parts (list_checks ports slots list) (bad_frame ports slots entries ∷ bad_slot slots start ∷ bad_who ports list who ∷ bad_length len ∷ []) e in
    let b = both_true (not (bad_frame ports slots entries).0) _ a.1 in
    let c = both_true (not (bad_slot slots start).0) _ b.1 in
    let d = both_true (not (bad_who ports list who).0) _ c.1 in
    not-false (who_within ports list who) (not-true _ d.0)
