-- Admit, where the list is refused, and where it goes on to its loads.
use Prim.Native.Nat.{ℕ}
use mathlib.Core.Path.{◌≡◌, refl, sym, ◌∙◌}
use mathlib.Core.List.{List}
use Rattle.std.specs.Prelude.{Result, ⊤}
use Rattle.calls.specs.Refusals.{refusal, answered, report, accepted, list_checks, overloads, admitted}
use Rattle.calls.specs.declared.Refusal.{Refusal}
use Rattle.checks.specs.Fits.{Clear}
use Rattle.checks.proofs.Listed.{list_refused, list_fits}
use Rattle.checks.proofs.Framed.{after_list}
use Rattle.admission.specs.declared.Loads.{Loads}
use Rattle.admission.specs.Overloads.{EveryLoad, decided}
use Rattle.admission.proofs.Deciding.{decided_loads}

module _ (ports slots : ℕ) (list limits : List ℕ) where
  pub admit_refused : (x : Refusal) → refusal x ≡ report (list_checks ports slots list) accepted → refusal x ≡ admitted ports slots list limits
  unfolding admitted
  admit_refused x e = list_refused ports slots list x e (overloads ports slots list limits) accepted

  pub admit_decided : {p s : ℕ} {l : List ℕ} {loads : Loads} → (p ≡ ports) × (s ≡ slots) × (l ≡ list) → Clear p s l → EveryLoad p l loads → (a : Result ⊤ Refusal) → answered a ≡ decided slots loads limits → answered a ≡ admitted ports slots list limits
  unfolding admitted
  admit_decided {p} {s} {l} {loads} e c every a d =
      d ∙ decided_loads slots loads limits (list_fits c) every ∙ sym (after_list c (overloads p slots l limits) accepted)
      ∙ rw (e.0, e.1, e.2) refl
