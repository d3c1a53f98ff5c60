-- Build: its answer, and the entries that it leaves.
use Rattle.std.specs.Prelude.{ℕ, ◌≡◌, List, [], ◌∷◌, ◌++◌, Bool, true, get_or, Result, Ok, Err}
use Rattle.rules.specs.Words.{if}
use Rattle.rules.specs.Flows.{port_of, counts_of}
use Rattle.calls.specs.Refusals.{Check, report, none_holds, refusal, list_checks, bad_frame, overloads}
use Rattle.rules.specs.Frames.{levels}
use Rattle.rules.specs.Schedule.{frame_of}
use Rattle.calls.specs.Work.{work}
use Rattle.calls.specs.declared.Refusal.{Refusal}

-- Build: 1, 2, 3, 21, 22, 23, 4, 5, 6, 24.
unfoldable pub build_checks : ℕ → ℕ → List ℕ → List ℕ → List ℕ → List Check
build_checks ports slots list limits buffer = list_checks ports slots list ++ (bad_frame ports slots buffer ∷ overloads ports slots list limits)

abbrev pub build_accepts : ℕ → ℕ → List ℕ → List ℕ → List ℕ → Bool
build_accepts ports slots list limits buffer = none_holds (build_checks ports slots list limits buffer)

-- The rules' frame of a list.
abbrev pub frame_for : ℕ → ℕ → List ℕ → List ℕ
frame_for ports slots list = frame_of ports (port_of list) (levels slots) (counts_of list)

-- The entries that Build leaves: the rules' frame where it accepts, and those that it was lent where it refuses.
abbrev pub frame_after : ℕ → ℕ → List ℕ → List ℕ → List ℕ → List ℕ
frame_after ports slots list limits buffer = if (build_accepts ports slots list limits buffer) (frame_for ports slots list) buffer

-- An answer as numbers: acceptance's is 0 and then the odd counts settled, a refusal's its own numbers.
abbrev pub outcome : Result ℕ Refusal → List ℕ
outcome (Ok settled) = 0 ∷ settled ∷ []
outcome (Err r) = refusal r

-- Build's acceptance: the odd counts settled are those of the frame that it leaves.
abbrev pub acceptance : ℕ → ℕ → List ℕ → List ℕ → List ℕ → List ℕ
acceptance ports slots list limits buffer = 0 ∷ work ports slots list (frame_after ports slots list limits buffer) ∷ []

abbrev pub built : ℕ → ℕ → List ℕ → List ℕ → List ℕ → List ℕ
built ports slots list limits buffer = report (build_checks ports slots list limits buffer) (acceptance ports slots list limits buffer)

-- A call is accepted exactly where the number of its answer is 0.
abbrev pub AcceptedWith0 : Type 0
AcceptedWith0 =
    (ports slots : ℕ) (list limits buffer : List ℕ)
    → (build_accepts ports slots list limits buffer ≡ true → get_or (built ports slots list limits buffer) 0 0 ≡ 0)
    × (get_or (built ports slots list limits buffer) 0 0 ≡ 0 → build_accepts ports slots list limits buffer ≡ true)
