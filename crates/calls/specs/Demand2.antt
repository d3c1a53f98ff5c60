-- Demand 2: a well-formed load is refused as overloaded if and only if some input or output is asked for more cells than the frame has
-- slots, or some link for more than its limit; every other one gets the frame that the rules fix.
use Rattle.std.specs.Prelude.{ℕ, suc, ◌*◌, ◌%◌, ◌^◌, ◌≤◌, ◌<◌, ◌≡◌, List, [], ◌∷◌, true, false, length, get_or}
use Rattle.rules.specs.Words.{Within}
use Rattle.rules.specs.Flows.{stride, flows, number_of, End, place_of, output_of, port_of, counts_of, Class, port_on, input, output, link, load, Fits}
use Rattle.rules.specs.Frames.{levels, Power}
use Rattle.rules.specs.OneFrame.{OneFrame}
use Rattle.calls.specs.Refusals.{accepted, admitted}
use Rattle.calls.specs.Build.{acceptance, built, build_accepts, frame_after}

-- The ports of each flow are 1 to ports, and its link is 1 to 4.
abbrev pub Ported : ℕ → List ℕ → Type 0
Ported ports list = (s : End) (f : ℕ) → f < flows list → Within 1 ports (number_of (place_of s) list f)

abbrev pub Linked : List ℕ → Type 0
Linked list = (f : ℕ) → f < flows list → Within 1 4 (number_of 3 list f)

-- Well-formed: none of the refusals before 5 holds.
pub record WellFormed (ports slots : ℕ) (list : List ℕ) : Type 0 where
  pub rack : Within 1 16 ports
  pub power : Power slots
  pub whole : length list % stride ≡ 0
  pub few : flows list ≤ 512
  pub ported : Ported ports list
  pub linked : Linked list

-- No place has a load above its bound.
abbrev pub Under : ℕ → (ℕ → ℕ) → (ℕ → ℕ) → Type 0
Under n bound loads = (x : ℕ) → x < n → loads x ≤ bound x

-- Place x is the lowest whose load is above its bound.
pub record Above (n : ℕ) (bound loads : ℕ → ℕ) (x : ℕ) : Type 0 where
  pub low : x < n
  pub above : bound x < loads x
  pub lower : (y : ℕ) → y < x → loads y ≤ bound y

-- No port of a kind has a load above slots.
abbrev pub Light : (ℕ → Class) → ℕ → ℕ → List ℕ → Type 0
Light kind ports slots list = Under ports (λ _. slots) (λ x. load (kind x) list)

-- Port x is the lowest of its kind whose load is above slots.
abbrev pub Over : (ℕ → Class) → ℕ → ℕ → List ℕ → ℕ → Type 0
Over kind ports slots list x = Above ports (λ _. slots) (λ x. load (kind x) list) x

-- No link has a load above its limit.
abbrev pub Allows : ℕ → List ℕ → List ℕ → Type 0
Allows ports list limits = Under (ports * 4) (λ x. get_or limits x 0) (λ x. load (link x) list)

-- Link x is the lowest whose load is above its limit.
abbrev pub Past : ℕ → List ℕ → List ℕ → ℕ → Type 0
Past ports list limits x = Above (ports * 4) (λ x. get_or limits x 0) (λ x. load (link x) list) x

-- What Admit, and Build lent a frame of the right size, answer to a well-formed load, where acceptance is `taken`.
pub record OverloadAnswers (ports slots : ℕ) (list limits taken given : List ℕ) : Type 0 where
  -- accepted exactly where it fits and the limits allow it
  pub accepts : Fits ports slots (port_of list) (counts_of list) → Allows ports list limits → given ≡ taken
  pub fits : get_or given 0 0 ≡ 0 → Fits ports slots (port_of list) (counts_of list)
  pub allowed : get_or given 0 0 ≡ 0 → Allows ports list limits
  -- 5 with the lowest input that is asked for more, and its load
  pub input_over : (x : ℕ) → Over (port_on input) ports slots list x → given ≡ 5 ∷ suc x ∷ load (port_on input x) list ∷ []
  -- 6, where no input is, with the lowest output that is asked for more, and its load
  pub output_over : Light (port_on input) ports slots list → (x : ℕ) → Over (port_on output) ports slots list x → given ≡ 6 ∷ suc x ∷ load (port_on output x) list ∷ []
  -- 24, where no port is, with the lowest link that is asked for more, by its output and its number there, and its load
  pub link_over : Light (port_on input) ports slots list → Light (port_on output) ports slots list → (x : ℕ) → Past ports list limits x
      → given ≡ 24 ∷ suc (output_of x) ∷ suc (x % 4) ∷ load (link x) list ∷ []

-- What Build accepts: a well-formed load that fits, limits that allow it, and a frame of the right size.
pub record Accepts (ports slots : ℕ) (list limits buffer : List ℕ) : Type 0 where
  pub well : WellFormed ports slots list
  pub size : length buffer ≡ slots * ports
  pub fits : Fits ports slots (port_of list) (counts_of list)
  pub allowed : Allows ports list limits

-- Demand 2, of every call of Admit and of Build.
pub record Demand2 : Type 0 where
  pub admit : (ports slots : ℕ) (list : List ℕ) → WellFormed ports slots list → (limits : List ℕ)
      → OverloadAnswers ports slots list limits accepted (admitted ports slots list limits)
  pub build : (ports slots : ℕ) (list : List ℕ) → WellFormed ports slots list → (limits buffer : List ℕ) → length buffer ≡ slots * ports
      → OverloadAnswers ports slots list limits (acceptance ports slots list limits buffer) (built ports slots list limits buffer)
  -- Build accepts exactly where the load is well-formed and fits, the limits allow it, and the frame has its size
  pub accepts : (ports slots : ℕ) (list limits buffer : List ℕ) → Accepts ports slots list limits buffer
      → build_accepts ports slots list limits buffer ≡ true
  pub accepted_only : (ports slots : ℕ) (list limits buffer : List ℕ) → build_accepts ports slots list limits buffer ≡ true
      → Accepts ports slots list limits buffer
  -- and then leaves the frame that the rules fix, which is legal and balanced
  pub frame : (ports slots : ℕ) (list limits buffer : List ℕ) → build_accepts ports slots list limits buffer ≡ true
      → OneFrame ports (levels slots) list (frame_after ports slots list limits buffer) × (slots ≡ 2 ^ levels slots)
  -- and else the entries that it was lent
  pub keeps : (ports slots : ℕ) (list limits buffer : List ℕ) → build_accepts ports slots list limits buffer ≡ false
      → frame_after ports slots list limits buffer ≡ buffer
