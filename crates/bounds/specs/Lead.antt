-- The lead of a frame that Build made: how far from zero it can be.
use Rattle.std.specs.Prelude.{ℕ, ◌+◌, ◌*◌, ◌^◌, ◌≤◌, ◌≡◌, List, true, pos, ◌-ℤ◌, nat_abs}
use Rattle.rules.specs.Flows.{Class, OnSwitch, load, input}
use Rattle.rules.specs.Frames.{cells, repeated}
use Rattle.calls.specs.Build.{build_accepts, frame_after}
use Rattle.calls.specs.Service.{lead, service}
use Rattle.strays.specs.Stray.{stray}
use Rattle.strays.specs.Deviation.{repeat_deviation}
use Rattle.calls.specs.declared.Who.{Who}

-- The lead of a run of a frame of 2 ^ k slots and a list, the frame repeating for ever.
pub record Led (c : Class) (ports slots k : ℕ) (list entries : List ℕ) (start len : ℕ) : Type 0 where
  -- Three times its distance from zero is at most (2k + 1) × slots,
  pub near : 3 * nat_abs (lead c ports slots list entries start len) ≤ (2 * k + 1) * slots
  -- the distance is at most twice the stray of the load,
  pub by_load : nat_abs (lead c ports slots list entries start len) ≤ 2 * stray k (load c list)
  -- and, whatever the load, no more than one frame that repeats may be off.
  pub repeats : nat_abs (lead c ports slots list entries start len) ≤ repeat_deviation k
  -- What one frame holds is what was reserved, and slots × the share of a run is its length × the load: so the lead is
  -- slots × (cells − share).
  pub from_share : lead c ports slots list entries start len ≡ pos (slots * cells c ports list (repeated ports slots entries start len)) -ℤ pos (len * load c list)
  -- Whole turns of the frame, none too, are neither ahead nor behind.
  pub turns : (w : ℕ) → len ≡ w * slots → lead c ports slots list entries start len ≡ pos 0

-- What an accepted Build leaves, counted with what Build was given: for every flow, input, output and link and for the total, from
-- every slot on and for every length, of no limit.
abbrev pub BuiltLead : Type 0
BuiltLead =
    (ports slots : ℕ) (list limits buffer : List ℕ) → build_accepts ports slots list limits buffer ≡ true → (k : ℕ) → slots ≡ 2 ^ k
    → (c : Class) → OnSwitch ports c → (start len : ℕ) → Led c ports slots k list (frame_after ports slots list limits buffer) start len

-- So Service count answers no lead farther from zero than that, whatever is asked of it.
abbrev pub AnsweredLead : Type 0
AnsweredLead =
    (ports slots : ℕ) (list limits buffer : List ℕ) → build_accepts ports slots list limits buffer ≡ true → (k : ℕ) → slots ≡ 2 ^ k
    → (who : Who) (start len : ℕ) → 3 * nat_abs (service input ports slots list (frame_after ports slots list limits buffer) who start len).ahead ≤ (2 * k + 1) * slots
