-- What a frame that passes its check gives, a refusal of one in a call that has others after it, and the entries of a slot.
use Prim.Native.Nat.{ℕ, ◌+◌, ◌-◌, ◌*◌, ◌<◌}
use mathlib.Core.Path.{◌≡◌, sym, ap, ◌∙◌}
use mathlib.Core.List.{List, [], ◌∷◌, ◌++◌}
use native.Mathlib.Omega.{arith}
use lib.ListN.{length, take, drop}
use Rattle.rules.specs.Frames.{levels, run_of}
use Rattle.rules.proofs.Levels.{known_power, power_level}
use Rattle.calls.specs.Refusals.{Check, report, refusal, accepted, list_checks, bad_frame}
use Rattle.calls.specs.declared.Refusal.{Refusal}
use Rattle.calls.proofs.Reports.{report_stops, report_then}
use Rattle.checks.specs.declared.frames.FrameOfFlows.{FrameOfFlows}
use Rattle.checks.specs.Fits.{Clear, ListFits, FrameFits, EachFlow, FlowFrame}
use Rattle.checks.proofs.Listed.{list_well}

pub frame_fits : {ports slots : ℕ} {list entries : List ℕ} → ListFits ports list → levels slots < 11 → length entries ≡ slots * ports → FrameFits ports slots entries
frame_fits {slots = slots} l p e = record { most = l.most; power = known_power slots (omega (arith, p)); size = e }

pub flow_frame : {ports slots : ℕ} {list entries : List ℕ} → ListFits ports list → levels slots < 11 → length entries ≡ slots * ports → EachFlow list entries
    → FlowFrame ports slots list entries
flow_frame l p e f = record { listed = l; framed = frame_fits l p e; each_flow = f }

pub of_flows : (f : FrameOfFlows) → FlowFrame f.frame.of.ports f.frame.of.slots f.frame.of.list.now f.frame.entries.now
of_flows f = flow_frame f.frame.of.fits f.frame.power f.frame.size f.each_flow

-- slots of a list that passes
pub clear_power : {ports slots : ℕ} {list : List ℕ} → Clear ports slots list → levels slots < 11
clear_power {slots = slots} c = let p = (list_well c).power in omega (arith, power_level p, p.most)

-- the checks after those of a list that passes decide alone
pub after_list : {ports slots : ℕ} {list : List ℕ} → Clear ports slots list → (cs : List Check) (asked : List ℕ) → report (list_checks ports slots list ++ cs) asked ≡ report cs asked
after_list {ports} {slots} {list} c cs asked = report_then (list_checks ports slots list) cs asked c.none

pub frame_refused : {ports slots : ℕ} {list : List ℕ} (entries : List ℕ) → Clear ports slots list → (x : Refusal) → refusal x ≡ report (bad_frame ports slots entries ∷ []) accepted
    → (cs : List Check) (asked : List ℕ) → refusal x ≡ report (list_checks ports slots list ++ (bad_frame ports slots entries ∷ cs)) asked
frame_refused {ports} {slots} {list} entries c x e cs asked =
    report_stops (bad_frame ports slots entries ∷ []) cs asked x e ∙ sym (after_list c (bad_frame ports slots entries ∷ cs) asked)

pub slot_is_run : (ports s : ℕ) (entries : List ℕ) → take (s * ports + ports - s * ports) (drop (s * ports) entries) ≡ run_of ports s 1 entries
unfolding run_of
slot_is_run ports s entries = ap (λ (n : ℕ). take n (drop (s * ports) entries)) (omega arith)
