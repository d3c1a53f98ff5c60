-- The cells of a class by the flows that the entries are.
use Prim.Native.Nat.{ℕ, ◌+◌, ◌*◌, ◌%◌, ◌≤◌, ◌<◌}
use mathlib.Core.Path.{◌≡◌, refl, ap, ◌∙◌}
use mathlib.Core.List.{List, [], ◌++◌}
use mathlib.Core.Bool.{true}
use native.Mathlib.Omega.{arith}
use native.Mathlib.Nat.{mul-le-mul_right, mul-add-mod_self_right}
use lib.ListN.{length, get_or, drop, length-append, get_or-append}
use lib.Seq.{get_or-append-add, get_or-take, get_or-drop}
use Rattle.rules.specs.Words.{bit, sum_to}
use Rattle.rules.specs.Flows.{Side, Class}
use Rattle.rules.specs.Frames.{is_flow_of, right_on, cells_on, run_of}
use Rattle.rules.proofs.Sums.{sum_ext, sum_append}
use Rattle.rules.proofs.Flows.{right_counts}
use Rattle.rules.proofs.Cells.{run_append, run_length}
use Rattle.tally.specs.Tally.{flow_cells}

-- ---- entries end to end
module _ (list : List ℕ) (c : Class) where
  pub flow_none : flow_cells list c [] ≡ 0
  unfolding flow_cells sum_to
  flow_none = refl

  pub flow_append : (v w : List ℕ) → flow_cells list c (v ++ w) ≡ flow_cells list c v + flow_cells list c w
  unfolding flow_cells
  flow_append v w =
      let f : ℕ → ℕ = λ q. bit (is_flow_of c list (get_or (v ++ w) q 0)) in
      ap (λ z. sum_to z f) (length-append v w)
      ∙ sum_append (length v) (length w) f
      ∙ ap (λ z. z + sum_to (length w) (λ t. f (length v + t))) (sum_ext (length v) f _ (λ q h. ap (λ b. bit (is_flow_of c list b)) (get_or-append v w 0 q h)))
      ∙ ap (λ z. flow_cells list c v + z) (sum_ext (length w) (λ t. f (length v + t)) _ (λ q h. ap (λ b. bit (is_flow_of c list b)) (get_or-append-add v w q 0)))

  pub flow_run : (ports start a b : ℕ) (entries : List ℕ)
      → flow_cells list c (run_of ports start (a + b) entries) ≡ flow_cells list c (run_of ports start a entries) + flow_cells list c (run_of ports (start + a) b entries)
  flow_run ports start a b entries =
      ap (flow_cells list c) (run_append ports start a b entries) ∙ flow_append (run_of ports start a entries) (run_of ports (start + a) b entries)

-- ---- where no entry is wrong, the cells of a class in a run are those by the flows
module _ (side : Side) (ports slots : ℕ) (list entries : List ℕ) (size : length entries ≡ slots * ports)
    (each : (q : ℕ) → q < length entries → right_on side list (q % ports) (get_or entries q 0) ≡ true) where
  right_run : (start len q : ℕ) → q < len * ports → start * ports + q < length entries → right_on side list (q % ports) (get_or (run_of ports start len entries) q 0) ≡ true
  unfolding run_of
  right_run start len q k l =
      rw (get_or-take (len * ports) (drop (start * ports) entries) q 0 k, get_or-drop (start * ports) entries q 0)
      (rw (mul-add-mod_self_right start ports q) at (each (start * ports + q) l))

  pub cells_by_flow : (c : Class) (start len : ℕ) → start + len ≤ slots → cells_on side ports list c (run_of ports start len entries) ≡ flow_cells list c (run_of ports start len entries)
  unfolding cells_on flow_cells
  cells_by_flow c start len h =
      let m = mul-le-mul_right {m = start + len} {n = slots} ports h in
      let long = run_length ports start len entries (omega arith) in
      sum_ext (length (run_of ports start len entries)) _ _
      (λ q k. ap bit (right_counts side list c (q % ports) (get_or (run_of ports start len entries) q 0) (right_run start len q (omega arith) (omega arith))))
