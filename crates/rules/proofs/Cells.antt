-- Cells: those of whole slots end to end add up, and runs of what is put end to end are runs of its parts.
use Prim.Native.Nat.{ℕ, ◌+◌, ◌*◌, ◌%◌, ◌≤◌}
use mathlib.Core.Path.{◌≡◌, refl, ap, ◌∙◌}
use mathlib.Core.List.{List, [], ◌++◌}
use native.Mathlib.Omega.{arith}
use native.Mathlib.Nat.{mul-le-mul_right, mul-add-mod_self_right, mod-eq_of_lt}
use lib.ListN.{length, get_or, drop, length-append, length-take, length-drop, get_or-append}
use lib.Seq.{get_or-append-add, take-add, drop-drop, take_all, take-append-le, drop-append-le, drop-append-add}
use Rattle.rules.specs.Words.{bit, sum_to}
use Rattle.rules.specs.Flows.{Side, Class}
use Rattle.rules.specs.Frames.{counts_on, cells_on, run_of}
use Rattle.rules.proofs.Sums.{sum_ext, sum_append}

module _ (side : Side) (ports : ℕ) (list : List ℕ) where
  pub cells_append : (c : Class) (n : ℕ) (v w : List ℕ) → length v ≡ n * ports → cells_on side ports list c (v ++ w) ≡ cells_on side ports list c v + cells_on side ports list c w
  unfolding cells_on
  cells_append c n v w e =
      let f : ℕ → ℕ = λ q. bit (counts_on side c list (q % ports) (get_or (v ++ w) q 0)) in
      ap (λ z. sum_to z f) (length-append v w)
      ∙ sum_append (length v) (length w) f
      ∙ ap (λ z. z + sum_to (length w) (λ t. f (length v + t))) (sum_ext (length v) f _ (λ q h. ap (λ b. bit (counts_on side c list (q % ports) b)) (get_or-append v w 0 q h)))
      ∙ ap (λ z. cells_on side ports list c v + z) (sum_ext (length w) (λ t. f (length v + t)) _ (λ q h.
      let k : (length v + q) % ports ≡ q % ports = ap (λ z. (z + q) % ports) e ∙ mul-add-mod_self_right n ports q in
      ap (λ z. bit (counts_on side c list z (get_or (v ++ w) (length v + q) 0))) k ∙ ap (λ b. bit (counts_on side c list (q % ports) b)) (get_or-append-add v w q 0)))

  pub cells_none : (c : Class) → cells_on side ports list c [] ≡ 0
  unfolding cells_on sum_to
  cells_none c = refl

  -- the entries of one slot are those of its inputs in turn
  pub cells_slot : (c : Class) (slot : List ℕ) → length slot ≡ ports → cells_on side ports list c slot ≡ sum_to ports (λ i. bit (counts_on side c list i (get_or slot i 0)))
  unfolding cells_on
  cells_slot c slot e =
      ap (λ n. sum_to n (λ q. bit (counts_on side c list (q % ports) (get_or slot q 0)))) e
      ∙ sum_ext ports _ _ (λ q h. ap (λ x. bit (counts_on side c list x (get_or slot q 0))) (mod-eq_of_lt h))

module _ (ports : ℕ) where
  pub run_append : (start a b : ℕ) (entries : List ℕ) → run_of ports start (a + b) entries ≡ run_of ports start a entries ++ run_of ports (start + a) b entries
  unfolding run_of
  run_append start a b entries =
      let e : (a + b) * ports ≡ a * ports + b * ports = omega arith in
      let f : (start + a) * ports ≡ start * ports + a * ports = omega arith in
      rw (e, f, take-add (a * ports) (b * ports) (drop (start * ports) entries), drop-drop (a * ports) (start * ports) entries)

  pub run_none : (start : ℕ) (entries : List ℕ) → run_of ports start 0 entries ≡ []
  unfolding run_of
  run_none start entries = let e : 0 * ports ≡ 0 = omega arith in rw e

  pub run_length : (start len : ℕ) (entries : List ℕ) → (start + len) * ports ≤ length entries → length (run_of ports start len entries) ≡ len * ports
  unfolding run_of
  run_length start len entries h = simp (length-take, length-drop) (omega arith)

  pub run_all : (n : ℕ) (entries : List ℕ) → length entries ≡ n * ports → run_of ports 0 n entries ≡ entries
  unfolding run_of
  run_all n entries e = let z : 0 * ports ≡ 0 = omega arith in rw z (take_all (n * ports) entries (omega arith))

  pub run_first : (n start len : ℕ) (v w : List ℕ) → length v ≡ n * ports → start + len ≤ n → run_of ports start len (v ++ w) ≡ run_of ports start len v
  unfolding run_of
  run_first n start len v w e h =
      let k = mul-le-mul_right ports h in
      rw (drop-append-le (start * ports) v w (omega arith)) (take-append-le (len * ports) (drop (start * ports) v) w (simp length-drop (omega arith)))

  pub run_second : (n start len : ℕ) (v w : List ℕ) → length v ≡ n * ports → run_of ports (n + start) len (v ++ w) ≡ run_of ports start len w
  unfolding run_of
  run_second n start len v w e =
      let f : (n + start) * ports ≡ length v + start * ports = omega arith in
      rw (f, drop-append-add v w (start * ports))

module _ (side : Side) (ports : ℕ) (list : List ℕ) where
  -- the cells of a run that is two runs end to end
  pub cells_run : (c : Class) (start a b : ℕ) (entries : List ℕ) → (start + a) * ports ≤ length entries
      → cells_on side ports list c (run_of ports start (a + b) entries) ≡ cells_on side ports list c (run_of ports start a entries) + cells_on side ports list c (run_of ports (start + a) b entries)
  cells_run c start a b entries h =
      ap (cells_on side ports list c) (run_append ports start a b entries)
      ∙ cells_append side ports list c a (run_of ports start a entries) (run_of ports (start + a) b entries) (run_length ports start a entries h)
