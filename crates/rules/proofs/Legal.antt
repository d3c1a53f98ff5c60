-- Legal frames: what is exact for each flow is exact for each input, output and link and for the total.
use Prim.Native.Nat.{ℕ}
use mathlib.Core.Path.{◌≡◌, ◌∙◌}
use mathlib.Core.List.{List}
use Rattle.rules.specs.Flows.{port_of, counts_of, Class, load, input}
use Rattle.rules.specs.Frames.{cells, Legal}
use Rattle.rules.proofs.Halves.{load_flow}
use Rattle.rules.proofs.Flows.{counts_length, exact_all}

pub legal_exact : {ports slots : ℕ} {list entries : List ℕ} → Legal ports slots list entries → (c : Class) → cells c ports list entries ≡ load c list
legal_exact {ports} {slots} {list} {entries} legal =
    exact_all input ports list entries legal.each_right (counts_of list) (counts_length list)
    (λ f h. legal.exact f h ∙ load_flow f (port_of list) (counts_of list))
