-- The rules' frame of a list: what demand 2 says of it.
use Rattle.std.specs.Prelude.{ℕ, ◌^◌, ◌≡◌, List}
use Rattle.rules.specs.Flows.{port_of, counts_of}
use Rattle.rules.specs.Frames.{Legal, Balanced}
use Rattle.rules.specs.Rules.{Scheduled}

-- The entries are the frame of 2 ^ k slots that the rules fix: they meet the rules, nothing else does, and they are legal and balanced.
pub record OneFrame (ports k : ℕ) (list entries : List ℕ) : Type 0 where
  pub meets : Scheduled ports (port_of list) k (counts_of list) entries
  pub only : (other : List ℕ) → Scheduled ports (port_of list) k (counts_of list) other → other ≡ entries
  pub legal : Legal ports (2 ^ k) list entries
  pub balanced : Balanced ports (2 ^ k) list entries
