-- The numbers of an answer are those of any that equals it.
use Prim.Native.Nat.{ℕ}
use mathlib.Core.Path.{◌≡◌, subst, ◌∙◌}
use lib.IntN.{ℤ}
use Rattle.calls.specs.Service.{Reply}
use Rattle.numbers.specs.Numbers.{Replied}

pub replied_of : {a b : Reply} {number cells : ℕ} {lead read : ℤ} → Replied a number cells lead → a ≡ b → read ≡ lead → Replied b number cells read
replied_of {number = n} {cells = c} {read = z} t e r =
    subst (λ (reply : Reply). Replied reply n c z) e (record { number_is = t.number_is; cells_is = t.cells_is; lead_is = r ∙ t.lead_is })
