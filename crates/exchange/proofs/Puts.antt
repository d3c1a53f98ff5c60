-- Entries put at the places of a frame.
use Prim.Native.Nat.{ℕ, ◌+◌, ◌*◌, ◌/◌, ◌%◌, ◌<◌}
use mathlib.Core.Path.{◌≡◌, sym, ap, ◌∙◌}
use mathlib.Core.Logic.{◌≢◌}
use mathlib.Core.List.{List}
use native.Mathlib.Omega.{arith}
use lib.Arith.{digits_div, digits_mod, digits_lt}
use lib.ListN.{length, length-set}
use lib.Seq.{get_or-set_same, get_or-set_other}
use Rattle.exchange.specs.Exchange.{entry_at, put_at}

-- places of different slots, or of different inputs, are different
pub slots_apart : (ports s u i x : ℕ) → i < ports → x < ports → u ≢ s → u * ports + x ≢ s * ports + i
slots_apart ports s u i x h l n e = n (sym (digits_div u l) ∙ ap (λ q. q / ports) e ∙ digits_div s h)

pub inputs_apart : (ports s u i x : ℕ) → i < ports → x < ports → x ≢ i → u * ports + x ≢ s * ports + i
inputs_apart ports s u i x h l n e = n (sym (digits_mod u l) ∙ ap (λ q. q % ports) e ∙ digits_mod s h)

module _ (ports slots : ℕ) (frame : List ℕ) (size : length frame ≡ slots * ports) (s i v : ℕ) (hs : s < slots) (hi : i < ports) where
  pub put_size : length (put_at ports frame s i v) ≡ slots * ports
  put_size = length-set frame (s * ports + i) v ∙ size

  pub put_same : entry_at ports (put_at ports frame s i v) s i ≡ v
  put_same = get_or-set_same frame (s * ports + i) v 0 (omega (arith, digits_lt {q = s} {m = slots} {r = i} {c = ports} hs hi))

  pub put_slot : (u x : ℕ) → x < ports → u ≢ s → entry_at ports (put_at ports frame s i v) u x ≡ entry_at ports frame u x
  put_slot u x l n = get_or-set_other frame (s * ports + i) (u * ports + x) v 0 (slots_apart ports s u i x hi l n)

  pub put_input : (u x : ℕ) → x < ports → x ≢ i → entry_at ports (put_at ports frame s i v) u x ≡ entry_at ports frame u x
  put_input u x l n = get_or-set_other frame (s * ports + i) (u * ports + x) v 0 (inputs_apart ports s u i x hi l n)
