-- The numbers of a flow of a list that passes the checks, as its ports and its link.
use Prim.Native.Nat.{ℕ, ◌+◌, ◌-◌, ◌*◌, ◌≤◌, ◌<◌}
use mathlib.Core.Path.{◌≡◌, refl, sym}
use mathlib.Core.List.{List}
use native.Mathlib.Omega.{arith}
use Rattle.rules.specs.Flows.{flows, number_of, inputs, links, port_of, output_of}
use Rattle.rules.proofs.Flows.{output_is}
use Rattle.checks.specs.Fits.{ListFits}
use Rattle.checks.proofs.Fits.{input_below, output_below, link_below}

module _ (list : List ℕ) (f : ℕ) where
  pub input_told : {i : ℕ} → i ≡ number_of 0 list f → i - 1 ≡ port_of list inputs f
  unfolding port_of
  input_told e = rw e refl

  pub link_told : {o k : ℕ} → o ≡ number_of 1 list f → k ≡ number_of 3 list f → (o - 1) * 4 + (k - 1) ≡ port_of list links f
  unfolding port_of
  link_told a b = rw (a, b) refl

module _ {ports : ℕ} {list : List ℕ} {f : ℕ} (l : ListFits ports list) (h : f < flows list) where
  pub input_least : {i : ℕ} → i ≡ number_of 0 list f → 1 ≤ i
  input_least e = let p = (l.ported inputs f h).0 in omega arith

  pub output_least : {o : ℕ} → o ≡ number_of 1 list f → 1 ≤ o
  output_least e = let p = (l.ported links f h).0 in omega arith

  pub link_least : {k : ℕ} → k ≡ number_of 3 list f → 1 ≤ k
  link_least e = let p = (l.linked f h).0 in omega arith

  pub output_told : {o : ℕ} → o ≡ number_of 1 list f → o - 1 ≡ output_of (port_of list links f)
  output_told e = rw e (sym (output_is list f (l.linked f h)))

  pub low_told : {i o k : ℕ} → i ≡ number_of 0 list f → o ≡ number_of 1 list f → k ≡ number_of 3 list f
      → (i - 1 < ports) × (o - 1 < ports) × ((o - 1) * 4 + (k - 1) < ports * 4) × (ports ≤ 16)
  low_told a b c =
      (rw (input_told list f a) (input_below l f h), rw (output_told b) (output_below l f h), rw (link_told list f b c) (link_below l f h), l.most)
