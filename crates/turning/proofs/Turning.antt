-- Slots turned one after the other, and what Turn then answers.
use Prim.Native.Nat.{ℕ, suc, ◌+◌, ◌-◌, ◌*◌, ◌≤◌, ◌<◌}
use mathlib.Core.Path.{◌≡◌, sym, ap, ◌∙◌}
use mathlib.Core.List.{List, ◌++◌}
use native.Mathlib.Omega.{arith}
use native.Mathlib.Nat.{mul-le-mul_right}
use lib.ListN.{length, get_or, take, drop, length-take, get_or-append}
use lib.Seq.{get_or-take, get_or-append-add, ext_get_or}
use borrow.Rule.Slice.PartMut.{put_mid, post_of, same_len_mid, mid_len}
use Rattle.rules.specs.Flows.{Side, other}
use Rattle.rules.specs.Frames.{run_of}
use Rattle.rules.proofs.Cases.{by_lt}
use Rattle.sides.specs.Turn.{by_side, Turnable}
use Rattle.sides.proofs.Turned.{by_size, new_size, slot_turnable, slot_turned}

-- The first s slots are by the other side.
pub record Turned (side : Side) (ports slots : ℕ) (list frame : List ℕ) (s : ℕ) (second : List ℕ) : Type 0 where
  pub most : s ≤ slots
  pub size : length second ≡ slots * ports
  pub done : (q : ℕ) → q < s * ports → get_or second q 0 ≡ get_or (by_side (other side) ports list frame) q 0

module _ (side : Side) (ports slots : ℕ) (list frame : List ℕ) (t : Turnable side ports slots list frame) where
  pub turned_start : (second : List ℕ) → length second ≡ length frame → Turned side ports slots list frame 0 second
  turned_start second e = record { most = omega arith; size = e ∙ t.size; done = λ q h. absurd (omega arith) }

  pub turned_end : (s : ℕ) (second : List ℕ) → Turned side ports slots list frame s second → slots ≤ s → second ≡ by_side (other side) ports list frame
  turned_end s second g h =
      let e : s ≡ slots = omega (arith, g.most) in
      ext_get_or 0 second (by_side (other side) ports list frame) (g.size ∙ sym (new_size t))
      (λ q l. g.done q (omega (arith, g.size, ap (λ z. z * ports) e)))

  module _ (s : ℕ) (h : s < slots) where
    part_ends : s * ports + ports ≤ slots * ports
    part_ends = let m = mul-le-mul_right {m = suc s} {n = slots} ports h in omega arith

    module _ {slot : List ℕ} (same : slot ≡ run_of ports s 1 frame) where
      pub part_turnable : Turnable side ports 1 list slot
      part_turnable = rw same (slot_turnable t s h)

      module _ (second : List ℕ) (g : Turned side ports slots list frame s second) where
        second_ends : s * ports + ports ≤ length second
        second_ends = omega (arith, part_ends, g.size)

        pub part_length : length (take (s * ports + ports - s * ports) (drop (s * ports) second)) ≡ ports
        part_length = mid_len (s * ports) (s * ports + ports) second second_ends ∙ omega arith

        module _ (new : List ℕ) (is : new ≡ by_side (other side) ports list slot) where
          new_length : length new ≡ ports
          new_length = ap length is ∙ by_size (other side) ports 1 list slot part_turnable.size ∙ part_turnable.size ∙ omega arith

          abbrev put : List ℕ
          put = put_mid (s * ports) (s * ports + ports - s * ports) second new

          front : length (take (s * ports) second) ≡ s * ports
          front = simp length-take (omega (arith, second_ends))

          put_before : (q : ℕ) → q < s * ports → get_or put q 0 ≡ get_or second q 0
          put_before q l =
              get_or-append (take (s * ports) second) (new ++ post_of (s * ports) (s * ports + ports - s * ports) second) 0 q (omega (arith, front))
              ∙ get_or-take (s * ports) second q 0 l

          put_there : (x : ℕ) → x < ports → get_or put (s * ports + x) 0 ≡ get_or new x 0
          put_there x l =
              let rest = new ++ post_of (s * ports) (s * ports + ports - s * ports) second in
              ap (λ z. get_or put (z + x) 0) (sym front)
              ∙ get_or-append-add (take (s * ports) second) rest x 0
              ∙ get_or-append new (post_of (s * ports) (s * ports + ports - s * ports) second) 0 x (omega (arith, new_length))

          pub turned_on : Turned side ports slots list frame (s + 1) put
          turned_on =
              record {
                most = omega arith;
                size = same_len_mid (s * ports) (s * ports + ports - s * ports) second new (new_length ∙ sym part_length) ∙ g.size;
                done = λ q l. by_lt q (s * ports)
                    (λ k. put_before q k ∙ g.done q k)
                    (λ k.
                    let x = q - s * ports in
                    let d : q ≡ s * ports + x = omega arith in
                    let low : x < ports = omega arith in
                    rw d (put_there x low ∙ ap (λ z. get_or z x 0) is ∙ there x low));
              }
            where
              there : (x : ℕ) → x < ports → get_or (by_side (other side) ports list slot) x 0 ≡ get_or (by_side (other side) ports list frame) (s * ports + x) 0
              there x low = ap (λ z. get_or (by_side (other side) ports list z) x 0) same ∙ slot_turned t s h x low
