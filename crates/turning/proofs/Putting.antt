-- Entries put one after the other: a slot by the other side.
use Prim.Native.Nat.{ℕ, suc, ◌+◌, ◌-◌, ◌*◌, ◌≤◌, ◌<◌}
use mathlib.Core.Path.{◌≡◌, sym, ap, ◌∙◌}
use mathlib.Core.Logic.{◌≢◌}
use mathlib.Core.List.{List}
use native.Mathlib.Omega.{arith}
use lib.ListN.{length, get_or, set, replicate, length-set, length-replicate}
use lib.Seq.{get_or-set_same, get_or-set_other}
use borrow.Author.Tests.{ne_eqb}
use Rattle.rules.specs.Flows.{flows, Side, other, on_side, port_of}
use Rattle.rules.proofs.Cases.{by_eq}
use Rattle.rules.proofs.Lists.{zero_at}
use Rattle.rules.proofs.Flows.{by_entry}
use Rattle.sides.specs.Turn.{by_side, Turnable}
use Rattle.sides.proofs.Slots.{flow_of, one_goes, at_most}
use Rattle.sides.proofs.Turned.{one_sound, only_turned}
use Rattle.turning.specs.Put.{put}

-- ---- one entry
pub put_none : (to : Side) (list new : List ℕ) (e : ℕ) → e ≡ 0 → new ≡ put to list e new
put_none to list new e z = sym (rw z)

-- ---- a slot
-- The first i entries of a slot put at their flows' ports of a side, and nothing else.
pub record Filled (to : Side) (ports : ℕ) (list slot : List ℕ) (i : ℕ) (new : List ℕ) : Type 0 where
  pub most : i ≤ ports
  pub size : length new ≡ ports
  pub stands : (j f : ℕ) → j < i → get_or slot j 0 ≡ suc f → get_or new (on_side to (port_of list) f) 0 ≡ suc f
  pub idle : (x : ℕ) → ((j f : ℕ) → j < i → get_or slot j 0 ≡ suc f → on_side to (port_of list) f ≢ x) → get_or new x 0 ≡ 0

pub filled_start : (to : Side) (ports : ℕ) (list slot old new : List ℕ) → length old ≡ ports → new ≡ replicate (length old) 0 → Filled to ports list slot 0 new
filled_start to ports list slot old new e z =
    rw (z, e)
    (record {
      most = omega arith;
      size = length-replicate {A = ℕ} ports 0;
      stands = λ j f h. absurd (omega arith);
      idle = λ x none. zero_at ports x;
    })

module _ (side : Side) (ports : ℕ) (list slot : List ℕ) (t : Turnable side ports 1 list slot) where
  abbrev to : Side
  to = other side

  pub in_the_slot : (i : ℕ) → i < length slot → i < ports
  in_the_slot i h = omega (arith, t.size)

  pub entry_most : (i : ℕ) {e : ℕ} → i < length slot → e ≡ get_or slot i 0 → e ≤ flows list
  entry_most i h is = omega (arith, at_most (one_sound t) i (in_the_slot i h), is)

  pub filled_on : (i : ℕ) (new : List ℕ) → Filled to ports list slot i new → i < length slot → (next : List ℕ)
      → next ≡ put to list (get_or slot i 0) new → Filled to ports list slot (i + 1) next
  filled_on i new g h next is =
      by_entry side list i (get_or slot i 0) ((one_sound t).each i (in_the_slot i h)) (λ z. idle z) (λ f k z p. own f k z)
    where
      idle : get_or slot i 0 ≡ 0 → Filled to ports list slot (i + 1) next
      idle z =
          let same : next ≡ new = is ∙ sym (put_none to list new (get_or slot i 0) z) in
          rw same
          (record {
            most = omega (arith, in_the_slot i h);
            size = g.size;
            stands = λ j f l e. by_eq j i (λ d. absurd (let y = ap (λ q. get_or slot q 0) d in omega arith)) (λ d. g.stands j f (omega arith) e);
            idle = λ x none. g.idle x (λ j f l e. none j f (omega arith) e);
          })

      own : (f : ℕ) → f < flows list → get_or slot i 0 ≡ suc f → Filled to ports list slot (i + 1) next
      own f k z =
          let x = on_side to (port_of list) f in
          let low : x < length new = omega (arith, (one_sound t).ported to f k, g.size) in
          let same : next ≡ set new x (suc f) = is ∙ put_flow f z in
          rw same
          (record {
            most = omega (arith, in_the_slot i h);
            size = length-set new x (suc f) ∙ g.size;
            stands = λ j v l e. by_eq j i
                (λ d. let same : v ≡ f = (let y = ap (λ q. get_or slot q 0) d in omega arith) in rw same (get_or-set_same new x (suc f) 0 low))
                (λ d. get_or-set_other new x (on_side to (port_of list) v) (suc f) 0 (λ c. d (meet j v f l e k z c)) ∙ g.stands j v (omega arith) e);
            idle = λ y none. get_or-set_other new x y (suc f) 0 (λ d. none i f (omega arith) z (sym d)) ∙ g.idle y (λ j v l e. none j v (omega arith) e);
          })
        where
          put_flow : (f : ℕ) → get_or slot i 0 ≡ suc f → put to list (get_or slot i 0) new ≡ set new (on_side to (port_of list) f) (suc f)
          put_flow f z = let d : suc f - 1 ≡ f = omega arith in rw (z, ne_eqb (suc f) 0 (omega arith), d)

          -- two entries that go to one port are one
          meet : (j v f : ℕ) → j < i + 1 → get_or slot j 0 ≡ suc v → f < flows list → get_or slot i 0 ≡ suc f → on_side to (port_of list) v ≡ on_side to (port_of list) f → j ≡ i
          meet j v f l e k z c =
              let s = one_sound t in
              let low : v < flows list = omega (arith, at_most s j (omega (arith, in_the_slot i h)), e) in
              one_goes s (on_side to (port_of list) f) j i (s.ported to f k) (omega (arith, in_the_slot i h)) (in_the_slot i h)
              (rw (e, sym c) (flow_of list to v low)) (rw z (flow_of list to f k))

  pub filled_end : (i : ℕ) (new : List ℕ) → Filled to ports list slot i new → length slot ≤ i → new ≡ by_side to ports list slot
  filled_end i new g h =
      only_turned t new
      (record {
        size = g.size ∙ sym (t.size ∙ omega arith);
        stands = λ s j f a l z.
            rw (first_slot s a (on_side to (port_of list) f)) (g.stands j f (omega (arith, t.size)) (rw (first_slot s a j) at z));
        idle = λ s x a l none.
            rw (first_slot s a x) (g.idle x (λ j f b z. none j f (omega (arith, g.most)) (rw (first_slot s a j) z)));
      })
    where
      first_slot : (s : ℕ) → s < 1 → (q : ℕ) → s * ports + q ≡ q
      first_slot s a q = let z : s ≡ 0 = omega arith in rw z (omega arith)
