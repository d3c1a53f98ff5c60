-- What one more read, or one more write, adds to what was moved before it.
use Rattle.std.proofs.Common.{◌≡◌, ℕ, ◌+◌, ◌-◌, ◌≤◌, List, ◌++◌, length, take, drop, None, Some, arith, refl, sym, ap, ◌∙◌, append_assoc}
use Rattle.std.proofs.lemmas.List.{take-append-le, length-append, length-take-le, length-drop}
use Rattle.std.proofs.Math.Seq.{take-add, take-append-add, drop-drop}
use Rattle.std.specs.declared.option.Option.{Option}
use Rattle.std.specs.Io.KnownBytes.{Appends, Consumes}
use Rattle.frame.specs.Streams.{TakesAtMost}
use borrow.Rule.Slice.PartMut.{put_mid, post_of}

-- Two reads in turn take the bytes of both.
pub consumes_more : (a b c : Option (List ℕ)) (xs ys zs : List ℕ) → Consumes a b xs → Consumes b c ys → zs ≡ xs ++ ys → Consumes a c zs
consumes_more None b c xs ys zs p q e = tt
consumes_more (Some x) None c xs ys zs p q e = absurd p
consumes_more (Some x) (Some y) None xs ys zs p q e = absurd q
consumes_more (Some x) (Some y) (Some z) xs ys zs p q e =
    p ∙ ap (λ l. xs ++ l) q ∙ sym (append_assoc xs ys z) ∙ ap (λ l. l ++ z) (sym e)

-- Two writes in turn add the bytes of both.
pub appends_more : (a b c : Option (List ℕ)) (xs ys zs : List ℕ) → Appends a b xs → Appends b c ys → zs ≡ xs ++ ys → Appends a c zs
appends_more None b c xs ys zs p q e = tt
appends_more (Some x) None c xs ys zs p q e = absurd p
appends_more (Some x) (Some y) None xs ys zs p q e = absurd q
appends_more (Some x) (Some y) (Some z) xs ys zs p q e = q ∙ ap (λ l. l ++ ys) p ∙ append_assoc x xs ys ∙ ap (λ l. x ++ l) (sym e)

-- The front of a buffer after bytes were read into its part from a place on.
pub front_of_part : (at k n : ℕ) (xs ys : List ℕ) → at ≤ length xs → n ≤ length ys
    → take (at + n) (put_mid at k xs ys) ≡ take at xs ++ take n ys
front_of_part at k n xs ys within fits =
    let front : length (take at xs) ≡ at = length-take-le at xs within in
    let rest = ys ++ post_of at k xs in
    ap (λ m. take (m + n) (take at xs ++ rest)) (sym front) ∙ take-append-add (take at xs) rest n
    ∙ ap (λ l. take at xs ++ l) (take-append-le n ys _ fits)

-- The rest of the bytes after a front of what was left, and the longer front before it.
pub record Rest (xs rest : List ℕ) : Type 0 where
  pub within : length rest ≤ length xs
  pub is : rest ≡ drop (length xs - length rest) xs

pub rest_more : (xs rest : List ℕ) (n : ℕ) (rest' : List ℕ) → Rest xs rest → n ≤ length rest → rest' ≡ drop n rest
    → Rest xs rest' × (take (length xs - length rest') xs ≡ take (length xs - length rest) xs ++ take n rest)
rest_more xs rest n rest' x fits e =
    let a = length xs - length rest in
    let w = x.within in
    let l : length rest' ≡ length rest - n = ap length e ∙ length-drop n rest in
    let k : length xs - length rest' ≡ a + n = omega arith in (
      record {
        within = omega arith;
        is = e ∙ (ap (drop n) x.is ∙ (drop-drop n a xs ∙ ap (λ m. drop m xs) (sym k)));
      },
      ap (λ m. take m xs) k ∙ (take-add a n xs ∙ ap (λ l. take a xs ++ take n l) (sym x.is)),
    )

-- What two steps take together.
pub takes_more : (a b c : Option (List ℕ)) (m n most : ℕ) → TakesAtMost m a b → TakesAtMost n b c → m + n ≤ most → TakesAtMost most a c
takes_more a b c m n most (xs, p, few) (ys, q, few') within =
    (xs ++ ys, consumes_more a b c xs ys (xs ++ ys) p q refl, omega (arith, length-append xs ys))
