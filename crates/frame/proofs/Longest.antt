-- A sheet that is too long has one response, whatever it holds, so that one byte more than the longest sheet is all that has to be read.
use Rattle.std.proofs.Common.{◌≡◌, ℕ, ◌≤◌, ◌<◌, List, [], ◌∷◌, Bool, true, false, ltb, length, take, None, Some, IfSome, arith, refl, sym, ap, subst, ◌∙◌}
use Rattle.std.proofs.lemmas.List.{length-take-le, take_all}
use Rattle.std.proofs.lemmas.Bool.{ltb-true, lt-ltb}
use Rattle.std.specs.declared.option.Option.{Option}
use Rattle.sheets.specs.Sheet.{read_sheet, printed, response}
use Rattle.sheets.specs.Sheet.Asked.{refused}

too_long : (bytes : List ℕ) → ltb 32768 (length bytes) ≡ true → read_sheet bytes ≡ refused (10 ∷ [])
unfolding read_sheet
too_long bytes long = rw long

read_front : (sheet : List ℕ) (b : Bool) → ltb 32768 (length sheet) ≡ b → read_sheet (take 32769 sheet) ≡ read_sheet sheet
read_front sheet true is =
    let long : 32768 < length sheet = ltb-true _ _ is in
    let size : length (take 32769 sheet) ≡ 32769 = length-take-le 32769 sheet (omega arith) in
    let cut : ltb 32768 (length (take 32769 sheet)) ≡ true = lt-ltb _ _ (omega arith) in
    too_long (take 32769 sheet) cut ∙ sym (too_long sheet is)
read_front sheet false is =
    let short : length sheet ≤ 32769 = grind (arith, lt-ltb) in
    ap read_sheet (take_all 32769 sheet short)

response-front : (sheet : List ℕ) → response (take 32769 sheet) ≡ response sheet
unfolding response
response-front sheet = ap printed (read_front sheet (ltb 32768 (length sheet)) refl)

-- What holds of the response to the bytes that were read holds of the response to the sheet.
pub whole_sheet : (sheet : Option (List ℕ)) (front : List ℕ) (size : ℕ) (P : List ℕ → Type 0) → size ≡ 32769
    → IfSome sheet (λ bytes. front ≡ take size bytes) → P (response front) → IfSome sheet (λ bytes. P (response bytes))
whole_sheet None front size P is read h = tt
whole_sheet (Some bytes) front size P is read h =
    subst P (ap response (read ∙ ap (λ n. take n bytes) is) ∙ response-front bytes) h
