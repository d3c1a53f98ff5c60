-- What is known of a result from what `map_err` made of it.
use Rattle.std.proofs.Common.{◌≡◌, true, false, Ok, Err, sym, true≢false}
use Rattle.std.specs.declared.result.Result.{Result}
use Rattle.std.specs.Result.{MatchResult, is_ok, OnOk, OnErr}

-- a value that it passed on
pub passed_ok : {T E D : Type 0} (r : Result T E) (q : Result T D) (n : T) (Q : E → Type 0) → MatchResult r (λ x. q ≡ Ok x) Q → q ≡ Ok n → true ≡ is_ok r → r ≡ Ok n
passed_ok (Ok x) q n Q h e v = cc
passed_ok (Err x) q n Q h e v = absurd (true≢false v)

-- what holds where there is a value, and where there is an error
pub on_ok : {T E : Type 0} (r : Result T E) (P : Type 0) → true ≡ is_ok r → OnOk r P → P
on_ok (Ok x) P v h = h
on_ok (Err e) P v h = absurd (true≢false v)

pub on_err : {T E : Type 0} (r : Result T E) (P : Type 0) → false ≡ is_ok r → OnErr r P → P
on_err (Ok x) P v h = absurd (true≢false (sym v))
on_err (Err e) P v h = h
