-- What is equal where two answers are, and what a `?` hands on. Assumes nothing.
use Rattle.std.specs.Prelude.{◌≡◌, Some, Result, Ok, Err, IsErrAnd}
use Rattle.std.proofs.Common.{ap, ◌∙◌}
use Rattle.std.proofs.lemmas.Result.{err_from_is_err_and}

pub some-is : {T : Type 0} {x y : T} → Some x ≡ Some y → x ≡ y
some-is e = cc

pub ok-is : {T E : Type 0} {x y : T} → ◌≡◌ {A = Result T E} (Ok x) (Ok y) → x ≡ y
ok-is e = cc

pub err-is : {T E : Type 0} {x y : E} → ◌≡◌ {A = Result T E} (Err x) (Err y) → x ≡ y
err-is e = cc

-- the refusal of a call that is left by a `?`
pub handed-on : {T E : Type 0} {y : E} (r : Result T E) → IsErrAnd r (λ x. x ≡ y) → r ≡ Err y
handed-on r h = let p = err_from_is_err_and r h in p.1 ∙ ap Err p.2
