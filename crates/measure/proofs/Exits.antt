-- What an exit by an error returns. Assumes nothing.
use Rattle.std.specs.Prelude.{Err, None, Option, Result, Some}
use Rattle.std.specs.Option.{ok_or}
use Rattle.std.specs.Result.{IsErrAnd}
use Rattle.std.proofs.lemmas.Result.{err_from_is_err_and}
use mathlib.Core.Path.{◌≡◌}
use native.Mathlib.Omega.{arith}

-- where a value is missing, the error that was named
pub exit_of : {A B E : Type 0} (s : Option A) (d e : E) (x : Result B E) → Err e ≡ ok_or s d → IsErrAnd x (λ y. y ≡ e) → x ≡ Err d
exit_of None d e x h i = let p = err_from_is_err_and x i in grind arith
exit_of (Some a) d e x h i = grind arith

-- the error that the step gave
pub exit_same : {B E : Type 0} (e : E) (x : Result B E) → IsErrAnd x (λ y. y ≡ e) → x ≡ Err e
exit_same e x i = let p = err_from_is_err_and x i in grind arith
