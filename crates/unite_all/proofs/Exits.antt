-- What an exit by an error that was given another name returns. Assumes nothing.
use Rattle.std.specs.Prelude.{Err, Ok, Result}
use Rattle.std.specs.Result.{IsErrAnd, MatchResult}
use Rattle.std.proofs.lemmas.Result.{err_from_is_err_and}
use mathlib.Core.Path.{◌≡◌, refl, ap, ◌∙◌}
use native.Mathlib.Omega.{arith}

pub exit_named : {A B D E : Type 0} (s : Result A D) (f : D → E) (e : E) (x : Result B E)
    → MatchResult s (λ (v : A). ◌≡◌ {A = Result A E} (Err e) (Ok v)) (λ (d : D). e ≡ f d)
    → IsErrAnd x (λ y. y ≡ e) → (d : D) × (s ≡ Err d) × (x ≡ Err (f d))
exit_named (Ok a) f e x h i = absurd (grind arith)
exit_named (Err d) f e x h i = let p = err_from_is_err_and x i in (d, refl, p.1 ∙ ap Err (p.2 ∙ h))
