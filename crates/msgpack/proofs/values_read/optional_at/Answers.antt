use mathlib.Core.Path.{refl, sym, ap, ◌∙◌}
use mathlib.Core.List.{[], ◌∷◌}
use Rattle.msgpack.specs.Read.{optional_at, optional_by}
use Rattle.msgpack.proofs.Others.{elsewhere_among}
use Rattle.msgpack.proofs.values_read.optional_at.Goals as goal

pub returns-in-Nil : goal.returns-in-Nil
unfolding optional_at optional_by
returns-in-Nil c = rw (sym c.head_at.ensures ∙ c.in-Nil.is)

pub returns-in_default : goal.returns-in_default
unfolding optional_at optional_by
returns-in_default c = let a = c.args in
    let other = elsewhere_among (0 ∷ 1 ∷ 3 ∷ 4 ∷ 5 ∷ 6 ∷ 7 ∷ 8 ∷ 9 ∷ []) (optional_by) _ (record { cut = λ t. refl; never = λ t. refl; nil = λ t. absurd t; flag = λ t a b. refl; uint = λ t a b. refl; minus = λ t a b. refl; bin = λ t a b c. refl; other = λ t a. refl; array = λ t a b. refl; map = λ t a b. refl }) in
    sym (ap (optional_by) (sym c.head_at.ensures) ∙ other c.head_at.result c.in_default.in_default-own.keys2)
