use mathlib.Core.Path.{refl, sym, ap, ◌∙◌}
use mathlib.Core.List.{[], ◌∷◌}
use Rattle.msgpack.specs.Read.{flag_at, flag_by}
use Rattle.msgpack.proofs.Others.{elsewhere_among}
use Rattle.msgpack.proofs.values_read.flag_at.Goals as goal

pub returns-in-Flag : goal.returns-in-Flag
unfolding flag_at flag_by
returns-in-Flag c = rw (sym c.head_at.ensures ∙ c.in-Flag.is)

pub returns-in_default : goal.returns-in_default
unfolding flag_at flag_by
returns-in_default c = let a = c.args in
    let other = elsewhere_among (0 ∷ 1 ∷ 2 ∷ 4 ∷ 5 ∷ 6 ∷ 7 ∷ 8 ∷ 9 ∷ []) (flag_by a.at) _ (record { cut = λ t. refl; never = λ t. refl; nil = λ t a. refl; flag = λ t. absurd t; uint = λ t a b. refl; minus = λ t a b. refl; bin = λ t a b c. refl; other = λ t a. refl; array = λ t a b. refl; map = λ t a b. refl }) in
    sym (ap (flag_by a.at) (sym c.head_at.ensures) ∙ other c.head_at.result c.in_default.in_default-own.keys2)
