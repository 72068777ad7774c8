use mathlib.Core.Path.{refl, sym, ap, ◌∙◌}
use mathlib.Core.List.{[], ◌∷◌}
use Rattle.msgpack.specs.Read.{bin_at, bin_by}
use Rattle.msgpack.proofs.Others.{elsewhere_among}
use Rattle.msgpack.proofs.values_read.bin_at.Goals as goal

pub returns-in-Bin : goal.returns-in-Bin
unfolding bin_at bin_by
returns-in-Bin c = rw (sym c.head_at.ensures ∙ c.in-Bin.is)

pub returns-in_default : goal.returns-in_default
unfolding bin_at bin_by
returns-in_default c = let a = c.args in
    let other = elsewhere_among (0 ∷ 1 ∷ 2 ∷ 3 ∷ 4 ∷ 5 ∷ 7 ∷ 8 ∷ 9 ∷ []) (bin_by a.at) _ (record { cut = λ t. refl; never = λ t. refl; nil = λ t a. refl; flag = λ t a b. refl; uint = λ t a b. refl; minus = λ t a b. refl; bin = λ t. absurd t; other = λ t a. refl; array = λ t a b. refl; map = λ t a b. refl }) in
    sym (ap (bin_by a.at) (sym c.head_at.ensures) ∙ other c.head_at.result c.in_default.in_default-own.keys2)
