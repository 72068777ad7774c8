use mathlib.Core.Path.{refl, sym, ap, ◌∙◌}
use mathlib.Core.List.{[], ◌∷◌}
use borrow.Author.Tests.{le-leb, lt-leb}
use Rattle.msgpack.specs.Read.{uint_at, uint_by}
use Rattle.msgpack.proofs.Others.{elsewhere_among}
use Rattle.msgpack.proofs.values_read.uint_at.Goals as goal

pub returns-then-x-most : goal.returns-then-x-most
unfolding uint_at uint_by
returns-then-x-most c = rw (sym c.head_at.ensures ∙ c.in-Uint.is, le-leb _ _ c.if-x-most.true)

pub returns-else-x-most : goal.returns-else-x-most
unfolding uint_at uint_by
returns-else-x-most c = rw (sym c.head_at.ensures ∙ c.in-Uint.is, lt-leb _ _ c.if-x-most.false)

pub returns-in_default : goal.returns-in_default
unfolding uint_at uint_by
returns-in_default c = let a = c.args in
    let other = elsewhere_among (0 ∷ 1 ∷ 2 ∷ 3 ∷ 5 ∷ 6 ∷ 7 ∷ 8 ∷ 9 ∷ []) (uint_by a.at a.most) _ (record { cut = λ t. refl; never = λ t. refl; nil = λ t a. refl; flag = λ t a b. refl; uint = λ t. absurd t; minus = λ t a b. refl; bin = λ t a b c. refl; other = λ t a. refl; array = λ t a b. refl; map = λ t a b. refl }) in
    sym (ap (uint_by a.at a.most) (sym c.head_at.ensures) ∙ other c.head_at.result c.in_default.in_default-own.keys2)
