use mathlib.Core.Path.{refl, sym, ap, ◌∙◌}
use mathlib.Core.List.{[], ◌∷◌}
use borrow.Author.Tests.{le-leb, lt-leb}
use Rattle.msgpack.specs.Read.{group_at, group_by}
use Rattle.msgpack.proofs.Others.{elsewhere_among}
use Rattle.msgpack.proofs.values_read.group_at.Goals as goal

pub returns-then-least-n : goal.returns-then-least-n
unfolding group_at group_by
returns-then-least-n c = rw (sym c.head_at.ensures ∙ c.in-Array.is, le-leb _ _ c.if-least-n.true)

pub returns-else-least-n : goal.returns-else-least-n
unfolding group_at group_by
returns-else-least-n c = rw (sym c.head_at.ensures ∙ c.in-Array.is, lt-leb _ _ c.if-least-n.false)

pub returns-in_default : goal.returns-in_default
unfolding group_at group_by
returns-in_default c = let a = c.args in
    let other = elsewhere_among (0 ∷ 1 ∷ 2 ∷ 3 ∷ 4 ∷ 5 ∷ 6 ∷ 7 ∷ 9 ∷ []) (group_by a.at a.least) _ (record { cut = λ t. refl; never = λ t. refl; nil = λ t a. refl; flag = λ t a b. refl; uint = λ t a b. refl; minus = λ t a b. refl; bin = λ t a b c. refl; other = λ t a. refl; array = λ t. absurd t; map = λ t a b. refl }) in
    sym (ap (group_by a.at a.least) (sym c.head_at.ensures) ∙ other c.head_at.result c.in_default.in_default-own.keys2)
