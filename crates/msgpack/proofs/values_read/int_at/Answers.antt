use Rattle.std.specs.Prelude.{Ok}
use mathlib.Core.Path.{refl, sym, ap, ◌∙◌}
use mathlib.Core.List.{[], ◌∷◌}
use borrow.Author.Tests.{lt-ltb, le-ltb}
use Rattle.msgpack.specs.Read.{int_at, int_by}
use lib.IntN.{ℤ}
use Rattle.msgpack.proofs.Signs.{held}
use Rattle.msgpack.proofs.Others.{elsewhere_among}
use Rattle.msgpack.proofs.values_read.int_at.Goals as goal

pub returns-then-x-lt-HALF : goal.returns-then-x-lt-HALF
unfolding int_at int_by
returns-then-x-lt-HALF c = rw (sym c.head_at.ensures ∙ c.in-Uint.is, lt-ltb _ _ c.if-x-lt-HALF.true) (ap (λ (z : ℤ). Ok (z, c.in-Uint.p)) (held c.plus.ensures (record { sfits = c.if-x-lt-HALF.true })))

pub returns-else-x-lt-HALF : goal.returns-else-x-lt-HALF
unfolding int_at int_by
returns-else-x-lt-HALF c = rw (sym c.head_at.ensures ∙ c.in-Uint.is, le-ltb _ _ c.if-x-lt-HALF.false)

pub returns-then-m-lt-HALF : goal.returns-then-m-lt-HALF
unfolding int_at int_by
returns-then-m-lt-HALF c = rw (sym c.head_at.ensures ∙ c.in-Minus.is, lt-ltb _ _ c.if-m-lt-HALF.true) (ap (λ (z : ℤ). Ok (z, c.in-Minus.p)) (held c.minus.ensures (record { sfits = c.if-m-lt-HALF.true })))

pub returns-else-m-lt-HALF : goal.returns-else-m-lt-HALF
unfolding int_at int_by
returns-else-m-lt-HALF c = rw (sym c.head_at.ensures ∙ c.in-Minus.is, le-ltb _ _ c.if-m-lt-HALF.false)

pub returns-in_default : goal.returns-in_default
unfolding int_at int_by
returns-in_default c = let a = c.args in
    let other = elsewhere_among (0 ∷ 1 ∷ 2 ∷ 3 ∷ 6 ∷ 7 ∷ 8 ∷ 9 ∷ []) (int_by a.at) _ (record { cut = λ t. refl; never = λ t. refl; nil = λ t a. refl; flag = λ t a b. refl; uint = λ t. absurd t; minus = λ t. absurd t; bin = λ t a b c. refl; other = λ t a. refl; array = λ t a b. refl; map = λ t a b. refl }) in
    sym (ap (int_by a.at) (sym c.head_at.ensures) ∙ other c.head_at.result c.in_default.in_default-own.keys3)
