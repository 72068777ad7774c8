use mathlib.Core.Path.{◌≡◌}
use mathlib.Core.Bool.{true, false}
use borrow.Author.Rules.{rules}
use mir.Facts.{to_z-of_z}
use lib.IntN.{pos}
use lib.Signed.{lt_z}
use Rattle.msgpack_put.proofs.Signs.{minus_fits, below, not_below}
use Rattle.msgpack_put.proofs.sign_of.Goals as goal

-- src/lib.rt:30:22
pub overflow_sub-result : goal.overflow_sub-result
overflow_sub-result c = rw (to_z-of_z c.ranges.x) (minus_fits _ c.ranges.x)

-- src/lib.rt:30:21
pub overflow_cast-result : goal.overflow_cast-result
overflow_cast-result c = let f = c.ranges.x in
    let t : lt_z c.args.x (pos 0) ≡ true = rw (to_z-of_z f) at c.if-x-lt0.true in
    let b = below _ f t in
    rw (to_z-of_z f, to_z-of_z (minus_fits _ f)) (b.sign, b.fits)

-- src/lib.rt:32:20
pub overflow_cast-result-else-x-lt0 : goal.overflow_cast-result-else-x-lt0
overflow_cast-result-else-x-lt0 c = let f = c.ranges.x in
    let t : lt_z c.args.x (pos 0) ≡ false = rw (to_z-of_z f) at c.if-x-lt0.false in
    let b = not_below _ f t in
    rw (to_z-of_z f) (b.sign, b.fits)

-- src/lib.rt:26:1
pub returns-then-x-lt0 : goal.returns-then-x-lt0
returns-then-x-lt0 c = let f = c.ranges.x in
    let t : lt_z c.args.x (pos 0) ≡ true = rw (to_z-of_z f) at c.if-x-lt0.true in
    search ((below _ f t).is, to_z-of_z f, to_z-of_z (minus_fits _ f), rules)

-- src/lib.rt:26:1
pub returns-else-x-lt0 : goal.returns-else-x-lt0
returns-else-x-lt0 c = let f = c.ranges.x in
    let t : lt_z c.args.x (pos 0) ≡ false = rw (to_z-of_z f) at c.if-x-lt0.false in
    rw (to_z-of_z f) (not_below _ f t).is
