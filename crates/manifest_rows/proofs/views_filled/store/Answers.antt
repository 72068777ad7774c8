use native.Mathlib.Omega.{arith}
use Rattle.manifest_rows.proofs.Kept.{laid_room, laid_put_lem, laid_not}
use Rattle.manifest_rows.proofs.views_filled.store.Goals as goal

pub overflow_mul-i : goal.overflow_mul-i
overflow_mul-i c = let a = c.args in omega (arith, laid_room a.row.now a.i a.out.now c.requires c.if-i-out.true)

pub put-requires : goal.put-requires
put-requires c = let a = c.args in laid_room a.row.now a.i a.out.now c.requires c.if-i-out.true

pub returns-then-i-out : goal.returns-then-i-out
returns-then-i-out c = let a = c.args in laid_put_lem a.row.now a.i a.out.now _ c.requires c.if-i-out.true c.put.ensures.out_after

pub returns-else-i-out : goal.returns-else-i-out
returns-else-i-out c = let a = c.args in laid_not a.row.now a.i a.out.now c.if-i-out.false
