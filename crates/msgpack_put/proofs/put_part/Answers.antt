use mathlib.Core.Path.{refl, ◌∙◌}
use native.Mathlib.Nat.{add-zero}
use native.Mathlib.Omega.{arith}
use lib.ListN.{length-set, take, drop, drop_of_length-le}
use Rattle.msgpack_put.proofs.Puts.{put_one, part_length}
use Rattle.msgpack_put.proofs.put_part.Goals as goal

pub loop-i-init : goal.loop-i-init
loop-i-init c = (omega arith, refl, rw add-zero)

pub loop-i-preserved : goal.loop-i-preserved
loop-i-preserved c = let l = c.loop-i in
    let a = c.args in
    (omega arith, simp length-set l.invariant.1, put_one l.out a.pool.now a.at a.from a.n l.i (omega arith) (omega arith) ∙ l.invariant.2)

pub returns : goal.returns
returns c = let l = c.loop-i in
    let a = c.args in
    let e = drop_of_length-le (take a.n (drop a.from a.pool.now)) {i = l.i} (omega (arith, part_length a.pool.now a.from a.n (omega arith))) in
    rw e at l.invariant.2
