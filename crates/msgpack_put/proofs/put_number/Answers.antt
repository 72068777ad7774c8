use Prim.Native.Nat.{ℕ, ◌-◌, ◌+◌}
use mathlib.Core.Path.{◌≡◌, ap, ◌∙◌}
use native.Mathlib.Omega.{arith}
use lib.Seq.{sets}
use Rattle.keys.specs.BigEndian.{be_bytes}
use Rattle.msgpack_put.proofs.Puts.{put_last}
use Rattle.msgpack_put.proofs.put_number.Goals as goal

pub loop-i-preserved : goal.loop-i-preserved
unfolding be_bytes
loop-i-preserved c = let l = c.loop-i in
    let a = c.args in
    let e : l.i - 1 + 1 ≡ l.i = omega arith in
    put_last l.out a.at (l.i - 1) l.y ∙ ap (λ (k : ℕ). sets l.out a.at (be_bytes k l.y)) e ∙ l.invariant

pub returns : goal.returns
unfolding be_bytes
returns c = let l = c.loop-i in
    let e : l.i ≡ 0 = omega arith in
    rw e at l.invariant
