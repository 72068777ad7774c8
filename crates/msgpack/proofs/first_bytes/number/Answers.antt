use Prim.Native.Nat.{ℕ, ◌*◌, ◌+◌}
use mathlib.Core.Path.{◌≡◌, refl, ap, ap₂, ◌∙◌, sym}
use native.Mathlib.Omega.{arith}
use lib.Dec.{lit<}
use lib.ListN.{take, drop}
use Rattle.keys.specs.BigEndian.{be, be_from}
use Rattle.msgpack.proofs.Numbers.{be_more, one_more, eight}
use Rattle.msgpack.proofs.first_bytes.number.Goals as goal

pub loop-i-init : goal.loop-i-init
unfolding be_from
loop-i-init c = (omega arith, omega arith, refl)

pub overflow_mul-x : goal.overflow_mul-x
unfolding be_from
overflow_mul-x c = let l = c.loop-i in
    omega (arith, one_more l.i {b = 0} l.invariant.1 (lit< tt), eight {i = l.i + 1} (omega arith))

pub overflow_add-x : goal.overflow_add-x
unfolding be_from
overflow_add-x c = let l = c.loop-i in
    omega (arith, one_more l.i l.invariant.1 c.wide.ensures.1, eight {i = l.i + 1} (omega arith))

pub loop-i-preserved : goal.loop-i-preserved
unfolding be_from
loop-i-preserved c = let l = c.loop-i in
    let a = c.args in (
      omega arith,
      one_more l.i l.invariant.1 c.wide.ensures.1,
      ap₂ (λ (x b : ℕ). x * 256 + b) l.invariant.2 c.wide.ensures.0 ∙ sym (be_more a.s.now a.at l.i (omega arith)),
    )

pub returns : goal.returns
unfolding be_from
returns c = let a = c.args in
    let e : c.loop-i.i ≡ a.n = omega arith in
    (c.loop-i.invariant.2 ∙ ap (λ (k : ℕ). be (take k (drop a.at a.s.now))) e, rw e at c.loop-i.invariant.1)
