use mathlib.Core.Path.{◌≡◌, sym, ap, ◌∙◌, subst}
use Prim.Native.Nat.{◌+◌, ◌^◌, ◌<◌, ◌≤◌}
use native.Mathlib.Omega.{arith}
use borrow.Author.Tests.{le-leb, lt-leb, lt-ltb, le-ltb}
use lib.ListN.{drop_of_length-le, get_or}
use Rattle.msgpack.specs.Form.{form_of}
use Rattle.msgpack.specs.Head.{head_of, kind_head}
use Rattle.msgpack.specs.declared.Form.{Form}
use Rattle.msgpack.specs.declared.Kind.TheVariants.{Sint}
use Rattle.msgpack.proofs.Forms.{width_8, signed_width}
use Rattle.msgpack.proofs.Heads.{head_whole, head_short}
use Rattle.msgpack.proofs.first_bytes.head_at.Goals as goal

pub returns-then-s-at : goal.returns-then-s-at
unfolding head_of kind_head
returns-then-s-at c = rw (drop_of_length-le c.args.s.now c.if-s-at.true)

pub returns-then-s-from : goal.returns-then-s-from
unfolding head_of kind_head
returns-then-s-from c = let a = c.args in sym (head_short a.s.now a.at c.form_of-f.result (omega arith) c.form_of-f.ensures (omega arith))

pub argument-x-requires : goal.argument-x-requires
unfolding head_of kind_head
argument-x-requires c = let a = c.args in
    let byte : get_or a.s.now a.at 0 < 256 = (c.shared_slice_known-2-1.given a.at).fits in
    let w : c.form_of-f.result.1 ≤ 8 = subst (λ (f : Form). f.1 ≤ 8) (sym c.form_of-f.ensures) (width_8 _ byte) in
    (omega arith, w)

pub overflow_sub-result : goal.overflow_sub-result
unfolding head_of kind_head
overflow_sub-result c = let a = c.args in
    let f = c.form_of-f.result in
    let byte : get_or a.s.now a.at 0 < 256 = (c.shared_slice_known-2-1.given a.at).fits in
    let e : (form_of (get_or a.s.now a.at 0)).0 ≡ Sint = ap (λ (g : Form). g.0) (sym c.form_of-f.ensures) ∙ c.in-Sint.is in
    let t : (0 < f.1) × (f.2 + 1 ≡ 256 ^ f.1) = subst (λ (g : Form). (0 < g.1) × (g.2 + 1 ≡ 256 ^ g.1)) (sym c.form_of-f.ensures) (signed_width _ byte e) in
    omega (arith, c.argument-x.ensures.1 t.0, t.1)

pub returns-in-Never : goal.returns-in-Never
unfolding head_of kind_head
returns-in-Never c = rw (head_whole c.args.s.now c.args.at c.form_of-f.result c.argument-x.result (omega arith) c.form_of-f.ensures (omega arith) c.argument-x.ensures.0, c.in-Never.is)

pub returns-in-Nil : goal.returns-in-Nil
unfolding head_of kind_head
returns-in-Nil c = rw (head_whole c.args.s.now c.args.at c.form_of-f.result c.argument-x.result (omega arith) c.form_of-f.ensures (omega arith) c.argument-x.ensures.0, c.in-Nil.is)

pub returns-in-False : goal.returns-in-False
unfolding head_of kind_head
returns-in-False c = rw (head_whole c.args.s.now c.args.at c.form_of-f.result c.argument-x.result (omega arith) c.form_of-f.ensures (omega arith) c.argument-x.ensures.0, c.in-False.is)

pub returns-in-True : goal.returns-in-True
unfolding head_of kind_head
returns-in-True c = rw (head_whole c.args.s.now c.args.at c.form_of-f.result c.argument-x.result (omega arith) c.form_of-f.ensures (omega arith) c.argument-x.ensures.0, c.in-True.is)

pub returns-in-Uint : goal.returns-in-Uint
unfolding head_of kind_head
returns-in-Uint c = rw (head_whole c.args.s.now c.args.at c.form_of-f.result c.argument-x.result (omega arith) c.form_of-f.ensures (omega arith) c.argument-x.ensures.0, c.in-Uint.is)

pub returns-in-Minus : goal.returns-in-Minus
unfolding head_of kind_head
returns-in-Minus c = rw (head_whole c.args.s.now c.args.at c.form_of-f.result c.argument-x.result (omega arith) c.form_of-f.ensures (omega arith) c.argument-x.ensures.0, c.in-Minus.is)

pub returns-then-x-n : goal.returns-then-x-n
unfolding head_of kind_head
returns-then-x-n c = rw (head_whole c.args.s.now c.args.at c.form_of-f.result c.argument-x.result (omega arith) c.form_of-f.ensures (omega arith) c.argument-x.ensures.0, c.in-Sint.is) (simp (le-leb _ _ c.if-x-n.true))

pub returns-else-x-n : goal.returns-else-x-n
unfolding head_of kind_head
returns-else-x-n c = rw (head_whole c.args.s.now c.args.at c.form_of-f.result c.argument-x.result (omega arith) c.form_of-f.ensures (omega arith) c.argument-x.ensures.0, c.in-Sint.is) (simp (lt-leb _ _ c.if-x-n.false))

pub returns-then-len-left : goal.returns-then-len-left
unfolding head_of kind_head
returns-then-len-left c = rw (head_whole c.args.s.now c.args.at c.form_of-f.result c.argument-x.result (omega arith) c.form_of-f.ensures (omega arith) c.argument-x.ensures.0, c.in-Bin.is) (simp (le-leb _ _ c.if-len-left.true))

pub returns-else-len-left : goal.returns-else-len-left
unfolding head_of kind_head
returns-else-len-left c = rw (head_whole c.args.s.now c.args.at c.form_of-f.result c.argument-x.result (omega arith) c.form_of-f.ensures (omega arith) c.argument-x.ensures.0, c.in-Bin.is) (simp (lt-leb _ _ c.if-len-left.false))

pub returns-in-Str : goal.returns-in-Str
unfolding head_of kind_head
returns-in-Str c = rw (head_whole c.args.s.now c.args.at c.form_of-f.result c.argument-x.result (omega arith) c.form_of-f.ensures (omega arith) c.argument-x.ensures.0, c.in-Str.is) c.body.ensures

pub returns-in-Float : goal.returns-in-Float
unfolding head_of kind_head
returns-in-Float c = rw (head_whole c.args.s.now c.args.at c.form_of-f.result c.argument-x.result (omega arith) c.form_of-f.ensures (omega arith) c.argument-x.ensures.0, c.in-Float.is) c.body-in-Float.ensures

pub returns-then-len-left-2 : goal.returns-then-len-left-2
unfolding head_of kind_head
returns-then-len-left-2 c = rw (head_whole c.args.s.now c.args.at c.form_of-f.result c.argument-x.result (omega arith) c.form_of-f.ensures (omega arith) c.argument-x.ensures.0, c.in-Ext.is) (simp (lt-ltb _ _ c.if-len-left-2.true))

pub returns-else-len-left-2 : goal.returns-else-len-left-2
unfolding head_of kind_head
returns-else-len-left-2 c = rw (head_whole c.args.s.now c.args.at c.form_of-f.result c.argument-x.result (omega arith) c.form_of-f.ensures (omega arith) c.argument-x.ensures.0, c.in-Ext.is) (simp (le-ltb _ _ c.if-len-left-2.false))

pub returns-in-Array : goal.returns-in-Array
unfolding head_of kind_head
returns-in-Array c = rw (head_whole c.args.s.now c.args.at c.form_of-f.result c.argument-x.result (omega arith) c.form_of-f.ensures (omega arith) c.argument-x.ensures.0, c.in-Array.is)

pub returns-in-Map : goal.returns-in-Map
unfolding head_of kind_head
returns-in-Map c = rw (head_whole c.args.s.now c.args.at c.form_of-f.result c.argument-x.result (omega arith) c.form_of-f.ensures (omega arith) c.argument-x.ensures.0, c.in-Map.is)
