use mathlib.Core.Path.{ap, ◌∙◌}
use Prim.Native.Nat.{ℕ}
use native.Mathlib.Numerals.{add-one}
use native.Mathlib.Omega.{arith}
use lib.ListN.{set, length-set}
use lib.Seq.{sets}
use Rattle.keys.specs.BigEndian.{be_bytes}
use Rattle.ids.proofs.BigEndian.{length_be_bytes}
use Rattle.msgpack_put.proofs.put_tagged.Goals as goal

pub shape_of-out : goal.shape_of-out
shape_of-out c = c.put_number.auto.out ∙ simp length-set

pub returns : goal.returns
returns c = let a = c.args in
    let t = a.t in
    (omega (arith, length_be_bytes t.1 t.2), c.put_number.ensures ∙ ap (λ (k : ℕ). sets (set a.out.now a.at t.0) k (be_bytes t.1 t.2)) (add-one a.at))
