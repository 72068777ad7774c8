use mathlib.Core.Path.{◌≡◌, refl}
use mathlib.Core.List.{◌++◌}
use Prim.Native.Nat.{◌+◌, ◌≤◌}
use native.Mathlib.Omega.{arith}
use lib.ListN.{length, length-append}
use Rattle.keys.specs.BigEndian.{be_bytes}
use Rattle.ids.proofs.BigEndian.{length_be_bytes}
use Rattle.msgpack_put.specs.Write.{bin_head}
use Rattle.msgpack_put.proofs.Puts.{id_part_lem, put_as, put_first, put_rest, put_then, number_put}
use Rattle.msgpack_put.proofs.put_id.Goals as goal

pub put_head-p-requires : goal.put_head-p-requires
put_head-p-requires c = let a = c.args in
    let H = bin_head 16 in
    let A = be_bytes 8 a.hi in
    let B = be_bytes 8 a.lo in
    let la = length_be_bytes 8 a.hi in
    let lb = length_be_bytes 8 a.lo in
    let r0 : a.at + length (H ++ (A ++ B)) ≤ length a.out.now = rw (id_part_lem a.hi a.lo) at c.requires in
    put_first a.at _ H (A ++ B) r0

pub put_number-requires : goal.put_number-requires
put_number-requires c = let a = c.args in
    let H = bin_head 16 in
    let A = be_bytes 8 a.hi in
    let B = be_bytes 8 a.lo in
    let la = length_be_bytes 8 a.hi in
    let lb = length_be_bytes 8 a.lo in
    let r0 : a.at + length (H ++ (A ++ B)) ≤ length a.out.now = rw (id_part_lem a.hi a.lo) at c.requires in
    let r1 = put_rest a.out.now _ a.at _ H (A ++ B) c.put_head-p.ensures r0 in omega (arith, r1, length-append A B)

pub overflow_add-p : goal.overflow_add-p
overflow_add-p c = let a = c.args in
    let H = bin_head 16 in
    let A = be_bytes 8 a.hi in
    let B = be_bytes 8 a.lo in
    let la = length_be_bytes 8 a.hi in
    let lb = length_be_bytes 8 a.lo in
    let r0 : a.at + length (H ++ (A ++ B)) ≤ length a.out.now = rw (id_part_lem a.hi a.lo) at c.requires in
    omega (arith, c.put_head-p.ensures.0, length-append H (A ++ B), length-append A B, c.well_formed.0.0)

pub put_number-requires-2 : goal.put_number-requires-2
put_number-requires-2 c = let a = c.args in
    let H = bin_head 16 in
    let A = be_bytes 8 a.hi in
    let B = be_bytes 8 a.lo in
    let la = length_be_bytes 8 a.hi in
    let lb = length_be_bytes 8 a.lo in
    let r0 : a.at + length (H ++ (A ++ B)) ≤ length a.out.now = rw (id_part_lem a.hi a.lo) at c.requires in
    let r1 = put_rest a.out.now _ a.at _ H (A ++ B) c.put_head-p.ensures r0 in
    let r2 = put_rest _ _ _ _ A B (number_put _ _ _ 8 a.hi _ refl c.put_number.ensures) r1 in omega (arith, r2)

pub overflow_add-result : goal.overflow_add-result
overflow_add-result c = let a = c.args in
    let H = bin_head 16 in
    let A = be_bytes 8 a.hi in
    let B = be_bytes 8 a.lo in
    let la = length_be_bytes 8 a.hi in
    let lb = length_be_bytes 8 a.lo in
    let r0 : a.at + length (H ++ (A ++ B)) ≤ length a.out.now = rw (id_part_lem a.hi a.lo) at c.requires in
    omega (arith, c.put_head-p.ensures.0, length-append H (A ++ B), length-append A B, c.well_formed.0.0)

pub returns : goal.returns
returns c = let a = c.args in
    let H = bin_head 16 in
    let A = be_bytes 8 a.hi in
    let B = be_bytes 8 a.lo in
    let la = length_be_bytes 8 a.hi in
    let lb = length_be_bytes 8 a.lo in
    let r0 : a.at + length (H ++ (A ++ B)) ≤ length a.out.now = rw (id_part_lem a.hi a.lo) at c.requires in
    let p = c.put_head-p.result in
    let k : p + 16 ≡ p + 8 + 8 = omega arith in
    let e = number_put _ _ (p + 8) 8 a.lo (p + 16) k c.put_number-2.ensures in
    let f = put_then _ _ _ _ _ _ A B (number_put _ _ _ 8 a.hi _ refl c.put_number.ensures) e in
    put_as _ _ _ _ _ _ (id_part_lem a.hi a.lo)
    (put_then a.out.now _ _ a.at _ _ H (A ++ B) c.put_head-p.ensures f)
