use mathlib.Core.Path.{◌≡◌}
use mathlib.Core.List.{◌++◌}
use Prim.Native.Nat.{◌+◌, ◌≤◌}
use native.Mathlib.Omega.{arith}
use lib.ListN.{length, take, drop, length-append}
use Rattle.msgpack_put.specs.Write.{bin_head}
use Rattle.msgpack_put.proofs.Puts.{bin_part, bin_room, part_length, put_as, put_first, put_rest, put_then}
use Rattle.msgpack_put.proofs.put_bin.Goals as goal

pub put_head-p-requires : goal.put_head-p-requires
put_head-p-requires c = let a = c.args in
    let H = bin_head a.n in
    let K = take a.n (drop a.from a.pool.now) in
    let r0 : a.at + length (H ++ K) ≤ length a.out.now = bin_room a.pool.now a.from a.n a.at _ c.requires.1 c.requires.0 in
    put_first a.at _ H K r0

pub put_part-requires : goal.put_part-requires
put_part-requires c = let a = c.args in
    let H = bin_head a.n in
    let K = take a.n (drop a.from a.pool.now) in
    let r0 : a.at + length (H ++ K) ≤ length a.out.now = bin_room a.pool.now a.from a.n a.at _ c.requires.1 c.requires.0 in
    (omega (arith, put_rest a.out.now _ a.at _ H K c.put_head-p.ensures r0, part_length a.pool.now a.from a.n c.requires.1), c.requires.1)

pub overflow_add-result : goal.overflow_add-result
overflow_add-result c = let a = c.args in
    let H = bin_head a.n in
    let K = take a.n (drop a.from a.pool.now) in
    let r0 : a.at + length (H ++ K) ≤ length a.out.now = bin_room a.pool.now a.from a.n a.at _ c.requires.1 c.requires.0 in
    omega (arith, c.put_head-p.ensures.0, r0, length-append H K, part_length a.pool.now a.from a.n c.requires.1, c.well_formed.0.0)

pub returns : goal.returns
returns c = let a = c.args in
    let H = bin_head a.n in
    let K = take a.n (drop a.from a.pool.now) in
    let r0 : a.at + length (H ++ K) ≤ length a.out.now = bin_room a.pool.now a.from a.n a.at _ c.requires.1 c.requires.0 in
    let p = c.put_head-p.result in
    let l : p + a.n ≡ p + length K = omega (arith, part_length a.pool.now a.from a.n c.requires.1) in
    put_as _ _ _ _ _ _ (bin_part a.pool.now a.from a.n c.requires.1)
    (put_then a.out.now _ _ a.at _ _ H K c.put_head-p.ensures (l, c.put_part.ensures))
