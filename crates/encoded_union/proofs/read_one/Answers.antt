use Prim.Native.Nat.{◌+◌, ◌*◌}
use native.Mathlib.Omega.{arith}
use Rattle.records.specs.Row.{at}
use Rattle.manifest_rows.specs.Stored.{lent}
use Rattle.encoded_union.proofs.Gather.{part_long, one_is}
use Rattle.encoded_union.proofs.read_one.Goals as goal

pub overflow_mul-k : goal.overflow_mul-k
overflow_mul-k c = omega (arith, c.requires.k_lt_most_sources)

pub read_piece-requires : goal.read_piece-requires
read_piece-requires c = let a = c.args in record { s_value = (part_long _ a.ends.now _ a.k _ c.part-piece.ensures c.place_of-e.ensures c.requires.k_in_bounds.2, c.requires.k_in_bounds_2.3); s_value_2 = c.requires.s_value }

pub returns : goal.returns
returns c =
    let a = c.args in
    let o = lent a.all_segments.now a.all_views.now a.all_runs.now a.all_borrows.now a.all_ids.now a.all_pool.now in
    let w = a.checkpoints.now in
    one_is _ a.ends.now _ a.k _ c.part-piece.ensures c.place_of-e.ensures a.lim a.c o a.rows.now (a.k * 22) _ _ (at w (a.k * 2), at w (a.k * 2 + 1)) _ c.read_piece.ensures c.place_of-p.ensures
