use native.Mathlib.Omega.{arith}
use mathlib.Core.Path.{sym}
use lib.ListN.{length}
use Rattle.records.specs.Decode.{Lent, bytes_in}
use Rattle.records.proofs.Laid.{borrows, ids, pool}
use Rattle.measure.proofs.Fits.{under}
use Rattle.copy.specs.Copy.{room_of}
use Rattle.borrows.specs.Clone.{uuids_of}
use Rattle.unite_groups.specs.Rows.{members_in}
use Rattle.unite.proofs.Plain.{members_long}
use Rattle.unite_segments.specs.Steps.{named_segments, named_fill}
use Rattle.unite_segments.proofs.Prefixed.{rest_room, prefixed_row, prefixed_segments, prefixed_views, prefixed_runs, prefixed_borrows, prefixed_ids, prefixed_pool}
use Rattle.unite_segments.proofs.put_prefixed.Goals as goal

pub put_named-at-requires : goal.put_named-at-requires
put_named-at-requires c = let a = c.args in let ss = named_segments a.segments.now a.views.now a.runs.now a.pool.now a.sources.now a.order.now a.n a.prefixes.now a.np in let k = bytes_in a.pool.now a.name in let ms = members_in a.groups.now a.sets.now a.pool.now a.count in let o : Lent = record { segments = a.out_segments.now; views = a.out_views.now; runs = a.out_runs.now; borrows = a.out_borrows.now; ids = a.out_ids.now; pool = a.out_pool.now } in let u = under (named_fill ss k ms) (room_of o) c.requires.out_pool_value in let h = c.requires.left_value in let e = c.no_fill-c.ensures in record { n_in_bounds = c.requires.n_in_bounds; n_in_bounds_2 = c.requires.n_in_bounds_2; np_in_bounds = c.requires.np_in_bounds; np_bound = omega (arith, h); np_in_bounds_2 = rw e (omega (arith, u.segments)); np_in_bounds_3 = rw e (omega (arith, u.runs)); np_in_bounds_4 = rw e (omega (arith, u.views)); np_in_bounds_5 = rw e (omega (arith, u.bytes)) }

pub put_rest-row-requires : goal.put_rest-row-requires
put_rest-row-requires c = let a = c.args in let ss = named_segments a.segments.now a.views.now a.runs.now a.pool.now a.sources.now a.order.now a.n a.prefixes.now a.np in let k = bytes_in a.pool.now a.name in let ms = members_in a.groups.now a.sets.now a.pool.now a.count in let o : Lent = record { segments = a.out_segments.now; views = a.out_views.now; runs = a.out_runs.now; borrows = a.out_borrows.now; ids = a.out_ids.now; pool = a.out_pool.now } in let u = under (named_fill ss k ms) (room_of o) c.requires.out_pool_value in let h = c.requires.left_value in let e = c.no_fill-c.ensures in let q = c.put_named-at.ensures.value in record { count_in_bounds = c.requires.count_in_bounds; count_in_bounds_2 = rest_room ss k ms (uuids_of a.fresh.now) a.seq a.left h _ e _ q borrows (length a.out_borrows.now) (omega (arith, u.borrows)); count_in_bounds_3 = rest_room ss k ms (uuids_of a.fresh.now) a.seq a.left h _ e _ q ids (length a.out_ids.now) (omega (arith, u.ids)); count_in_bounds_4 = omega (arith, c.put_named-at.auto, rest_room ss k ms (uuids_of a.fresh.now) a.seq a.left h _ e _ q pool (length a.out_pool.now) (omega (arith, u.bytes))) }

pub shape_of-shares : goal.shape_of-shares
shape_of-shares c = omega (arith, c.put_named-at.auto)

pub shape_of-out_segments : goal.shape_of-out_segments
shape_of-out_segments c = omega (arith, c.put_named-at.auto)

pub shape_of-out_views : goal.shape_of-out_views
shape_of-out_views c = omega (arith, c.put_named-at.auto)

pub shape_of-out_runs : goal.shape_of-out_runs
shape_of-out_runs c = omega (arith, c.put_named-at.auto)

pub shape_of-out_borrows : goal.shape_of-out_borrows
shape_of-out_borrows c = omega (arith, c.put_rest-row.auto)

pub shape_of-out_ids : goal.shape_of-out_ids
shape_of-out_ids c = omega (arith, c.put_rest-row.auto)

pub shape_of-out_pool : goal.shape_of-out_pool
shape_of-out_pool c = omega (arith, c.put_named-at.auto, c.put_rest-row.auto)

pub returns : goal.returns
returns c = let a = c.args in let ss = named_segments a.segments.now a.views.now a.runs.now a.pool.now a.sources.now a.order.now a.n a.prefixes.now a.np in let k = bytes_in a.pool.now a.name in let ms = members_in a.groups.now a.sets.now a.pool.now a.count in let o : Lent = record { segments = a.out_segments.now; views = a.out_views.now; runs = a.out_runs.now; borrows = a.out_borrows.now; ids = a.out_ids.now; pool = a.out_pool.now } in let h = c.requires.left_value in let e = c.no_fill-c.ensures in let q = c.put_named-at.ensures.value in record { value = prefixed_row ss k ms (uuids_of a.fresh.now) a.seq a.left h _ e _ q _ _ _ c.put_rest-row.ensures.value (sym (members_long a.groups.now a.sets.now a.pool.now a.count)) c.segmented_row.ensures; out_segments_after = prefixed_segments ss k ms (uuids_of a.fresh.now) a.seq a.left h _ e _ _ c.put_named-at.ensures.out_segments_after; out_views_after = prefixed_views ss k ms (uuids_of a.fresh.now) a.seq a.left h _ e _ _ c.put_named-at.ensures.out_views_after; out_runs_after = prefixed_runs ss k ms (uuids_of a.fresh.now) a.seq a.left h _ e _ _ c.put_named-at.ensures.out_runs_after; out_borrows_after = prefixed_borrows ss k ms (uuids_of a.fresh.now) a.seq a.left h _ e _ q _ _ c.put_rest-row.ensures.out_borrows_after; out_ids_after = prefixed_ids ss k ms (uuids_of a.fresh.now) a.seq a.left h _ e _ q _ _ c.put_rest-row.ensures.out_ids_after; out_pool_after = prefixed_pool ss k ms (uuids_of a.fresh.now) a.seq a.left h _ e _ q _ _ _ c.put_named-at.ensures.out_pool_after c.put_rest-row.ensures.out_pool_after }
