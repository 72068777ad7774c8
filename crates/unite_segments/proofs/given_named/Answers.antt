use Rattle.measure.proofs.Exits.{exit_of}
use mathlib.Core.Path.{ap}
use mathlib.Core.Bool.{not}
use native.Mathlib.Omega.{arith}
use mathlib.Core.Path.{sym}
use Rattle.records.specs.Decode.{Lent, bytes_in}
use Rattle.unite_groups.specs.Rows.{members_in}
use Rattle.borrows.specs.Clone.{uuids_of}
use Rattle.unite.proofs.Plain.{lent_long, members_long}
use Rattle.unite.proofs.Given.{given_over, given_no_room, given_few, given_runs, given_room, given_done}
use Rattle.unite_segments.specs.Steps.{named_segments}
use Rattle.unite_segments.proofs.Prefixed.{prefixed_fill, prefixed_counts}
use Rattle.unite_segments.proofs.given_named.Goals as goal

pub measure_prefixed-requires : goal.measure_prefixed-requires
measure_prefixed-requires c = record { n_in_bounds = c.requires.n_in_bounds; n_in_bounds_2 = c.requires.n_in_bounds_2; np_in_bounds = c.requires.np_in_bounds; count_in_bounds = c.requires.count_in_bounds }

pub shape_of-shares-then-not-fits_in : goal.shape_of-shares-then-not-fits_in
shape_of-shares-then-not-fits_in c = omega (arith, c.measure_prefixed.auto)

pub returns-then-not-fits_in : goal.returns-then-not-fits_in
returns-then-not-fits_in c = let a = c.args in let ss = named_segments a.segments.now a.views.now a.runs.now a.pool.now a.sources.now a.order.now a.n a.prefixes.now a.np in let k = bytes_in a.pool.now a.name in let ms = members_in a.groups.now a.sets.now a.pool.now a.count in let o : Lent = record { segments = a.out_segments.now; views = a.out_views.now; runs = a.out_runs.now; borrows = a.out_borrows.now; ids = a.out_ids.now; pool = a.out_pool.now } in given_no_room a.lim _ _ ms a.fresh.now o (prefixed_fill ss k ms (uuids_of a.fresh.now) a.seq) (lent_long (uuids_of a.fresh.now) 0 ms) _ c.measure_prefixed.ensures _ c.in_ok-f.ensures.ok_part _ c.fits_in.ensures (ap not c.if-not-fits_in.true)

pub shape_of-shares-then-fresh-count : goal.shape_of-shares-then-fresh-count
shape_of-shares-then-fresh-count c = omega (arith, c.measure_prefixed.auto)

pub returns-then-fresh-count : goal.returns-then-fresh-count
returns-then-fresh-count c = let a = c.args in let ss = named_segments a.segments.now a.views.now a.runs.now a.pool.now a.sources.now a.order.now a.n a.prefixes.now a.np in let k = bytes_in a.pool.now a.name in let ms = members_in a.groups.now a.sets.now a.pool.now a.count in let o : Lent = record { segments = a.out_segments.now; views = a.out_views.now; runs = a.out_runs.now; borrows = a.out_borrows.now; ids = a.out_ids.now; pool = a.out_pool.now } in let n = sym (members_long a.groups.now a.sets.now a.pool.now a.count) in given_few a.lim _ _ ms a.fresh.now o (prefixed_fill ss k ms (uuids_of a.fresh.now) a.seq) (lent_long (uuids_of a.fresh.now) 0 ms) _ c.measure_prefixed.ensures _ c.in_ok-f.ensures.ok_part _ c.fits_in.ensures (ap not c.if-not-fits_in.false) _ n c.if-fresh-count.true

pub put_prefixed-requires : goal.put_prefixed-requires
put_prefixed-requires c = let a = c.args in let ss = named_segments a.segments.now a.views.now a.runs.now a.pool.now a.sources.now a.order.now a.n a.prefixes.now a.np in let k = bytes_in a.pool.now a.name in let ms = members_in a.groups.now a.sets.now a.pool.now a.count in let o : Lent = record { segments = a.out_segments.now; views = a.out_views.now; runs = a.out_runs.now; borrows = a.out_borrows.now; ids = a.out_ids.now; pool = a.out_pool.now } in record { n_in_bounds = c.requires.n_in_bounds; n_in_bounds_2 = omega (arith, c.requires.n_in_bounds_2, c.measure_prefixed.auto); np_in_bounds = c.requires.np_in_bounds; count_in_bounds = c.requires.count_in_bounds; left_value = given_runs a.lim _ _ ms a.fresh.now o (prefixed_fill ss k ms (uuids_of a.fresh.now) a.seq) (lent_long (uuids_of a.fresh.now) 0 ms) _ c.measure_prefixed.ensures _ c.in_ok-f.ensures.ok_part _ (prefixed_counts ss k ms (uuids_of a.fresh.now) a.seq); out_pool_value = given_room a.lim _ _ ms a.fresh.now o (prefixed_fill ss k ms (uuids_of a.fresh.now) a.seq) (lent_long (uuids_of a.fresh.now) 0 ms) _ c.measure_prefixed.ensures _ c.in_ok-f.ensures.ok_part _ c.fits_in.ensures (ap not c.if-not-fits_in.false) }

pub shape_of-shares-in_err-f : goal.shape_of-shares-in_err-f
shape_of-shares-in_err-f c = omega (arith, c.measure_prefixed.auto)

pub returns-in_err-f : goal.returns-in_err-f
returns-in_err-f c = rw (exit_of _ _ _ _ c.in_err-f.ensures.value c.from_residual.ensures.1) (let a = c.args in let ss = named_segments a.segments.now a.views.now a.runs.now a.pool.now a.sources.now a.order.now a.n a.prefixes.now a.np in let k = bytes_in a.pool.now a.name in let ms = members_in a.groups.now a.sets.now a.pool.now a.count in let o : Lent = record { segments = a.out_segments.now; views = a.out_views.now; runs = a.out_runs.now; borrows = a.out_borrows.now; ids = a.out_ids.now; pool = a.out_pool.now } in given_over a.lim _ _ ms a.fresh.now o (prefixed_fill ss k ms (uuids_of a.fresh.now) a.seq) (lent_long (uuids_of a.fresh.now) 0 ms) _ c.measure_prefixed.ensures c.in_err-f.ensures.ok_part)

pub shape_of-shares : goal.shape_of-shares
shape_of-shares c = omega (arith, c.measure_prefixed.auto, c.put_prefixed.auto)

pub shape_of-out_segments : goal.shape_of-out_segments
shape_of-out_segments c = omega (arith, c.put_prefixed.auto)

pub shape_of-out_views : goal.shape_of-out_views
shape_of-out_views c = omega (arith, c.put_prefixed.auto)

pub shape_of-out_runs : goal.shape_of-out_runs
shape_of-out_runs c = omega (arith, c.put_prefixed.auto)

pub shape_of-out_borrows : goal.shape_of-out_borrows
shape_of-out_borrows c = omega (arith, c.put_prefixed.auto)

pub shape_of-out_ids : goal.shape_of-out_ids
shape_of-out_ids c = omega (arith, c.put_prefixed.auto)

pub shape_of-out_pool : goal.shape_of-out_pool
shape_of-out_pool c = omega (arith, c.put_prefixed.auto)

pub returns : goal.returns
returns c = let a = c.args in let ss = named_segments a.segments.now a.views.now a.runs.now a.pool.now a.sources.now a.order.now a.n a.prefixes.now a.np in let k = bytes_in a.pool.now a.name in let ms = members_in a.groups.now a.sets.now a.pool.now a.count in let o : Lent = record { segments = a.out_segments.now; views = a.out_views.now; runs = a.out_runs.now; borrows = a.out_borrows.now; ids = a.out_ids.now; pool = a.out_pool.now } in let n = sym (members_long a.groups.now a.sets.now a.pool.now a.count) in given_done a.lim _ _ ms a.fresh.now o (prefixed_fill ss k ms (uuids_of a.fresh.now) a.seq) (lent_long (uuids_of a.fresh.now) 0 ms) _ c.measure_prefixed.ensures _ c.in_ok-f.ensures.ok_part _ c.fits_in.ensures (ap not c.if-not-fits_in.false) _ n c.if-fresh-count.false _ _ _ _ _ _ _ c.put_prefixed.ensures.value c.put_prefixed.ensures.out_segments_after c.put_prefixed.ensures.out_views_after c.put_prefixed.ensures.out_runs_after c.put_prefixed.ensures.out_borrows_after c.put_prefixed.ensures.out_ids_after c.put_prefixed.ensures.out_pool_after
