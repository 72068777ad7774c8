use Rattle.measure.proofs.Exits.{exit_of}
use mathlib.Core.Path.{ap}
use mathlib.Core.Bool.{not}
use native.Mathlib.Omega.{arith}
use mathlib.Core.Path.{sym}
use Rattle.records.specs.Decode.{Lent}
use Rattle.measure.proofs.Fits.{under}
use Rattle.borrows.specs.Clone.{uuids_of}
use Rattle.unite_trees.specs.Joined.{joined_tree}
use Rattle.unite_trees.specs.Rows.{trees_in}
use Rattle.unite_groups.specs.Rows.{members_in}
use Rattle.unite.proofs.Plain.{lent_long, members_long, plain_fill, plain_counts, plain_segments}
use Rattle.unite.proofs.Given.{given_over, given_no_room, given_few, given_runs, given_room, given_done}
use Rattle.unite.proofs.given_plain.Goals as goal

pub returns-then-not-fits_in : goal.returns-then-not-fits_in
returns-then-not-fits_in c = let a = c.args in let t = joined_tree (trees_in a.sources.now a.order.now a.n a.runs.now a.views.now a.pool.now) in let ms = members_in a.groups.now a.sets.now a.pool.now a.count in let o : Lent = record { segments = a.out_segments.now; views = a.out_views.now; runs = a.out_runs.now; borrows = a.out_borrows.now; ids = a.out_ids.now; pool = a.out_pool.now } in let k = sym (members_long a.groups.now a.sets.now a.pool.now a.count) in given_no_room a.lim _ _ ms a.fresh.now o (plain_fill t ms (uuids_of a.fresh.now) a.seq) (lent_long (uuids_of a.fresh.now) 0 ms) _ c.measure_plain.ensures _ c.in_ok-f.ensures.ok_part _ c.fits_in.ensures (ap not c.if-not-fits_in.true)

pub returns-then-fresh-count : goal.returns-then-fresh-count
returns-then-fresh-count c = let a = c.args in let t = joined_tree (trees_in a.sources.now a.order.now a.n a.runs.now a.views.now a.pool.now) in let ms = members_in a.groups.now a.sets.now a.pool.now a.count in let o : Lent = record { segments = a.out_segments.now; views = a.out_views.now; runs = a.out_runs.now; borrows = a.out_borrows.now; ids = a.out_ids.now; pool = a.out_pool.now } in let k = sym (members_long a.groups.now a.sets.now a.pool.now a.count) in given_few a.lim _ _ ms a.fresh.now o (plain_fill t ms (uuids_of a.fresh.now) a.seq) (lent_long (uuids_of a.fresh.now) 0 ms) _ c.measure_plain.ensures _ c.in_ok-f.ensures.ok_part _ c.fits_in.ensures (ap not c.if-not-fits_in.false) _ k c.if-fresh-count.true

pub put_plain-requires : goal.put_plain-requires
put_plain-requires c = let a = c.args in let t = joined_tree (trees_in a.sources.now a.order.now a.n a.runs.now a.views.now a.pool.now) in let ms = members_in a.groups.now a.sets.now a.pool.now a.count in let o : Lent = record { segments = a.out_segments.now; views = a.out_views.now; runs = a.out_runs.now; borrows = a.out_borrows.now; ids = a.out_ids.now; pool = a.out_pool.now } in let k = sym (members_long a.groups.now a.sets.now a.pool.now a.count) in let u = under _ _ (given_room a.lim _ _ ms a.fresh.now o (plain_fill t ms (uuids_of a.fresh.now) a.seq) (lent_long (uuids_of a.fresh.now) 0 ms) _ c.measure_plain.ensures _ c.in_ok-f.ensures.ok_part _ c.fits_in.ensures (ap not c.if-not-fits_in.false)) in record { n_in_bounds = c.requires.n_in_bounds; count_in_bounds = c.requires.count_in_bounds; left_value = given_runs a.lim _ _ ms a.fresh.now o (plain_fill t ms (uuids_of a.fresh.now) a.seq) (lent_long (uuids_of a.fresh.now) 0 ms) _ c.measure_plain.ensures _ c.in_ok-f.ensures.ok_part _ (plain_counts t ms (uuids_of a.fresh.now) a.seq); pool_in_bounds = omega (arith, u.runs); pool_in_bounds_2 = omega (arith, u.views); count_in_bounds_2 = omega (arith, u.borrows); count_in_bounds_3 = omega (arith, u.ids); count_in_bounds_4 = omega (arith, u.bytes) }

pub returns-in_err-f : goal.returns-in_err-f
returns-in_err-f c = rw (exit_of _ _ _ _ c.in_err-f.ensures.value c.from_residual.ensures.1) (let a = c.args in let t = joined_tree (trees_in a.sources.now a.order.now a.n a.runs.now a.views.now a.pool.now) in let ms = members_in a.groups.now a.sets.now a.pool.now a.count in let o : Lent = record { segments = a.out_segments.now; views = a.out_views.now; runs = a.out_runs.now; borrows = a.out_borrows.now; ids = a.out_ids.now; pool = a.out_pool.now } in let k = sym (members_long a.groups.now a.sets.now a.pool.now a.count) in given_over a.lim _ _ ms a.fresh.now o (plain_fill t ms (uuids_of a.fresh.now) a.seq) (lent_long (uuids_of a.fresh.now) 0 ms) _ c.measure_plain.ensures c.in_err-f.ensures.ok_part)

pub returns : goal.returns
returns c = let a = c.args in let t = joined_tree (trees_in a.sources.now a.order.now a.n a.runs.now a.views.now a.pool.now) in let ms = members_in a.groups.now a.sets.now a.pool.now a.count in let o : Lent = record { segments = a.out_segments.now; views = a.out_views.now; runs = a.out_runs.now; borrows = a.out_borrows.now; ids = a.out_ids.now; pool = a.out_pool.now } in let k = sym (members_long a.groups.now a.sets.now a.pool.now a.count) in given_done a.lim _ _ ms a.fresh.now o (plain_fill t ms (uuids_of a.fresh.now) a.seq) (lent_long (uuids_of a.fresh.now) 0 ms) _ c.measure_plain.ensures _ c.in_ok-f.ensures.ok_part _ c.fits_in.ensures (ap not c.if-not-fits_in.false) _ k c.if-fresh-count.false _ _ _ _ _ _ _ c.put_plain.ensures.value (plain_segments t ms (uuids_of a.fresh.now) a.seq _) c.put_plain.ensures.out_views_after c.put_plain.ensures.out_runs_after c.put_plain.ensures.out_borrows_after c.put_plain.ensures.out_ids_after c.put_plain.ensures.out_pool_after
