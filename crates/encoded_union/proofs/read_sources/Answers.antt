use Rattle.measure.proofs.Exits.{exit_same}
use mathlib.Core.Path.{◌∙◌}
use native.Mathlib.Omega.{arith}
use Rattle.encoded_union.proofs.Gather.{paths_fit, piece_short}
use Rattle.encoded_union.proofs.Sofar.{sized_self, sized_more, none_yet, room_next, room_here, ready, again, stop, whole}
use Rattle.encoded_union.proofs.read_sources.Goals as goal

pub put-requires : goal.put-requires
put-requires c = paths_fit _ _ _ _ c.requires.s_value.1

pub loop-k-init : goal.loop-k-init
loop-k-init c = (none_yet _ _ _ _ _ _ _ _ _ _ _ _ c.put.ensures.value c.requires.s_value.0 c.requires.s_value.1 c.put.ensures.out_after c.requires.path_ends_len.2, sized_self _ _ _)

pub read_one-requires : goal.read_one-requires
read_one-requires c = let r = ready _ _ _ _ _ _ _ _ _ _ _ _ _ c.loop-k.invariant.0 c.loop-k-test.true c.requires.ends_value.0 c.requires.ends_value.1 in record { k_lt_most_sources = omega (arith, c.loop-k-test.true, c.requires.ends_len_bound); k_in_bounds = (c.loop-k-test.true, r.0, piece_short c.args.s.now c.args.ends.now c.loop-k.k r.1); k_in_bounds_2 = (omega (arith, c.loop-k-test.true, c.requires.path_ends_len.0), r.2, omega (arith, c.loop-k-test.true, c.requires.path_ends_len.1), r.3); s_value = (c.loop-k.invariant.0.work, room_here _ _ _ _ _ _ _ _ _ _ _ _ _ c.loop-k.invariant.0 c.loop-k-test.true) }

pub next-c-requires : goal.next-c-requires
next-c-requires c = room_next _ _ _ _ _ _ _ _ _ _ _ _ _ c.loop-k.invariant.0 c.loop-k-test.true

pub loop-k-smaller : goal.loop-k-smaller
loop-k-smaller c = omega (arith, c.loop-k-test.true)

pub loop-k-preserved : goal.loop-k-preserved
loop-k-preserved c = (again _ _ _ _ _ _ _ _ _ _ _ _ _ c.loop-k.invariant.0 c.loop-k-test.true _ _ _ c.read_one.ensures (grind arith) _ _ c.next-c.ensures (record { segments = c.read_one.auto.segments; views = c.read_one.auto.views; runs = c.read_one.auto.runs; borrows = c.read_one.auto.borrows; ids = c.read_one.auto.ids }), sized_more _ _ _ _ _ _ _ _ _ (record { segments = c.read_one.auto.segments; views = c.read_one.auto.views; runs = c.read_one.auto.runs; borrows = c.read_one.auto.borrows; ids = c.read_one.auto.ids; all_segments = c.read_one.auto.all_segments; all_views_lem = c.read_one.auto.all_views; all_runs = c.read_one.auto.all_runs; all_borrows = c.read_one.auto.all_borrows; all_ids = c.read_one.auto.all_ids; all_pool = c.read_one.auto.all_pool; rows = c.read_one.auto.rows }) c.loop-k.invariant.1)

pub shape_of-segments-in_err-read_one : goal.shape_of-segments-in_err-read_one
shape_of-segments-in_err-read_one c = c.read_one.auto.segments ∙ c.loop-k.invariant.1.segments

pub shape_of-views-in_err-read_one : goal.shape_of-views-in_err-read_one
shape_of-views-in_err-read_one c = c.read_one.auto.views ∙ c.loop-k.invariant.1.views

pub shape_of-runs-in_err-read_one : goal.shape_of-runs-in_err-read_one
shape_of-runs-in_err-read_one c = c.read_one.auto.runs ∙ c.loop-k.invariant.1.runs

pub shape_of-borrows-in_err-read_one : goal.shape_of-borrows-in_err-read_one
shape_of-borrows-in_err-read_one c = c.read_one.auto.borrows ∙ c.loop-k.invariant.1.borrows

pub shape_of-ids-in_err-read_one : goal.shape_of-ids-in_err-read_one
shape_of-ids-in_err-read_one c = c.read_one.auto.ids ∙ c.loop-k.invariant.1.ids

pub shape_of-all_segments-in_err-read_one : goal.shape_of-all_segments-in_err-read_one
shape_of-all_segments-in_err-read_one c = c.read_one.auto.all_segments ∙ c.loop-k.invariant.1.all_segments

pub shape_of-all_views-in_err-read_one : goal.shape_of-all_views-in_err-read_one
shape_of-all_views-in_err-read_one c = c.read_one.auto.all_views ∙ c.loop-k.invariant.1.all_views_lem

pub shape_of-all_runs-in_err-read_one : goal.shape_of-all_runs-in_err-read_one
shape_of-all_runs-in_err-read_one c = c.read_one.auto.all_runs ∙ c.loop-k.invariant.1.all_runs

pub shape_of-all_borrows-in_err-read_one : goal.shape_of-all_borrows-in_err-read_one
shape_of-all_borrows-in_err-read_one c = c.read_one.auto.all_borrows ∙ c.loop-k.invariant.1.all_borrows

pub shape_of-all_ids-in_err-read_one : goal.shape_of-all_ids-in_err-read_one
shape_of-all_ids-in_err-read_one c = c.read_one.auto.all_ids ∙ c.loop-k.invariant.1.all_ids

pub shape_of-all_pool-in_err-read_one : goal.shape_of-all_pool-in_err-read_one
shape_of-all_pool-in_err-read_one c = c.read_one.auto.all_pool ∙ c.loop-k.invariant.1.all_pool ∙ c.put.auto.out

pub shape_of-rows-in_err-read_one : goal.shape_of-rows-in_err-read_one
shape_of-rows-in_err-read_one c = c.read_one.auto.rows ∙ c.loop-k.invariant.1.rows

pub returns-in_err-read_one : goal.returns-in_err-read_one
returns-in_err-read_one c = rw (exit_same _ _ c.from_residual.ensures.1) (stop _ _ _ _ _ _ _ _ _ _ _ _ _ c.loop-k.invariant.0 c.loop-k-test.true _ _ _ c.read_one.ensures _ c.in_err-read_one.was)

pub shape_of-segments : goal.shape_of-segments
shape_of-segments c = c.loop-k.invariant.1.segments

pub shape_of-views : goal.shape_of-views
shape_of-views c = c.loop-k.invariant.1.views

pub shape_of-runs : goal.shape_of-runs
shape_of-runs c = c.loop-k.invariant.1.runs

pub shape_of-borrows : goal.shape_of-borrows
shape_of-borrows c = c.loop-k.invariant.1.borrows

pub shape_of-ids : goal.shape_of-ids
shape_of-ids c = c.loop-k.invariant.1.ids

pub shape_of-all_segments : goal.shape_of-all_segments
shape_of-all_segments c = c.loop-k.invariant.1.all_segments

pub shape_of-all_views : goal.shape_of-all_views
shape_of-all_views c = c.loop-k.invariant.1.all_views_lem

pub shape_of-all_runs : goal.shape_of-all_runs
shape_of-all_runs c = c.loop-k.invariant.1.all_runs

pub shape_of-all_borrows : goal.shape_of-all_borrows
shape_of-all_borrows c = c.loop-k.invariant.1.all_borrows

pub shape_of-all_ids : goal.shape_of-all_ids
shape_of-all_ids c = c.loop-k.invariant.1.all_ids

pub shape_of-all_pool : goal.shape_of-all_pool
shape_of-all_pool c = c.loop-k.invariant.1.all_pool ∙ c.put.auto.out

pub shape_of-rows : goal.shape_of-rows
shape_of-rows c = c.loop-k.invariant.1.rows

pub returns : goal.returns
returns c = whole _ _ _ _ _ _ _ _ _ _ _ _ _ c.loop-k.invariant.0 c.loop-k-test.false c.requires.ends_value.1
