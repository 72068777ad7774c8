use native.Mathlib.Numerals.{add-one}
use lib.Arith.{sub_dec}
use Prim.Native.Nat.{◌/◌}
use mathlib.Core.Path.{ap, ◌∙◌}
use native.Mathlib.Omega.{arith}
use lib.ListN.{length}
use Rattle.tables.proofs.Windows.{held_in}
use Rattle.measure.specs.Walk.{add_of}
use Rattle.project_views.proofs.Summed.{summed_none, summed_fits, summed_more, summed_broken, summed_all}
use Rattle.project_ranges.specs.Args.{config_in}
use Rattle.project_lay.proofs.Adds.{row_kept, left_fill}
use Rattle.project_lay.proofs.left_measured.measure_segments_after.Goals as goal

pub loop-k-init : goal.loop-k-init
loop-k-init c = summed_none c.requires.fill_value

pub overflow_add-w : goal.overflow_add-w
overflow_add-w c = omega (arith, held_in c.args.w (length c.args.segments.now / 12) c.loop-k.k (omega arith))

pub overflow_add-k : goal.overflow_add-k
overflow_add-k c = omega arith

pub measure_segment_at-requires : goal.measure_segment_at-requires
measure_segment_at-requires c = let a = c.args in record { i_in_bounds = held_in a.w (length a.segments.now / 12) c.loop-k.k (omega arith); i_value = row_kept a.lim a.segments.now a.views.now a.runs.now a.pool.now a.w _ c.loop-k.k c.held-n.ensures c.requires.w_value c.loop-k-test.true; fill_value = summed_fits c.loop-k.invariant }

pub returns-in_err-d : goal.returns-in_err-d
returns-in_err-d c = rw c.from_residual.ensures (let a = c.args in summed_broken c.loop-k.invariant _ c.loop-k-test.true c.measure_segment_at.ensures c.in_err-d.was ∙ ap (add_of a.lim.fill a.c) (left_fill a.segments.now a.runs.now a.views.now a.pool.now a.w (config_in a.pool.now a.config a.own.now) _ c.held-n.ensures))

pub loop-k-smaller : goal.loop-k-smaller
loop-k-smaller c = rw (add-one c.loop-k.k) (sub_dec c.held-n.result c.loop-k.k c.loop-k-test.true)

pub loop-k-preserved : goal.loop-k-preserved
loop-k-preserved c = summed_more c.loop-k.invariant _ c.loop-k-test.true c.measure_segment_at.ensures c.in_ok-d.was

pub returns : goal.returns
returns c = let a = c.args in summed_all c.loop-k.invariant c.loop-k-test.false ∙ ap (add_of a.lim.fill a.c) (left_fill a.segments.now a.runs.now a.views.now a.pool.now a.w (config_in a.pool.now a.config a.own.now) _ c.held-n.ensures)
