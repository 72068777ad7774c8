use Prim.Native.Nat.{◌/◌}
use native.Mathlib.Omega.{arith}
use lib.ListN.{length}
use Rattle.tables.proofs.Windows.{held_in}
use Rattle.records.specs.Decode.{segments_in}
use Rattle.records.specs.Layout.{segments_laid, segments_runs_laid, segments_views_laid}
use Rattle.emit.proofs.Laid.{walk_none, walk_more, walk_all_lem, grown_none, grown_room, grown_more, grown_all, joined_all}
use Rattle.emit.proofs.segments_put.put_segments.Goals as goal

pub loop-k-init : goal.loop-k-init
unfolding segments_in segments_laid segments_runs_laid segments_views_laid
loop-k-init c = let p = c.requires in (walk_none, grown_none (rw c.held-n.ensures p.w_in_bounds), grown_none (rw c.held-n.ensures p.w_in_bounds_2), grown_none (rw c.held-n.ensures p.w_in_bounds_3), grown_none (rw c.held-n.ensures p.w_in_bounds_4))

pub overflow_add-first : goal.overflow_add-first
unfolding segments_in segments_laid segments_runs_laid segments_views_laid
overflow_add-first c = omega (arith, held_in c.args.w (length c.args.segments.now / 12) c.loop-k.k (omega arith))

pub put_segment_at-to-requires : goal.put_segment_at-to-requires
unfolding segments_in segments_laid segments_runs_laid segments_views_laid
put_segment_at-to-requires c = let i = c.loop-k.invariant in let h = c.loop-k-test.true in record { i_in_bounds = held_in c.args.w (length c.args.segments.now / 12) c.loop-k.k (omega arith); i_in_bounds_2 = grown_room i.0 i.1 h; i_in_bounds_3 = grown_room i.0 i.2 h; i_in_bounds_4 = grown_room i.0 i.3 h; i_in_bounds_5 = grown_room i.0 i.4 h }

pub loop-k-preserved : goal.loop-k-preserved
unfolding segments_in segments_laid segments_runs_laid segments_views_laid
loop-k-preserved c = let i = c.loop-k.invariant in let h = c.loop-k-test.true in let e = c.put_segment_at-to.ensures in (walk_more i.0 h e.value, grown_more i.0 i.1 h e.out_segments_after, grown_more i.0 i.2 h e.out_runs_after, grown_more i.0 i.3 h e.out_views_after, grown_more i.0 i.4 h e.out_pool_after)

pub returns : goal.returns
unfolding segments_in segments_laid segments_runs_laid segments_views_laid
returns c = let i = c.loop-k.invariant in let h = c.loop-k-test.false in rw (← c.held-n.ensures) (record { value = walk_all_lem i.0 h; out_segments_after = grown_all i.0 i.1 h; out_runs_after = grown_all i.0 i.2 h; out_views_after = grown_all i.0 i.3 h; out_pool_after = joined_all i.0 i.4 h })
