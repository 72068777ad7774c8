use mathlib.Core.Path.{refl, ap, ◌∙◌}
use native.Mathlib.Omega.{arith}
use Rattle.records.specs.Fill.{plus}
use Rattle.records.specs.Layout.{segments_laid, segments_runs_laid, segments_views_laid}
use Rattle.emit.proofs.Laid.{walk_none, walk_more, walk_all_lem, grown_none, grown_room, grown_more, grown_all, joined_all}
use Rattle.unite_sources.specs.Rows.{begins, places_in}
use Rattle.unite_named.specs.Named.{segments_at, tree_tables}
use Rattle.unite_named.specs.Steps.{piece_in}
use Rattle.unite_named.proofs.Pieces.{pieces_all}
use Rattle.unite_named.proofs.Laying.{laid_so_far, left_now, left_most, left_enough, named_fill_lem, named_rows, named_runs, named_views, named_bytes}
use Rattle.unite_named.proofs.put_named.Goals as goal

pub loop-k-init : goal.loop-k-init
unfolding segments_laid segments_runs_laid segments_views_laid
loop-k-init c = let a = c.args in let f = named_fill_lem a.left (piece_in a.segments.now a.views.now a.runs.now a.pool.now a.sources.now a.order.now a.n a.prefixes.now) a.np (segments_at (tree_tables a.segments.now a.views.now a.runs.now a.pool.now) a.sources.now (begins a.order.now a.n) (places_in a.prefixes.now a.pool.now a.np)) (pieces_all a.segments.now a.views.now a.runs.now a.pool.now a.sources.now a.order.now a.n a.prefixes.now a.np) in (walk_none, grown_none (rw f c.requires.np_in_bounds_2), grown_none (rw f c.requires.np_in_bounds_3), grown_none (rw f c.requires.np_in_bounds_4), grown_none (rw f c.requires.np_in_bounds_5), refl)

pub overflow_sub-rest : goal.overflow_sub-rest
unfolding segments_laid segments_runs_laid segments_views_laid
overflow_sub-rest c = let a = c.args in omega (arith, laid_so_far a.left (piece_in a.segments.now a.views.now a.runs.now a.pool.now a.sources.now a.order.now a.n a.prefixes.now) a.np a.c _ _ c.loop-k.invariant.0)

pub overflow_sub-rest-in-loop-k : goal.overflow_sub-rest-in-loop-k
unfolding segments_laid segments_runs_laid segments_views_laid
overflow_sub-rest-in-loop-k c = let a = c.args in left_most a.left (piece_in a.segments.now a.views.now a.runs.now a.pool.now a.sources.now a.order.now a.n a.prefixes.now) a.np a.c _ _ c.loop-k.invariant.0 (segments_at (tree_tables a.segments.now a.views.now a.runs.now a.pool.now) a.sources.now (begins a.order.now a.n) (places_in a.prefixes.now a.pool.now a.np)) (pieces_all a.segments.now a.views.now a.runs.now a.pool.now a.sources.now a.order.now a.n a.prefixes.now a.np) c.requires.np_bound c.loop-k-test.true

pub put_one_at-to-requires : goal.put_one_at-to-requires
unfolding segments_laid segments_runs_laid segments_views_laid
put_one_at-to-requires c = let a = c.args in let i = c.loop-k.invariant in let h = c.loop-k-test.true in let e = left_now a.left (piece_in a.segments.now a.views.now a.runs.now a.pool.now a.sources.now a.order.now a.n a.prefixes.now) a.np a.c _ _ c.loop-k.invariant.0 in record { n_in_bounds = c.requires.n_in_bounds; n_in_bounds_2 = omega (arith, c.requires.n_in_bounds_2, i.5); i_in_bounds = omega (arith, c.requires.np_in_bounds, h); i_bound = left_enough a.left (piece_in a.segments.now a.views.now a.runs.now a.pool.now a.sources.now a.order.now a.n a.prefixes.now) a.np a.c _ _ c.loop-k.invariant.0 (segments_at (tree_tables a.segments.now a.views.now a.runs.now a.pool.now) a.sources.now (begins a.order.now a.n) (places_in a.prefixes.now a.pool.now a.np)) (pieces_all a.segments.now a.views.now a.runs.now a.pool.now a.sources.now a.order.now a.n a.prefixes.now a.np) c.requires.np_bound h; i_in_bounds_2 = rw e (grown_room i.0 i.1 h); i_in_bounds_3 = rw e (grown_room i.0 i.2 h); i_in_bounds_4 = rw e (grown_room i.0 i.3 h); i_in_bounds_5 = rw e (grown_room i.0 i.4 h) }

pub loop-k-preserved : goal.loop-k-preserved
unfolding segments_laid segments_runs_laid segments_views_laid
loop-k-preserved c = let a = c.args in let e = left_now a.left (piece_in a.segments.now a.views.now a.runs.now a.pool.now a.sources.now a.order.now a.n a.prefixes.now) a.np a.c _ _ c.loop-k.invariant.0 in let i = c.loop-k.invariant in let h = c.loop-k-test.true in (walk_more i.0 h (rw e at c.put_one_at-to.ensures.value), grown_more i.0 i.1 h (rw e at c.put_one_at-to.ensures.out_segments_after), grown_more i.0 i.2 h (rw e at c.put_one_at-to.ensures.out_runs_after), grown_more i.0 i.3 h (rw e at c.put_one_at-to.ensures.out_views_after), grown_more i.0 i.4 h (rw e at c.put_one_at-to.ensures.out_pool_after), c.put_one_at-to.ensures.shares_len_unchanged ∙ i.5)

pub returns : goal.returns
unfolding segments_laid segments_runs_laid segments_views_laid
returns c = let a = c.args in let i = c.loop-k.invariant in let h = c.loop-k-test.false in record { value = walk_all_lem i.0 h ∙ ap (plus a.c) (named_fill_lem a.left (piece_in a.segments.now a.views.now a.runs.now a.pool.now a.sources.now a.order.now a.n a.prefixes.now) a.np (segments_at (tree_tables a.segments.now a.views.now a.runs.now a.pool.now) a.sources.now (begins a.order.now a.n) (places_in a.prefixes.now a.pool.now a.np)) (pieces_all a.segments.now a.views.now a.runs.now a.pool.now a.sources.now a.order.now a.n a.prefixes.now a.np)); out_segments_after = named_rows a.left (piece_in a.segments.now a.views.now a.runs.now a.pool.now a.sources.now a.order.now a.n a.prefixes.now) a.np (segments_at (tree_tables a.segments.now a.views.now a.runs.now a.pool.now) a.sources.now (begins a.order.now a.n) (places_in a.prefixes.now a.pool.now a.np)) (pieces_all a.segments.now a.views.now a.runs.now a.pool.now a.sources.now a.order.now a.n a.prefixes.now a.np) a.c _ _ (grown_all i.0 i.1 h); out_runs_after = named_runs a.left (piece_in a.segments.now a.views.now a.runs.now a.pool.now a.sources.now a.order.now a.n a.prefixes.now) a.np (segments_at (tree_tables a.segments.now a.views.now a.runs.now a.pool.now) a.sources.now (begins a.order.now a.n) (places_in a.prefixes.now a.pool.now a.np)) (pieces_all a.segments.now a.views.now a.runs.now a.pool.now a.sources.now a.order.now a.n a.prefixes.now a.np) a.c _ _ (grown_all i.0 i.2 h); out_views_after = named_views a.left (piece_in a.segments.now a.views.now a.runs.now a.pool.now a.sources.now a.order.now a.n a.prefixes.now) a.np (segments_at (tree_tables a.segments.now a.views.now a.runs.now a.pool.now) a.sources.now (begins a.order.now a.n) (places_in a.prefixes.now a.pool.now a.np)) (pieces_all a.segments.now a.views.now a.runs.now a.pool.now a.sources.now a.order.now a.n a.prefixes.now a.np) a.c _ _ (grown_all i.0 i.3 h); out_pool_after = named_bytes a.left (piece_in a.segments.now a.views.now a.runs.now a.pool.now a.sources.now a.order.now a.n a.prefixes.now) a.np (segments_at (tree_tables a.segments.now a.views.now a.runs.now a.pool.now) a.sources.now (begins a.order.now a.n) (places_in a.prefixes.now a.pool.now a.np)) (pieces_all a.segments.now a.views.now a.runs.now a.pool.now a.sources.now a.order.now a.n a.prefixes.now a.np) a.c _ _ (joined_all i.0 i.4 h) }
