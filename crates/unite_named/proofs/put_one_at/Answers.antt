use native.Mathlib.Omega.{arith}
use Rattle.unite_named.specs.Steps.{piece_in}
use Rattle.unite_named.proofs.Pieces.{piece_empty, piece_one}
use Rattle.unite_named.proofs.Laying.{laid_none, one_room, one_left, laid_one}
use Rattle.unite_named.proofs.put_one_at.Goals as goal

pub returns-then-m-eq0 : goal.returns-then-m-eq0
returns-then-m-eq0 c = let a = c.args in let l = laid_none a.left (piece_in a.segments.now a.views.now a.runs.now a.pool.now a.sources.now a.order.now a.n a.prefixes.now a.i) a.c _ _ _ _ (piece_empty a.segments.now a.views.now a.runs.now a.pool.now a.sources.now a.order.now a.n a.prefixes.now a.i _ c.place_at-p.ensures _ _ c.shares_at-m.ensures.result_after c.if-m-eq0.true) in record { value = l.0; out_segments_after = l.1.0; out_runs_after = l.1.1.0; out_views_after = l.1.1.1.0; out_pool_after = l.1.1.1.1; shares_len_unchanged = c.shares_at-m.ensures.shares_len_unchanged }

pub put_one-requires : goal.put_one-requires
put_one-requires c = let a = c.args in let e = piece_one a.segments.now a.views.now a.runs.now a.pool.now a.sources.now a.order.now a.n a.prefixes.now a.i _ c.place_at-p.ensures _ _ c.shares_at-m.ensures.result_after c.if-m-eq0.false in let rest = one_room a.left (piece_in a.segments.now a.views.now a.runs.now a.pool.now a.sources.now a.order.now a.n a.prefixes.now a.i) a.c _ e _ _ _ _ (c.requires.i_in_bounds_2, (c.requires.i_in_bounds_3, (c.requires.i_in_bounds_4, c.requires.i_in_bounds_5))) in record { n_in_bounds = omega (arith, c.requires.n_in_bounds_2, c.shares_at-m.ensures.upper_bound, c.shares_at-m.ensures.shares_len_unchanged); pool_bound = one_left a.left (piece_in a.segments.now a.views.now a.runs.now a.pool.now a.sources.now a.order.now a.n a.prefixes.now a.i) a.c _ e c.requires.i_bound; pool_in_bounds = rest.0; pool_in_bounds_2 = rest.1.0; pool_in_bounds_3 = rest.1.1.0; pool_in_bounds_4 = rest.1.1.1 }

pub returns : goal.returns
returns c = let a = c.args in let e = piece_one a.segments.now a.views.now a.runs.now a.pool.now a.sources.now a.order.now a.n a.prefixes.now a.i _ c.place_at-p.ensures _ _ c.shares_at-m.ensures.result_after c.if-m-eq0.false in let l = laid_one a.left (piece_in a.segments.now a.views.now a.runs.now a.pool.now a.sources.now a.order.now a.n a.prefixes.now a.i) a.c _ e _ _ _ _ _ _ _ _ _ (c.put_one.ensures.value, (c.put_one.ensures.out_segments_after, (c.put_one.ensures.out_runs_after, (c.put_one.ensures.out_views_after, c.put_one.ensures.out_pool_after)))) in record { value = l.0; out_segments_after = l.1.0; out_runs_after = l.1.1.0; out_views_after = l.1.1.1.0; out_pool_after = l.1.1.1.1; shares_len_unchanged = c.shares_at-m.ensures.shares_len_unchanged }
