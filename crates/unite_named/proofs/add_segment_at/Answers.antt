use native.Mathlib.Omega.{arith}
use Rattle.unite_named.specs.Steps.{piece_in}
use Rattle.unite_named.proofs.Pieces.{piece_empty, piece_one, added_nothing, added_one}
use Rattle.unite_named.proofs.add_segment_at.Goals as goal

pub returns-then-m-eq0 : goal.returns-then-m-eq0
returns-then-m-eq0 c = let a = c.args in record { value = added_nothing a.most a.c (piece_in a.segments.now a.views.now a.runs.now a.pool.now a.sources.now a.order.now a.n a.prefixes.now a.i) c.requires.most_value (piece_empty a.segments.now a.views.now a.runs.now a.pool.now a.sources.now a.order.now a.n a.prefixes.now a.i _ c.place_at-p.ensures _ _ c.shares_at-m.ensures.result_after c.if-m-eq0.true); shares_len_unchanged = c.shares_at-m.ensures.shares_len_unchanged }

pub add_segment-requires : goal.add_segment-requires
add_segment-requires c = omega (arith, c.requires.n_in_bounds_2, c.shares_at-m.ensures.upper_bound, c.shares_at-m.ensures.shares_len_unchanged)

pub returns : goal.returns
returns c = let a = c.args in record { value = added_one a.most a.c (piece_in a.segments.now a.views.now a.runs.now a.pool.now a.sources.now a.order.now a.n a.prefixes.now a.i) _ _ (piece_one a.segments.now a.views.now a.runs.now a.pool.now a.sources.now a.order.now a.n a.prefixes.now a.i _ c.place_at-p.ensures _ _ c.shares_at-m.ensures.result_after c.if-m-eq0.false) c.add_segment.ensures; shares_len_unchanged = c.shares_at-m.ensures.shares_len_unchanged }
