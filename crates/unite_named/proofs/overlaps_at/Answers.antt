use Rattle.unite_named.proofs.Pieces.{overlap_at_lem}
use Rattle.unite_named.proofs.overlaps_at.Goals as goal

pub returns : goal.returns
returns c = let a = c.args in record { value = overlap_at_lem a.segments.now a.views.now a.runs.now a.pool.now a.sources.now a.order.now a.n a.prefixes.now a.i _ c.place_at-p.ensures _ _ c.shares_at-m.ensures.result_after _ c.ranges_overlap.ensures; shares_len_unchanged = c.shares_at-m.ensures.shares_len_unchanged }
