use Prim.Native.Nat.{◌+◌}
use Rattle.records.specs.Row.{view_at}
use Rattle.project_views.proofs.Pieces.{piece_is}
use Rattle.project_views.proofs.view_ranges.kept_at.Goals as goal

pub returns : goal.returns
returns c = let a = c.args in piece_is a.pool.now (λ i. view_at a.views.now (a.first + i)) a.n a.k a.views_overlap _ _ _ _ c.view_at-v.ensures c.end_at-end.ensures c.kept_to.ensures
