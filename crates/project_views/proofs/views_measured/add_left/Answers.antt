use mathlib.Core.Path.{ap, ◌∙◌}
use Rattle.measure.specs.Walk.{add_of}
use Rattle.project_views.proofs.Left.{left_fill}
use Rattle.project_views.proofs.views_measured.add_left.Goals as goal

pub returns : goal.returns
returns c = let a = c.args in c.add_view.ensures ∙ ap (add_of a.most a.c) (left_fill a.pool.now a.v _ a.seen _ c.flat_end-flat.ensures c.row_seen-row.ensures)
