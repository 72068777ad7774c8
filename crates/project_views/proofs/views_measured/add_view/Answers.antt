use Rattle.project_views.proofs.Adds.{view_broken, view_broken_late, view_added}
use Rattle.project_views.proofs.views_measured.add_view.Goals as goal

pub returns-in_err-d : goal.returns-in_err-d
returns-in_err-d c = rw c.from_residual.ensures (let a = c.args in view_broken a.pool.now a.v _ _ c.last_bound-end.ensures c.seen_range-seen.ensures a.most a.c _ c.add_bounds.ensures c.in_err-d.was)

pub returns-in_err-e : goal.returns-in_err-e
returns-in_err-e c = rw c.from_residual-in_err-e.ensures (let a = c.args in view_broken_late a.pool.now a.v _ _ c.last_bound-end.ensures c.seen_range-seen.ensures a.most a.c _ c.add_bounds.ensures _ c.in_ok-d.was _ c.add_bounds-2.ensures c.in_err-e.was)

pub returns : goal.returns
returns c = let a = c.args in view_added a.pool.now a.v _ _ c.last_bound-end.ensures c.seen_range-seen.ensures a.most a.c _ c.add_bounds.ensures _ c.in_ok-d.was _ c.add_bounds-2.ensures _ _ c.in_ok-e.was c.add.ensures
