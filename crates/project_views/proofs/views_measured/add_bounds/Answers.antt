use mathlib.Core.Path.{refl}
use Rattle.keys.specs.Pool.{edge_of}
use Rattle.records.specs.Fill.{bytes}
use Rattle.project_views.proofs.Adds.{long}
use Rattle.project_views.proofs.Summed.{added_broken, added_on}
use Rattle.project_views.proofs.views_measured.add_bounds.Goals as goal

pub returns-in_err-d : goal.returns-in_err-d
returns-in_err-d c = rw c.from_residual.ensures (let a = c.args in added_broken _ _ _ (bytes (long (edge_of a.pool.now a.e))) _ refl _ c.add_bound.ensures c.in_err-d.was)

pub returns : goal.returns
returns c = added_on _ _ _ _ _ refl _ _ _ c.add_bound.ensures c.in_ok-d.was c.add_bound-2.ensures
