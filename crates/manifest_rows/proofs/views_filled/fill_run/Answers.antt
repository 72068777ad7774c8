use native.Mathlib.Omega.{arith}
use Rattle.manifest_rows.proofs.Cuts.{run_begun}
use Rattle.manifest_rows.proofs.Runs.{run_past}
use Rattle.manifest_rows.proofs.views_filled.fill_run.Goals as goal

pub fill_views-requires : goal.fill_views-requires
fill_views-requires c = omega (arith, (run_begun _ _ _ _ c.in_ok-h.ensures).past, c.requires)

pub overflow_add-next : goal.overflow_add-next
overflow_add-next c = omega (arith, run_past _ _ _ _ c.in_ok-h.ensures _ _ _ _ c.in_ok-q.ensures _ c.in_ok-e.ensures, c.requires)
