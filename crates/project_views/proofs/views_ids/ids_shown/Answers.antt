use native.Mathlib.Omega.{arith}
use Rattle.tables.specs.Layout.{joined}
use Rattle.records.specs.Decode.{tree_in}
use Rattle.measure.specs.Within.{run_views}
use Rattle.project_views.specs.Reach.{reach_of}
use Rattle.project_views.specs.Shown.{tree_shown}
use Rattle.project_views.proofs.Ids.{both_first, both_rest, both_laid}
use Rattle.project_views.proofs.views_ids.ids_shown.Goals as goal

pub put_views_ids-to-requires : goal.put_views_ids-to-requires
unfolding tree_shown tree_in
put_views_ids-to-requires c = let a = c.args in let t = tree_shown (reach_of a.pool.now a.r) (tree_in a.runs.now a.views.now a.pool.now a.t) in both_first a.c t.l0 (joined run_views t.runs) _ c.requires

pub put_runs_ids-requires : goal.put_runs_ids-requires
unfolding tree_shown tree_in
put_runs_ids-requires c = let a = c.args in let t = tree_shown (reach_of a.pool.now a.r) (tree_in a.runs.now a.views.now a.pool.now a.t) in omega (arith, both_rest a.c t.l0 (joined run_views t.runs) _ c.put_views_ids-to.ensures.value _ c.requires, c.put_views_ids-to.auto)

pub returns : goal.returns
unfolding tree_shown tree_in
returns c = let a = c.args in let t = tree_shown (reach_of a.pool.now a.r) (tree_in a.runs.now a.views.now a.pool.now a.t) in let whole = both_laid a.c t.l0 (joined run_views t.runs) _ c.put_views_ids-to.ensures.value _ _ _ _ c.requires c.put_views_ids-to.ensures.out_ids_after c.put_runs_ids.ensures.value c.put_runs_ids.ensures.out_ids_after in record { value = whole.0; out_ids_after = whole.1 }
