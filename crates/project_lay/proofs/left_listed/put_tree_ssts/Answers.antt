use native.Mathlib.Omega.{arith}
use lib.ListN.{length}
use Rattle.project_lay.specs.Steps.{ssts_in, runs_ssts}
use Rattle.project_lay.proofs.Listing.{ids_first, ids_rest, ids_then}
use Rattle.project_lay.proofs.left_listed.put_tree_ssts.Goals as goal

pub put_ssts-to-requires : goal.put_ssts-to-requires
put_ssts-to-requires c = let a = c.args in ids_first a.c (ssts_in a.views.now a.t.l0) (runs_ssts a.runs.now a.views.now a.t.compacted) _ c.requires

pub put_runs_ssts-requires : goal.put_runs_ssts-requires
put_runs_ssts-requires c = let a = c.args in omega (arith, ids_rest a.c (ssts_in a.views.now a.t.l0) (runs_ssts a.runs.now a.views.now a.t.compacted) _ c.put_ssts-to.ensures.value (length a.out_ids.now) c.requires, c.put_ssts-to.auto)

pub returns : goal.returns
returns c = let a = c.args in let whole = ids_then a.c (ssts_in a.views.now a.t.l0) (runs_ssts a.runs.now a.views.now a.t.compacted) _ c.put_ssts-to.ensures.value _ _ _ _ c.requires c.put_ssts-to.ensures.out_ids_after (c.put_runs_ssts.ensures.value, c.put_runs_ssts.ensures.out_ids_after) in record { value = whole.0; out_ids_after = whole.1 }
