use mathlib.Core.List.{[]}
use Rattle.tables.specs.Layout.{joined}
use Rattle.records.specs.Decode.{views_in, runs_in, tree_in, borrows_in}
use Rattle.measure.specs.Within.{run_views}
use Rattle.borrows.proofs.Owning.{first_small, rest_small, both_next, both_put}
use Rattle.borrows.proofs.ids_owned.own_tree.Goals as goal

pub own_views-past-requires : goal.own_views-past-requires
unfolding tree_in
own_views-past-requires c = let a = c.args in let bs = borrows_in a.borrows.now a.ids.now [] a.b in let vs = views_in a.views.now [] a.t.l0 in let ws = joined run_views (runs_in a.runs.now a.views.now [] a.t.compacted) in first_small bs vs ws a.at c.requires

pub own_runs-requires : goal.own_runs-requires
unfolding tree_in
own_runs-requires c = let a = c.args in let bs = borrows_in a.borrows.now a.ids.now [] a.b in let vs = views_in a.views.now [] a.t.l0 in let ws = joined run_views (runs_in a.runs.now a.views.now [] a.t.compacted) in rest_small bs vs ws a.at _ c.own_views-past.ensures.value c.requires

pub returns : goal.returns
unfolding tree_in
returns c = let a = c.args in let bs = borrows_in a.borrows.now a.ids.now [] a.b in let vs = views_in a.views.now [] a.t.l0 in let ws = joined run_views (runs_in a.runs.now a.views.now [] a.t.compacted) in record { value = both_next bs vs ws a.at _ c.own_views-past.ensures.value _ c.own_runs.ensures.value; out_after = both_put bs vs ws a.at _ c.own_views-past.ensures.value _ _ _ c.own_views-past.ensures.out_after c.own_runs.ensures.out_after }
