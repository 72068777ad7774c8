use mathlib.Core.List.{[]}
use Rattle.tables.specs.Layout.{joined}
use Rattle.records.specs.Model.{segment_trees}
use Rattle.records.specs.Decode.{tree_in, segments_in, borrows_in, manifest_in}
use Rattle.measure.specs.Within.{tree_views, all_views}
use Rattle.borrows.specs.Owned.{owned_of}
use Rattle.borrows.proofs.Owning.{first_small, rest_small, both_next, both_put}
use Rattle.borrows.proofs.ids_owned.own_all.Goals as goal

pub own_tree-past-requires : goal.own_tree-past-requires
unfolding manifest_in all_views owned_of
own_tree-past-requires c = let a = c.args in let bs = borrows_in a.borrows.now a.ids.now [] a.m.external_dbs in let vs = tree_views (tree_in a.runs.now a.views.now [] a.m.tree) in let ws = joined tree_views (segment_trees (segments_in a.segments.now a.runs.now a.views.now [] a.m.segments)) in first_small bs vs ws a.at c.requires

pub own_segments-requires : goal.own_segments-requires
unfolding manifest_in all_views owned_of
own_segments-requires c = let a = c.args in let bs = borrows_in a.borrows.now a.ids.now [] a.m.external_dbs in let vs = tree_views (tree_in a.runs.now a.views.now [] a.m.tree) in let ws = joined tree_views (segment_trees (segments_in a.segments.now a.runs.now a.views.now [] a.m.segments)) in rest_small bs vs ws a.at _ c.own_tree-past.ensures.value c.requires

pub returns : goal.returns
unfolding manifest_in all_views owned_of
returns c = let a = c.args in let bs = borrows_in a.borrows.now a.ids.now [] a.m.external_dbs in let vs = tree_views (tree_in a.runs.now a.views.now [] a.m.tree) in let ws = joined tree_views (segment_trees (segments_in a.segments.now a.runs.now a.views.now [] a.m.segments)) in record { value = both_next bs vs ws a.at _ c.own_tree-past.ensures.value _ c.own_segments.ensures.value; out_after = both_put bs vs ws a.at _ c.own_tree-past.ensures.value _ _ _ c.own_tree-past.ensures.out_after c.own_segments.ensures.out_after }
