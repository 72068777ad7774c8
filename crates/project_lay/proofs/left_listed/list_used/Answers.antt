use mathlib.Core.Path.{ap}
use mathlib.Core.List.{[]}
use native.Mathlib.Omega.{arith}
use lib.ListN.{length}
use Rattle.records.specs.Model.{Tree}
use Rattle.records.specs.Decode.{tree_in, segments_in}
use Rattle.records.specs.Fill.{empty}
use Rattle.measure.specs.Within.{tree_views, ids_used}
use Rattle.project_ranges.specs.Action.{action_of}
use Rattle.project_ranges.specs.Args.{config_in}
use Rattle.project_lay.specs.After.{tree_after, segments_after}
use Rattle.project_lay.specs.Steps.{segments_views}
use Rattle.project_lay.proofs.Adds.{tree_is}
use Rattle.project_lay.proofs.Listing.{both_first, both_rest, both_listed, room_as, listed_as}
use Rattle.project_lay.proofs.left_listed.list_used.Goals as goal

pub ids_after-to-requires : goal.ids_after-to-requires
ids_after-to-requires c = let a = c.args in let vs = tree_views (tree_after (action_of (config_in a.pool.now a.config a.own.now) 0 []) (tree_in a.runs.now a.views.now a.pool.now a.t)) in let us = segments_views (segments_after (config_in a.pool.now a.config a.own.now) 1 (segments_in a.segments.now a.runs.now a.views.now a.pool.now a.w)) in room_as empty _ _ _ (ap (λ (x : Tree). ids_used (tree_views x)) (tree_is a.pool.now (config_in a.pool.now a.config a.own.now) c.resolve_segment_action-a.result (tree_in a.runs.now a.views.now a.pool.now a.t) c.resolve_segment_action-a.ensures)) (both_first vs us _ c.requires)

pub ids_segments_after-requires : goal.ids_segments_after-requires
ids_segments_after-requires c = let a = c.args in let vs = tree_views (tree_after (action_of (config_in a.pool.now a.config a.own.now) 0 []) (tree_in a.runs.now a.views.now a.pool.now a.t)) in let us = segments_views (segments_after (config_in a.pool.now a.config a.own.now) 1 (segments_in a.segments.now a.runs.now a.views.now a.pool.now a.w)) in omega (arith, both_rest vs us _ (listed_as empty _ _ _ _ _ (ap (λ (x : Tree). ids_used (tree_views x)) (tree_is a.pool.now (config_in a.pool.now a.config a.own.now) c.resolve_segment_action-a.result (tree_in a.runs.now a.views.now a.pool.now a.t) c.resolve_segment_action-a.ensures)) (c.ids_after-to.ensures.value, c.ids_after-to.ensures.out_ids_after)).0 (length a.used.now) c.requires, c.ids_after-to.auto)

pub returns : goal.returns
returns c = let a = c.args in let vs = tree_views (tree_after (action_of (config_in a.pool.now a.config a.own.now) 0 []) (tree_in a.runs.now a.views.now a.pool.now a.t)) in let us = segments_views (segments_after (config_in a.pool.now a.config a.own.now) 1 (segments_in a.segments.now a.runs.now a.views.now a.pool.now a.w)) in let whole = both_listed vs us _ _ _ _ _ c.requires (listed_as empty _ _ _ _ _ (ap (λ (x : Tree). ids_used (tree_views x)) (tree_is a.pool.now (config_in a.pool.now a.config a.own.now) c.resolve_segment_action-a.result (tree_in a.runs.now a.views.now a.pool.now a.t) c.resolve_segment_action-a.ensures)) (c.ids_after-to.ensures.value, c.ids_after-to.ensures.out_ids_after)) (c.ids_segments_after.ensures.value, c.ids_segments_after.ensures.out_ids_after) in record { value = whole.0; used_after = whole.1 }
