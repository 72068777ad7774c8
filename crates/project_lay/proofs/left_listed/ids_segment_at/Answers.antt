use Rattle.project_ranges.specs.Args.{config_in}
use Rattle.project_lay.proofs.Listing.{at_used, listed_as, room_as}
use Rattle.project_lay.proofs.left_listed.ids_segment_at.Goals as goal

pub ids_after-requires : goal.ids_after-requires
ids_after-requires c = let a = c.args in room_as a.c _ _ _ (at_used a.pool.now (config_in a.pool.now a.config a.own.now) a.place _ _ a.runs.now a.views.now c.resolve_segment_action-a.result c.segment_at-s.ensures c.resolve_segment_action-a.ensures) c.requires.i_in_bounds_2

pub returns : goal.returns
returns c = let a = c.args in let whole = listed_as a.c _ _ _ _ _ (at_used a.pool.now (config_in a.pool.now a.config a.own.now) a.place _ _ a.runs.now a.views.now c.resolve_segment_action-a.result c.segment_at-s.ensures c.resolve_segment_action-a.ensures) (c.ids_after.ensures.value, c.ids_after.ensures.out_ids_after) in record { value = whole.0; out_ids_after = whole.1 }
