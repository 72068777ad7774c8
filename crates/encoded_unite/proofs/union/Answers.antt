use mathlib.Core.Path.{sym, ◌∙◌}
use mathlib.Core.List.{[]}
use Rattle.manifest_rows.specs.Stored.{lent}
use Rattle.encoded_unite.proofs.Calling.{by_parts, order_over, order_short, order_read}
use Rattle.encoded_unite.proofs.union.Goals as goal

pub returns-then-call_over : goal.returns-then-call_over
returns-then-call_over c = order_over _ c.args.s.now c.args.ends.now c.args.paths.now c.args.path_ends.now c.args.checkpoints.now c.args.fresh.now _ (lent c.args.segments.now c.args.views.now c.args.runs.now c.args.borrows.now c.args.ids.now []) (lent c.args.all_segments.now c.args.all_views.now c.args.all_runs.now c.args.all_borrows.now c.args.all_ids.now c.args.all_pool.now) _ _ (lent c.args.segments.now c.args.views.now c.args.runs.now c.args.borrows.now c.args.ids.now c.args.to_pool.now) _ _ c.call_over.ensures c.if-call_over.true

pub returns-then-lacks_room : goal.returns-then-lacks_room
returns-then-lacks_room c = order_short _ c.args.s.now c.args.ends.now c.args.paths.now c.args.path_ends.now c.args.checkpoints.now c.args.fresh.now _ (lent c.args.segments.now c.args.views.now c.args.runs.now c.args.borrows.now c.args.ids.now []) (lent c.args.all_segments.now c.args.all_views.now c.args.all_runs.now c.args.all_borrows.now c.args.all_ids.now c.args.all_pool.now) _ _ (lent c.args.segments.now c.args.views.now c.args.runs.now c.args.borrows.now c.args.ids.now c.args.to_pool.now) _ _ c.call_over.ensures c.if-call_over.false _ c.lacks_room.ensures c.if-lacks_room.true

pub union_read-requires : goal.union_read-requires
union_read-requires c = (sym c.call_over.ensures ∙ c.if-call_over.false, by_parts _ _ (lent c.args.segments.now c.args.views.now c.args.runs.now c.args.borrows.now c.args.ids.now []) (lent c.args.all_segments.now c.args.all_views.now c.args.all_runs.now c.args.all_borrows.now c.args.all_ids.now c.args.all_pool.now) _ _ (lent c.args.segments.now c.args.views.now c.args.runs.now c.args.borrows.now c.args.ids.now c.args.to_pool.now) _ ∙ sym c.lacks_room.ensures ∙ c.if-lacks_room.false)

pub returns : goal.returns
returns c = c.union_read.ensures ∙ order_read _ c.args.s.now c.args.ends.now c.args.paths.now c.args.path_ends.now c.args.checkpoints.now c.args.fresh.now _ (lent c.args.segments.now c.args.views.now c.args.runs.now c.args.borrows.now c.args.ids.now []) (lent c.args.all_segments.now c.args.all_views.now c.args.all_runs.now c.args.all_borrows.now c.args.all_ids.now c.args.all_pool.now) _ _ (lent c.args.segments.now c.args.views.now c.args.runs.now c.args.borrows.now c.args.ids.now c.args.to_pool.now) _ _ c.call_over.ensures c.if-call_over.false _ c.lacks_room.ensures c.if-lacks_room.false
