use mathlib.Core.List.{[]}
use mathlib.Core.Path.{refl, sym, ◌∙◌}
use lib.ListN.{length}
use Rattle.records.specs.declared.Refusal.TheVariants.{OverLimit, NoRoom}
use Rattle.manifest_rows.specs.Stored.{lent}
use Rattle.encoded_project.proofs.Keeping.{done_requires, project_over, project_list, project_done, project_refused}
use Rattle.exports.proofs.Projects.{project_odd, even_refused, even_given}
use Rattle.exports.proofs.manifest_project.Goals as goal

pub returns-then-global_odd : goal.returns-then-global_odd
returns-then-global_odd c = project_odd _ _ _ _ _ _ _ _ _ _ _ (sym c.global_odd.ensures ∙ c.if-global_odd.true) _ c.refused_answer.ensures

pub returns-then-call_over : goal.returns-then-call_over
returns-then-call_over c = even_refused _ _ _ _ _ _ _ _ _ _ _ (sym c.global_odd.ensures ∙ c.if-global_odd.false) _ c.limits_01-lim.ensures _ c.config_arg-c.ensures _ refl OverLimit _ c.refused_answer-then-call_over.ensures (project_over _ _ _ _ _ _ _ _ _ _ _ (sym c.call_over.ensures ∙ c.if-call_over.true))

pub returns-then-lacks_list : goal.returns-then-lacks_list
returns-then-lacks_list c = even_refused _ _ _ _ _ _ _ _ _ _ _ (sym c.global_odd.ensures ∙ c.if-global_odd.false) _ c.limits_01-lim.ensures _ c.config_arg-c.ensures _ refl NoRoom _ c.refused_answer-then-lacks_list.ensures (project_list _ _ _ _ _ _ _ _ _ _ _ (sym c.call_over.ensures ∙ c.if-call_over.false) (sym c.lacks_list.ensures ∙ c.if-lacks_list.true))

pub project_within-x-requires : goal.project_within-x-requires
project_within-x-requires c = let x = c.args in let whole = done_requires c.limits_01-lim.result x.s.now x.args.now c.config_arg-c.result x.own.now (lent x.segments.now x.views.now x.runs.now x.borrows.now x.ids.now []) (lent x.in_segments.now x.in_views.now x.in_runs.now x.in_borrows.now x.in_ids.now x.in_pool.now) (sym c.call_over.ensures ∙ c.if-call_over.false) _ _ c.read_behind.ensures _ c.in-Ok.is (length x.used.now) (length x.pool.now) (sym c.lacks_list.ensures ∙ c.if-lacks_list.false) _ _ _ _ _ c.read_behind.auto.segments c.read_behind.auto.views c.read_behind.auto.runs c.read_behind.auto.borrows c.read_behind.auto.ids in record { m_value = whole.0; views_in_bounds = whole.1.0; segments_in_bounds = whole.1.1 }

pub returns-in-Ok : goal.returns-in-Ok
returns-in-Ok c = even_given _ _ _ _ _ _ _ _ _ _ _ (sym c.global_odd.ensures ∙ c.if-global_odd.false) _ c.limits_01-lim.ensures _ c.config_arg-c.ensures _ c.room_fill-most.ensures _ _ _ c.projected_answer.ensures (c.project_within-x.ensures ∙ project_done _ _ _ _ _ _ _ _ _ _ _ (sym c.call_over.ensures ∙ c.if-call_over.false) (sym c.lacks_list.ensures ∙ c.if-lacks_list.false) _ _ c.read_behind.ensures _ c.in-Ok.is)

pub returns-in-Err : goal.returns-in-Err
returns-in-Err c = even_refused _ _ _ _ _ _ _ _ _ _ _ (sym c.global_odd.ensures ∙ c.if-global_odd.false) _ c.limits_01-lim.ensures _ c.config_arg-c.ensures _ c.room_fill-most.ensures _ _ c.refused_answer-in-Err.ensures (project_refused _ _ _ _ _ _ _ _ _ _ _ (sym c.call_over.ensures ∙ c.if-call_over.false) (sym c.lacks_list.ensures ∙ c.if-lacks_list.false) _ _ c.read_behind.ensures _ c.in-Err.is)
