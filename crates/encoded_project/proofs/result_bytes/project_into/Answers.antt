use mathlib.Core.Path.{◌∙◌}
use Rattle.measure.proofs.Exits.{exit_same}
use Rattle.manifest_rows.specs.Stored.{lent}
use Rattle.encoded_project.proofs.Giving.{into_done, into_refused}
use Rattle.encoded_project.proofs.result_bytes.project_into.Goals as goal

pub projected_judged-requires : goal.projected_judged-requires
projected_judged-requires c = c.requires.m_value

pub returns : goal.returns
returns c = c.write_to.ensures ∙ into_done _ _ (lent c.args.segments.now c.args.views.now c.args.runs.now c.args.borrows.now c.args.ids.now c.args.pool.now) _ _ c.requires.views_in_bounds _ _ _ c.projected_judged.ensures _ _ c.in_ok-names.was

pub returns-in_err-names : goal.returns-in_err-names
returns-in_err-names c = rw (exit_same _ _ c.from_residual.ensures.1) (into_refused _ _ (lent c.args.segments.now c.args.views.now c.args.runs.now c.args.borrows.now c.args.ids.now c.args.pool.now) _ _ c.requires.views_in_bounds _ _ _ c.projected_judged.ensures _ c.in_err-names.was)
