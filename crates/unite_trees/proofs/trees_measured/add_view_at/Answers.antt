use mathlib.Core.Path.{ap, ◌∙◌}
use Rattle.records.specs.Decode.{view_in}
use Rattle.records.specs.Fill.{view_fill}
use Rattle.measure.specs.Walk.{add_of}
use Rattle.records.specs.declared.ViewRow.{ViewRow}
use Rattle.unite_trees.proofs.trees_measured.add_view_at.Goals as goal

pub returns : goal.returns
returns c = c.add_view.ensures ∙ ap (λ (v : ViewRow). add_of c.args.most c.args.c (view_fill (view_in c.args.pool.now v))) c.view_at-v.ensures
