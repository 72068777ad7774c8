use mathlib.Core.Path.{◌∙◌}
use Rattle.encoded_unite.proofs.Calling.{over_count, over_paths, over_checkpoints, over_parts, over_path_parts}
use Rattle.encoded_unite.proofs.call_forms.call_over.Goals.{then-n-gt8-via-then-n-gt8, then-n-gt8-via-else-n-gt8+then-path_ends-n, then-n-gt8-via-else-n-gt8+else-path_ends-n+then-checkpoints-n}
use Rattle.encoded_unite.proofs.call_forms.call_over.Goals as goal

pub returns-then-n-gt8 : goal.returns-then-n-gt8
returns-then-n-gt8 c =
    elim c.then-n-gt8.branch [
      | then-n-gt8-via-then-n-gt8 w ↦ over_count _ _ _ _ _ _ w.if-n-gt8.true
      | then-n-gt8-via-else-n-gt8+then-path_ends-n w ↦ over_paths _ _ _ _ _ _ w.if-n-gt8.false w.if-path_ends-n.true
      | then-n-gt8-via-else-n-gt8+else-path_ends-n+then-checkpoints-n w ↦ over_checkpoints _ _ _ _ _ _ w.if-n-gt8.false w.if-path_ends-n.false w.if-checkpoints-n.true
    ]

pub returns-then-some_bad : goal.returns-then-some_bad
returns-then-some_bad c = c.if-some_bad.true ∙ over_parts _ _ _ _ _ _ c.if-n-gt8.false c.if-path_ends-n.false c.if-checkpoints-n.false _ c.some_bad.ensures c.if-some_bad.true

pub returns-else-some_bad : goal.returns-else-some_bad
returns-else-some_bad c = over_path_parts _ _ _ _ _ _ c.if-n-gt8.false c.if-path_ends-n.false c.if-checkpoints-n.false _ c.some_bad.ensures c.if-some_bad.false _ c.some_bad-else-some_bad.ensures
