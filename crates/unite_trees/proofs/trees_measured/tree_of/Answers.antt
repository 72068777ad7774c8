use mathlib.Core.Path.{ap, ◌∙◌}
use Prim.Native.Nat.{ℕ}
use Rattle.records.specs.Row.{tree_at}
use Rattle.unite_trees.proofs.trees_measured.tree_of.Goals as goal

pub returns : goal.returns
returns c = c.tree_at.ensures ∙ ap (λ (b : ℕ). tree_at c.args.t.now b) c.ix-b.ensures
