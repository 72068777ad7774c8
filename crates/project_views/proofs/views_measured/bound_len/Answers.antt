use borrow.Author.Rules.{rules}
use Rattle.project_views.proofs.Adds.{longs}
use Rattle.project_views.proofs.views_measured.bound_len.Goals as goal

pub returns-in-Unbounded : goal.returns-in-Unbounded
returns-in-Unbounded c = search (longs, rules)

pub returns-in-Included : goal.returns-in-Included
returns-in-Included c = search (longs, rules)

pub returns-in-Excluded : goal.returns-in-Excluded
returns-in-Excluded c = search (longs, rules)
