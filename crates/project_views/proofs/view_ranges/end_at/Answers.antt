use borrow.Author.Rules.{rules}
use Rattle.project_views.proofs.Pieces.{ends_at}
use Rattle.project_views.proofs.view_ranges.end_at.Goals as goal

pub overflow_add-first : goal.overflow_add-first
overflow_add-first c = search (ends_at, rules)

pub last_at-requires : goal.last_at-requires
last_at-requires c = search (ends_at, rules)

pub returns-then-views_overlap : goal.returns-then-views_overlap
returns-then-views_overlap c = search (ends_at, rules)

pub overflow_add-k : goal.overflow_add-k
overflow_add-k c = search (ends_at, rules)

pub overflow_add-first-then-n-k : goal.overflow_add-first-then-n-k
overflow_add-first-then-n-k c = search (ends_at, rules)

pub last_at-requires-then-n-k : goal.last_at-requires-then-n-k
last_at-requires-then-n-k c = search (ends_at, rules)

pub returns-then-n-k : goal.returns-then-n-k
returns-then-n-k c = search (ends_at, rules)

pub overflow_add-k-2 : goal.overflow_add-k-2
overflow_add-k-2 c = search (ends_at, rules)

pub overflow_add-first-2 : goal.overflow_add-first-2
overflow_add-first-2 c = search (ends_at, rules)

pub view_at-next-requires : goal.view_at-next-requires
view_at-next-requires c = search (ends_at, rules)

pub returns : goal.returns
returns c = search (ends_at, rules)
