use borrow.Author.Rules.{rules}
use Rattle.project_views.proofs.Ends.{nones}
use Rattle.project_views.proofs.view_ranges.holds_none.Goals as goal

pub is_empty_between-requires : goal.is_empty_between-requires
is_empty_between-requires c = search (nones, rules)

pub is_empty_between-requires-in-Excluded : goal.is_empty_between-requires-in-Excluded
is_empty_between-requires-in-Excluded c = search (nones, rules)

pub part-requires : goal.part-requires
part-requires c = search (nones, rules)

pub start_leaves-requires : goal.start_leaves-requires
start_leaves-requires c = search (nones, rules)

pub returns-in-Unbounded : goal.returns-in-Unbounded
returns-in-Unbounded c = search (nones, rules)

pub returns-in-Included : goal.returns-in-Included
returns-in-Included c = search (nones, rules)

pub returns-in-Excluded : goal.returns-in-Excluded
returns-in-Excluded c = search (nones, rules)

pub returns-in-Successor : goal.returns-in-Successor
returns-in-Successor c = search (nones, rules)
