use borrow.Author.Rules.{rules}
use Rattle.project_views.proofs.Ends.{befores}
use Rattle.project_views.proofs.view_ranges.before_successor.Goals as goal

pub enum_told-1 : goal.enum_told-1
enum_told-1 c = search (befores, rules)

pub enum_known-e : goal.enum_known-e
enum_known-e c = search (befores, rules)

pub part-requires : goal.part-requires
part-requires c = search (befores, rules)

pub part-requires-in-Included : goal.part-requires-in-Included
part-requires-in-Included c = search (befores, rules)

pub below_successor-requires : goal.below_successor-requires
below_successor-requires c = search (befores, rules)

pub returns-then-below_successor : goal.returns-then-below_successor
returns-then-below_successor c = search (befores, rules)

pub enum_known-e-in-Excluded-1 : goal.enum_known-e-in-Excluded-1
enum_known-e-in-Excluded-1 c = search (befores, rules)

pub part-requires-in-Excluded : goal.part-requires-in-Excluded
part-requires-in-Excluded c = search (befores, rules)

pub part-requires-in-Excluded-2 : goal.part-requires-in-Excluded-2
part-requires-in-Excluded-2 c = search (befores, rules)

pub below_successor-requires-in-Excluded : goal.below_successor-requires-in-Excluded
below_successor-requires-in-Excluded c = search (befores, rules)

pub returns-then-below_successor-2 : goal.returns-then-below_successor-2
returns-then-below_successor-2 c = search (befores, rules)

pub returns-in-Unbounded : goal.returns-in-Unbounded
returns-in-Unbounded c = search (befores, rules)

pub returns-else-below_successor : goal.returns-else-below_successor
returns-else-below_successor c = search (befores, rules)

pub returns-else-below_successor-2 : goal.returns-else-below_successor-2
returns-else-below_successor-2 c = search (befores, rules)
