use borrow.Author.Rules.{rules}
use Rattle.project_views.proofs.Ends.{cuts}
use Rattle.project_views.proofs.view_ranges.cut.Goals as goal

pub enum_told-1 : goal.enum_told-1
enum_told-1 c = search (cuts, rules)

pub until_of-requires : goal.until_of-requires
until_of-requires c = search (cuts, rules)

pub enum_told-in-Included : goal.enum_told-in-Included
enum_told-in-Included c = search (cuts, rules)

pub until_of-requires-in-Included : goal.until_of-requires-in-Included
until_of-requires-in-Included c = search (cuts, rules)

pub enum_told-in-Excluded : goal.enum_told-in-Excluded
enum_told-in-Excluded c = search (cuts, rules)

pub until_of-requires-in-Excluded : goal.until_of-requires-in-Excluded
until_of-requires-in-Excluded c = search (cuts, rules)

pub enum_known-u : goal.enum_known-u
enum_known-u c = search (cuts, rules)

pub before_successor-requires : goal.before_successor-requires
before_successor-requires c = search (cuts, rules)

pub returns-in-Unbounded : goal.returns-in-Unbounded
returns-in-Unbounded c = search (cuts, rules)

pub returns-in-Included : goal.returns-in-Included
returns-in-Included c = search (cuts, rules)

pub returns-in-Excluded : goal.returns-in-Excluded
returns-in-Excluded c = search (cuts, rules)

pub returns-in-Successor : goal.returns-in-Successor
returns-in-Successor c = search (cuts, rules)
