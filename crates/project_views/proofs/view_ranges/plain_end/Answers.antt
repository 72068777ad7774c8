use borrow.Author.Rules.{rules}
use Rattle.project_views.proofs.Ends.{plains}
use Rattle.project_views.proofs.view_ranges.plain_end.Goals as goal

pub enum_told-1 : goal.enum_told-1
enum_told-1 c = search (plains, rules)

pub enum_known-u : goal.enum_known-u
enum_known-u c = search (plains, rules)

pub enum_known-u-in-Excluded-1 : goal.enum_known-u-in-Excluded-1
enum_known-u-in-Excluded-1 c = search (plains, rules)

pub enum_told-in-Successor : goal.enum_told-in-Successor
enum_told-in-Successor c = search (plains, rules)

pub returns-in-Unbounded : goal.returns-in-Unbounded
returns-in-Unbounded c = search (plains, rules)

pub returns-in-Included : goal.returns-in-Included
returns-in-Included c = search (plains, rules)

pub returns-in-Excluded : goal.returns-in-Excluded
returns-in-Excluded c = search (plains, rules)

pub returns-in-Successor : goal.returns-in-Successor
returns-in-Successor c = search (plains, rules)
