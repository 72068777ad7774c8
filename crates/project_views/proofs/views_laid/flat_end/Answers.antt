use borrow.Author.Rules.{rules}
use Rattle.project_views.proofs.Left.{flats}
use Rattle.project_views.proofs.views_laid.flat_end.Goals as goal

pub enum_told-1 : goal.enum_told-1
enum_told-1 c = search (flats, rules)

pub enum_known-u : goal.enum_known-u
enum_known-u c = search (flats, rules)

pub enum_known-u-in-Excluded-1 : goal.enum_known-u-in-Excluded-1
enum_known-u-in-Excluded-1 c = search (flats, rules)

pub enum_known-u-in-Successor-1 : goal.enum_known-u-in-Successor-1
enum_known-u-in-Successor-1 c = search (flats, rules)

pub part-requires : goal.part-requires
part-requires c = search (flats, rules)

pub successor_of-requires : goal.successor_of-requires
successor_of-requires c = search (flats, rules)

pub enum_told-in-None : goal.enum_told-in-None
enum_told-in-None c = search (flats, rules)

pub enum_known-n : goal.enum_known-n
enum_known-n c = search (flats, rules)

pub returns-in-Unbounded : goal.returns-in-Unbounded
returns-in-Unbounded c = search (flats, rules)

pub returns-in-Included : goal.returns-in-Included
returns-in-Included c = search (flats, rules)

pub returns-in-Excluded : goal.returns-in-Excluded
returns-in-Excluded c = search (flats, rules)

pub returns-in-None : goal.returns-in-None
returns-in-None c = search (flats, rules)

pub returns-in-Some : goal.returns-in-Some
returns-in-Some c = search (flats, rules)
