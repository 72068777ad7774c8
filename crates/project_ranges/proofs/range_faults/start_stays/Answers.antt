use borrow.Author.Rules.{rules}
use Rattle.project_ranges.proofs.Contains.{starts}
use Rattle.project_ranges.proofs.range_faults.start_stays.Goals as goal

pub returns-in-Less : goal.returns-in-Less
returns-in-Less c = search (starts, rules)

pub returns-in-Equal : goal.returns-in-Equal
returns-in-Equal c = search (starts, rules)

pub returns-in-Greater : goal.returns-in-Greater
returns-in-Greater c = search (starts, rules)
