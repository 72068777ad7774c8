use borrow.Author.Rules.{rules}
use Rattle.project_ranges.proofs.Contains.{contains}
use Rattle.project_ranges.proofs.range_faults.is_contained.Goals as goal

pub returns-then-start_stays : goal.returns-then-start_stays
returns-then-start_stays c = search (contains, rules)

pub returns : goal.returns
returns c = search (contains, rules)
