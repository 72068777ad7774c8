use borrow.Author.Rules.{rules}
use Rattle.merge.proofs.Nesting.{founds}
use Rattle.merge.proofs.merge_faults.nest_found.Goals as goal

pub returns-in-Clear : goal.returns-in-Clear
returns-in-Clear c = search (founds, rules)

pub returns-in-Last : goal.returns-in-Last
returns-in-Last c = search (founds, rules)
