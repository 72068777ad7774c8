use borrow.Author.Rules.{rules}
use Rattle.project_ranges.proofs.Rows.{configs}
use Rattle.project_ranges.proofs.ranges_owned.config_over.Goals as goal

pub returns-then-global_over : goal.returns-then-global_over
returns-then-global_over c = search (configs, rules)

pub returns-then-c : goal.returns-then-c
returns-then-c c = search (configs, rules)

pub returns : goal.returns
returns c = search (configs, rules)
