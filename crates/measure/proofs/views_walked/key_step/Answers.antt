use borrow.Author.Rules.{rules}
use Rattle.measure.proofs.Walks.{key_long, key_short}
use Rattle.measure.proofs.views_walked.key_step.Goals as goal

pub returns-then-longest-p : goal.returns-then-longest-p
returns-then-longest-p c = search (key_long, rules)

pub returns : goal.returns
returns c = search (key_short, rules)
