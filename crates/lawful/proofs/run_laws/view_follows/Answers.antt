use borrow.Author.Rules.{rules}
use Rattle.lawful.proofs.Arms.{views_by}
use Rattle.lawful.proofs.run_laws.view_follows.Goals as goal

pub returns-then-is_less : goal.returns-then-is_less
returns-then-is_less c = search (views_by, rules)

pub returns : goal.returns
returns c = search (views_by, rules)
