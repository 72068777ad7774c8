use borrow.Author.Rules.{rules}
use Rattle.lawful.proofs.Arms.{views_by}
use Rattle.lawful.proofs.view_laws.view_holds.Goals as goal

pub returns-then-is_ordered : goal.returns-then-is_ordered
returns-then-is_ordered c = search (views_by, rules)

pub returns : goal.returns
returns c = search (views_by, rules)
