use borrow.Author.Rules.{rules}
use Rattle.lawful.proofs.Arms.{hidden_by}
use Rattle.lawful.proofs.view_laws.is_hidden.Goals as goal

pub returns : goal.returns
returns c = search (hidden_by, rules)
