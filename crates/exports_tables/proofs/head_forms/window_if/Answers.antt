use Rattle.keys.proofs.Picks.{picks}
use borrow.Author.Rules.{rules}
use Rattle.exports_tables.proofs.head_forms.window_if.Goals as goal

pub returns-then-known : goal.returns-then-known
returns-then-known c = search (picks, rules)

pub returns : goal.returns
returns c = search (picks, rules)
