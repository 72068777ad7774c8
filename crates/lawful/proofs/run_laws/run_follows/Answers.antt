use borrow.Author.Rules.{rules}
use Rattle.lawful.proofs.Rules.{runs_by}
use Rattle.lawful.proofs.run_laws.run_follows.Goals as goal

pub returns-then-held-eq0 : goal.returns-then-held-eq0
returns-then-held-eq0 c = search (runs_by, rules)

pub returns : goal.returns
returns c = search (runs_by, rules)
