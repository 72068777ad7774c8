use borrow.Author.Rules.{rules}
use Rattle.project_views.proofs.Adds.{add_gone, add_one_left}
use Rattle.project_views.proofs.views_measured.add_kept.Goals as goal

pub returns-in-None : goal.returns-in-None
returns-in-None c = search (add_gone, rules)

pub returns-in-Some : goal.returns-in-Some
returns-in-Some c = search (add_one_left, rules)
