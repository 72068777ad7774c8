use borrow.Author.Rules.{rules}
use Rattle.project_views.proofs.Ends.{reach_met}
use Rattle.project_views.proofs.view_ranges.meet_reach.Goals as goal

pub returns : goal.returns
returns c = search (reach_met, rules)
