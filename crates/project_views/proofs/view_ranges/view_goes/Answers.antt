use borrow.Author.Rules.{rules}
use Rattle.project_views.proofs.Pieces.{views_left}
use Rattle.project_views.proofs.view_ranges.view_goes.Goals as goal

pub holds_none-requires : goal.holds_none-requires
holds_none-requires c = search (views_left, rules)

pub returns-then-holds_none : goal.returns-then-holds_none
returns-then-holds_none c = search (views_left, rules)

pub last_bound-end-requires : goal.last_bound-end-requires
last_bound-end-requires c = search (views_left, rules)

pub meet_reach-both-requires : goal.meet_reach-both-requires
meet_reach-both-requires c = search (views_left, rules)

pub holds_none-requires-2 : goal.holds_none-requires-2
holds_none-requires-2 c = search (views_left, rules)

pub returns : goal.returns
returns c = search (views_left, rules)
