use borrow.Author.Rules.{rules}
use Rattle.project_views.proofs.Pieces.{views_left}
use Rattle.project_views.proofs.view_ranges.kept_to.Goals as goal

pub span_to-span-requires : goal.span_to-span-requires
span_to-span-requires c = search (views_left, rules)

pub meet_reach-seen-requires : goal.meet_reach-seen-requires
meet_reach-seen-requires c = search (views_left, rules)

pub view_goes-requires : goal.view_goes-requires
view_goes-requires c = search (views_left, rules)

pub returns-then-view_goes : goal.returns-then-view_goes
returns-then-view_goes c = search (views_left, rules)

pub returns : goal.returns
returns c = search (views_left, rules)
