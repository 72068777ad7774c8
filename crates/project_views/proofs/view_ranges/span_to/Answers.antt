use borrow.Author.Rules.{rules}
use Rattle.project_views.proofs.Pieces.{views_left}
use Rattle.project_views.proofs.view_ranges.span_to.Goals as goal

pub seen_range-seen-requires : goal.seen_range-seen-requires
seen_range-seen-requires c = search (views_left, rules)

pub meet-requires : goal.meet-requires
meet-requires c = search (views_left, rules)

pub returns : goal.returns
returns c = search (views_left, rules)
