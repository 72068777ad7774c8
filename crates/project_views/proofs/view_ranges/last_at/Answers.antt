use borrow.Author.Rules.{rules}
use Rattle.project_views.proofs.Pieces.{ends_at}
use Rattle.project_views.proofs.view_ranges.last_at.Goals as goal

pub view_at-v-requires : goal.view_at-v-requires
view_at-v-requires c = search (ends_at, rules)

pub last_bound-requires : goal.last_bound-requires
last_bound-requires c = search (ends_at, rules)

pub returns : goal.returns
returns c = search (ends_at, rules)
