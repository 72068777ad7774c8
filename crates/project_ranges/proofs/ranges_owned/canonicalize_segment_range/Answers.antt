use borrow.Author.Rules.{rules}
use Rattle.project_ranges.proofs.Contains.{ors}
use Rattle.project_ranges.proofs.ranges_owned.canonicalize_segment_range.Goals as goal

pub returns : goal.returns
returns c = search (ors, rules)
