use borrow.Author.Rules.{rules}
use Rattle.segments.proofs.Answers.{chooses}
use Rattle.segments.proofs.overlapping_segment_indices.Goals as goal

pub returns-then-held-eq0 : goal.returns-then-held-eq0
returns-then-held-eq0 c = search (chooses, rules)

pub returns-then-first-past : goal.returns-then-first-past
returns-then-first-past c = search (chooses, rules)

pub returns : goal.returns
returns c = search (chooses, rules)
