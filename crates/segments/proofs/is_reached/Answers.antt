use borrow.Author.Rules.{rules}
use Rattle.segments.proofs.Answers.{reached_at}
use Rattle.segments.proofs.is_reached.Goals as goal

pub returns : goal.returns
returns c = search (reached_at, rules)
