use borrow.Author.Rules.{rules}
use Rattle.manifest_write.proofs.Answers.{answers}
use Rattle.manifest_write.proofs.write_judged.Goals as goal

pub returns-then-out-n : goal.returns-then-out-n
returns-then-out-n c = search (answers, rules)

pub returns : goal.returns
returns c = search (answers, c.well_formed.1.1.0, rules)
