use Rattle.unite_judge.proofs.Judging.{codes_broken, codes_kept}
use borrow.Author.Tests.{not-true, not-false}
use borrow.Author.Rules.{rules}
use Rattle.unite_judge.proofs.source_judged.Goals as goal

pub returns-then-not-codes_known : goal.returns-then-not-codes_known
returns-then-not-codes_known c = search (codes_broken, not-true, rules)

pub returns : goal.returns
returns c = search (codes_kept, not-false, rules)
