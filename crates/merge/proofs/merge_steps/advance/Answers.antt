use borrow.Author.Rules.{rules}
use Rattle.merge.proofs.Rowwise.{pasts}
use Rattle.merge.proofs.merge_steps.advance.Goals as goal

pub returns-in-End : goal.returns-in-End
returns-in-End c = search (pasts, rules)

pub returns-in-WriterOnly : goal.returns-in-WriterOnly
returns-in-WriterOnly c = search (pasts, rules)

pub returns-in-CompactorOnly : goal.returns-in-CompactorOnly
returns-in-CompactorOnly c = search (pasts, rules)

pub returns-in-Both : goal.returns-in-Both
returns-in-Both c = search (pasts, rules)
