use borrow.Author.Rules.{rules}
use Rattle.merge.proofs.Finding.{datas}
use Rattle.merge.proofs.merge_faults.has_data.Goals as goal

pub returns-in-End : goal.returns-in-End
returns-in-End c = search (datas, rules)

pub returns-in-WriterOnly : goal.returns-in-WriterOnly
returns-in-WriterOnly c = search (datas, rules)

pub returns-in-CompactorOnly : goal.returns-in-CompactorOnly
returns-in-CompactorOnly c = search (datas, rules)

pub returns-in-Both : goal.returns-in-Both
returns-in-Both c = search (datas, rules)
