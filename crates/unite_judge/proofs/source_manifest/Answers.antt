use Rattle.unite_judge.proofs.Judging.{manifest_read}
use borrow.Author.Rules.{rules}
use Rattle.unite_judge.proofs.source_manifest.Goals as goal

pub returns : goal.returns
returns c = search (manifest_read, rules)
