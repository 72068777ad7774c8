use borrow.Author.Rules.{rules}
use Rattle.keys.specs.Key.{less_of}
use Rattle.lawful.proofs.Arms.{prefixes_by}
use Rattle.lawful.proofs.prefix_laws.is_step.Goals as goal

pub returns : goal.returns
returns c = search (prefixes_by less_of, rules)
