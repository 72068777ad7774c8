use borrow.Author.Rules.{rules}
use Rattle.keys.specs.Prefix.{begins_of}
use Rattle.lawful.proofs.Arms.{prefixes_not}
use Rattle.lawful.proofs.prefix_laws.is_apart.Goals as goal

pub returns : goal.returns
returns c = search (prefixes_not begins_of, rules)
