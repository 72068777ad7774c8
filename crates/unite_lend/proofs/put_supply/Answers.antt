use Rattle.unite_lend.proofs.Supplies.{supply_put}
use borrow.Author.Rules.{rules}
use Rattle.unite_lend.proofs.put_supply.Goals as goal

pub returns : goal.returns
returns c = search (supply_put, rules)
