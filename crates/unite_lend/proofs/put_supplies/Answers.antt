use Rattle.unite_lend.proofs.Supplies.{puts}
use borrow.Author.Rules.{rules}
use Rattle.unite_lend.proofs.put_supplies.Goals as goal

pub loop-i-init : goal.loop-i-init
loop-i-init c = search (puts, rules)

pub put_supply-requires : goal.put_supply-requires
put_supply-requires c = search (puts, rules)

pub loop-i-preserved : goal.loop-i-preserved
loop-i-preserved c = search (puts, rules)

pub shape_of-supplies : goal.shape_of-supplies
shape_of-supplies c = search (puts, rules)

pub returns : goal.returns
returns c = search (puts, rules)
