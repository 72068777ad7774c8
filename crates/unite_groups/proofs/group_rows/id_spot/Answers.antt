use native.Mathlib.Numerals.{add-one}
use lib.Arith.{sub_dec}
use borrow.Author.Rules.{rules}
use Rattle.lawful.proofs.Loops.{rows}
use Rattle.unite_groups.proofs.Spots.{spots}
use Rattle.unite_groups.proofs.IdSets.{id_spotted_none, id_spotted}
use Rattle.unite_groups.proofs.group_rows.id_spot.Goals as goal

pub loop-k-init : goal.loop-k-init
loop-k-init c = search (id_spotted_none, rules)

pub overflow_add-w : goal.overflow_add-w
overflow_add-w c = search (rows, rules)

pub id_at-requires : goal.id_at-requires
id_at-requires c = search (rows, rules)

pub returns-in-Less : goal.returns-in-Less
returns-in-Less c = search (id_spotted, rules)

pub returns-in-Equal : goal.returns-in-Equal
returns-in-Equal c = search (id_spotted, rules)

pub loop-k-smaller : goal.loop-k-smaller
loop-k-smaller c = rw (add-one c.loop-k.k) (sub_dec c.held-n.result c.loop-k.k c.loop-k-test.true)

pub loop-k-preserved : goal.loop-k-preserved
loop-k-preserved c = search (id_spotted, rules)

pub returns : goal.returns
returns c = search (spots, rules)
