use native.Mathlib.Numerals.{add-one}
use lib.Arith.{sub_dec}
use native.Mathlib.Omega.{arith}
use borrow.Author.Rules.{rules}
use Rattle.lawful.proofs.Loops.{rows}
use Rattle.unite_groups.proofs.Orders.{even_short, even_less, even_same, even_greater, evens}
use Rattle.unite_groups.proofs.group_rows.list_order.Goals as goal

pub loop-k-init : goal.loop-k-init
loop-k-init c = search (evens, rules)

pub returns-then-m-k : goal.returns-then-m-k
returns-then-m-k c = even_short _ _ _ _ _ _ c.loop-k.invariant c.loop-k-test.true (omega (arith, c.if-m-k.true))

pub overflow_add-a : goal.overflow_add-a
overflow_add-a c = search (rows, rules)

pub id_at-requires : goal.id_at-requires
id_at-requires c = search (rows, rules)

pub overflow_add-b : goal.overflow_add-b
overflow_add-b c = search (rows, rules)

pub id_at-requires-in-loop-k : goal.id_at-requires-in-loop-k
id_at-requires-in-loop-k c = search (rows, rules)

pub returns-in-Less : goal.returns-in-Less
returns-in-Less c = even_less _ _ _ _ _ _ c.loop-k.invariant c.loop-k-test.true c.if-m-k.false _ _ _ c.id_at.ensures c.id_at-in-loop-k.ensures c.order.ensures c.in-Less.is

pub loop-k-smaller : goal.loop-k-smaller
loop-k-smaller c = rw (add-one c.loop-k.k) (sub_dec c.held-n.result c.loop-k.k c.loop-k-test.true)

pub loop-k-preserved : goal.loop-k-preserved
loop-k-preserved c = even_same _ _ _ _ _ _ c.loop-k.invariant c.loop-k-test.true c.if-m-k.false _ _ _ c.id_at.ensures c.id_at-in-loop-k.ensures c.order.ensures c.in-Equal.is

pub returns-in-Greater : goal.returns-in-Greater
returns-in-Greater c = even_greater _ _ _ _ _ _ c.loop-k.invariant c.loop-k-test.true c.if-m-k.false _ _ _ c.id_at.ensures c.id_at-in-loop-k.ensures c.order.ensures c.in-Greater.is

pub returns-then-n-m : goal.returns-then-n-m
returns-then-n-m c = search (evens, rules)

pub returns : goal.returns
returns c = search (evens, rules)
