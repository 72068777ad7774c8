use Rattle.std.proofs.Common.{◌≡◌, sym, ◌∙◌, arith}
use borrow.Author.Rules.{rules}
use Rattle.lawful.proofs.Loops.{rows}
use Rattle.segments.proofs.Fronts.{led_all}
use Rattle.borrows.proofs.Naming.{namings, list_more}
use Rattle.borrows.proofs.ids_owned.first_naming.Goals as goal

pub lists-init : goal.lists-init
lists-init c = search (namings, rules)

pub overflow_add-w : goal.overflow_add-w
overflow_add-w c = search (rows, rules)

pub borrow_at-b-requires : goal.borrow_at-b-requires
borrow_at-b-requires c = search (rows, rules)

pub loop-j-init : goal.loop-j-init
loop-j-init c = search (namings, rules)

pub overflow_add-list : goal.overflow_add-list
overflow_add-list c = search (rows, rules)

pub id_at-requires : goal.id_at-requires
id_at-requires c = search (rows, rules)

pub loop-j-preserved : goal.loop-j-preserved
loop-j-preserved c = list_more _ _ _ _ _ c.loop-j.invariant c.loop-j-test.true _ _ c.id_at.ensures c.same.ensures c.if-same.false

pub lists-preserved : goal.lists-preserved
lists-preserved c = search (namings, rules)

pub returns-after-lists : goal.returns-after-lists
returns-after-lists c = let i = c.lists.invariant in
    let e : c.held-n.result ≡ c.lists.passed = omega (arith, i.0.within, i.1, c.lists-test.false) in
    sym e ∙ led_all _ _ _ _ i.0 (omega (arith, e))

pub returns-then-same : goal.returns-then-same
returns-then-same c = search (namings, rules)
