use native.Mathlib.Omega.{arith}
use borrow.Author.Rules.{rules}
use Rattle.merge.proofs.Left.{ends_fit, sum_fits, cursors_fit}
use Rattle.merge.proofs.Finding.{seeking_none, seeking_here, seeking_less, seeking_more, seeking_all}
use Rattle.merge.proofs.merge_faults.find_only.Goals as goal

pub overflow_add-end : goal.overflow_add-end
overflow_add-end c = search (ends_fit, rules)

pub loop-i-init : goal.loop-i-init
loop-i-init c = let a = c.args in let p = c.requires in seeking_none a.segments.now a.runs.now a.views.now a.pool.now a.w a.c _ _ c.held-n.ensures c.held-m.ensures p.0 p.1

pub overflow_add-i : goal.overflow_add-i
overflow_add-i c = sum_fits _ _ _ _ _ _ _ _ _ _ c.loop-i.invariant.between (omega arith)

pub next_only-s-requires : goal.next_only-s-requires
next_only-s-requires c = cursors_fit _ _ _ _ _ _ _ _ _ _ c.loop-i.invariant.between (omega arith)

pub returns-then-s : goal.returns-then-s
returns-then-s c = seeking_here _ _ _ _ _ _ _ _ _ _ _ c.loop-i.invariant _ c.next_only-s.ensures c.loop-i-test.true c.if-s.true

pub loop-i-smaller : goal.loop-i-smaller
loop-i-smaller c = seeking_less _ _ _ _ _ _ _ _ _ _ _ c.loop-i.invariant _ c.next_only-s.ensures c.loop-i-test.true

pub loop-i-preserved : goal.loop-i-preserved
loop-i-preserved c = seeking_more _ _ _ _ _ _ _ _ _ _ _ c.loop-i.invariant _ c.next_only-s.ensures c.loop-i-test.true c.if-s.false

pub returns : goal.returns
returns c = seeking_all _ _ _ _ _ _ _ _ _ _ _ c.loop-i.invariant c.loop-i-test.false
