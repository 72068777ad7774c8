use native.Mathlib.Omega.{arith}
use borrow.Author.Rules.{rules}
use Rattle.merge.proofs.Left.{ends_fit, sum_fits, cursors_fit}
use Rattle.merge.proofs.Nesting.{nesting_none, nesting_fits, nesting_less, nesting_more, nesting_all}
use Rattle.merge.proofs.merge_faults.find_nest.Goals as goal

pub overflow_add-end : goal.overflow_add-end
overflow_add-end c = search (ends_fit, rules)

pub loop-i-init : goal.loop-i-init
loop-i-init c = let a = c.args in let p = c.requires in nesting_none a.segments.now a.runs.now a.views.now a.pool.now a.w a.c _ _ c.held-n.ensures c.held-m.ensures p.0 p.1

pub overflow_add-i : goal.overflow_add-i
overflow_add-i c = sum_fits _ _ _ _ _ _ _ _ _ _ c.loop-i.invariant.between (omega arith)

pub next_kept-s-requires : goal.next_kept-s-requires
next_kept-s-requires c = cursors_fit _ _ _ _ _ _ _ _ _ _ c.loop-i.invariant.between (omega arith)

pub nest_step-nest-requires : goal.nest_step-nest-requires
nest_step-nest-requires c = nesting_fits _ _ _ _ _ _ _ _ _ _ _ _ c.loop-i.invariant (sum_fits _ _ _ _ _ _ _ _ _ _ c.loop-i.invariant.between (omega arith)).fits

pub loop-i-smaller : goal.loop-i-smaller
loop-i-smaller c = nesting_less _ _ _ _ _ _ _ _ _ _ _ _ c.loop-i.invariant _ c.next_kept-s.ensures c.loop-i-test.true

pub loop-i-preserved : goal.loop-i-preserved
loop-i-preserved c = nesting_more _ _ _ _ _ _ _ _ _ _ _ _ c.loop-i.invariant _ c.next_kept-s.ensures c.loop-i-test.true _ c.nest_step-nest.ensures

pub returns : goal.returns
returns c = nesting_all _ _ _ _ _ _ _ _ _ _ _ _ c.loop-i.invariant _ c.loop-i-test.false c.nest_found.ensures
