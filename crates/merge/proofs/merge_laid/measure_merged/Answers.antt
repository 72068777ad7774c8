use native.Mathlib.Omega.{arith}
use Rattle.merge.proofs.Left.{ends_fit, sum_fits, cursors_fit}
use Rattle.merge.proofs.Measuring.{measuring_none, measuring_less, measuring_more, measuring_broken, measuring_all}
use Rattle.merge.proofs.merge_laid.measure_merged.Goals as goal

pub overflow_add-end : goal.overflow_add-end
overflow_add-end c = let a = c.args in ends_fit a.segments.now a.views.now a.runs.now a.pool.now a.w a.c _ _ c.held-n.ensures c.held-m.ensures (omega (arith, c.well_formed.1.1.0))

pub loop-i-init : goal.loop-i-init
loop-i-init c = let a = c.args in measuring_none a.side a.lim a.segments.now a.runs.now a.views.now a.pool.now a.w a.c _ _ c.held-n.ensures c.held-m.ensures c.requires.w_value.0 c.requires.w_value.1 c.requires.w_value_2.0 c.requires.w_value_2.1

pub overflow_add-i : goal.overflow_add-i
overflow_add-i c = sum_fits _ _ _ _ _ _ _ _ _ _ c.loop-i.invariant.between (omega (arith, c.well_formed.1.1.0))

pub next_kept-s-requires : goal.next_kept-s-requires
next_kept-s-requires c = cursors_fit _ _ _ _ _ _ _ _ _ _ c.loop-i.invariant.between (omega (arith, c.well_formed.1.1.0))

pub returns-in_err-to : goal.returns-in_err-to
returns-in_err-to c = rw c.from_residual.ensures (measuring_broken _ _ _ _ _ _ _ _ _ _ _ _ _ _ c.loop-i.invariant _ c.next_kept-s.ensures c.loop-i-test.true _ c.fill_kept.ensures c.in_err-to.was)

pub loop-i-smaller : goal.loop-i-smaller
loop-i-smaller c = measuring_less _ _ _ _ _ _ _ _ _ _ _ _ _ _ c.loop-i.invariant _ c.next_kept-s.ensures c.loop-i-test.true

pub loop-i-preserved : goal.loop-i-preserved
loop-i-preserved c = measuring_more _ _ _ _ _ _ _ _ _ _ _ _ _ _ c.loop-i.invariant _ c.next_kept-s.ensures c.loop-i-test.true _ c.fill_kept.ensures _ c.in_ok-to.was

pub returns : goal.returns
returns c = measuring_all _ _ _ _ _ _ _ _ _ _ _ _ _ _ c.loop-i.invariant c.loop-i-test.false
