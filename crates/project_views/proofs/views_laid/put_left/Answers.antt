use borrow.Author.Tests.{not-true, not-false}
use Rattle.project_views.proofs.Left.{left_fill, left_past, left_words, left_plain, left_one, left_grown}
use Rattle.project_views.proofs.views_laid.put_left.Goals as goal

pub put_view-past-requires : goal.put_view-past-requires
put_view-past-requires c = let a = c.args in rw (left_fill a.pool.now a.v _ a.seen _ c.flat_end-flat.ensures c.row_seen-row.ensures) (record { v_in_bounds = c.requires.seen_in_bounds; v_in_bounds_2 = c.requires.seen_in_bounds_2 })

pub returns-then-not-flat : goal.returns-then-not-flat
returns-then-not-flat c = let a = c.args in let e = c.flat_end-flat.ensures in let p = c.row_seen-row.ensures in record { value = left_past a.pool.now a.v _ a.seen _ e p _ a.c c.put_view-past.ensures.value; out_views_after = left_words a.pool.now a.v _ a.seen _ e p a.c a.out_views.now _ c.put_view-past.ensures.out_views_after; out_pool_after = left_plain a.pool.now a.v _ a.seen _ e p a.c a.out_pool.now _ (not-true _ c.if-not-flat.true) c.put_view-past.ensures.out_pool_after }

pub add_one-requires : goal.add_one-requires
add_one-requires c = let a = c.args in left_one a.pool.now a.v _ a.seen _ c.flat_end-flat.ensures c.row_seen-row.ensures a.c _ a.out_pool.now _ (not-false _ c.if-not-flat.false) c.requires.seen_in_bounds_2 c.put_view-past.ensures.value c.put_view-past.ensures.out_pool_after

pub returns : goal.returns
returns c = let a = c.args in let e = c.flat_end-flat.ensures in let p = c.row_seen-row.ensures in record { value = left_past a.pool.now a.v _ a.seen _ e p _ a.c c.put_view-past.ensures.value; out_views_after = left_words a.pool.now a.v _ a.seen _ e p a.c a.out_views.now _ c.put_view-past.ensures.out_views_after; out_pool_after = left_grown a.pool.now a.v _ a.seen _ e p a.c _ a.out_pool.now _ (not-false _ c.if-not-flat.false) c.requires.seen_in_bounds_2 c.put_view-past.ensures.value c.put_view-past.ensures.out_pool_after _ c.add_one.ensures }
