use native.Mathlib.Omega.{arith}
use Rattle.records.specs.Decode.{view_in}
use borrow.Author.Rules.{rules}
use Rattle.emit.proofs.Rows.{one_view, view_room, view_past, view_row_lem}
use Rattle.emit.proofs.views_put.put_view.Goals as goal

pub put_keys-laid-requires : goal.put_keys-laid-requires
put_keys-laid-requires c = search (one_view, rules)

pub view_words-row-requires : goal.view_words-row-requires
view_words-row-requires c = search (one_view, rules)

pub slice_bounds-put-end : goal.slice_bounds-put-end
slice_bounds-put-end c = search (one_view, rules)

pub overflow_mul-c : goal.overflow_mul-c
overflow_mul-c c = search (one_view, rules)

pub put-requires : goal.put-requires
put-requires c = omega (arith, view_room c.args.c (view_in c.args.pool.now c.args.v) c.args.out_views.now c.requires.v_in_bounds)

pub overflow_add-result : goal.overflow_add-result
overflow_add-result c = search (one_view, rules)

pub shape_of-out_views : goal.shape_of-out_views
shape_of-out_views c = search (one_view, rules)

pub shape_of-out_pool : goal.shape_of-out_pool
shape_of-out_pool c = search (one_view, rules)

pub returns : goal.returns
returns c = let a = c.args in let v = view_in a.pool.now a.v in record { value = view_past a.c v _ c.put_keys-laid.ensures.value; out_views_after = view_row_lem a.c v _ c.put_keys-laid.ensures.value _ _ _ c.view_words-row.ensures c.put.ensures.out_after; out_pool_after = c.put_keys-laid.ensures.out_pool_after }
