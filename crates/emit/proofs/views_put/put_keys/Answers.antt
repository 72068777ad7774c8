use native.Mathlib.Omega.{arith}
use borrow.Author.Rules.{rules}
use Rattle.emit.proofs.Keys.{laid_keys, visible_room, view_laid}
use Rattle.emit.proofs.views_put.put_keys.Goals as goal

pub put_part-first-requires : goal.put_part-first-requires
put_part-first-requires c = search (laid_keys, rules)

pub put_last-last-requires : goal.put_last-last-requires
put_last-last-requires c = search (laid_keys, rules)

pub put_visible-seen-requires : goal.put_visible-seen-requires
put_visible-seen-requires c = let a = c.args in visible_room a.pool.now a.out_pool.now a.at a.v c.requires _ c.put_part-first.ensures.value _ c.put_last-last.ensures.value _ (omega (arith, c.put_part-first.auto, c.put_last-last.auto))

pub overflow_sub-result : goal.overflow_sub-result
overflow_sub-result c = search (laid_keys, rules)

pub shape_of-out_pool : goal.shape_of-out_pool
shape_of-out_pool c = search (laid_keys, rules)

pub returns : goal.returns
returns c = let a = c.args in let whole = view_laid a.pool.now a.out_pool.now a.at a.v c.requires _ c.put_part-first.ensures.value _ c.put_last-last.ensures.value _ _ _ _ c.put_part-first.ensures.out_pool_after c.put_last-last.ensures.out_pool_after c.put_visible-seen.ensures.value c.put_visible-seen.ensures.out_pool_after in record { value = whole.0; out_pool_after = whole.1 }
