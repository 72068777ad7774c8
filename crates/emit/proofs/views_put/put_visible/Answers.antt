use borrow.Author.Rules.{rules}
use Rattle.emit.proofs.Keys.{laid_keys, visible_only}
use Rattle.emit.proofs.views_put.put_visible.Goals as goal

pub enum_told-1 : goal.enum_told-1
enum_told-1 c = search (laid_keys, rules)

pub enum_known-x : goal.enum_known-x
enum_known-x c = search (laid_keys, rules)

pub put_bound-start-requires : goal.put_bound-start-requires
put_bound-start-requires c = search (laid_keys, rules)

pub put_bound-end-requires : goal.put_bound-end-requires
put_bound-end-requires c = search (laid_keys, rules)

pub returns-in-None : goal.returns-in-None
returns-in-None c = search (laid_keys, rules, c.in-None.is)

pub shape_of-out_pool : goal.shape_of-out_pool
shape_of-out_pool c = search (laid_keys, rules)

pub returns-in-Some : goal.returns-in-Some
returns-in-Some c = let a = c.args in let whole = visible_only a.pool.now a.out_pool.now a.at _ _ c.in-Some.is c.requires _ _ _ _ c.put_bound-start.ensures.value c.put_bound-start.ensures.out_pool_after c.put_bound-end.ensures.value c.put_bound-end.ensures.out_pool_after in record { value = whole.0; out_pool_after = whole.1 }
