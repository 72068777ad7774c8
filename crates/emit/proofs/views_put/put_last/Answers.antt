use borrow.Author.Rules.{rules}
use Rattle.emit.proofs.Keys.{laid_keys, last_known}
use Rattle.emit.proofs.views_put.put_last.Goals as goal

pub enum_told-1 : goal.enum_told-1
enum_told-1 c = search (laid_keys, rules)

pub enum_known-l : goal.enum_known-l
enum_known-l c = search (laid_keys, rules)

pub put_part-past-requires : goal.put_part-past-requires
put_part-past-requires c = search (laid_keys, rules)

pub overflow_sub-result : goal.overflow_sub-result
overflow_sub-result c = search (laid_keys, rules)

pub returns-in-None : goal.returns-in-None
returns-in-None c = search (laid_keys, rules, c.in-None.is)

pub shape_of-out_pool : goal.shape_of-out_pool
shape_of-out_pool c = search (laid_keys, rules)

pub returns-in-Some : goal.returns-in-Some
returns-in-Some c = let a = c.args in let whole = last_known a.pool.now a.out_pool.now a.at _ _ _ _ c.in-Some.is c.put_part-past.ensures.value c.put_part-past.ensures.out_pool_after in record { value = whole.0; out_pool_after = whole.1 }
