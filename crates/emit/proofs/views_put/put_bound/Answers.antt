use borrow.Author.Rules.{rules}
use Rattle.emit.proofs.Keys.{laid_keys, bound_included, bound_excluded}
use Rattle.emit.proofs.views_put.put_bound.Goals as goal

pub enum_told-1 : goal.enum_told-1
enum_told-1 c = search (laid_keys, rules)

pub enum_known-b : goal.enum_known-b
enum_known-b c = search (laid_keys, rules)

pub put_part-past-requires : goal.put_part-past-requires
put_part-past-requires c = search (laid_keys, rules)

pub overflow_sub-result : goal.overflow_sub-result
overflow_sub-result c = search (laid_keys, rules)

pub enum_known-b-in-Excluded-1 : goal.enum_known-b-in-Excluded-1
enum_known-b-in-Excluded-1 c = search (laid_keys, rules)

pub put_part-past-requires-in-Excluded : goal.put_part-past-requires-in-Excluded
put_part-past-requires-in-Excluded c = search (laid_keys, rules)

pub overflow_sub-result-in-Excluded : goal.overflow_sub-result-in-Excluded
overflow_sub-result-in-Excluded c = search (laid_keys, rules)

pub returns-in-Unbounded : goal.returns-in-Unbounded
returns-in-Unbounded c = search (laid_keys, rules, c.in-Unbounded.is)

pub shape_of-out_pool-in-Included : goal.shape_of-out_pool-in-Included
shape_of-out_pool-in-Included c = search (laid_keys, rules)

pub returns-in-Included : goal.returns-in-Included
returns-in-Included c = let a = c.args in let whole = bound_included a.pool.now a.out_pool.now a.at _ _ _ _ _ c.in-Included.is c.put_part-past.ensures.value c.put_part-past.ensures.out_pool_after in record { value = whole.0; out_pool_after = whole.1 }

pub shape_of-out_pool-in-Excluded : goal.shape_of-out_pool-in-Excluded
shape_of-out_pool-in-Excluded c = search (laid_keys, rules)

pub returns-in-Excluded : goal.returns-in-Excluded
returns-in-Excluded c = let a = c.args in let whole = bound_excluded a.pool.now a.out_pool.now a.at _ _ _ _ _ c.in-Excluded.is c.put_part-past-in-Excluded.ensures.value c.put_part-past-in-Excluded.ensures.out_pool_after in record { value = whole.0; out_pool_after = whole.1 }
