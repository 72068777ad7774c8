use Rattle.emit.proofs.Rows.{name_room, name_absent, name_named}
use Rattle.emit.proofs.borrows_put.put_name.Goals as goal

pub put_part-past-requires : goal.put_part-past-requires
put_part-past-requires c = let a = c.args in name_room a.pool.now a.c a.out_pool.now a.n _ c.in-Some.is c.requires

pub returns-in-None : goal.returns-in-None
returns-in-None c = let a = c.args in let whole = name_absent a.pool.now a.c a.out_pool.now a.n c.in-None.is in record { value = whole.0; out_pool_after = whole.1 }

pub returns-in-Some : goal.returns-in-Some
returns-in-Some c = let a = c.args in let whole = name_named a.pool.now a.c a.out_pool.now a.n _ c.in-Some.is _ _ c.put_part-past.ensures.value c.put_part-past.ensures.out_pool_after in record { value = whole.0; out_pool_after = whole.1 }
