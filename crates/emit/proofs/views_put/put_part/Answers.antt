use Rattle.emit.proofs.views_put.put_part.Goals as goal

pub put-requires : goal.put-requires
put-requires c = rw c.part.ensures c.requires

pub returns : goal.returns
returns c = rw (← c.part.ensures) (record { value = c.put.ensures.value; out_pool_after = c.put.ensures.out_after })
