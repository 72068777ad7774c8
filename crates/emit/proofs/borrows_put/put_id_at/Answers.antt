use Rattle.emit.proofs.borrows_put.put_id_at.Goals as goal

pub returns : goal.returns
returns c = rw (← c.id_at.ensures) (record { value = c.put_id.ensures.value; out_ids_after = c.put_id.ensures.out_ids_after })
