use Rattle.prune.proofs.Used.{one_room, one_laid, none_laid}
use Rattle.prune.proofs.put_used_at.Goals as goal

pub put_id-requires : goal.put_id-requires
put_id-requires c = one_room _ _ _ c.names.ensures c.args.c c.args.out_ids.now _ c.if-names.true (rw c.id_at-x.ensures c.requires.i_in_bounds_2)

pub returns-then-names : goal.returns-then-names
returns-then-names c = rw (← c.id_at-x.ensures) let whole = (one_laid _ _ _ c.names.ensures c.args.c c.args.out_ids.now _ _ c.if-names.true c.put_id.ensures.value c.put_id.ensures.out_ids_after) in record { value = whole.0; out_ids_after = whole.1 }

pub returns : goal.returns
returns c = rw (← c.id_at-x.ensures) let whole = (none_laid _ _ _ c.names.ensures c.args.c _ c.if-names.false) in record { value = whole.0; out_ids_after = whole.1 }
