use Rattle.project_views.proofs.Ids.{id_none, id_room_lem, id_one}
use Rattle.project_views.proofs.views_ids.put_kept_id.Goals as goal

pub put_id-requires : goal.put_id-requires
put_id-requires c = let a = c.args in id_room_lem a.k a.c a.out_ids.now _ _ c.in-Some.is _ c.requires

pub returns-in-None : goal.returns-in-None
returns-in-None c = let a = c.args in let whole = id_none a.k a.c _ c.in-None.is in record { value = whole.0; out_ids_after = whole.1 }

pub returns-in-Some : goal.returns-in-Some
returns-in-Some c = let a = c.args in let whole = id_one a.k a.c a.out_ids.now _ _ c.in-Some.is _ _ c.put_id.ensures.value c.put_id.ensures.out_ids_after in record { value = whole.0; out_ids_after = whole.1 }
