use Rattle.records.specs.Decode.{tree_in}
use Rattle.project_lay.proofs.Listing.{listed_dropped, room_shown, listed_shown, room_passed, listed_passed, tree_ssts_lem}
use Rattle.project_lay.proofs.left_listed.ids_after.Goals as goal

pub ids_shown-requires : goal.ids_shown-requires
ids_shown-requires c = let a = c.args in room_shown a.pool.now a.a (tree_in a.runs.now a.views.now a.pool.now a.t) a.c a.out_ids.now _ _ c.in-Project.is c.requires

pub put_tree_ssts-requires : goal.put_tree_ssts-requires
put_tree_ssts-requires c = let a = c.args in room_passed a.pool.now a.a (tree_in a.runs.now a.views.now a.pool.now a.t) a.c a.out_ids.now _ (tree_ssts_lem a.runs.now a.views.now a.pool.now a.t) c.in-PassThrough.is _ c.requires

pub returns-in-Drop : goal.returns-in-Drop
returns-in-Drop c = let a = c.args in let whole = listed_dropped a.pool.now a.a (tree_in a.runs.now a.views.now a.pool.now a.t) a.c _ c.in-Drop.is in record { value = whole.0; out_ids_after = whole.1 }

pub returns-in-Project : goal.returns-in-Project
returns-in-Project c = let a = c.args in let whole = listed_shown a.pool.now a.a (tree_in a.runs.now a.views.now a.pool.now a.t) a.c _ _ _ _ c.in-Project.is (c.ids_shown.ensures.value, c.ids_shown.ensures.out_ids_after) in record { value = whole.0; out_ids_after = whole.1 }

pub returns-in-PassThrough : goal.returns-in-PassThrough
returns-in-PassThrough c = let a = c.args in let whole = listed_passed a.pool.now a.a (tree_in a.runs.now a.views.now a.pool.now a.t) a.c _ _ (tree_ssts_lem a.runs.now a.views.now a.pool.now a.t) c.in-PassThrough.is _ _ (c.put_tree_ssts.ensures.value, c.put_tree_ssts.ensures.out_ids_after) in record { value = whole.0; out_ids_after = whole.1 }
