use Rattle.std.specs.Prelude.{Ok}
use mathlib.Core.Path.{ap}
use mathlib.Core.List.{[], ◌++◌}
use native.Mathlib.Omega.{arith}
use lib.ListN.{length}
use Rattle.keys.proofs.Says.{says_true}
use Rattle.tables.specs.Layout.{joined}
use Rattle.records.specs.Decode.{Lent, manifest_in, lent_of}
use Rattle.records.specs.Fill.{plus, sum, key_fill, name_keys, borrow_fill, manifest_fill}
use Rattle.records.specs.Layout.{run, borrow_ids, borrow_path, layout}
use Rattle.records.proofs.Laid.{borrows, ids, pool}
use Rattle.measure.proofs.Fits.{says_fits}
use Rattle.copy.specs.Copy.{room_of}
use Rattle.insert.proofs.Front.{rest_room, whole_borrows, whole_ids, whole_bytes}
use Rattle.segments.specs.Insert.{new_segment, put}
use Rattle.insert.specs.Insert.{entered_at}
use Rattle.insert.specs.declared.Inserted.TheVariants.{Entered}
use Rattle.insert.proofs.Entering.{row_with, outcome_same}
use Rattle.insert.proofs.with_one_more.put_entered.Goals as goal

pub put_trees_with-laid-requires : goal.put_trees_with-laid-requires
unfolding manifest_in manifest_fill layout
put_trees_with-laid-requires c = let a = c.args in let x : Lent = lent_of a.tables in let m = manifest_in x a.m in let ss = put a.i (new_segment a.prefix.now) m.segments in let o : Lent = record { segments = a.out_segments.now; views = a.out_views.now; runs = a.out_runs.now; borrows = a.out_borrows.now; ids = a.out_ids.now; pool = a.out_pool.now } in let u = says_true (says_fits (manifest_fill (entered_at a.i a.prefix.now m)) (room_of o)) c.requires.out_pool_value in record { i_bound = c.requires.i_bound; w_in_bounds = omega (arith, u.segments); w_in_bounds_2 = omega (arith, u.runs); w_in_bounds_3 = omega (arith, u.views); w_in_bounds_4 = omega (arith, u.bytes) }

pub put_rest-name-requires : goal.put_rest-name-requires
unfolding manifest_in manifest_fill layout
put_rest-name-requires c = let a = c.args in let x : Lent = lent_of a.tables in let m = manifest_in x a.m in let ss = put a.i (new_segment a.prefix.now) m.segments in let o : Lent = record { segments = a.out_segments.now; views = a.out_views.now; runs = a.out_runs.now; borrows = a.out_borrows.now; ids = a.out_ids.now; pool = a.out_pool.now } in let u = says_true (says_fits (manifest_fill (entered_at a.i a.prefix.now m)) (room_of o)) c.requires.out_pool_value in let e = c.put_trees_with-laid.ensures.value in let g = plus (sum key_fill (name_keys m.extractor)) (sum borrow_fill m.borrows) in record { w_in_bounds = rest_room m.tree ss _ e borrows g _ (omega (arith, u.borrows)); w_in_bounds_2 = rest_room m.tree ss _ e ids g _ (omega (arith, u.ids)); w_in_bounds_3 = omega (arith, c.put_trees_with-laid.auto.out_pool, rest_room m.tree ss _ e pool g (length a.out_pool.now) (omega (arith, u.bytes))) }

pub returns : goal.returns
unfolding manifest_in manifest_fill layout
returns c = let a = c.args in let x : Lent = lent_of a.tables in let m = manifest_in x a.m in let ss = put a.i (new_segment a.prefix.now) m.segments in let e = c.put_trees_with-laid.ensures.value in outcome_same (ap (λ q. Ok (Entered a.i q)) (row_with x a.m ss _ _ _ _ e c.put_rest-name.ensures.value c.held.ensures c.manifest_row.ensures)) c.put_trees_with-laid.ensures.out_segments_after c.put_trees_with-laid.ensures.out_views_after c.put_trees_with-laid.ensures.out_runs_after (whole_borrows m.tree ss _ e _ _ [] (sum key_fill (name_keys m.extractor)) m.borrows c.put_rest-name.ensures.out_borrows_after) (whole_ids m.tree ss _ e _ _ [] (joined borrow_ids m.borrows) c.put_rest-name.ensures.out_ids_after) (whole_bytes m.tree ss _ e _ _ _ (run (name_keys m.extractor) ++ joined borrow_path m.borrows) c.put_trees_with-laid.ensures.out_pool_after c.put_rest-name.ensures.out_pool_after)
