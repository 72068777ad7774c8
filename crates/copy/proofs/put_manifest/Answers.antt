use mathlib.Core.Path.{◌∙◌}
use mathlib.Core.List.{[], ◌++◌}
use native.Mathlib.Omega.{arith}
use lib.ListN.{length}
use Rattle.tables.specs.Layout.{joined}
use Rattle.keys.proofs.Says.{says_true}
use Rattle.records.specs.Decode.{Lent, manifest_in, lent_of}
use Rattle.records.specs.Fill.{plus, sum, key_fill, name_keys, borrow_fill, manifest_fill}
use Rattle.records.specs.Layout.{run, borrow_ids, borrow_path, layout_at}
use Rattle.measure.proofs.Fits.{says_fits}
use Rattle.records.proofs.Laid.{borrows, ids, pool}
use Rattle.copy.specs.Copy.{room_of}
use Rattle.copy.proofs.Manifest.{rest_room, manifest_laid, whole_borrows, whole_ids, whole_bytes}
use Rattle.copy.proofs.put_manifest.Goals as goal

pub put_trees-laid-requires : goal.put_trees-laid-requires
unfolding manifest_in manifest_fill layout_at
put_trees-laid-requires c = let a = c.args in let x : Lent = lent_of a.tables in let m = manifest_in x a.m in let o : Lent = record { segments = a.out_segments.now; views = a.out_views.now; runs = a.out_runs.now; borrows = a.out_borrows.now; ids = a.out_ids.now; pool = a.out_pool.now } in let u = says_true (says_fits (plus a.c (manifest_fill m)) (room_of o)) c.requires in record { w_in_bounds = omega (arith, u.segments); w_in_bounds_2 = omega (arith, u.runs); w_in_bounds_3 = omega (arith, u.views); w_in_bounds_4 = omega (arith, u.bytes) }

pub put_rest-name-requires : goal.put_rest-name-requires
unfolding manifest_in manifest_fill layout_at
put_rest-name-requires c = let a = c.args in let x : Lent = lent_of a.tables in let m = manifest_in x a.m in let o : Lent = record { segments = a.out_segments.now; views = a.out_views.now; runs = a.out_runs.now; borrows = a.out_borrows.now; ids = a.out_ids.now; pool = a.out_pool.now } in let u = says_true (says_fits (plus a.c (manifest_fill m)) (room_of o)) c.requires in let e = c.put_trees-laid.ensures.value in let g = plus (sum key_fill (name_keys m.extractor)) (sum borrow_fill m.borrows) in record { w_in_bounds = rest_room a.c m.tree m.segments _ e borrows g _ (omega (arith, u.borrows)); w_in_bounds_2 = rest_room a.c m.tree m.segments _ e ids g _ (omega (arith, u.ids)); w_in_bounds_3 = omega (arith, c.put_trees-laid.auto.out_pool, rest_room a.c m.tree m.segments _ e pool g (length a.out_pool.now) (omega (arith, u.bytes))) }

pub shape_of-out_segments : goal.shape_of-out_segments
shape_of-out_segments c = c.put_trees-laid.auto.out_segments

pub shape_of-out_views : goal.shape_of-out_views
shape_of-out_views c = c.put_trees-laid.auto.out_views

pub shape_of-out_runs : goal.shape_of-out_runs
shape_of-out_runs c = c.put_trees-laid.auto.out_runs

pub shape_of-out_borrows : goal.shape_of-out_borrows
shape_of-out_borrows c = c.put_rest-name.auto.out_borrows

pub shape_of-out_ids : goal.shape_of-out_ids
shape_of-out_ids c = c.put_rest-name.auto.out_ids

pub shape_of-out_pool : goal.shape_of-out_pool
shape_of-out_pool c = c.put_rest-name.auto.out_pool ∙ c.put_trees-laid.auto.out_pool

pub returns : goal.returns
unfolding manifest_in manifest_fill layout_at
returns c = let a = c.args in let x : Lent = lent_of a.tables in let m = manifest_in x a.m in let o : Lent = record { segments = a.out_segments.now; views = a.out_views.now; runs = a.out_runs.now; borrows = a.out_borrows.now; ids = a.out_ids.now; pool = a.out_pool.now } in let u = says_true (says_fits (plus a.c (manifest_fill m)) (room_of o)) c.requires in let e = c.put_trees-laid.ensures.value in record { value = manifest_laid x a.m a.c _ _ _ _ _ e c.put_rest-name.ensures.value c.held.ensures c.held-2.ensures c.manifest_row_at.ensures; out_segments_after = c.put_trees-laid.ensures.out_segments_after; out_views_after = c.put_trees-laid.ensures.out_views_after; out_runs_after = c.put_trees-laid.ensures.out_runs_after; out_borrows_after = whole_borrows a.c m.tree m.segments _ e _ _ [] (sum key_fill (name_keys m.extractor)) m.borrows c.put_rest-name.ensures.out_borrows_after; out_ids_after = whole_ids a.c m.tree m.segments _ e _ _ [] (joined borrow_ids m.borrows) c.put_rest-name.ensures.out_ids_after; out_pool_after = whole_bytes a.c m.tree m.segments _ e _ _ _ (manifest_fill m) (run (name_keys m.extractor) ++ joined borrow_path m.borrows) u.bytes c.put_trees-laid.ensures.out_pool_after c.put_rest-name.ensures.out_pool_after }
