use mathlib.Core.Path.{ap, ◌∙◌}
use mathlib.Core.List.{[], ◌++◌}
use native.Mathlib.Omega.{arith}
use lib.ListN.{length}
use Rattle.tables.specs.Layout.{joined}
use Rattle.keys.proofs.Says.{says_true}
use Rattle.records.specs.Decode.{Lent, borrows_in, manifest_in, lent_of}
use Rattle.records.specs.Fill.{plus, sum, key_fill, name_keys, borrow_fill, manifest_fill}
use Rattle.records.specs.Layout.{run, borrow_ids, borrow_path, layout_at}
use Rattle.records.specs.declared.Fill.{Fill}
use Rattle.records.proofs.Laid.{borrows, ids, pool}
use Rattle.measure.proofs.Fits.{says_fits}
use Rattle.copy.specs.Copy.{room_of}
use Rattle.copy.proofs.Manifest.{rest_room, whole_borrows, whole_ids, whole_bytes}
use Rattle.project_ranges.specs.Config.{Config}
use Rattle.project_ranges.specs.Args.{config_in}
use Rattle.project.specs.Project.{narrowed, with_used}
use Rattle.project.proofs.Wholes.{rest_room_used, rest_laid_used, segments_filled, borrows_filled, row_laid}
use Rattle.project.proofs.projected_laid.put_projected.Goals as goal

pub put_trees_after-laid-requires : goal.put_trees_after-laid-requires
unfolding manifest_in manifest_fill layout_at narrowed with_used
put_trees_after-laid-requires c = let a = c.args in let x : Lent = lent_of a.tables in let o : Lent = record { segments = a.out_segments.now; views = a.out_views.now; runs = a.out_runs.now; borrows = a.out_borrows.now; ids = a.out_ids.now; pool = a.out_pool.now } in let k : Config = config_in a.tables.pool.now a.config a.own.now in let m = with_used (narrowed k (manifest_in x a.m)) in let u = says_true (says_fits (plus a.c (manifest_fill m)) (room_of o)) c.requires.out_pool_value in record { w_in_bounds = omega (arith, u.segments); w_in_bounds_2 = omega (arith, u.runs); w_in_bounds_3 = omega (arith, u.views); w_in_bounds_4 = omega (arith, u.bytes) }

pub put_rest_after-name-requires : goal.put_rest_after-name-requires
unfolding manifest_in manifest_fill layout_at narrowed with_used
put_rest_after-name-requires c = let a = c.args in let x : Lent = lent_of a.tables in let o : Lent = record { segments = a.out_segments.now; views = a.out_views.now; runs = a.out_runs.now; borrows = a.out_borrows.now; ids = a.out_ids.now; pool = a.out_pool.now } in let k : Config = config_in a.tables.pool.now a.config a.own.now in let m = with_used (narrowed k (manifest_in x a.m)) in let u = says_true (says_fits (plus a.c (manifest_fill m)) (room_of o)) c.requires.out_pool_value in let e = c.put_trees_after-laid.ensures.value in let g = plus (sum key_fill (name_keys m.extractor)) (sum borrow_fill m.borrows) in let whole = rest_room_used _ _ c.requires.used_value (borrows_in a.tables.borrows.now a.tables.ids.now a.tables.pool.now a.m.external_dbs) c.put_trees_after-laid.result.past m.extractor _ _ _ (rest_room a.c m.tree m.segments _ e borrows g _ (omega (arith, u.borrows)), (rest_room a.c m.tree m.segments _ e ids g _ (omega (arith, u.ids)), omega (arith, c.put_trees_after-laid.auto, rest_room a.c m.tree m.segments _ e pool g (length a.out_pool.now) (omega (arith, u.bytes))))) in record { w_in_bounds = whole.0; w_in_bounds_2 = whole.1.0; w_in_bounds_3 = whole.1.1 }

pub returns : goal.returns
unfolding manifest_in manifest_fill layout_at narrowed with_used
returns c = let a = c.args in let x : Lent = lent_of a.tables in let o : Lent = record { segments = a.out_segments.now; views = a.out_views.now; runs = a.out_runs.now; borrows = a.out_borrows.now; ids = a.out_ids.now; pool = a.out_pool.now } in let k : Config = config_in a.tables.pool.now a.config a.own.now in let m = with_used (narrowed k (manifest_in x a.m)) in let u = says_true (says_fits (plus a.c (manifest_fill m)) (room_of o)) c.requires.out_pool_value in let e = c.put_trees_after-laid.ensures.value in let w = rest_laid_used _ _ c.requires.used_value (borrows_in a.tables.borrows.now a.tables.ids.now a.tables.pool.now a.m.external_dbs) c.put_trees_after-laid.result.past m.extractor _ a.out_borrows.now _ a.out_ids.now _ _ _ (c.put_rest_after-name.ensures.value, (c.put_rest_after-name.ensures.out_borrows_after, (c.put_rest_after-name.ensures.out_ids_after, c.put_rest_after-name.ensures.out_pool_after))) in let f = c.requires.f_value in record { value = row_laid x a.m m.tree m.segments m.borrows a.c _ _ _ _ _ e w.0 (ap (λ (z : Fill). z.segments) f ∙ segments_filled m) (ap (λ (z : Fill). z.borrows) f ∙ borrows_filled m) c.manifest_row_at.ensures; out_segments_after = c.put_trees_after-laid.ensures.out_segments_after; out_views_after = c.put_trees_after-laid.ensures.out_views_after; out_runs_after = c.put_trees_after-laid.ensures.out_runs_after; out_borrows_after = whole_borrows a.c m.tree m.segments _ e _ _ [] (sum key_fill (name_keys m.extractor)) m.borrows w.1.0; out_ids_after = whole_ids a.c m.tree m.segments _ e _ _ [] (joined borrow_ids m.borrows) w.1.1.0; out_pool_after = whole_bytes a.c m.tree m.segments _ e _ _ _ (manifest_fill m) (run (name_keys m.extractor) ++ joined borrow_path m.borrows) u.bytes c.put_trees_after-laid.ensures.out_pool_after w.1.1.1 }
