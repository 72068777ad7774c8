use mathlib.Core.Path.{◌∙◌}
use native.Mathlib.Omega.{arith}
use Rattle.records.specs.Decode.{Lent, manifest_in, lent_of}
use Rattle.borrows.specs.Clone.{uuids_of}
use Rattle.borrows.specs.Bare.{bare_of}
use Rattle.records.specs.Layout.{layout}
use Rattle.borrows.specs.Clone.{cloned_of}
use Rattle.borrows.proofs.Lending.{held_is}
use Rattle.borrows.proofs.Cloning.{bare_fits, borrows_room, ids_room, pool_room, clone_borrows, clone_ids, clone_pool, clone_row}
use Rattle.borrows.proofs.clone_rows.put_clone.Goals as goal

pub put_bare-laid-requires : goal.put_bare-laid-requires
unfolding layout bare_of cloned_of
put_bare-laid-requires c = let a = c.args in let l : Lent = lent_of a.tables in let o : Lent = record { segments = a.out_segments.now; views = a.out_views.now; runs = a.out_runs.now; borrows = a.out_borrows.now; ids = a.out_ids.now; pool = a.out_pool.now } in let x = manifest_in l a.m in let f = uuids_of a.fresh.now in bare_fits x a.path.now a.checkpoint f o c.requires.out_pool_value

pub put_clone_borrows-requires : goal.put_clone_borrows-requires
unfolding layout bare_of cloned_of
put_clone_borrows-requires c = let a = c.args in let l : Lent = lent_of a.tables in let o : Lent = record { segments = a.out_segments.now; views = a.out_views.now; runs = a.out_runs.now; borrows = a.out_borrows.now; ids = a.out_ids.now; pool = a.out_pool.now } in let x = manifest_in l a.m in let f = uuids_of a.fresh.now in record { borrows_in_bounds = c.requires.borrows_in_bounds; fresh_in_bounds = omega (arith, c.put_bare-laid.auto.out_borrows, borrows_room x a.path.now a.checkpoint f o c.requires.out_pool_value _ c.requires.c_value); fresh_in_bounds_2 = omega (arith, c.put_bare-laid.auto.out_ids, ids_room x a.path.now a.checkpoint f o c.requires.out_pool_value _ c.requires.c_value); fresh_in_bounds_3 = omega (arith, c.put_bare-laid.auto.out_pool, pool_room x a.path.now a.checkpoint f o c.requires.out_pool_value _ c.requires.c_value) }

pub overflow_add-n : goal.overflow_add-n
overflow_add-n c = omega (arith, c.requires.borrows_in_bounds, c.held-n.ensures, c.well_formed.1.1.1.1.1.1.1.1.1.0)

pub returns : goal.returns
unfolding layout bare_of cloned_of
returns c = let a = c.args in let l : Lent = lent_of a.tables in let x = manifest_in l a.m in let f = uuids_of a.fresh.now in record { value = clone_row x a.path.now a.checkpoint f _ _ _ c.put_bare-laid.ensures.value (c.held-n.ensures ∙ held_is l a.m) c.manifest_row.ensures; out_segments_after = c.put_bare-laid.ensures.out_segments_after; out_views_after = c.put_bare-laid.ensures.out_views_after; out_runs_after = c.put_bare-laid.ensures.out_runs_after; out_borrows_after = clone_borrows x a.path.now a.checkpoint f a.c c.requires.c_value _ _ _ c.put_bare-laid.ensures.out_borrows_after c.put_clone_borrows.ensures.out_borrows_after; out_ids_after = clone_ids x a.path.now a.checkpoint f a.c c.requires.c_value _ _ _ c.put_bare-laid.ensures.out_ids_after c.put_clone_borrows.ensures.out_ids_after; out_pool_after = clone_pool x a.path.now a.checkpoint f a.c c.requires.c_value _ _ _ c.put_bare-laid.ensures.out_pool_after c.put_clone_borrows.ensures.out_pool_after }
