use native.Mathlib.Numerals.{add-one}
use lib.Arith.{sub_dec}
use Prim.Native.Nat.{◌-◌, ◌/◌}
use native.Mathlib.Omega.{arith}
use lib.ListN.{length}
use Rattle.tables.proofs.Windows.{held_in}
use Rattle.project_views.specs.Reach.{reach_of}
use Rattle.project_views.proofs.Ids.{listed_none, listed_room, listed_more, listed_all, views_ids}
use Rattle.project_views.proofs.views_ids.put_views_ids.Goals as goal

pub loop-k-init : goal.loop-k-init
loop-k-init c = let a = c.args in listed_none _ (views_ids a.views.now a.pool.now a.w (reach_of a.pool.now a.r) a.views_overlap _ c.held-n.ensures) c.requires

pub put_kept_id_at-to-requires : goal.put_kept_id_at-to-requires
put_kept_id_at-to-requires c = let h = c.loop-k-test.true in let l = held_in c.args.w (length c.args.views.now / 16) (c.held-n.result - 1) (omega (arith, c.held-n.ensures)) in record { n_in_bounds = (omega arith, h); k_in_bounds = listed_room c.loop-k.invariant h }

pub loop-k-smaller : goal.loop-k-smaller
loop-k-smaller c = rw (add-one c.loop-k.k) (sub_dec c.held-n.result c.loop-k.k c.loop-k-test.true)

pub loop-k-preserved : goal.loop-k-preserved
loop-k-preserved c = listed_more c.loop-k.invariant c.loop-k-test.true (c.put_kept_id_at-to.ensures.value, c.put_kept_id_at-to.ensures.out_ids_after)

pub shape_of-out_ids : goal.shape_of-out_ids
shape_of-out_ids c = c.loop-k.invariant.grown.long

pub returns : goal.returns
returns c = let a = c.args in let whole = listed_all c.loop-k.invariant _ (views_ids a.views.now a.pool.now a.w (reach_of a.pool.now a.r) a.views_overlap _ c.held-n.ensures) c.loop-k-test.false in record { value = whole.0; out_ids_after = whole.1 }
