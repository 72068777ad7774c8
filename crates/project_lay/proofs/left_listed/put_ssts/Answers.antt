use native.Mathlib.Numerals.{add-one}
use lib.Arith.{sub_dec}
use Prim.Native.Nat.{◌/◌}
use native.Mathlib.Omega.{arith}
use lib.ListN.{length}
use Rattle.tables.proofs.Windows.{held_in}
use Rattle.project_views.proofs.Ids.{listed_none, listed_room, listed_more, listed_all}
use Rattle.project_lay.proofs.Listing.{ssts_all, one_listed}
use Rattle.project_lay.proofs.left_listed.put_ssts.Goals as goal

pub loop-k-init : goal.loop-k-init
loop-k-init c = let a = c.args in listed_none _ (ssts_all a.views.now a.w _ c.held-n.ensures) c.requires

pub overflow_add-w : goal.overflow_add-w
overflow_add-w c = omega (arith, held_in c.args.w (length c.args.views.now / 16) c.loop-k.k (omega arith))

pub view_at-v-requires : goal.view_at-v-requires
view_at-v-requires c = held_in c.args.w (length c.args.views.now / 16) c.loop-k.k (omega arith)

pub put_id-to-requires : goal.put_id-to-requires
put_id-to-requires c = listed_room c.loop-k.invariant c.loop-k-test.true

pub loop-k-smaller : goal.loop-k-smaller
loop-k-smaller c = rw (add-one c.loop-k.k) (sub_dec c.held-n.result c.loop-k.k c.loop-k-test.true)

pub loop-k-preserved : goal.loop-k-preserved
loop-k-preserved c = listed_more c.loop-k.invariant c.loop-k-test.true (one_listed _ _ _ _ _ _ c.view_at-v.ensures c.put_id-to.ensures.value c.put_id-to.ensures.out_ids_after)

pub shape_of-out_ids : goal.shape_of-out_ids
shape_of-out_ids c = c.loop-k.invariant.grown.long

pub returns : goal.returns
returns c = let a = c.args in let whole = listed_all c.loop-k.invariant _ (ssts_all a.views.now a.w _ c.held-n.ensures) c.loop-k-test.false in record { value = whole.0; out_ids_after = whole.1 }
