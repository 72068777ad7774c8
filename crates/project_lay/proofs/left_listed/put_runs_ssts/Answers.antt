use native.Mathlib.Numerals.{add-one}
use lib.Arith.{sub_dec}
use Prim.Native.Nat.{◌/◌}
use native.Mathlib.Omega.{arith}
use lib.ListN.{length}
use Rattle.tables.proofs.Windows.{held_in}
use Rattle.project_views.proofs.Ids.{listed_none, listed_room, listed_more, listed_all}
use Rattle.project_lay.proofs.Listing.{runs_ssts_all, run_room, run_listed}
use Rattle.project_lay.proofs.left_listed.put_runs_ssts.Goals as goal

pub loop-k-init : goal.loop-k-init
loop-k-init c = let a = c.args in listed_none _ (runs_ssts_all a.runs.now a.views.now a.w _ c.held-n.ensures) c.requires

pub overflow_add-w : goal.overflow_add-w
overflow_add-w c = omega (arith, held_in c.args.w (length c.args.runs.now / 3) c.loop-k.k (omega arith))

pub run_at-x-requires : goal.run_at-x-requires
run_at-x-requires c = held_in c.args.w (length c.args.runs.now / 3) c.loop-k.k (omega arith)

pub put_ssts-to-requires : goal.put_ssts-to-requires
put_ssts-to-requires c = run_room c.args.views.now c.loop-k.to _ _ _ c.run_at-x.ensures (listed_room c.loop-k.invariant c.loop-k-test.true)

pub loop-k-smaller : goal.loop-k-smaller
loop-k-smaller c = rw (add-one c.loop-k.k) (sub_dec c.held-n.result c.loop-k.k c.loop-k-test.true)

pub loop-k-preserved : goal.loop-k-preserved
loop-k-preserved c = listed_more c.loop-k.invariant c.loop-k-test.true (run_listed _ _ _ _ _ _ _ c.run_at-x.ensures (c.put_ssts-to.ensures.value, c.put_ssts-to.ensures.out_ids_after))

pub shape_of-out_ids : goal.shape_of-out_ids
shape_of-out_ids c = c.loop-k.invariant.grown.long

pub returns : goal.returns
returns c = let a = c.args in let whole = listed_all c.loop-k.invariant _ (runs_ssts_all a.runs.now a.views.now a.w _ c.held-n.ensures) c.loop-k-test.false in record { value = whole.0; out_ids_after = whole.1 }
