use Prim.Native.Nat.{◌/◌}
use native.Mathlib.Omega.{arith}
use lib.ListN.{length}
use Rattle.tables.proofs.Windows.{held_in}
use Rattle.records.specs.Decode.{ids_in}
use Rattle.records.specs.Layout.{ids_laid}
use Rattle.emit.proofs.Laid.{walk_none, walk_more, walk_all_lem, grown_none, grown_room, grown_more, joined_all}
use Rattle.emit.proofs.Rows.{ids_room, ids_past}
use Rattle.emit.proofs.borrows_put.put_ids.Goals as goal

pub loop-k-init : goal.loop-k-init
unfolding ids_in ids_laid
loop-k-init c = (walk_none, grown_none (rw c.held-n.ensures (ids_room c.args.c (ids_in c.args.ids.now c.args.w) _ c.requires)))

pub overflow_add-first : goal.overflow_add-first
unfolding ids_in ids_laid
overflow_add-first c = omega (arith, held_in c.args.w (length c.args.ids.now / 2) c.loop-k.k (omega arith))

pub put_id_at-to-requires : goal.put_id_at-to-requires
unfolding ids_in ids_laid
put_id_at-to-requires c = let i = c.loop-k.invariant in let h = c.loop-k-test.true in record { i_in_bounds = held_in c.args.w (length c.args.ids.now / 2) c.loop-k.k (omega arith); ids_in_bounds = grown_room i.0 i.1 h }

pub loop-k-preserved : goal.loop-k-preserved
unfolding ids_in ids_laid
loop-k-preserved c = let i = c.loop-k.invariant in let h = c.loop-k-test.true in let e = c.put_id_at-to.ensures in (walk_more i.0 h e.value, grown_more i.0 i.1 h e.out_ids_after)

pub returns : goal.returns
unfolding ids_in ids_laid
returns c = let i = c.loop-k.invariant in let h = c.loop-k-test.false in record { value = ids_past _ c.args.c (ids_in c.args.ids.now c.args.w) (rw (← c.held-n.ensures) (walk_all_lem i.0 h)); out_ids_after = rw (← c.held-n.ensures) (joined_all i.0 i.1 h) }
