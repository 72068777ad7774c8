use Prim.Native.Nat.{◌/◌}
use native.Mathlib.Omega.{arith}
use lib.ListN.{length}
use Rattle.tables.proofs.Windows.{held_in}
use Rattle.records.specs.Decode.{views_in}
use Rattle.records.specs.Layout.{views_laid}
use Rattle.emit.proofs.Laid.{walk_none, walk_more, walk_all_lem, grown_none, grown_room, grown_more, grown_all, joined_all}
use Rattle.emit.proofs.views_put.put_views.Goals as goal

pub loop-k-init : goal.loop-k-init
unfolding views_in views_laid
loop-k-init c = (walk_none, grown_none (rw c.held-n.ensures c.requires.w_in_bounds), grown_none (rw c.held-n.ensures c.requires.w_in_bounds_2))

pub overflow_add-first : goal.overflow_add-first
unfolding views_in views_laid
overflow_add-first c = omega (arith, held_in c.args.w (length c.args.views.now / 16) c.loop-k.k (omega arith))

pub put_view_at-to-requires : goal.put_view_at-to-requires
unfolding views_in views_laid
put_view_at-to-requires c = let i = c.loop-k.invariant in let h = c.loop-k-test.true in record { i_in_bounds = held_in c.args.w (length c.args.views.now / 16) c.loop-k.k (omega arith); i_in_bounds_2 = grown_room i.0 i.1 h; i_in_bounds_3 = grown_room i.0 i.2 h }

pub loop-k-preserved : goal.loop-k-preserved
unfolding views_in views_laid
loop-k-preserved c = let i = c.loop-k.invariant in let h = c.loop-k-test.true in let e = c.put_view_at-to.ensures in (walk_more i.0 h e.value, grown_more i.0 i.1 h e.out_views_after, grown_more i.0 i.2 h e.out_pool_after)

pub returns : goal.returns
unfolding views_in views_laid
returns c = let i = c.loop-k.invariant in let h = c.loop-k-test.false in rw (← c.held-n.ensures) (record { value = walk_all_lem i.0 h; out_views_after = grown_all i.0 i.1 h; out_pool_after = (joined_all i.0 i.2 h) })
