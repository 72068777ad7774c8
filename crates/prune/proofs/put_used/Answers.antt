use Prim.Native.Nat.{◌/◌}
use native.Mathlib.Omega.{arith}
use lib.ListN.{length}
use Rattle.ids.specs.Names.{ids_of}
use Rattle.tables.proofs.Windows.{held_in}
use Rattle.project_views.proofs.Ids.{listed_none, listed_room, listed_more, listed_all}
use Rattle.prune.proofs.Used.{used_pieces}
use Rattle.prune.proofs.put_used.Goals as goal

pub loop-k-init : goal.loop-k-init
loop-k-init c = let a = c.args in listed_none _ (used_pieces (ids_of a.used.now) a.ids.now a.w _ c.held-n.ensures) c.requires

pub overflow_add-w : goal.overflow_add-w
overflow_add-w c = omega (arith, held_in c.args.w (length c.args.ids.now / 2) c.loop-k.k (omega arith))

pub put_used_at-to-requires : goal.put_used_at-to-requires
put_used_at-to-requires c = record { i_in_bounds = held_in c.args.w (length c.args.ids.now / 2) c.loop-k.k (omega arith); i_in_bounds_2 = listed_room c.loop-k.invariant c.loop-k-test.true }

pub loop-k-preserved : goal.loop-k-preserved
loop-k-preserved c = listed_more c.loop-k.invariant c.loop-k-test.true (c.put_used_at-to.ensures.value, c.put_used_at-to.ensures.out_ids_after)

pub returns : goal.returns
returns c = let a = c.args in let whole = listed_all c.loop-k.invariant _ (used_pieces (ids_of a.used.now) a.ids.now a.w _ c.held-n.ensures) c.loop-k-test.false in record { value = whole.0; out_ids_after = whole.1 }
