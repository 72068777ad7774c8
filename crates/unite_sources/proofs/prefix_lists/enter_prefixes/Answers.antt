use Prim.Native.Nat.{◌/◌}
use native.Mathlib.Omega.{arith}
use lib.ListN.{length}
use Rattle.tables.proofs.Windows.{held_in}
use Rattle.unite_sources.proofs.Gathering.{entering_none, entering_room, entering_more, entering_all, window_entered}
use Rattle.unite_sources.proofs.prefix_lists.enter_prefixes.Goals as goal

pub loop-k-init : goal.loop-k-init
loop-k-init c = entering_none _ _ _ _ _ (omega (arith, c.held-m.ensures, c.requires))

pub overflow_add-first : goal.overflow_add-first
overflow_add-first c = omega (arith, held_in c.args.w (length c.args.segments.now / 12) c.loop-k.k (omega (arith, c.held-m.ensures, c.loop-k-test.true)))

pub enter_segment-count-requires : goal.enter_segment-count-requires
enter_segment-count-requires c = record { i_in_bounds = held_in c.args.w (length c.args.segments.now / 12) c.loop-k.k (omega (arith, c.held-m.ensures, c.loop-k-test.true)); n_in_bounds = entering_room _ _ _ c.loop-k.invariant c.loop-k-test.true }

pub loop-k-preserved : goal.loop-k-preserved
loop-k-preserved c = entering_more _ _ _ c.loop-k.invariant _ _ _ c.loop-k-test.true c.enter_segment-count.ensures.result_after c.enter_segment-count.ensures.upper_bound c.enter_segment-count.ensures.list_len_unchanged

pub returns : goal.returns
returns c = record { result_after = window_entered _ _ c.args.w _ _ _ c.held-m.ensures (entering_all _ _ _ c.loop-k.invariant c.loop-k-test.false); upper_bound = omega (arith, c.held-m.ensures, c.loop-k.invariant.few, c.loop-k.invariant.within); list_len_unchanged = c.loop-k.invariant.long }
