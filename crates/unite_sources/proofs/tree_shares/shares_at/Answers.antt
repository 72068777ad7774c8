use Prim.Native.Nat.{◌*◌}
use mathlib.Core.Path.{sym, ap, ◌∙◌}
use mathlib.Core.List.{List}
use native.Mathlib.Omega.{arith}
use Rattle.records.specs.Row.{at}
use Rattle.records.specs.Model.{Tree}
use Rattle.records.specs.Decode.{bytes_in}
use Rattle.measure.specs.Within.{tree_views}
use Rattle.unite_ranges.specs.Arranged.{arranged}
use Rattle.unite_sources.specs.Used.{ranged_by}
use Rattle.unite_sources.specs.Rows.{begins, ranged_trees}
use Rattle.unite_sources.proofs.Arranging.{arranging_none, arranging_room, arranging_more, arranging_all, rows_none}
use Rattle.unite_sources.proofs.Sharing.{share_at, trees_up_to, trees_none}
use Rattle.unite_sources.proofs.tree_shares.shares_at.Goals as goal

pub loop-i-init : goal.loop-i-init
unfolding begins
loop-i-init c = arranging_none _ _ _ _ _ (omega arith) (ap (ranged_trees _) (rows_none _ _) ∙ trees_none _)

pub enter_share-k-requires : goal.enter_share-k-requires
unfolding begins
enter_share-k-requires c = arranging_room _ _ _ c.loop-i.invariant c.loop-i-test.true

pub loop-i-preserved : goal.loop-i-preserved
unfolding begins
loop-i-preserved c = arranging_more _ _ _ c.loop-i.invariant _ _ _ c.loop-i-test.true (share_at _ _ _ _ c.args.sources.now _ (at c.args.order.now (c.loop-i.i * 7)) _ _ _ c.segments_of-w.ensures c.enter_share-k.ensures.result_after) c.enter_share-k.ensures.upper_bound c.enter_share-k.ensures.shares_len_unchanged

pub returns : goal.returns
unfolding begins
returns c = record { result_after = arranging_all _ _ _ c.loop-i.invariant c.loop-i-test.false ∙ ap (λ (z : List Tree). arranged (ranged_by tree_views z)) (sym (trees_up_to _ c.args.sources.now (bytes_in c.args.pool.now c.args.prefix) (λ j. at c.args.order.now (j * 7)) c.args.n)); upper_bound = omega (arith, c.loop-i.invariant.few, c.loop-i.invariant.within); shares_len_unchanged = c.loop-i.invariant.long }
