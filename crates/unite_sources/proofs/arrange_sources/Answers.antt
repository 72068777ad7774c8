use native.Mathlib.Omega.{arith}
use Rattle.unite_sources.specs.Rows.{words_of}
use Rattle.unite_sources.proofs.Arranging.{arranging_none, arranging_room, arranging_more, arranging_all, rows_none}
use Rattle.unite_sources.proofs.arrange_sources.Goals as goal

pub loop-i-init : goal.loop-i-init
unfolding words_of
loop-i-init c = arranging_none _ _ _ _ _ (omega arith) (rows_none _ _)

pub enter_source-k-requires : goal.enter_source-k-requires
unfolding words_of
enter_source-k-requires c = arranging_room _ _ _ c.loop-i.invariant c.loop-i-test.true

pub loop-i-preserved : goal.loop-i-preserved
unfolding words_of
loop-i-preserved c = arranging_more _ _ _ c.loop-i.invariant _ _ _ c.loop-i-test.true c.enter_source-k.ensures.result_after c.enter_source-k.ensures.upper_bound c.enter_source-k.ensures.order_len_unchanged

pub returns : goal.returns
unfolding words_of
returns c = record { result_after = arranging_all _ _ _ c.loop-i.invariant c.loop-i-test.false; upper_bound = omega (arith, c.loop-i.invariant.few, c.loop-i.invariant.within); order_len_unchanged = c.loop-i.invariant.long }
