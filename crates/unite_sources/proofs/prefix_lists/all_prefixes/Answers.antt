use Rattle.unite_sources.specs.Rows.{begins}
use Rattle.unite_sources.proofs.Gathering.{gathering_none, gathering_room, gathering_more, gathering_all, places_none}
use Rattle.unite_sources.proofs.prefix_lists.all_prefixes.Goals as goal

pub loop-i-init : goal.loop-i-init
unfolding begins
loop-i-init c = gathering_none _ _ _ _ _ _ _ _ c.requires.most_in_bounds c.requires.n_value (places_none _ _)

pub enter_prefixes-count-requires : goal.enter_prefixes-count-requires
unfolding begins
enter_prefixes-count-requires c = gathering_room _ _ _ _ _ _ c.loop-i.invariant _ c.loop-i-test.true c.segments_of-w.ensures

pub loop-i-preserved : goal.loop-i-preserved
unfolding begins
loop-i-preserved c = gathering_more _ _ _ _ _ _ c.loop-i.invariant _ c.loop-i-test.true c.segments_of-w.ensures _ _ _ c.enter_prefixes-count.ensures.result_after c.enter_prefixes-count.ensures.upper_bound c.enter_prefixes-count.ensures.list_len_unchanged

pub returns : goal.returns
unfolding begins
returns c = let whole = gathering_all _ _ _ _ _ _ c.loop-i.invariant c.loop-i-test.false in record { result_after = whole.0; result_in_bounds = whole.1 }
