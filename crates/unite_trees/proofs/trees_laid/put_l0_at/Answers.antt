use Rattle.records.specs.Decode.{tree_in}
use Rattle.unite_trees.proofs.trees_laid.put_l0_at.Goals as goal

pub put_views-requires : goal.put_views-requires
unfolding tree_in
put_views-requires c = rw c.tree_of-x.ensures (record { w_in_bounds = c.requires.i_in_bounds_2; w_in_bounds_2 = c.requires.i_in_bounds_3 })

pub returns : goal.returns
unfolding tree_in
returns c = rw (← c.tree_of-x.ensures) (record { value = c.put_views.ensures.value; out_views_after = c.put_views.ensures.out_views_after; out_pool_after = c.put_views.ensures.out_pool_after })
