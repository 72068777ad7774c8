use Rattle.records.specs.Decode.{tree_in}
use Rattle.unite_trees.proofs.trees_laid.put_runs_at.Goals as goal

pub put_numbered-requires : goal.put_numbered-requires
unfolding tree_in
put_numbered-requires c = rw c.tree_of-x.ensures (record { w_len_bound = c.requires.i_len_bound; w_in_bounds = c.requires.i_in_bounds_2; w_in_bounds_2 = c.requires.i_in_bounds_3; w_in_bounds_3 = c.requires.i_in_bounds_4 })

pub returns : goal.returns
unfolding tree_in
returns c = rw (← c.tree_of-x.ensures) (record { value = c.put_numbered.ensures.value; out_runs_after = c.put_numbered.ensures.out_runs_after; out_views_after = c.put_numbered.ensures.out_views_after; out_pool_after = c.put_numbered.ensures.out_pool_after })
