use Rattle.insert.proofs.Parts.{new_in}
use Rattle.insert.proofs.with_one_more.put_new.Goals as goal

pub put_segment-requires : goal.put_segment-requires
put_segment-requires c = let a = c.args in rw (new_in a.runs.now a.views.now a.prefix.now) (record { s_in_bounds = c.requires.prefix_in_bounds; s_in_bounds_2 = c.requires.prefix_in_bounds_2; s_in_bounds_3 = c.requires.prefix_in_bounds_3; s_in_bounds_4 = c.requires.prefix_in_bounds_4 })

pub returns : goal.returns
returns c = let a = c.args in let n = new_in a.runs.now a.views.now a.prefix.now in record { value = rw n at c.put_segment.ensures.value; out_segments_after = rw n at c.put_segment.ensures.out_segments_after; out_runs_after = rw n at c.put_segment.ensures.out_runs_after; out_views_after = rw n at c.put_segment.ensures.out_views_after; out_pool_after = rw n at c.put_segment.ensures.out_pool_after }
