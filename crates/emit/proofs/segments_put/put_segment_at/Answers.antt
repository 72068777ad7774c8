use Rattle.emit.proofs.segments_put.put_segment_at.Goals as goal

pub put_segment-requires : goal.put_segment-requires
put_segment-requires c = rw c.segment_at.ensures (record { s_in_bounds = c.requires.i_in_bounds_2; s_in_bounds_2 = c.requires.i_in_bounds_3; s_in_bounds_3 = c.requires.i_in_bounds_4; s_in_bounds_4 = c.requires.i_in_bounds_5 })

pub returns : goal.returns
returns c = rw (← c.segment_at.ensures) (record { value = c.put_segment.ensures.value; out_segments_after = c.put_segment.ensures.out_segments_after; out_runs_after = c.put_segment.ensures.out_runs_after; out_views_after = c.put_segment.ensures.out_views_after; out_pool_after = c.put_segment.ensures.out_pool_after })
