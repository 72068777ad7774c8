use Rattle.emit.proofs.views_put.put_view_at.Goals as goal

pub put_view-requires : goal.put_view-requires
put_view-requires c = rw c.view_at.ensures (record { v_in_bounds = c.requires.i_in_bounds_2; v_in_bounds_2 = c.requires.i_in_bounds_3 })

pub returns : goal.returns
returns c = rw (← c.view_at.ensures) (record { value = c.put_view.ensures.value; out_views_after = c.put_view.ensures.out_views_after; out_pool_after = c.put_view.ensures.out_pool_after })
