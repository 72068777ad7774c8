use Rattle.project_views.proofs.views_laid.put_kept_at.Goals as goal

pub put_kept-requires : goal.put_kept-requires
put_kept-requires c = rw c.kept_at-kept.ensures (record { k_in_bounds = c.requires.k_in_bounds; k_in_bounds_2 = c.requires.k_in_bounds_2 })

pub returns : goal.returns
returns c = rw (← c.kept_at-kept.ensures) (record { value = c.put_kept.ensures.value; out_views_after = c.put_kept.ensures.out_views_after; out_pool_after = c.put_kept.ensures.out_pool_after })
