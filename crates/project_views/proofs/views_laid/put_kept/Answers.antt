use Rattle.project_views.proofs.Shows.{kept_none, kept_room, kept_one}
use Rattle.project_views.proofs.views_laid.put_kept.Goals as goal

pub put_left-requires : goal.put_left-requires
put_left-requires c = let a = c.args in let whole = kept_room a.pool.now a.k a.c _ _ c.in-Some.is _ _ (c.requires.k_in_bounds, c.requires.k_in_bounds_2) in record { seen_in_bounds = whole.0; seen_in_bounds_2 = whole.1 }

pub returns-in-None : goal.returns-in-None
returns-in-None c = let a = c.args in let whole = kept_none a.pool.now a.k a.c _ _ c.in-None.is in record { value = whole.0; out_views_after = whole.1.0; out_pool_after = whole.1.1 }

pub returns-in-Some : goal.returns-in-Some
returns-in-Some c = let a = c.args in let whole = kept_one a.pool.now a.k a.c _ _ c.in-Some.is _ a.out_views.now _ a.out_pool.now _ c.put_left.ensures.value c.put_left.ensures.out_views_after c.put_left.ensures.out_pool_after in record { value = whole.0; out_views_after = whole.1.0; out_pool_after = whole.1.1 }
