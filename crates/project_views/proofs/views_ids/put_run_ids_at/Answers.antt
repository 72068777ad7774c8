use Rattle.records.specs.Decode.{run_in}
use Rattle.project_views.proofs.views_ids.put_run_ids_at.Goals as goal

pub put_views_ids-requires : goal.put_views_ids-requires
unfolding run_in
put_views_ids-requires c = rw c.run_at-x.ensures c.requires.i_in_bounds_2

pub returns : goal.returns
unfolding run_in
returns c = rw (← c.run_at-x.ensures) (record { value = c.put_views_ids.ensures.value; out_ids_after = c.put_views_ids.ensures.out_ids_after })
