use Rattle.records.specs.Decode.{run_in}
use Rattle.borrows.proofs.ids_owned.own_run.Goals as goal

pub own_views-requires : goal.own_views-requires
unfolding run_in
own_views-requires c = rw c.run_at-r.ensures c.requires.i_bound

pub returns : goal.returns
unfolding run_in
returns c = rw (← c.run_at-r.ensures) (record { value = c.own_views.ensures.value; out_after = c.own_views.ensures.out_after })
