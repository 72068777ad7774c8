use Rattle.records.specs.Decode.{Lent, lent_of}
use Rattle.borrows.proofs.Baring.{bare_in}
use Rattle.borrows.proofs.clone_rows.put_bare.Goals as goal

pub put_front-requires : goal.put_front-requires
put_front-requires c = let a = c.args in let l : Lent = lent_of a.tables in rw (c.bare-b.ensures, bare_in l a.m) c.requires

pub returns : goal.returns
returns c = let a = c.args in let l : Lent = lent_of a.tables in rw (← bare_in l a.m, ← c.bare-b.ensures) (record { value = c.put_front.ensures.value; out_segments_after = c.put_front.ensures.out_segments_after; out_views_after = c.put_front.ensures.out_views_after; out_runs_after = c.put_front.ensures.out_runs_after; out_borrows_after = c.put_front.ensures.out_borrows_after; out_ids_after = c.put_front.ensures.out_ids_after; out_pool_after = c.put_front.ensures.out_pool_after })
