use Rattle.records.specs.Decode.{Lent, lent_of}
use Rattle.merge.specs.Answer.{LentList}
use Rattle.merge.proofs.Lawfully.{ascends_of, rows_of}
use Rattle.merge.proofs.Giving.{judged_refused, judged_given}
use Rattle.merge.proofs.merge_judged.Goals as goal

pub own_fault-requires : goal.own_fault-requires
own_fault-requires c = let a = c.args in let l : Lent = lent_of a.tables in let p = c.requires in (ascends_of a.lim l a.writer p.0, ascends_of a.lim l a.compactor p.1)

pub give-requires : goal.give-requires
give-requires c = let a = c.args in let l : Lent = lent_of a.tables in let p = c.requires in record { w_value = (ascends_of a.lim l a.writer p.0, ascends_of a.lim l a.compactor p.1); w_value_2 = (rows_of a.lim l a.writer p.0, rows_of a.lim l a.compactor p.1) }

pub returns-in-Some : goal.returns-in-Some
returns-in-Some c = let a = c.args in let l : Lent = lent_of a.tables in let o : LentList = record { segments = a.out_segments.now; views = a.out_views.now; runs = a.out_runs.now; pool = a.out_pool.now } in judged_refused a.side a.lim l a.writer a.compactor o _ c.own_fault.ensures _ c.in-Some.is

pub returns-in-None : goal.returns-in-None
returns-in-None c = let a = c.args in let l : Lent = lent_of a.tables in let o : LentList = record { segments = a.out_segments.now; views = a.out_views.now; runs = a.out_runs.now; pool = a.out_pool.now } in judged_given a.side a.lim l a.writer a.compactor o _ c.own_fault.ensures c.in-None.is _ c.give.ensures
