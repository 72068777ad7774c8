use Rattle.records.specs.Decode.{Lent, lent_of}
use Rattle.project.proofs.Answers.{projected_over, projected_lawful, projected_broken, projected_given_lem}
use Rattle.project.proofs.projected.Goals as goal

pub returns-then-config_over : goal.returns-then-config_over
returns-then-config_over c = let a = c.args in let x : Lent = lent_of a.tables in let o : Lent = record { segments = a.out_segments.now; views = a.out_views.now; runs = a.out_runs.now; borrows = a.out_borrows.now; ids = a.out_ids.now; pool = a.out_pool.now } in projected_over a.lim x a.m a.c a.own.now a.used.now o _ c.config_over.ensures c.if-config_over.true

pub projected_judged-requires : goal.projected_judged-requires
projected_judged-requires c = let a = c.args in let x : Lent = lent_of a.tables in let o : Lent = record { segments = a.out_segments.now; views = a.out_views.now; runs = a.out_runs.now; borrows = a.out_borrows.now; ids = a.out_ids.now; pool = a.out_pool.now } in projected_lawful a.lim x a.m a.c a.own.now a.used.now o _ c.config_over.ensures c.if-config_over.false _ c.lawful.ensures c.in-Ok.is

pub returns-in-Ok : goal.returns-in-Ok
returns-in-Ok c = let a = c.args in let x : Lent = lent_of a.tables in let o : Lent = record { segments = a.out_segments.now; views = a.out_views.now; runs = a.out_runs.now; borrows = a.out_borrows.now; ids = a.out_ids.now; pool = a.out_pool.now } in projected_given_lem a.lim x a.m a.c a.own.now a.used.now o _ c.config_over.ensures c.if-config_over.false _ c.lawful.ensures _ c.in-Ok.is c.projected_judged.ensures

pub returns-in-Err : goal.returns-in-Err
returns-in-Err c = let a = c.args in let x : Lent = lent_of a.tables in let o : Lent = record { segments = a.out_segments.now; views = a.out_views.now; runs = a.out_runs.now; borrows = a.out_borrows.now; ids = a.out_ids.now; pool = a.out_pool.now } in projected_broken a.lim x a.m a.c a.own.now a.used.now o _ c.config_over.ensures c.if-config_over.false _ c.lawful.ensures _ c.in-Err.is
