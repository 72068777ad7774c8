use mathlib.Core.Path.{sym, ◌∙◌}
use Rattle.records.specs.Decode.{Lent, lent_of}
use Rattle.insert.proofs.Answers.{insert_over, insert_broken, insert_lawful}
use Rattle.insert.proofs.maybe_insert_tree.Goals as goal

pub returns-then-lim-prefix : goal.returns-then-lim-prefix
returns-then-lim-prefix c = let a = c.args in let x : Lent = lent_of a.tables in let o : Lent = record { segments = a.out_segments.now; views = a.out_views.now; runs = a.out_runs.now; borrows = a.out_borrows.now; ids = a.out_ids.now; pool = a.out_pool.now } in insert_over a.lim x a.m a.prefix.now o c.if-lim-prefix.true

pub insert_judged-requires : goal.insert_judged-requires
insert_judged-requires c = record { m_value = sym c.lawful.ensures ∙ c.in-Ok.is; prefix_len_bound = c.if-lim-prefix.false }

pub returns-in-Ok : goal.returns-in-Ok
returns-in-Ok c = let a = c.args in let x : Lent = lent_of a.tables in let o : Lent = record { segments = a.out_segments.now; views = a.out_views.now; runs = a.out_runs.now; borrows = a.out_borrows.now; ids = a.out_ids.now; pool = a.out_pool.now } in insert_lawful a.lim x a.m a.prefix.now o c.if-lim-prefix.false _ c.lawful.ensures c.in-Ok.is _ c.insert_judged.ensures

pub returns-in-Err : goal.returns-in-Err
returns-in-Err c = let a = c.args in let x : Lent = lent_of a.tables in let o : Lent = record { segments = a.out_segments.now; views = a.out_views.now; runs = a.out_runs.now; borrows = a.out_borrows.now; ids = a.out_ids.now; pool = a.out_pool.now } in insert_broken a.lim x a.m a.prefix.now o c.if-lim-prefix.false _ c.lawful.ensures _ c.in-Err.is
