use Rattle.measure.proofs.Exits.{exit_same}
use Rattle.records.specs.Decode.{Lent, lent_of}
use Rattle.project.proofs.Answers.{copy_done, copy_refused}
use Rattle.project.proofs.give_copy.Goals as goal

pub returns : goal.returns
returns c = let a = c.args in let x : Lent = lent_of a.tables in let o : Lent = record { segments = a.out_segments.now; views = a.out_views.now; runs = a.out_runs.now; borrows = a.out_borrows.now; ids = a.out_ids.now; pool = a.out_pool.now } in copy_done a.lim a.names x a.m o c.requires _ _ c.canonical_copy.ensures _ c.in_ok-row.was

pub returns-in_err-row : goal.returns-in_err-row
returns-in_err-row c = rw (exit_same _ _ c.from_residual.ensures.1) (let a = c.args in let x : Lent = lent_of a.tables in let o : Lent = record { segments = a.out_segments.now; views = a.out_views.now; runs = a.out_runs.now; borrows = a.out_borrows.now; ids = a.out_ids.now; pool = a.out_pool.now } in copy_refused a.lim a.names x a.m o c.requires _ _ c.canonical_copy.ensures _ c.in_err-row.was)
