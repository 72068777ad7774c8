use Rattle.measure.proofs.Exits.{exit_of}
use mathlib.Core.Path.{ap}
use mathlib.Core.Bool.{not}
use Rattle.records.specs.Decode.{Lent, lent_of}
use Rattle.project_ranges.specs.Config.{Config}
use Rattle.project_ranges.specs.Args.{config_in}
use Rattle.project.proofs.Answers.{listed_over, listed_fills, listed_no_room, listed_room, listed_done}
use Rattle.project.proofs.give_listed.Goals as goal

pub returns-in_err-f : goal.returns-in_err-f
returns-in_err-f c = rw (exit_of _ _ _ _ c.in_err-f.ensures.value c.from_residual.ensures.1) (let a = c.args in let x : Lent = lent_of a.tables in let o : Lent = record { segments = a.out_segments.now; views = a.out_views.now; runs = a.out_runs.now; borrows = a.out_borrows.now; ids = a.out_ids.now; pool = a.out_pool.now } in let k : Config = config_in a.tables.pool.now a.config a.own.now in listed_over a.lim a.names x a.m k o _ c.requires.used_value _ c.requires.d_value _ c.measure_pruned.ensures c.in_err-f.ensures.ok_part)

pub returns-then-not-fits_in : goal.returns-then-not-fits_in
returns-then-not-fits_in c = let a = c.args in let x : Lent = lent_of a.tables in let o : Lent = record { segments = a.out_segments.now; views = a.out_views.now; runs = a.out_runs.now; borrows = a.out_borrows.now; ids = a.out_ids.now; pool = a.out_pool.now } in let k : Config = config_in a.tables.pool.now a.config a.own.now in listed_no_room a.lim a.names x a.m k o _ c.requires.used_value _ c.requires.d_value _ c.measure_pruned.ensures _ c.in_ok-f.ensures.ok_part _ c.fits_in.ensures (ap not c.if-not-fits_in.true)

pub put_projected-row-requires : goal.put_projected-row-requires
put_projected-row-requires c = let a = c.args in let x : Lent = lent_of a.tables in let o : Lent = record { segments = a.out_segments.now; views = a.out_views.now; runs = a.out_runs.now; borrows = a.out_borrows.now; ids = a.out_ids.now; pool = a.out_pool.now } in let k : Config = config_in a.tables.pool.now a.config a.own.now in record { used_value = c.requires.used_value; f_value = listed_fills a.lim a.names x a.m k o _ c.requires.used_value _ c.requires.d_value _ c.measure_pruned.ensures _ c.in_ok-f.ensures.ok_part; out_pool_value = listed_room a.lim a.names x a.m k o _ c.requires.used_value _ c.requires.d_value _ c.measure_pruned.ensures _ c.in_ok-f.ensures.ok_part _ c.fits_in.ensures (ap not c.if-not-fits_in.false) }

pub returns : goal.returns
returns c = let a = c.args in let x : Lent = lent_of a.tables in let o : Lent = record { segments = a.out_segments.now; views = a.out_views.now; runs = a.out_runs.now; borrows = a.out_borrows.now; ids = a.out_ids.now; pool = a.out_pool.now } in let k : Config = config_in a.tables.pool.now a.config a.own.now in listed_done a.lim a.names x a.m k o _ c.requires.used_value _ c.requires.d_value _ c.measure_pruned.ensures _ c.in_ok-f.ensures.ok_part _ c.fits_in.ensures (ap not c.if-not-fits_in.false) _ _ c.put_projected-row.ensures.value (λ i. record { segments = c.put_projected-row.ensures.out_segments_after i; views = c.put_projected-row.ensures.out_views_after i; runs = c.put_projected-row.ensures.out_runs_after i; borrows = c.put_projected-row.ensures.out_borrows_after i; ids = c.put_projected-row.ensures.out_ids_after i; pool = c.put_projected-row.ensures.out_pool_after i })
