use Rattle.measure.proofs.Exits.{exit_of}
use native.Mathlib.Omega.{arith}
use lib.ListN.{length}
use Rattle.records.specs.Decode.{Lent, lent_of}
use Rattle.project_ranges.specs.Config.{Config}
use Rattle.project_ranges.specs.Args.{config_in}
use Rattle.project.proofs.Kept.{tree_kept_lem, rows_kept_lem}
use Rattle.project.proofs.Answers.{narrow_over, narrow_fills, narrow_short, narrow_room, narrow_given, narrow_listed}
use Rattle.project.proofs.give_narrowed.Goals as goal

pub measure_narrowed-requires : goal.measure_narrowed-requires
measure_narrowed-requires c = let a = c.args in let x : Lent = lent_of a.tables in record { t_value = tree_kept_lem a.lim x a.m c.requires; w_value = rows_kept_lem a.lim x a.m c.requires }

pub returns-in_err-d : goal.returns-in_err-d
returns-in_err-d c = rw (exit_of _ _ _ _ c.in_err-d.ensures.value c.from_residual.ensures.1) (let a = c.args in let x : Lent = lent_of a.tables in let o : Lent = record { segments = a.out_segments.now; views = a.out_views.now; runs = a.out_runs.now; borrows = a.out_borrows.now; ids = a.out_ids.now; pool = a.out_pool.now } in let k : Config = config_in a.tables.pool.now a.config a.own.now in narrow_over a.lim a.names x a.m k o _ c.measure_narrowed.ensures _ c.in_err-d.ensures.ok_part)

pub returns-then-used-d : goal.returns-then-used-d
returns-then-used-d c = let a = c.args in let x : Lent = lent_of a.tables in let o : Lent = record { segments = a.out_segments.now; views = a.out_views.now; runs = a.out_runs.now; borrows = a.out_borrows.now; ids = a.out_ids.now; pool = a.out_pool.now } in let k : Config = config_in a.tables.pool.now a.config a.own.now in narrow_short a.lim a.names x a.m k o _ c.measure_narrowed.ensures _ c.in_ok-d.ensures.ok_part _ c.if-used-d.true

pub list_used-requires : goal.list_used-requires
list_used-requires c = let a = c.args in let x : Lent = lent_of a.tables in let o : Lent = record { segments = a.out_segments.now; views = a.out_views.now; runs = a.out_runs.now; borrows = a.out_borrows.now; ids = a.out_ids.now; pool = a.out_pool.now } in let k : Config = config_in a.tables.pool.now a.config a.own.now in narrow_room a.lim a.names x a.m k o _ c.measure_narrowed.ensures _ c.in_ok-d.ensures.ok_part _ c.if-used-d.false

pub overflow_mul-end : goal.overflow_mul-end
overflow_mul-end c = omega (arith, c.if-used-d.false, c.well_formed)

pub slice_bounds-give_listed-count : goal.slice_bounds-give_listed-count
slice_bounds-give_listed-count c = omega arith

pub slice_bounds-give_listed-start : goal.slice_bounds-give_listed-start
slice_bounds-give_listed-start c = omega arith

pub slice_bounds-give_listed-end : goal.slice_bounds-give_listed-end
slice_bounds-give_listed-end c = omega (arith, c.if-used-d.false, c.list_used.auto)

pub give_listed-requires : goal.give_listed-requires
give_listed-requires c = let a = c.args in let x : Lent = lent_of a.tables in let o : Lent = record { segments = a.out_segments.now; views = a.out_views.now; runs = a.out_runs.now; borrows = a.out_borrows.now; ids = a.out_ids.now; pool = a.out_pool.now } in let k : Config = config_in a.tables.pool.now a.config a.own.now in record { used_value = narrow_listed a.lim a.names x a.m k o _ c.measure_narrowed.ensures _ c.in_ok-d.ensures.ok_part _ _ c.list_used.ensures.used_after; d_value = narrow_fills a.lim a.names x a.m k o _ c.measure_narrowed.ensures _ c.in_ok-d.ensures.ok_part }

pub returns : goal.returns
returns c = let a = c.args in let x : Lent = lent_of a.tables in let o : Lent = record { segments = a.out_segments.now; views = a.out_views.now; runs = a.out_runs.now; borrows = a.out_borrows.now; ids = a.out_ids.now; pool = a.out_pool.now } in let k : Config = config_in a.tables.pool.now a.config a.own.now in narrow_given a.lim a.names x a.m k o _ c.measure_narrowed.ensures _ c.in_ok-d.ensures.ok_part (length a.used.now) c.if-used-d.false _ c.give_listed.ensures
