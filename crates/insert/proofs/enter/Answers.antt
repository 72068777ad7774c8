use Rattle.measure.proofs.Exits.{exit_of}
use mathlib.Core.Path.{ap}
use mathlib.Core.Bool.{not}
use Rattle.records.specs.Decode.{Lent, lent_of}
use Rattle.insert.proofs.Entering.{place_in, enter_over, enter_short, enter_fits, enter_done}
use Rattle.insert.proofs.enter.Goals as goal

pub filled_with-requires : goal.filled_with-requires
filled_with-requires c = c.requires.m_value

pub returns-then-not-fits_in : goal.returns-then-not-fits_in
returns-then-not-fits_in c = let a = c.args in let x : Lent = lent_of a.tables in let o : Lent = record { segments = a.out_segments.now; views = a.out_views.now; runs = a.out_runs.now; borrows = a.out_borrows.now; ids = a.out_ids.now; pool = a.out_pool.now } in enter_short a.lim x a.m a.prefix.now o a.place c.requires.place_value _ c.filled_with.ensures _ c.in_ok-result.ensures.ok_part _ c.fits_in.ensures (ap not c.if-not-fits_in.true)

pub put_entered-row-requires : goal.put_entered-row-requires
put_entered-row-requires c = let a = c.args in let x : Lent = lent_of a.tables in let o : Lent = record { segments = a.out_segments.now; views = a.out_views.now; runs = a.out_runs.now; borrows = a.out_borrows.now; ids = a.out_ids.now; pool = a.out_pool.now } in record { i_bound = place_in a.lim x a.m a.prefix.now o a.place c.requires.place_value; out_pool_value = enter_fits a.lim x a.m a.prefix.now o a.place c.requires.place_value _ c.filled_with.ensures _ c.in_ok-result.ensures.ok_part _ c.fits_in.ensures (ap not c.if-not-fits_in.false) }

pub returns : goal.returns
returns c = let a = c.args in let x : Lent = lent_of a.tables in let o : Lent = record { segments = a.out_segments.now; views = a.out_views.now; runs = a.out_runs.now; borrows = a.out_borrows.now; ids = a.out_ids.now; pool = a.out_pool.now } in enter_done a.lim x a.m a.prefix.now o a.place c.requires.place_value _ c.filled_with.ensures _ c.in_ok-result.ensures.ok_part _ c.fits_in.ensures (ap not c.if-not-fits_in.false) _ c.put_entered-row.ensures

pub returns-in_err-result : goal.returns-in_err-result
returns-in_err-result c = let a = c.args in let x : Lent = lent_of a.tables in let o : Lent = record { segments = a.out_segments.now; views = a.out_views.now; runs = a.out_runs.now; borrows = a.out_borrows.now; ids = a.out_ids.now; pool = a.out_pool.now } in rw (exit_of _ _ _ _ c.in_err-result.ensures.value c.from_residual.ensures.1) (enter_over a.lim x a.m a.prefix.now o a.place c.requires.place_value _ c.filled_with.ensures c.in_err-result.ensures.ok_part)
