use Rattle.std.specs.Prelude.{Ok}
use mathlib.Core.Path.{◌≡◌}
use mathlib.Core.List.{[]}
use native.Mathlib.Omega.{arith}
use Rattle.records.specs.declared.Refusal.TheVariants.{NotWellFormed}
use Rattle.manifest_rows.specs.Stored.{lent}
use Rattle.encoded.proofs.Exits.{exit_named}
use Rattle.encoded_project.proofs.Keeping.{behind_short, behind_args, behind_rows, behind_laid, behind_good, behind_bad}
use Rattle.encoded_project.proofs.behind_arguments.read_behind.Goals as goal

pub put-requires : goal.put-requires
put-requires c = let x = c.args in behind_args x.lim x.args.now x.a x.own.now x.s.now (lent x.segments.now x.views.now x.runs.now x.borrows.now x.ids.now []) (lent x.in_segments.now x.in_views.now x.in_runs.now x.in_borrows.now x.in_ids.now x.in_pool.now) _ c.has_tables.ensures c.if-not-has_tables.false

pub read_rows-requires : goal.read_rows-requires
read_rows-requires c = let x = c.args in let whole = behind_rows x.lim x.args.now x.a x.own.now x.s.now (lent x.segments.now x.views.now x.runs.now x.borrows.now x.ids.now []) (lent x.in_segments.now x.in_views.now x.in_runs.now x.in_borrows.now x.in_ids.now x.in_pool.now) _ c.has_tables.ensures c.if-not-has_tables.false _ c.put.ensures.out_after in record { in_pool_value = whole.0; s_value = whole.1 }

pub returns : goal.returns
returns c = let e : c.well_formed-2.result ≡ Ok tt = grind arith in let x = c.args in behind_laid x.lim x.args.now x.a x.own.now x.s.now (lent x.segments.now x.views.now x.runs.now x.borrows.now x.ids.now []) (lent x.in_segments.now x.in_views.now x.in_runs.now x.in_borrows.now x.in_ids.now x.in_pool.now) _ c.has_tables.ensures c.if-not-has_tables.false _ c.put.ensures.out_after _ (behind_good _ _ _ _ _ _ _ _ c.well_formed-2.ensures _ e c.read_rows.ensures)

pub returns-in_err-map_err : goal.returns-in_err-map_err
returns-in_err-map_err c = let p = exit_named _ NotWellFormed _ _ c.in_err-map_err.ensures.cases c.from_residual.ensures.1 in let x = c.args in rw p.2 (behind_laid x.lim x.args.now x.a x.own.now x.s.now (lent x.segments.now x.views.now x.runs.now x.borrows.now x.ids.now []) (lent x.in_segments.now x.in_views.now x.in_runs.now x.in_borrows.now x.in_ids.now x.in_pool.now) _ c.has_tables.ensures c.if-not-has_tables.false _ c.put.ensures.out_after _ (behind_bad _ _ _ _ _ _ _ _ c.well_formed-2.ensures _ p.1))

pub returns-then-not-has_tables : goal.returns-then-not-has_tables
returns-then-not-has_tables c = let x = c.args in behind_short x.lim x.args.now x.a x.own.now x.s.now (lent x.segments.now x.views.now x.runs.now x.borrows.now x.ids.now []) (lent x.in_segments.now x.in_views.now x.in_runs.now x.in_borrows.now x.in_ids.now x.in_pool.now) _ c.has_tables.ensures c.if-not-has_tables.true
