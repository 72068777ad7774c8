use Rattle.std.specs.Prelude.{Ok}
use native.Mathlib.Omega.{arith}
use mathlib.Core.Path.{◌≡◌, sym, ◌∙◌}
use lib.ListN.{length}
use Rattle.records.specs.Decode.{Lent, lent_of}
use Rattle.unite_judge.specs.Judging.{work_short}
use Rattle.unite.proofs.Answers.{union_many, union_path, union_short, union_broken, union_lawful}
use Rattle.records.specs.declared.Refusal.TheVariants.{Unlawful}
use Rattle.unite_all.proofs.Exits.{exit_named}
use Rattle.unite_all.proofs.cloned_from_union.Goals.{then-n-gt8-via-then-n-gt8, then-n-gt8-via-else-n-gt8+then-some_path_over}
use Rattle.unite_all.proofs.cloned_from_union.Goals as goal

pub returns-then-n-gt8 : goal.returns-then-n-gt8
returns-then-n-gt8 c = let a = c.args in let l : Lent = lent_of a.tables in let o : Lent = record { segments = a.out_segments.now; views = a.out_views.now; runs = a.out_runs.now; borrows = a.out_borrows.now; ids = a.out_ids.now; pool = a.out_pool.now } in let short = work_short a.lim (length a.prefixes.now) (length a.owned.now) (length a.groups.now) (length a.sets.now) in
    elim c.then-n-gt8.branch [
      | then-n-gt8-via-then-n-gt8 w ↦ union_many a.lim l a.sources.now a.fresh.now short o (omega (arith, w.if-n-gt8.true))
      | then-n-gt8-via-else-n-gt8+then-some_path_over w ↦ union_path a.lim l a.sources.now a.fresh.now short o (omega (arith, w.if-n-gt8.false)) _ w.some_path_over.ensures w.if-some_path_over.true
    ]

pub some_path_over-requires : goal.some_path_over-requires
some_path_over-requires c = omega arith

pub returns-then-work_short : goal.returns-then-work_short
returns-then-work_short c = let a = c.args in let l : Lent = lent_of a.tables in let o : Lent = record { segments = a.out_segments.now; views = a.out_views.now; runs = a.out_runs.now; borrows = a.out_borrows.now; ids = a.out_ids.now; pool = a.out_pool.now } in let short = work_short a.lim (length a.prefixes.now) (length a.owned.now) (length a.groups.now) (length a.sets.now) in union_short a.lim l a.sources.now a.fresh.now short o (omega (arith, c.if-n-gt8.false)) _ c.some_path_over.ensures c.if-some_path_over.false _ c.work_short.ensures c.if-work_short.true

pub sources_judged-requires : goal.sources_judged-requires
sources_judged-requires c = omega arith

pub union_judged-requires : goal.union_judged-requires
union_judged-requires c = let e : c.sources_judged.result ≡ Ok tt = grind arith in record { n_le_most_sources = omega (arith, c.if-n-gt8.false); n_in_bounds = omega arith; n_value = sym c.sources_judged.ensures ∙ e; sets_value = sym c.work_short.ensures ∙ c.if-work_short.false }

pub returns : goal.returns
returns c = let e : c.sources_judged.result ≡ Ok tt = grind arith in let a = c.args in let l : Lent = lent_of a.tables in let o : Lent = record { segments = a.out_segments.now; views = a.out_views.now; runs = a.out_runs.now; borrows = a.out_borrows.now; ids = a.out_ids.now; pool = a.out_pool.now } in let short = work_short a.lim (length a.prefixes.now) (length a.owned.now) (length a.groups.now) (length a.sets.now) in union_lawful a.lim l a.sources.now a.fresh.now short o (omega (arith, c.if-n-gt8.false)) _ c.some_path_over.ensures c.if-some_path_over.false _ c.work_short.ensures c.if-work_short.false _ c.sources_judged.ensures _ e c.union_judged.ensures

pub returns-in_err-map_err : goal.returns-in_err-map_err
returns-in_err-map_err c = let p = exit_named _ Unlawful _ _ c.in_err-map_err.ensures.cases c.from_residual.ensures.1 in rw p.2 (let a = c.args in let l : Lent = lent_of a.tables in let o : Lent = record { segments = a.out_segments.now; views = a.out_views.now; runs = a.out_runs.now; borrows = a.out_borrows.now; ids = a.out_ids.now; pool = a.out_pool.now } in let short = work_short a.lim (length a.prefixes.now) (length a.owned.now) (length a.groups.now) (length a.sets.now) in union_broken a.lim l a.sources.now a.fresh.now short o (omega (arith, c.if-n-gt8.false)) _ c.some_path_over.ensures c.if-some_path_over.false _ c.work_short.ensures c.if-work_short.false _ c.sources_judged.ensures _ p.1)
