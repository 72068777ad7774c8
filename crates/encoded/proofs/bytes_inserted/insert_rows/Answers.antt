use Rattle.std.specs.Prelude.{Ok}
use mathlib.Core.Path.{◌≡◌, sym, ◌∙◌}
use native.Mathlib.Omega.{arith}
use Rattle.measure.proofs.Exits.{exit_same}
use Rattle.manifest_rows.specs.Stored.{lent}
use Rattle.insert.proofs.Answers.{lawful_first}
use Rattle.records.specs.declared.Refusal.TheVariants.{Unlawful}
use Rattle.encoded.specs.Insert.{inserted_in}
use Rattle.encoded.proofs.Exits.{exit_named}
use Rattle.encoded.proofs.Opens.{rows_same}
use Rattle.encoded.proofs.Inserts.{laid_means, rows_broken, rows_lawful, inserted_refused}
use Rattle.encoded.proofs.bytes_inserted.insert_rows.Goals as goal

pub insert_judged-laid-requires : goal.insert_judged-laid-requires
insert_judged-laid-requires c =
    let e : c.lawful.result ≡ Ok tt = grind arith in
    record { m_value = sym c.lawful.ensures ∙ e; prefix_len_bound = c.requires.prefix_len_bound }

pub write_inserted-requires : goal.write_inserted-requires
write_inserted-requires c =
    let e : c.lawful.result ≡ Ok tt = grind arith in
    lawful_first _ _ _ (sym c.lawful.ensures ∙ e)

pub returns-in_err-m : goal.returns-in_err-m
returns-in_err-m c = rw (exit_same _ _ c.from_residual.ensures.1) (inserted_refused _ _ _ _ _ ∙ rows_same (inserted_in _ _ _ _) _ _ _ _ c.in_err-m.was)

pub returns : goal.returns
returns c =
    let e : c.lawful.result ≡ Ok tt = grind arith in
    c.write_inserted.ensures ∙ laid_means _ _ _ _ (lent c.args.out_segments.now c.args.out_views.now c.args.out_runs.now c.args.out_borrows.now c.args.out_ids.now c.args.out_pool.now) _ _ _ c.insert_judged-laid.ensures c.requires.out_pool_value ∙ rows_lawful _ _ _ _ _ _ (sym c.lawful.ensures ∙ e) ∙ rows_same (inserted_in _ _ _ _) _ _ _ _ c.in_ok-m.was

pub returns-in_err-map_err : goal.returns-in_err-map_err
returns-in_err-map_err c =
    let p = exit_named _ Unlawful _ _ c.in_err-map_err.ensures.cases c.from_residual-in_err-map_err.ensures.1 in
    rw p.2 (rows_broken _ _ _ _ _ _ _ (sym c.lawful.ensures ∙ p.1) ∙ rows_same (inserted_in _ _ _ _) _ _ _ _ c.in_ok-m.was)
