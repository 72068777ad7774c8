use Rattle.measure.proofs.Exits.{exit_same}
use Prim.Native.Nat.{ℕ}
use lib.ListN.{length, length-replicate}
use mathlib.Core.Path.{◌∙◌}
use Rattle.manifest_rows.specs.Stored.{lent}
use Rattle.encoded_united.proofs.Uniting.{own_long_lem, into_done, into_refused}
use Rattle.encoded_united.proofs.union_into.Goals as goal

pub union_judged-requires : goal.union_judged-requires
union_judged-requires c = let p = c.requires.n_le_most_sources in record { n_le_most_sources = p.0; n_in_bounds = p.1; n_value = p.2; sets_value = own_long_lem c.args.lim _ _ _ (length c.args.sets.now) (length-replicate {A = ℕ} 1024 0) (length-replicate {A = ℕ} 1024 0) (length-replicate {A = ℕ} 1584 0) p.3 }

pub returns : goal.returns
returns c = c.write_union.ensures ∙ into_done _ _ c.args.fresh.now c.args.lent_fresh.now (lent c.args.to_segments.now c.args.to_views.now c.args.to_runs.now c.args.to_borrows.now c.args.to_ids.now c.args.to_pool.now) c.requires.lent_fresh_value.0 c.requires.lent_fresh_value.1 _ _ _ c.union_judged.ensures _ c.in_ok-m.was

pub returns-in_err-m : goal.returns-in_err-m
returns-in_err-m c = rw (exit_same _ _ c.from_residual.ensures.1) (into_refused _ _ c.args.fresh.now c.args.lent_fresh.now (lent c.args.to_segments.now c.args.to_views.now c.args.to_runs.now c.args.to_borrows.now c.args.to_ids.now c.args.to_pool.now) c.requires.lent_fresh_value.0 c.requires.lent_fresh_value.1 _ _ _ c.union_judged.ensures _ c.in_err-m.was)
