use native.Mathlib.Omega.{arith}
use Rattle.manifest_rows.specs.Stored.{lent}
use Rattle.encoded_united.proofs.Lending.{lent_again}
use Rattle.encoded_united.proofs.Uniting.{wide}
use Rattle.encoded_united.proofs.union_lent.Goals as goal

pub lend_fresh-requires : goal.lend_fresh-requires
lend_fresh-requires c = omega (arith, c.requires.borrows_in_bounds)

pub union_within-requires : goal.union_within-requires
union_within-requires c = record { n_le_most_sources = c.requires.n_le_most_sources; lent_fresh_value = lent_again _ c.args.lent_fresh.now _ _ c.lend_fresh.ensures c.lend_fresh.auto.lent_fresh c.requires.borrows_in_bounds; segments_in_bounds = wide c.args.lim (lent c.args.to_segments.now c.args.to_views.now c.args.to_runs.now c.args.to_borrows.now c.args.to_ids.now c.args.to_pool.now) c.requires.to_pool_value }

pub returns : goal.returns
returns c = c.union_within.ensures
