use native.Mathlib.Omega.{arith}
use Prim.Native.Nat.{ℕ}
use lib.ListN.{length-replicate}
use Rattle.records.specs.Decode.{Lent, bytes_in, lent_of}
use Rattle.borrows.specs.Clone.{uuids_of}
use Rattle.unite_sources.specs.Rows.{begins, places_in}
use Rattle.unite_prefixes.proofs.Fitting.{laid_used}
use Rattle.unite_prefixes.proofs.grouped_named.Goals as goal

pub group_used-count-requires : goal.group_used-count-requires
group_used-count-requires c = record { n_le_most_sources = c.requires.n_le_most_sources; n_in_bounds = c.requires.n_in_bounds; n_value = c.requires.n_value; views_in_bounds = c.requires.views_in_bounds; borrows_in_bounds = c.requires.borrows_in_bounds; views_in_bounds_2 = c.requires.views_in_bounds_2 }

pub given_named-requires : goal.given_named-requires
given_named-requires c = record { n_in_bounds = c.requires.n_in_bounds; n_in_bounds_2 = omega (arith, c.requires.n_le_most_sources, length-replicate {A = ℕ} 56 0); np_in_bounds = c.requires.np_in_bounds; count_in_bounds = c.group_used-count.ensures.result_in_bounds }

pub returns : goal.returns
returns c = let a = c.args in let l : Lent = lent_of a.tables in let o : Lent = record { segments = a.out_segments.now; views = a.out_views.now; runs = a.out_runs.now; borrows = a.out_borrows.now; ids = a.out_ids.now; pool = a.out_pool.now } in laid_used a.lim l a.sources.now (begins a.order.now a.n) (bytes_in a.tables.pool.now a.name) a.seq (uuids_of a.fresh.now) o (places_in a.prefixes.now a.tables.pool.now a.np) c.requires.np_value _ c.group_used-count.ensures.result_after _ c.given_named.ensures
