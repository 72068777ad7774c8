use Rattle.records.specs.Decode.{Lent, lent_of}
use Rattle.borrows.specs.Clone.{uuids_of}
use Rattle.unite_plain.specs.By.{used_in}
use Rattle.unite_all.proofs.Agreed.{by_name}
use Rattle.unite_all.proofs.union_by.Goals as goal

pub union_plain-requires : goal.union_plain-requires
union_plain-requires c = record { n_le_most_sources = c.requires.n_le_most_sources; n_in_bounds = c.requires.n_in_bounds; n_value = c.requires.n_value; views_in_bounds = c.requires.views_in_bounds; borrows_in_bounds = c.requires.borrows_in_bounds; views_in_bounds_2 = c.requires.views_in_bounds_2 }

pub union_named-requires : goal.union_named-requires
union_named-requires c = record { n_le_most_sources = c.requires.n_le_most_sources; n_in_bounds = c.requires.n_in_bounds; n_value = c.requires.n_value; views_in_bounds = c.requires.views_in_bounds; borrows_in_bounds = c.requires.borrows_in_bounds; views_in_bounds_2 = c.requires.views_in_bounds_2; segments_in_bounds = c.requires.segments_in_bounds }

pub returns-in-None : goal.returns-in-None
returns-in-None c = let a = c.args in let l : Lent = lent_of a.tables in let o : Lent = record { segments = a.out_segments.now; views = a.out_views.now; runs = a.out_runs.now; borrows = a.out_borrows.now; ids = a.out_ids.now; pool = a.out_pool.now } in by_name a.lim (used_in l a.sources.now a.order.now a.n) a.seq (uuids_of a.fresh.now) o a.tables.pool.now a.name _ c.in-None.is _ c.union_plain.ensures

pub returns-in-Some : goal.returns-in-Some
returns-in-Some c = let a = c.args in let l : Lent = lent_of a.tables in let o : Lent = record { segments = a.out_segments.now; views = a.out_views.now; runs = a.out_runs.now; borrows = a.out_borrows.now; ids = a.out_ids.now; pool = a.out_pool.now } in by_name a.lim (used_in l a.sources.now a.order.now a.n) a.seq (uuids_of a.fresh.now) o a.tables.pool.now a.name _ c.in-Some.is _ c.union_named.ensures
