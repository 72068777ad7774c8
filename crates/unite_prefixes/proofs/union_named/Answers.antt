use Rattle.records.specs.Decode.{Lent, lent_of}
use Rattle.unite_sources.specs.Rows.{begins}
use Rattle.unite_prefixes.proofs.Finding.{prefixes_are}
use Rattle.unite_prefixes.proofs.Counting.{counts_sound, prefix_room}
use Rattle.unite_prefixes.proofs.union_named.Goals as goal

pub all_prefixes-np-requires : goal.all_prefixes-np-requires
all_prefixes-np-requires c = let a = c.args in let l : Lent = lent_of a.tables in record { n_in_bounds = c.requires.n_in_bounds; n_value = counts_sound a.lim l a.sources.now a.order.now a.n c.requires.n_value; most_in_bounds = prefix_room a.n a.lim.fill.segments _ c.requires.n_le_most_sources c.requires.segments_in_bounds }

pub fit_named-requires : goal.fit_named-requires
fit_named-requires c = let a = c.args in let l : Lent = lent_of a.tables in record { n_le_most_sources = c.requires.n_le_most_sources; n_in_bounds = c.requires.n_in_bounds; n_value = c.requires.n_value; views_in_bounds = c.requires.views_in_bounds; borrows_in_bounds = c.requires.borrows_in_bounds; views_in_bounds_2 = c.requires.views_in_bounds_2; np_in_bounds = c.all_prefixes-np.ensures.result_in_bounds; np_value = prefixes_are l a.sources.now _ (begins a.order.now a.n) c.all_prefixes-np.ensures.result_after }

pub returns : goal.returns
returns c = c.fit_named.ensures
