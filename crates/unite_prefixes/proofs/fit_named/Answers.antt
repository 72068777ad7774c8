use native.Mathlib.Omega.{arith}
use mathlib.Core.Path.{refl, sym, ◌∙◌}
use mathlib.Core.List.{map}
use Rattle.records.specs.Decode.{Lent, bytes_in, lent_of}
use Rattle.borrows.specs.Clone.{uuids_of}
use Rattle.unite_sources.specs.Rows.{source_at_word, begins, places_in}
use Rattle.unite.proofs.Lifted.{used_lack}
use Rattle.unite_plain.specs.By.{used_in}
use Rattle.unite_plain.proofs.Answers.{whats_used}
use Rattle.unite_prefixes.proofs.Finding.{overlap_is, places_long}
use Rattle.unite_prefixes.proofs.Fitting.{named_nests, named_overlaps, named_lacks, named_fits}
use Rattle.unite_prefixes.proofs.fit_named.Goals as goal

pub prefixes_nest-requires : goal.prefixes_nest-requires
prefixes_nest-requires c = c.requires.np_in_bounds

pub returns-then-prefixes_nest : goal.returns-then-prefixes_nest
returns-then-prefixes_nest c = let a = c.args in let l : Lent = lent_of a.tables in let o : Lent = record { segments = a.out_segments.now; views = a.out_views.now; runs = a.out_runs.now; borrows = a.out_borrows.now; ids = a.out_ids.now; pool = a.out_pool.now } in named_nests a.lim (bytes_in a.tables.pool.now a.name) (used_in l a.sources.now a.order.now a.n) (map (source_at_word l a.sources.now) (begins a.order.now a.n)) (sym (whats_used l a.sources.now a.order.now a.n)) (places_in a.prefixes.now a.tables.pool.now a.np) c.requires.np_value a.seq (uuids_of a.fresh.now) o _ c.prefixes_nest.ensures c.if-prefixes_nest.true

pub overlap_place-k-requires : goal.overlap_place-k-requires
overlap_place-k-requires c = record { n_le_most_sources = c.requires.n_le_most_sources; n_in_bounds = c.requires.n_in_bounds; np_in_bounds = c.requires.np_in_bounds }

pub overflow_add-result : goal.overflow_add-result
overflow_add-result c = omega (arith, c.if-k-np.true, c.well_formed.1.1.1.1.1.0)

pub returns-then-k-np : goal.returns-then-k-np
returns-then-k-np c = let a = c.args in let l : Lent = lent_of a.tables in let o : Lent = record { segments = a.out_segments.now; views = a.out_views.now; runs = a.out_runs.now; borrows = a.out_borrows.now; ids = a.out_ids.now; pool = a.out_pool.now } in named_overlaps a.lim (bytes_in a.tables.pool.now a.name) (used_in l a.sources.now a.order.now a.n) (map (source_at_word l a.sources.now) (begins a.order.now a.n)) (sym (whats_used l a.sources.now a.order.now a.n)) (places_in a.prefixes.now a.tables.pool.now a.np) c.requires.np_value a.seq (uuids_of a.fresh.now) o _ c.prefixes_nest.ensures c.if-prefixes_nest.false _ a.np (c.overlap_place-k.ensures ∙ overlap_is l a.sources.now (begins a.order.now a.n) (places_in a.prefixes.now a.tables.pool.now a.np)) (places_long a.prefixes.now a.tables.pool.now a.np) c.if-k-np.true _ refl

pub used_lack_final-requires : goal.used_lack_final-requires
used_lack_final-requires c = c.requires.n_in_bounds

pub returns-then-used_lack_final : goal.returns-then-used_lack_final
returns-then-used_lack_final c = let a = c.args in let l : Lent = lent_of a.tables in let o : Lent = record { segments = a.out_segments.now; views = a.out_views.now; runs = a.out_runs.now; borrows = a.out_borrows.now; ids = a.out_ids.now; pool = a.out_pool.now } in named_lacks a.lim (bytes_in a.tables.pool.now a.name) (used_in l a.sources.now a.order.now a.n) (map (source_at_word l a.sources.now) (begins a.order.now a.n)) (sym (whats_used l a.sources.now a.order.now a.n)) (places_in a.prefixes.now a.tables.pool.now a.np) c.requires.np_value a.seq (uuids_of a.fresh.now) o _ c.prefixes_nest.ensures c.if-prefixes_nest.false _ a.np (c.overlap_place-k.ensures ∙ overlap_is l a.sources.now (begins a.order.now a.n) (places_in a.prefixes.now a.tables.pool.now a.np)) (places_long a.prefixes.now a.tables.pool.now a.np) c.if-k-np.false _ (used_lack l a.sources.now a.order.now a.n _ c.used_lack_final.ensures) c.if-used_lack_final.true

pub grouped_named-requires : goal.grouped_named-requires
grouped_named-requires c = record { n_le_most_sources = c.requires.n_le_most_sources; n_in_bounds = c.requires.n_in_bounds; n_value = c.requires.n_value; views_in_bounds = c.requires.views_in_bounds; borrows_in_bounds = c.requires.borrows_in_bounds; views_in_bounds_2 = c.requires.views_in_bounds_2; np_in_bounds = c.requires.np_in_bounds; np_value = c.requires.np_value }

pub returns : goal.returns
returns c = let a = c.args in let l : Lent = lent_of a.tables in let o : Lent = record { segments = a.out_segments.now; views = a.out_views.now; runs = a.out_runs.now; borrows = a.out_borrows.now; ids = a.out_ids.now; pool = a.out_pool.now } in named_fits a.lim (bytes_in a.tables.pool.now a.name) (used_in l a.sources.now a.order.now a.n) (map (source_at_word l a.sources.now) (begins a.order.now a.n)) (sym (whats_used l a.sources.now a.order.now a.n)) (places_in a.prefixes.now a.tables.pool.now a.np) c.requires.np_value a.seq (uuids_of a.fresh.now) o _ c.prefixes_nest.ensures c.if-prefixes_nest.false _ a.np (c.overlap_place-k.ensures ∙ overlap_is l a.sources.now (begins a.order.now a.n) (places_in a.prefixes.now a.tables.pool.now a.np)) (places_long a.prefixes.now a.tables.pool.now a.np) c.if-k-np.false _ (used_lack l a.sources.now a.order.now a.n _ c.used_lack_final.ensures) c.if-used_lack_final.false _ c.grouped_named.ensures
