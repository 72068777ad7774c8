use Rattle.records.specs.Decode.{Lent, lent_of}
use Rattle.borrows.specs.Clone.{uuids_of}
use Rattle.unite_plain.proofs.Answers.{plain_overlap, plain_segmented, plain_lacking, plain_united}
use Rattle.unite_plain.proofs.union_plain.Goals as goal

pub ranges_overlap-requires : goal.ranges_overlap-requires
ranges_overlap-requires c = c.requires.n_in_bounds

pub returns-then-ranges_overlap : goal.returns-then-ranges_overlap
returns-then-ranges_overlap c = let a = c.args in let l : Lent = lent_of a.tables in let o : Lent = record { segments = a.out_segments.now; views = a.out_views.now; runs = a.out_runs.now; borrows = a.out_borrows.now; ids = a.out_ids.now; pool = a.out_pool.now } in plain_overlap l a.sources.now a.order.now a.n a.lim a.seq (uuids_of a.fresh.now) o _ c.ranges_overlap.ensures c.if-ranges_overlap.true

pub used_segmented-requires : goal.used_segmented-requires
used_segmented-requires c = c.requires.n_in_bounds

pub returns-then-used_segmented : goal.returns-then-used_segmented
returns-then-used_segmented c = let a = c.args in let l : Lent = lent_of a.tables in let o : Lent = record { segments = a.out_segments.now; views = a.out_views.now; runs = a.out_runs.now; borrows = a.out_borrows.now; ids = a.out_ids.now; pool = a.out_pool.now } in plain_segmented l a.sources.now a.order.now a.n a.lim a.seq (uuids_of a.fresh.now) o _ c.ranges_overlap.ensures c.if-ranges_overlap.false _ c.used_segmented.ensures c.if-used_segmented.true

pub used_lack_final-requires : goal.used_lack_final-requires
used_lack_final-requires c = c.requires.n_in_bounds

pub returns-then-used_lack_final : goal.returns-then-used_lack_final
returns-then-used_lack_final c = let a = c.args in let l : Lent = lent_of a.tables in let o : Lent = record { segments = a.out_segments.now; views = a.out_views.now; runs = a.out_runs.now; borrows = a.out_borrows.now; ids = a.out_ids.now; pool = a.out_pool.now } in plain_lacking l a.sources.now a.order.now a.n a.lim a.seq (uuids_of a.fresh.now) o _ c.ranges_overlap.ensures c.if-ranges_overlap.false _ c.used_segmented.ensures c.if-used_segmented.false _ c.used_lack_final.ensures c.if-used_lack_final.true

pub grouped_plain-requires : goal.grouped_plain-requires
grouped_plain-requires c = record { n_le_most_sources = c.requires.n_le_most_sources; n_in_bounds = c.requires.n_in_bounds; n_value = c.requires.n_value; views_in_bounds = c.requires.views_in_bounds; borrows_in_bounds = c.requires.borrows_in_bounds; views_in_bounds_2 = c.requires.views_in_bounds_2 }

pub returns : goal.returns
returns c = let a = c.args in let l : Lent = lent_of a.tables in let o : Lent = record { segments = a.out_segments.now; views = a.out_views.now; runs = a.out_runs.now; borrows = a.out_borrows.now; ids = a.out_ids.now; pool = a.out_pool.now } in plain_united l a.sources.now a.order.now a.n a.lim a.seq (uuids_of a.fresh.now) o _ c.ranges_overlap.ensures c.if-ranges_overlap.false _ c.used_segmented.ensures c.if-used_segmented.false _ c.used_lack_final.ensures _ c.if-used_lack_final.false c.grouped_plain.ensures
