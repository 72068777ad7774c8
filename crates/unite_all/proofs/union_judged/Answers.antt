use mathlib.Core.Path.{refl}
use native.Mathlib.Omega.{arith}
use lib.ListN.{length}
use Rattle.records.specs.Decode.{Lent, lent_of}
use Rattle.borrows.specs.Clone.{uuids_of}
use Rattle.unite_lend.proofs.Lifts.{used_sound}
use Rattle.unite_all.proofs.Agreed.{room_prefixes, room_owned, room_groups, room_sets, given_differ, given_agreed}
use Rattle.unite_all.proofs.union_judged.Goals as goal

pub names_differ-requires : goal.names_differ-requires
names_differ-requires c = c.requires.n_in_bounds

pub returns-then-names_differ : goal.returns-then-names_differ
returns-then-names_differ c = let a = c.args in let l : Lent = lent_of a.tables in let o : Lent = record { segments = a.out_segments.now; views = a.out_views.now; runs = a.out_runs.now; borrows = a.out_borrows.now; ids = a.out_ids.now; pool = a.out_pool.now } in given_differ a.lim l a.sources.now a.n (uuids_of a.fresh.now) o _ c.names_differ.ensures c.if-names_differ.true

pub slice_bounds-arrange_sources-end : goal.slice_bounds-arrange_sources-end
slice_bounds-arrange_sources-end c = refl

pub arrange_sources-k-requires : goal.arrange_sources-k-requires
arrange_sources-k-requires c = record { n_in_bounds = c.requires.n_in_bounds; n_in_bounds_2 = omega (arith, c.requires.n_le_most_sources) }

pub agreed_name-name-requires : goal.agreed_name-name-requires
agreed_name-name-requires c = omega (arith, c.requires.n_in_bounds)

pub greatest_seq-seq-requires : goal.greatest_seq-seq-requires
greatest_seq-seq-requires c = omega (arith, c.requires.n_in_bounds, c.arrange_sources-k.ensures.upper_bound)

pub union_by-requires : goal.union_by-requires
union_by-requires c = let a = c.args in let l : Lent = lent_of a.tables in record { n_le_most_sources = omega (arith, c.requires.n_le_most_sources, c.arrange_sources-k.ensures.upper_bound); n_in_bounds = omega (arith, c.requires.n_le_most_sources, c.arrange_sources-k.ensures.upper_bound, c.arrange_sources-k.ensures.order_len_unchanged); n_value = used_sound a.lim l a.sources.now a.tables.pool.now _ _ a.n c.requires.n_in_bounds c.requires.n_value c.arrange_sources-k.ensures.result_after; views_in_bounds = room_owned a.lim (length a.prefixes.now) (length a.owned.now) (length a.groups.now) (length a.sets.now) c.requires.sets_value; borrows_in_bounds = room_groups a.lim (length a.prefixes.now) (length a.owned.now) (length a.groups.now) (length a.sets.now) c.requires.sets_value; views_in_bounds_2 = room_sets a.lim (length a.prefixes.now) (length a.owned.now) (length a.groups.now) (length a.sets.now) c.requires.sets_value; segments_in_bounds = room_prefixes a.lim (length a.prefixes.now) (length a.owned.now) (length a.groups.now) (length a.sets.now) c.requires.sets_value }

pub returns : goal.returns
returns c = let a = c.args in let l : Lent = lent_of a.tables in let o : Lent = record { segments = a.out_segments.now; views = a.out_views.now; runs = a.out_runs.now; borrows = a.out_borrows.now; ids = a.out_ids.now; pool = a.out_pool.now } in given_agreed a.lim l a.sources.now a.n (uuids_of a.fresh.now) o _ c.names_differ.ensures c.if-names_differ.false _ _ c.arrange_sources-k.ensures.result_after _ c.agreed_name-name.ensures _ c.greatest_seq-seq.ensures _ c.union_by.ensures
