use Rattle.records.specs.Decode.{Lent, lent_of}
use Rattle.borrows.specs.Clone.{uuids_of}
use Rattle.unite_plain.proofs.Answers.{laid_used}
use Rattle.unite_plain.proofs.grouped_plain.Goals as goal

pub group_used-count-requires : goal.group_used-count-requires
group_used-count-requires c = record { n_le_most_sources = c.requires.n_le_most_sources; n_in_bounds = c.requires.n_in_bounds; n_value = c.requires.n_value; views_in_bounds = c.requires.views_in_bounds; borrows_in_bounds = c.requires.borrows_in_bounds; views_in_bounds_2 = c.requires.views_in_bounds_2 }

pub given_plain-requires : goal.given_plain-requires
given_plain-requires c = record { n_in_bounds = c.requires.n_in_bounds; count_in_bounds = c.group_used-count.ensures.result_in_bounds }

pub returns : goal.returns
returns c = let a = c.args in let l : Lent = lent_of a.tables in let o : Lent = record { segments = a.out_segments.now; views = a.out_views.now; runs = a.out_runs.now; borrows = a.out_borrows.now; ids = a.out_ids.now; pool = a.out_pool.now } in laid_used l a.sources.now a.order.now a.n a.lim a.seq (uuids_of a.fresh.now) o _ _ c.group_used-count.ensures.result_after c.given_plain.ensures
