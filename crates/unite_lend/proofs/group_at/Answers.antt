use Rattle.records.specs.Decode.{Lent, lent_of}
use Rattle.unite_lend.proofs.Gathering.{word_in, word_lawful, word_entered}
use Rattle.unite_lend.proofs.group_at.Goals as goal

pub group_source-requires : goal.group_source-requires
group_source-requires c = let a = c.args in let l : Lent = lent_of a.tables in record { b_in_bounds = word_in a.lim l a.sources.now _ _ c.ix-b.ensures c.requires.i_value; b_value = word_lawful a.lim l a.sources.now _ _ c.ix-b.ensures c.requires.i_value; n_in_bounds = c.requires.n_in_bounds; views_in_bounds = c.requires.views_in_bounds; groups_value = c.requires.groups_value; borrows_in_bounds = c.requires.borrows_in_bounds; views_in_bounds_2 = c.requires.views_in_bounds_2 }

pub returns : goal.returns
returns c = let a = c.args in let l : Lent = lent_of a.tables in record { groups_after = word_entered a.lim l a.sources.now _ _ c.ix-b.ensures _ _ _ c.group_source.ensures.groups_after; groups_after_2 = c.group_source.ensures.groups_after_2; groups_bound = c.group_source.ensures.groups_bound; ids_bound = c.group_source.ensures.ids_bound; groups_len_unchanged = c.group_source.ensures.groups_len_unchanged; work_len_unchanged = c.group_source.ensures.work_len_unchanged; owned_len_unchanged = c.group_source.ensures.owned_len_unchanged }
