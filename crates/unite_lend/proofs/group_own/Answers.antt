use Rattle.records.specs.Decode.{Lent, lent_of}
use Rattle.unite_lend.proofs.Grouping.{own_space, own_most, own_entered}
use Rattle.unite_lend.proofs.group_own.Goals as goal

pub group_owned-requires : goal.group_owned-requires
group_owned-requires c = let a = c.args in let l : Lent = lent_of a.tables in record { sources_in_bounds = c.requires.n_in_bounds; groups_value = c.requires.groups_value; groups_in_bounds = c.requires.groups_in_bounds; owned_in_bounds = own_space _ _ c.front_ids-own.ensures _ _ _ c.list_owned-e.ensures.owned_len_bound c.requires.views_in_bounds_2 }

pub returns : goal.returns
returns c = let a = c.args in let l : Lent = lent_of a.tables in record { groups_after = own_entered _ _ c.front_ids-own.ensures l a.sources.now a.b _ _ _ _ _ c.list_owned-e.ensures.owned_after c.path_of-path.ensures c.checkpoint_of-u.ensures c.group_owned.ensures.groups_after; groups_after_2 = c.group_owned.ensures.groups_after_2; groups_bound = c.group_owned.ensures.groups_bound; ids_bound = own_most _ _ c.front_ids-own.ensures _ _ _ c.list_owned-e.ensures.owned_len_bound c.group_owned.ensures.ids_bound; groups_len_unchanged = c.group_owned.ensures.groups_len_unchanged; work_len_unchanged = c.group_owned.ensures.work_len_unchanged; owned_len_unchanged = c.list_owned-e.ensures.owned_len_unchanged }
