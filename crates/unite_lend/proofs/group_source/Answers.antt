use mathlib.Core.Path.{◌∙◌}
use Rattle.records.specs.Decode.{Lent, lent_of}
use Rattle.unite_lend.proofs.Grouping.{room_groups, room_ids, next_groups, next_ids, total_groups, total_ids, source_entered}
use Rattle.unite_lend.proofs.group_source.Goals as goal

pub group_borrows-h-requires : goal.group_borrows-h-requires
group_borrows-h-requires c = let a = c.args in let l : Lent = lent_of a.tables in record { sources_in_bounds = c.requires.n_in_bounds; groups_value = c.requires.groups_value; borrows_in_bounds = room_groups a.lim l a.sources.now a.b c.requires.b_value _ c.window_in-w.ensures _ _ c.requires.borrows_in_bounds; w_in_bounds = room_ids a.lim l a.sources.now a.b c.requires.b_value _ c.window_in-w.ensures _ _ c.requires.views_in_bounds_2 }

pub group_own-requires : goal.group_own-requires
group_own-requires c = let a = c.args in let l : Lent = lent_of a.tables in record { b_in_bounds = c.requires.b_in_bounds; b_value = c.requires.b_value; n_in_bounds = c.requires.n_in_bounds; views_in_bounds = c.requires.views_in_bounds; groups_value = c.group_borrows-h.ensures.groups_after_2; groups_in_bounds = next_groups a.lim l a.sources.now a.b c.requires.b_value _ c.window_in-w.ensures _ _ _ _ c.group_borrows-h.ensures.groups_bound c.group_borrows-h.ensures.groups_len_unchanged c.requires.borrows_in_bounds; views_in_bounds_2 = next_ids a.lim l a.sources.now a.b c.requires.b_value _ c.window_in-w.ensures _ _ _ _ c.group_borrows-h.ensures.ids_bound c.group_borrows-h.ensures.work_len_unchanged c.requires.views_in_bounds_2 }

pub returns : goal.returns
returns c = let a = c.args in let l : Lent = lent_of a.tables in record { groups_after = source_entered l a.sources.now a.b _ _ _ _ _ c.window_in-w.ensures c.group_borrows-h.ensures.groups_after c.group_own.ensures.groups_after; groups_after_2 = c.group_own.ensures.groups_after_2; groups_bound = total_groups a.lim l a.sources.now a.b c.requires.b_value _ c.window_in-w.ensures _ _ _ c.group_borrows-h.ensures.groups_bound c.group_own.ensures.groups_bound; ids_bound = total_ids a.lim l a.sources.now a.b c.requires.b_value _ c.window_in-w.ensures _ _ _ c.group_borrows-h.ensures.ids_bound c.group_own.ensures.ids_bound; groups_len_unchanged = c.group_own.ensures.groups_len_unchanged ∙ c.group_borrows-h.ensures.groups_len_unchanged; work_len_unchanged = c.group_own.ensures.work_len_unchanged ∙ c.group_borrows-h.ensures.work_len_unchanged; owned_len_unchanged = c.group_own.ensures.owned_len_unchanged }
