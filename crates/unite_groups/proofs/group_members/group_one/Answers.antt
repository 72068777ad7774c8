use mathlib.Core.Path.{refl}
use native.Mathlib.Omega.{arith}
use Rattle.unite_groups.proofs.Grouping.{one_long, one_room, one_more, one_joined}
use Rattle.unite_groups.proofs.group_members.group_one.Goals as goal

pub enter_group-requires : goal.enter_group-requires
enter_group-requires c = record { first_value = refl; count_in_bounds = one_room c.args.ids.now c.args.work.now c.args.w c.args.g c.requires.w_in_bounds _ c.enter_ids-count.ensures.value _ c.enter_ids-count.ensures.work_after; groups_value = c.requires.groups_value; groups_in_bounds = c.requires.groups_in_bounds }

pub returns : goal.returns
returns c = record { groups_after = one_joined c.args.ids.now c.args.work.now c.args.w c.args.g c.requires.w_in_bounds _ c.enter_ids-count.ensures.value _ c.enter_ids-count.ensures.work_after _ _ _ _ c.args.path _ _ _ c.requires.groups_value c.supplied_with-s.ensures c.enter_group.ensures.groups_after; groups_after_2 = c.enter_group.ensures.groups_after_2; groups_bound = c.enter_group.ensures.groups_bound; ids_bound = one_more c.args.ids.now c.args.work.now c.args.w c.args.g c.requires.w_in_bounds _ c.enter_ids-count.ensures.value _ c.enter_ids-count.ensures.work_after _ c.enter_group.ensures.ids_bound; groups_len_unchanged = omega arith; work_len_unchanged = one_long c.args.ids.now c.args.work.now c.args.w c.args.g c.requires.w_in_bounds _ c.enter_ids-count.ensures.value _ c.enter_ids-count.ensures.work_after }
