use mathlib.Core.Path.{refl}
use native.Mathlib.Omega.{arith}
use Rattle.unite_groups.proofs.Grouping.{owned_window, owned_none, owned_joined}
use Rattle.unite_groups.proofs.group_members.group_owned.Goals as goal

pub returns-then-owned-lt2 : goal.returns-then-owned-lt2
returns-then-owned-lt2 c = record { groups_after = owned_none _ _ _ _ c.args.owned.now c.if-owned-lt2.true; groups_after_2 = c.requires.groups_value; groups_bound = omega arith; ids_bound = omega arith; groups_len_unchanged = refl; work_len_unchanged = refl }

pub group_one-requires : goal.group_one-requires
group_one-requires c = record { sources_in_bounds = c.requires.sources_in_bounds; groups_value = c.requires.groups_value; groups_in_bounds = c.requires.groups_in_bounds; w_in_bounds = rw (owned_window c.args.owned.now) c.requires.owned_in_bounds }

pub returns : goal.returns
returns c = record { groups_after = owned_joined _ _ _ _ c.args.owned.now _ c.if-owned-lt2.false c.group_one.ensures.groups_after; groups_after_2 = c.group_one.ensures.groups_after_2; groups_bound = c.group_one.ensures.groups_bound; ids_bound = rw (← owned_window c.args.owned.now) c.group_one.ensures.ids_bound; groups_len_unchanged = c.group_one.ensures.groups_len_unchanged; work_len_unchanged = c.group_one.ensures.work_len_unchanged }
