use native.Mathlib.Omega.{arith}
use Rattle.unite_groups.proofs.Grouping.{borrow_count_lem, borrow_joined}
use Rattle.unite_groups.proofs.group_members.group_borrow.Goals as goal

pub group_one-requires : goal.group_one-requires
group_one-requires c = record { sources_in_bounds = c.requires.sources_in_bounds; groups_value = c.requires.groups_value; groups_in_bounds = c.requires.groups_in_bounds; w_in_bounds = omega (arith, borrow_count_lem c.args.borrows.now c.args.ids.now c.args.pool.now c.args.i _ c.borrow_at-b.ensures, c.requires.i_in_bounds_2) }

pub returns : goal.returns
returns c = record { groups_after = borrow_joined c.args.borrows.now c.args.ids.now c.args.pool.now c.args.i _ c.borrow_at-b.ensures _ _ _ _ c.final_of-u.ensures c.group_one.ensures.groups_after; groups_after_2 = c.group_one.ensures.groups_after_2; groups_bound = c.group_one.ensures.groups_bound; ids_bound = omega (arith, borrow_count_lem c.args.borrows.now c.args.ids.now c.args.pool.now c.args.i _ c.borrow_at-b.ensures, c.group_one.ensures.ids_bound); groups_len_unchanged = c.group_one.ensures.groups_len_unchanged; work_len_unchanged = c.group_one.ensures.work_len_unchanged }
