use Rattle.unite_groups.proofs.Entering.{joins_place, joins_members, joins_ends, alone_place, alone_members, alone_ends}
use native.Mathlib.Omega.{arith}
use Rattle.unite_groups.proofs.group_members.enter_group.Goals as goal

pub join_group-requires : goal.join_group-requires
join_group-requires c = joins_place c.args.groups.now c.args.work.now c.args.pool.now c.args.g c.args.row c.args.s _ c.group_spot-spot.ensures c.requires.groups_in_bounds c.requires.groups_value c.if-spot.true

pub returns-then-spot : goal.returns-then-spot
returns-then-spot c = record { groups_after = joins_members c.args.groups.now c.args.work.now c.args.pool.now c.args.g c.args.row c.args.s _ c.group_spot-spot.ensures c.requires.groups_in_bounds c.requires.groups_value c.if-spot.true _ c.join_group.ensures; groups_after_2 = joins_ends c.args.groups.now c.args.work.now c.args.pool.now c.args.g c.args.row c.args.s _ c.group_spot-spot.ensures c.requires.groups_in_bounds c.requires.groups_value c.if-spot.true _ c.join_group.ensures; groups_bound = omega arith; ids_bound = omega arith }

pub overflow_mul-spot : goal.overflow_mul-spot
overflow_mul-spot c = let p = alone_place c.args.groups.now c.args.work.now c.args.pool.now c.args.g c.args.row c.args.s _ c.group_spot-spot.ensures c.requires.groups_in_bounds c.requires.groups_value c.if-spot.false in omega (arith, c.requires.groups_in_bounds)

pub overflow_mul-g : goal.overflow_mul-g
overflow_mul-g c = omega (arith, c.requires.groups_in_bounds)

pub shift_words-requires : goal.shift_words-requires
shift_words-requires c = let p = alone_place c.args.groups.now c.args.work.now c.args.pool.now c.args.g c.args.row c.args.s _ c.group_spot-spot.ensures c.requires.groups_in_bounds c.requires.groups_value c.if-spot.false in record { at_le_past = omega arith; by_in_bounds = omega (arith, c.requires.groups_in_bounds) }

pub put_group-requires : goal.put_group-requires
put_group-requires c = let p = alone_place c.args.groups.now c.args.work.now c.args.pool.now c.args.g c.args.row c.args.s _ c.group_spot-spot.ensures c.requires.groups_in_bounds c.requires.groups_value c.if-spot.false in omega (arith, c.requires.groups_in_bounds)

pub overflow_add-result : goal.overflow_add-result
overflow_add-result c = omega (arith, c.requires.groups_in_bounds)

pub overflow_add-result-2 : goal.overflow_add-result-2
overflow_add-result-2 c = omega (arith, c.requires.count_in_bounds, c.well_formed.1.1.0)

pub returns : goal.returns
returns c = record { groups_after = alone_members c.args.groups.now c.args.work.now c.args.pool.now c.args.g c.args.row c.args.s _ c.group_spot-spot.ensures c.requires.groups_in_bounds c.requires.groups_value c.if-spot.false _ _ c.shift_words.ensures c.put_group.ensures; groups_after_2 = alone_ends c.args.groups.now c.args.work.now c.args.pool.now c.args.g c.args.row c.args.s _ c.group_spot-spot.ensures c.requires.groups_in_bounds c.requires.groups_value c.if-spot.false _ _ c.shift_words.ensures c.put_group.ensures c.requires.first_value; groups_bound = omega arith; ids_bound = omega arith }
