use native.Mathlib.Numerals.{add-one}
use lib.Arith.{sub_dec}
use Prim.Native.Nat.{◌/◌}
use native.Mathlib.Omega.{arith}
use lib.ListN.{length}
use Rattle.tables.proofs.Windows.{held_in}
use Rattle.lawful.proofs.Loops.{rows}
use Rattle.unite_groups.proofs.Grouping.{entered_none, entered_room, entered_space, entered_more, entered_all, window_borrows}
use borrow.Author.Rules.{rules}
use Rattle.unite_groups.proofs.group_members.group_borrows.Goals as goal

pub loop-k-init : goal.loop-k-init
loop-k-init c = let n = c.held-n.ensures in let f = window_borrows c.args.borrows.now c.args.ids.now c.args.pool.now c.args.w _ n in entered_none _ _ _ _ _ _ _ (rw n c.requires.borrows_in_bounds) (rw (← f) c.requires.w_in_bounds) c.requires.groups_value

pub overflow_add-i : goal.overflow_add-i
overflow_add-i c = search (rows, rules)

pub group_borrow-to-requires : goal.group_borrow-to-requires
group_borrow-to-requires c = let h = c.loop-k-test.true in record { i_in_bounds = held_in c.args.w (length c.args.borrows.now / 9) c.loop-k.k (omega (arith, c.held-n.ensures)); sources_in_bounds = c.requires.sources_in_bounds; groups_value = c.loop-k.invariant.ended; groups_in_bounds = entered_room _ _ _ _ _ _ _ _ _ _ _ c.loop-k.invariant h; i_in_bounds_2 = entered_space _ _ _ _ _ _ _ _ _ _ _ c.loop-k.invariant h }

pub loop-k-smaller : goal.loop-k-smaller
loop-k-smaller c = rw (add-one c.loop-k.k) (sub_dec c.held-n.result c.loop-k.k c.loop-k-test.true)

pub loop-k-preserved : goal.loop-k-preserved
loop-k-preserved c = entered_more _ _ _ _ _ _ _ _ _ _ _ c.loop-k.invariant _ _ _ c.loop-k-test.true c.group_borrow-to.ensures.groups_after c.group_borrow-to.ensures.groups_after_2 c.group_borrow-to.ensures.groups_bound c.group_borrow-to.ensures.ids_bound c.group_borrow-to.ensures.groups_len_unchanged c.group_borrow-to.ensures.work_len_unchanged

pub returns : goal.returns
returns c = let n = c.held-n.ensures in let whole = entered_all _ _ _ _ _ _ _ _ _ _ _ c.loop-k.invariant c.loop-k-test.false _ (window_borrows c.args.borrows.now c.args.ids.now c.args.pool.now c.args.w _ n) _ n in record { groups_after = whole.0; groups_after_2 = whole.1.0; groups_bound = whole.1.1.0; ids_bound = whole.1.1.1.0; groups_len_unchanged = whole.1.1.1.1.0; work_len_unchanged = whole.1.1.1.1.1 }
