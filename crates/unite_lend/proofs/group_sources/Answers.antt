use native.Mathlib.Omega.{arith}
use mathlib.Core.Path.{refl}
use Rattle.records.specs.Decode.{Lent, lent_of}
use Rattle.unite_lend.proofs.Gathering.{gathered_none, gathered_sound, gathered_own, gathered_groups, gathered_work, gathered_more, gathered_all, gathered_long}
use Rattle.unite_lend.proofs.group_sources.Goals as goal

pub loop-i-init : goal.loop-i-init
loop-i-init c = let a = c.args in let l : Lent = lent_of a.tables in gathered_none _ _ _ _ _ _ _ _ _ _ _ _ c.requires.n_le_most_sources c.requires.n_value c.requires.views_in_bounds c.requires.borrows_in_bounds c.requires.views_in_bounds_2 refl refl refl

pub group_at-g-requires : goal.group_at-g-requires
group_at-g-requires c = let w = c.loop-i.invariant in let h = c.loop-i-test.true in record { i_in_bounds = omega (arith, c.requires.n_in_bounds, h); i_value = gathered_sound _ _ _ _ _ _ _ _ _ _ _ _ _ _ w h; n_in_bounds = c.requires.n_in_bounds_2; views_in_bounds = gathered_own _ _ _ _ _ _ _ _ _ _ _ _ _ _ w h; groups_value = w.ended; borrows_in_bounds = gathered_groups _ _ _ _ _ _ _ _ _ _ _ _ _ _ w h; views_in_bounds_2 = gathered_work _ _ _ _ _ _ _ _ _ _ _ _ _ _ w h }

pub loop-i-smaller : goal.loop-i-smaller
loop-i-smaller c = let w = c.loop-i.invariant in let h = c.loop-i-test.true in omega (arith, h)

pub loop-i-preserved : goal.loop-i-preserved
loop-i-preserved c = let w = c.loop-i.invariant in let h = c.loop-i-test.true in gathered_more _ _ _ _ _ _ _ _ _ _ _ _ _ _ w h _ _ _ _ c.group_at-g.ensures.groups_after c.group_at-g.ensures.groups_after_2 c.group_at-g.ensures.groups_bound c.group_at-g.ensures.ids_bound c.group_at-g.ensures.groups_len_unchanged c.group_at-g.ensures.work_len_unchanged c.group_at-g.ensures.owned_len_unchanged

pub shape_of-owned : goal.shape_of-owned
shape_of-owned c = let w = c.loop-i.invariant in search (w.own_long, w.group_long, w.work_long)

pub shape_of-groups : goal.shape_of-groups
shape_of-groups c = let w = c.loop-i.invariant in search (w.own_long, w.group_long, w.work_long)

pub shape_of-work : goal.shape_of-work
shape_of-work c = let w = c.loop-i.invariant in search (w.own_long, w.group_long, w.work_long)

pub returns : goal.returns
returns c = let w = c.loop-i.invariant in record { result_after = gathered_all _ _ _ _ _ _ _ _ _ _ _ _ _ _ w c.loop-i-test.false; result_in_bounds = gathered_long _ _ _ _ _ _ _ _ _ _ _ _ _ _ w }
