use native.Mathlib.Numerals.{add-one}
use lib.Arith.{sub_dec}
use mathlib.Core.Path.{ap, ◌∙◌}
use native.Mathlib.Omega.{arith}
use Rattle.tables.specs.Layout.{up_to, joined}
use Rattle.records.specs.Fill.{plus}
use Rattle.records.specs.Layout.{views_laid}
use Rattle.emit.proofs.Laid.{walk_none, walk_more, walk_all_lem, grown_none, grown_room, grown_more, grown_all, joined_all}
use Rattle.unite_trees.specs.Joined.{tree_l0}
use Rattle.unite_trees.specs.Rows.{trees_in}
use Rattle.unite_trees.specs.Steps.{tree_of}
use Rattle.unite_trees.proofs.Parts.{all_joined, views_fill_is, views_rows_are, views_bytes_are}
use Rattle.unite_trees.proofs.trees_laid.put_l0.Goals as goal

pub loop-k-init : goal.loop-k-init
unfolding trees_in views_laid
loop-k-init c = let f = views_fill_is (joined tree_l0 (up_to (tree_of c.args.t.now c.args.rows.now c.args.runs.now c.args.views.now c.args.pool.now) c.args.n)) (up_to (λ i. tree_l0 ((tree_of c.args.t.now c.args.rows.now c.args.runs.now c.args.views.now c.args.pool.now) i)) c.args.n) (all_joined tree_l0 (tree_of c.args.t.now c.args.rows.now c.args.runs.now c.args.views.now c.args.pool.now) c.args.n) in (walk_none, grown_none (rw f c.requires.pool_in_bounds), grown_none (rw f c.requires.pool_in_bounds_2))

pub put_l0_at-to-requires : goal.put_l0_at-to-requires
unfolding trees_in views_laid
put_l0_at-to-requires c = let i = c.loop-k.invariant in let h = c.loop-k-test.true in record { i_in_bounds = omega arith; i_in_bounds_2 = grown_room i.0 i.1 h; i_in_bounds_3 = grown_room i.0 i.2 h }

pub loop-k-smaller : goal.loop-k-smaller
unfolding trees_in views_laid
loop-k-smaller c = rw (add-one c.loop-k.k) (sub_dec c.args.n c.loop-k.k c.loop-k-test.true)

pub loop-k-preserved : goal.loop-k-preserved
unfolding trees_in views_laid
loop-k-preserved c = let i = c.loop-k.invariant in let h = c.loop-k-test.true in (walk_more i.0 h c.put_l0_at-to.ensures.value, grown_more i.0 i.1 h c.put_l0_at-to.ensures.out_views_after, grown_more i.0 i.2 h c.put_l0_at-to.ensures.out_pool_after)

pub shape_of-out_views : goal.shape_of-out_views
unfolding trees_in views_laid
shape_of-out_views c = c.loop-k.invariant.1.long

pub shape_of-out_pool : goal.shape_of-out_pool
unfolding trees_in views_laid
shape_of-out_pool c = c.loop-k.invariant.2.long

pub returns : goal.returns
unfolding trees_in views_laid
returns c = let i = c.loop-k.invariant in let h = c.loop-k-test.false in record { value = walk_all_lem i.0 h ∙ ap (plus c.args.c) (views_fill_is (joined tree_l0 (up_to (tree_of c.args.t.now c.args.rows.now c.args.runs.now c.args.views.now c.args.pool.now) c.args.n)) (up_to (λ i. tree_l0 ((tree_of c.args.t.now c.args.rows.now c.args.runs.now c.args.views.now c.args.pool.now) i)) c.args.n) (all_joined tree_l0 (tree_of c.args.t.now c.args.rows.now c.args.runs.now c.args.views.now c.args.pool.now) c.args.n)); out_views_after = views_rows_are (joined tree_l0 (up_to (tree_of c.args.t.now c.args.rows.now c.args.runs.now c.args.views.now c.args.pool.now) c.args.n)) (up_to (λ i. tree_l0 ((tree_of c.args.t.now c.args.rows.now c.args.runs.now c.args.views.now c.args.pool.now) i)) c.args.n) (all_joined tree_l0 (tree_of c.args.t.now c.args.rows.now c.args.runs.now c.args.views.now c.args.pool.now) c.args.n) c.args.c _ _ (grown_all i.0 i.1 h); out_pool_after = views_bytes_are (joined tree_l0 (up_to (tree_of c.args.t.now c.args.rows.now c.args.runs.now c.args.views.now c.args.pool.now) c.args.n)) (up_to (λ i. tree_l0 ((tree_of c.args.t.now c.args.rows.now c.args.runs.now c.args.views.now c.args.pool.now) i)) c.args.n) (all_joined tree_l0 (tree_of c.args.t.now c.args.rows.now c.args.runs.now c.args.views.now c.args.pool.now) c.args.n) c.args.c _ _ (joined_all i.0 i.2 h) }
