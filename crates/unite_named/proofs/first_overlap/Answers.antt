use Prim.Native.Nat.{ℕ}
use mathlib.Core.Path.{refl, ap, ◌∙◌}
use mathlib.Core.Bool.{not}
use mathlib.Core.List.{List}
use native.Mathlib.Omega.{arith}
use Rattle.segments.proofs.Fronts.{led_none, led_more, led_here, led_all}
use Rattle.unite_ranges.specs.Arranged.{some_overlap}
use Rattle.unite_sources.specs.Rows.{begins, places_in}
use Rattle.unite_named.specs.Named.{shares_in, overlap_at, tree_tables}
use Rattle.unite_named.specs.Steps.{prefix_in}
use Rattle.unite_named.proofs.first_overlap.Goals as goal

pub loop-k-init : goal.loop-k-init
unfolding overlap_at places_in
loop-k-init c = let a = c.args in (led_none (λ (p : List ℕ). not (some_overlap (shares_in (tree_tables a.segments.now a.views.now a.runs.now a.pool.now) a.sources.now (begins a.order.now a.n) p))) (prefix_in a.prefixes.now a.pool.now) a.np a.np (overlap_at (tree_tables a.segments.now a.views.now a.runs.now a.pool.now) a.sources.now (begins a.order.now a.n) (places_in a.prefixes.now a.pool.now a.np)) refl refl, refl)

pub overlaps_at-requires : goal.overlaps_at-requires
unfolding overlap_at places_in
overlaps_at-requires c = record { n_in_bounds = c.requires.n_in_bounds; n_in_bounds_2 = omega (arith, c.requires.n_in_bounds_2, c.loop-k.invariant.1); i_in_bounds = omega (arith, c.requires.np_in_bounds, c.loop-k-test.true) }

pub returns-then-overlaps_at : goal.returns-then-overlaps_at
unfolding overlap_at places_in
returns-then-overlaps_at c = let a = c.args in record { value = led_here (overlap_at (tree_tables a.segments.now a.views.now a.runs.now a.pool.now) a.sources.now (begins a.order.now a.n) (places_in a.prefixes.now a.pool.now a.np)) (λ (i : ℕ). not (some_overlap (shares_in (tree_tables a.segments.now a.views.now a.runs.now a.pool.now) a.sources.now (begins a.order.now a.n) (prefix_in a.prefixes.now a.pool.now i)))) a.np _ c.loop-k.invariant.0 _ c.loop-k-test.true (ap not c.overlaps_at.ensures.value) (ap not c.if-overlaps_at.true); shares_len_unchanged = c.overlaps_at.ensures.shares_len_unchanged ∙ c.loop-k.invariant.1 }

pub loop-k-preserved : goal.loop-k-preserved
unfolding overlap_at places_in
loop-k-preserved c = let a = c.args in (led_more (overlap_at (tree_tables a.segments.now a.views.now a.runs.now a.pool.now) a.sources.now (begins a.order.now a.n) (places_in a.prefixes.now a.pool.now a.np)) (λ (i : ℕ). not (some_overlap (shares_in (tree_tables a.segments.now a.views.now a.runs.now a.pool.now) a.sources.now (begins a.order.now a.n) (prefix_in a.prefixes.now a.pool.now i)))) a.np _ c.loop-k.invariant.0 _ c.loop-k-test.true (ap not c.overlaps_at.ensures.value) (ap not c.if-overlaps_at.false), c.overlaps_at.ensures.shares_len_unchanged ∙ c.loop-k.invariant.1)

pub returns : goal.returns
unfolding overlap_at places_in
returns c = let a = c.args in record { value = led_all (overlap_at (tree_tables a.segments.now a.views.now a.runs.now a.pool.now) a.sources.now (begins a.order.now a.n) (places_in a.prefixes.now a.pool.now a.np)) (λ (i : ℕ). not (some_overlap (shares_in (tree_tables a.segments.now a.views.now a.runs.now a.pool.now) a.sources.now (begins a.order.now a.n) (prefix_in a.prefixes.now a.pool.now i)))) a.np _ c.loop-k.invariant.0 c.loop-k-test.false; shares_len_unchanged = c.loop-k.invariant.1 }
