-- A step over rows gives what the merge gives for the lowest prefix, and leaves the rest. Assumes nothing.
use Rattle.std.specs.Prelude.{None, Some}
use Prim.Native.Nat.{ℕ, zero, suc, ◌+◌, ◌/◌}
use mathlib.Core.Path.{◌≡◌, refl, sym, ap, ◌∙◌}
use mathlib.Core.Bool.{Bool, true, false}
use mathlib.Core.List.{List, [], ◌∷◌, ◌++◌}
use native.Mathlib.Omega.{arith}
use lib.Dec.{eqb, leb}
use lib.ListN.{length, drop}
use borrow.Author.Tests.{ne_eqb}
use Rattle.keys.specs.Pick.{pick}
use Rattle.std.specs.declared.cmp.Ordering.{Ordering}
use Rattle.keys.proofs.ByteOrder.{Stand, stand}
use Rattle.tables.specs.Layout.{up_to}
use Rattle.tables.specs.Window.{held_of}
use Rattle.tables.proofs.Holds.{up_to_front, pick_same}
use Rattle.records.specs.Model.{View, Run, Segment}
use Rattle.records.specs.New.{new_tree}
use Rattle.records.specs.Row.{view_at, run_at}
use Rattle.records.specs.Decode.{bytes_in, view_in, views_in, run_in, runs_in, tree_in, segment_in}
use Rattle.records.specs.declared.Place.{Place}
use Rattle.records.specs.declared.TreeRow.{TreeRow}
use Rattle.records.specs.declared.SegmentRow.{SegmentRow}
use Rattle.segments.specs.Prefixes.{prefixes}
use Rattle.merge.specs.Tree.{no_views, no_runs, is_empty}
use Rattle.merge.specs.Merge.{filled}
use Rattle.merge.specs.Steps.{segments_of, step_by, step_of, writer_taken, compactor_taken, new_row, merged_row, empty_row, filled_keep, keep_by, keep_in, merged_from}
use Rattle.merge.specs.declared.Side.{Side}
use Rattle.merge.specs.declared.Side.TheVariants.{Writer, Compactor}
use Rattle.merge.specs.declared.MergeStep.{MergeStep}
use Rattle.merge.specs.declared.MergeStep.TheVariants.{WriterOnly, CompactorOnly, Both}
use Rattle.merge.proofs.Ascending.{Above, Ascending, above_on}
use Rattle.merge.proofs.Trees.{tree_merged}
use Rattle.merge.proofs.Prefixwise.{segment_of, writer_first, writer_both, writer_skip, compactor_first, compactor_both, compactor_second}

-- ---- emptiness, by the rows that are held
no_views_lem : (f : ℕ → View) (n : ℕ) → eqb n 0 ≡ no_views (up_to f n)
no_views_lem f zero = refl
no_views_lem f (suc n) = rw (up_to_front f n) (ne_eqb (suc n) 0 (λ e. omega arith))

no_runs_lem : (f : ℕ → Run) (n : ℕ) → eqb n 0 ≡ no_runs (up_to f n)
no_runs_lem f zero = refl
no_runs_lem f (suc n) = rw (up_to_front f n) (ne_eqb (suc n) 0 (λ e. omega arith))

module _ (runs views pool : List ℕ) where
  pub empty_in : (t : TreeRow) → empty_row views runs t ≡ is_empty (tree_in runs views pool t)
  unfolding is_empty tree_in views_in runs_in
  empty_in t =
      rw (no_views_lem (λ k. view_in pool (view_at views (t.l0.first + k))) (held_of t.l0 (length views / 16)), no_runs_lem (λ k. run_in views pool (run_at runs (t.compacted.first + k))) (held_of t.compacted (length runs / 3)))

  new_in : tree_in runs views pool new_row ≡ new_tree
  unfolding tree_in views_in runs_in held_of
  new_in = rw (pick_same {A = ℕ} (leb (0 + 0) (length views / 16)) 0, pick_same {A = ℕ} (leb (0 + 0) (length runs / 3)) 0)

  row_in : (p : Place) (w c : TreeRow) → segment_in runs views pool (merged_row views p w c) ≡ segment_of (bytes_in pool p) (tree_in runs views pool w) (tree_in runs views pool c)
  unfolding segment_in
  row_in p w c = rw (tree_merged runs views pool w c)

  filled_in : (s : SegmentRow) → keep_in runs views pool (filled_keep views runs s) ≡ filled (segment_in runs views pool s ∷ [])
  unfolding segment_in
  filled_in s = rw (empty_in s.tree) (go (is_empty (tree_in runs views pool s.tree)))
    where
      go : (b : Bool) → keep_in runs views pool (pick b None (Some s)) ≡ pick b [] (segment_in runs views pool s ∷ [])
      go true = refl
      go false = refl

  filled_row : (p : Place) (w c : TreeRow) → keep_in runs views pool (filled_keep views runs (merged_row views p w c)) ≡ filled (segment_of (bytes_in pool p) (tree_in runs views pool w) (tree_in runs views pool c) ∷ [])
  filled_row p w c = filled_in (merged_row views p w c) ∙ ap (λ (s : Segment). filled (s ∷ [])) (row_in p w c)

  -- ---- what a step gives, and what is left
  abbrev pub Gives : Side → List SegmentRow → List SegmentRow → MergeStep → Type 0
  Gives side ws cs s =
      merged_from side (segments_of runs views pool ws) (segments_of runs views pool cs)
      ≡ keep_in runs views pool (keep_by side views runs s) ++ merged_from side (segments_of runs views pool (drop (writer_taken s) ws)) (segments_of runs views pool (drop (compactor_taken s) cs))

  module _ (w : SegmentRow) (ws cs : List SegmentRow) (a : Above (bytes_in pool w.prefix) (prefixes (segments_of runs views pool ws))) (b : Above (bytes_in pool w.prefix) (prefixes (segments_of runs views pool cs))) where
    first_gives : (side : Side) → Gives side (w ∷ ws) cs (WriterOnly w)
    unfolding segment_in
    first_gives Writer = rw (row_in w.prefix w.tree new_row, new_in) (writer_first (segment_in runs views pool w) (segments_of runs views pool ws) (segments_of runs views pool cs) a b)
    first_gives Compactor =
        rw (filled_row w.prefix w.tree new_row, new_in)
        (compactor_first (segment_in runs views pool w) (segments_of runs views pool ws) (segments_of runs views pool cs) a b)

  module _ (w c : SegmentRow) (ws cs : List SegmentRow) (e : bytes_in pool c.prefix ≡ bytes_in pool w.prefix) (a : Above (bytes_in pool w.prefix) (prefixes (segments_of runs views pool ws))) (b : Above (bytes_in pool w.prefix) (prefixes (segments_of runs views pool cs))) where
    both_gives : (side : Side) → Gives side (w ∷ ws) (c ∷ cs) (Both w c)
    unfolding segment_in
    both_gives Writer = rw (row_in w.prefix w.tree c.tree) (writer_both (segment_in runs views pool w) (segment_in runs views pool c) (segments_of runs views pool ws) (segments_of runs views pool cs) e a b)
    both_gives Compactor =
        rw (filled_row w.prefix w.tree c.tree)
        (compactor_both (segment_in runs views pool w) (segment_in runs views pool c) (segments_of runs views pool ws) (segments_of runs views pool cs) e a b)

  module _ (c : SegmentRow) (ws cs : List SegmentRow) (a : Above (bytes_in pool c.prefix) (prefixes (segments_of runs views pool ws))) (b : Above (bytes_in pool c.prefix) (prefixes (segments_of runs views pool cs))) where
    second_gives : (side : Side) → Gives side ws (c ∷ cs) (CompactorOnly c)
    unfolding segment_in
    second_gives Writer = writer_skip (segment_in runs views pool c) (segments_of runs views pool ws) (segments_of runs views pool cs) a
    second_gives Compactor =
        rw (filled_row c.prefix new_row c.tree, new_in)
        (compactor_second (segment_in runs views pool c) (segments_of runs views pool ws) (segments_of runs views pool cs) a b)

  pub gives : (side : Side) (ws cs : List SegmentRow) → Ascending (prefixes (segments_of runs views pool ws)) → Ascending (prefixes (segments_of runs views pool cs)) → Gives side ws cs (step_of pool ws cs)
  unfolding step_of segment_in
  gives Writer [] [] a b = refl
  gives Compactor [] [] a b = refl
  gives side (w ∷ ws) [] (Ascending.more a _) b = first_gives w ws [] a Above.none side
  gives side [] (c ∷ cs) a (Ascending.more b _) = second_gives c [] cs Above.none b side
  gives side (w ∷ ws) (c ∷ cs) (Ascending.more a _) (Ascending.more b _) = go (stand (bytes_in pool w.prefix) (bytes_in pool c.prefix))
    where
      go : {o : Ordering} → Stand (bytes_in pool w.prefix) (bytes_in pool c.prefix) o → Gives side (w ∷ ws) (c ∷ cs) (step_by o w c)
      go (Stand.less h) = first_gives w ws (c ∷ cs) a (Above.more h (above_on h b)) side
      go (Stand.same e) = both_gives w c ws cs (sym e) a (rw e b) side
      go (Stand.more h) = second_gives c (w ∷ ws) cs (Above.more h (above_on h a)) b side
