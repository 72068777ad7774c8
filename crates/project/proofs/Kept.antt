-- The rows of a lawful manifest keep their part of L1. Assumes nothing.
use Rattle.std.specs.Prelude.{Ok}
use Prim.Native.Nat.{ℕ, zero, suc, ◌+◌, ◌/◌}
use mathlib.Core.Path.{◌≡◌, refl, sym, ◌∙◌}
use mathlib.Core.Bool.{Bool, true, ◌&&◌}
use lib.ListN.{length}
use Rattle.tables.specs.Layout.{joined}
use Rattle.tables.specs.Window.{held_of}
use Rattle.records.specs.Model.{View, Segment, Borrow, trees}
use Rattle.records.specs.Row.{segment_at}
use Rattle.records.specs.Fill.{fits, view_keys, name_keys, manifest_fill}
use Rattle.records.specs.Decode.{Lent, bytes_in, tree_in, manifest_in}
use Rattle.records.specs.declared.Limits.{Limits}
use Rattle.records.specs.declared.ManifestRow.{ManifestRow}
use Rattle.records.specs.declared.SegmentRow.{SegmentRow}
use Rattle.measure.specs.Tests.{all_of, all_below}
use Rattle.measure.specs.Within.{tree_views, all_views, short, within}
use Rattle.measure.specs.Placed.{key_in, tree_placed, segments_placed, name_placed, borrows_placed, placed}
use Rattle.measure.specs.Measure.{l1_of}
use Rattle.measure.proofs.Lists.{all_up_to}
use Rattle.lawful.specs.Judge.{judged_of}
use Rattle.lawful.proofs.Rules.{all_trees}
use Rattle.segments.proofs.Places.{and_both}
use Rattle.segments.proofs.Demand3.{lawful_keeps}
use Rattle.merge.specs.Steps.{row_kept}
use Rattle.merge.proofs.Lawfully.{rows_of}
use Rattle.project_lay.specs.Steps.{tree_kept, rows_kept}

below_map : (p q : ℕ → Bool) → ((k : ℕ) → p k ≡ true → q k ≡ true) → (n : ℕ) → all_below p n ≡ true → all_below q n ≡ true
below_map p q f zero h = refl
below_map p q f (suc n) h = let w = and_both (all_below p n) (p n) h in rw (below_map p q f n w.0, f n w.1)

module _ (lim : Limits) (l : Lent) (m : ManifestRow) (e : judged_of lim l m ≡ Ok tt) where
  -- L1, in its two parts
  pub both : (placed l m ≡ true) × (within lim (manifest_in l m) ≡ true)
  unfolding l1_of
  both = and_both (placed l m) (within lim (manifest_in l m)) (lawful_keeps lim l m e).first

  tree_placed_lem : tree_placed (length l.pool) l.views l.runs m.tree ≡ true
  unfolding placed
  tree_placed_lem =
      let t = tree_placed (length l.pool) l.views l.runs m.tree in
      let s = segments_placed (length l.pool) l.views l.runs l.segments m.segments in
      let n = name_placed (length l.pool) m.segment_extractor_name in
      let b = borrows_placed (length l.pool) l.ids l.borrows m.external_dbs in
      (and_both t s (and_both (t && s) n (and_both (t && s && n) b both.0).0).0).0

  abbrev view_short : View → Bool
  view_short v = all_of (short lim.key) (view_keys v)

  tree_short_lem : all_of view_short (tree_views (tree_in l.runs l.views l.pool m.tree)) ≡ true
  unfolding within all_views manifest_in
  tree_short_lem =
      let x = manifest_in l m in
      let f = fits (manifest_fill x) lim.fill in
      let a = all_of (λ (s : Segment). short lim.prefix s.prefix) x.segments in
      let n = all_of (short lim.name) (name_keys x.extractor) in
      let v = all_of view_short (joined tree_views (trees x)) in
      let b = all_of (λ (b : Borrow). short lim.path b.path) x.borrows in
      let u = and_both (f && a && n) v (and_both (f && a && n && v) b both.1).0 in
      (and_both (all_of view_short (tree_views x.tree)) (all_of (λ (s : Segment). all_of view_short (tree_views s.tree)) x.segments) (sym (all_trees view_short tree_views x) ∙ u.1)).0

  pub tree_kept_lem : tree_kept lim l.views l.runs l.pool m.tree ≡ true
  unfolding tree_kept
  tree_kept_lem = rw (tree_placed_lem, tree_short_lem)

  row_tree : (s : SegmentRow) → row_kept lim l.views l.runs l.pool s ≡ true → tree_kept lim l.views l.runs l.pool s.tree ≡ true
  unfolding row_kept tree_kept
  row_tree s h =
      let k = key_in (length l.pool) s.prefix in
      let p = tree_placed (length l.pool) l.views l.runs s.tree in
      let q = short lim.prefix (bytes_in l.pool s.prefix) in
      let v = all_of view_short (tree_views (tree_in l.runs l.views l.pool s.tree)) in
      let w = and_both (k && p) (q && v) h in
      rw ((and_both k p w.0).1, (and_both q v w.1).1)

  pub rows_kept_lem : rows_kept lim l.segments l.views l.runs l.pool m.segments ≡ true
  unfolding rows_kept
  rows_kept_lem =
      let n = held_of m.segments (length l.segments / 12) in
      below_map (λ k. row_kept lim l.views l.runs l.pool (segment_at l.segments (m.segments.first + k))) (λ k. tree_kept lim l.views l.runs l.pool (segment_at l.segments (m.segments.first + k)).tree)
      (λ k h. row_tree (segment_at l.segments (m.segments.first + k)) h) n
      (sym (all_up_to (row_kept lim l.views l.runs l.pool) (λ k. segment_at l.segments (m.segments.first + k)) n) ∙ rows_of lim l m e)
