-- What a lawful manifest's segment rows keep. Assumes nothing.
use Rattle.std.specs.Prelude.{Ok}
use Prim.Native.Nat.{ℕ, zero, suc, ◌+◌, ◌*◌, ◌/◌, ◌<◌}
use mathlib.Core.Path.{◌≡◌, refl, sym, ap, ◌∙◌}
use mathlib.Core.Bool.{Bool, true, false, ◌&&◌}
use native.Mathlib.Omega.{arith}
use native.Mathlib.Decide.{dec_lt}
use lib.Dec.{leb}
use lib.ListN.{length}
use Rattle.keys.specs.Pick.{pick}
use Rattle.keys.specs.Key.{less_of}
use Rattle.tables.specs.Layout.{joined}
use Rattle.tables.specs.Window.{lies_in, held_of}
use Rattle.tables.specs.declared.Window.{Window}
use Rattle.records.specs.Model.{View, Segment, Borrow, trees}
use Rattle.records.specs.Row.{at, segment_at}
use Rattle.records.specs.Fill.{fits, view_keys, name_keys, manifest_fill}
use Rattle.records.specs.Decode.{Lent, bytes_in, tree_in, segment_in, manifest_in}
use Rattle.records.specs.declared.Limits.{Limits}
use Rattle.records.specs.declared.ManifestRow.{ManifestRow}
use Rattle.measure.specs.Tests.{all_of, all_below, chain}
use Rattle.measure.specs.Within.{tree_views, all_views, short, within}
use Rattle.measure.specs.Placed.{key_in, opened, tree_placed, segment_placed, segments_placed, name_placed, borrows_placed, placed}
use Rattle.measure.specs.Measure.{l1_of}
use Rattle.measure.proofs.Lists.{all_up_to}
use Rattle.lawful.specs.Law.{l2_of}
use Rattle.lawful.specs.Judge.{judged_of}
use Rattle.lawful.proofs.Rules.{all_trees, segments_all}
use Rattle.segments.specs.Prefixes.{prefixes_in}
use Rattle.segments.proofs.Places.{and_both}
use Rattle.segments.proofs.Answers.{prefixes_in_lem}
use Rattle.segments.proofs.Demand3.{chain_prefixes, Keeps, lawful_keeps}
use Rattle.merge.specs.Steps.{rows_in, row_kept}
use Rattle.merge.proofs.Keeping.{both_and}

below_at : (p : ℕ → Bool) (n k : ℕ) → k < n → all_below p n ≡ true → p k ≡ true
below_at p zero k h e = absurd (omega arith)
below_at p (suc n) k h e =
    let w = and_both (all_below p n) (p n) e in
    elim (dec_lt k n) [ yes l ↦ below_at p n k l w.0 | no l ↦ (let z : k ≡ n = omega arith in rw z w.1) ]

below_all : (p : ℕ → Bool) (n : ℕ) → ((k : ℕ) → k < n → p k ≡ true) → all_below p n ≡ true
below_all p zero h = refl
below_all p (suc n) h = both_and (below_all p n (λ k l. h k (omega arith))) (h n (omega arith))

held_lies : (w : Window) (rows k : ℕ) → k < held_of w rows → k < w.count
unfolding held_of
held_lies w rows k h = go (leb (w.first + w.count) rows) h
  where
    go : (b : Bool) → k < pick b w.count 0 → k < w.count
    go true h = h
    go false h = absurd (omega arith)

module _ (lim : Limits) (l : Lent) (m : ManifestRow) (e : judged_of lim l m ≡ Ok tt) where
  keeps : Keeps lim l m
  keeps = lawful_keeps lim l m e

  pub ascends_of : chain less_of (prefixes_in l.segments l.pool m.segments) ≡ true
  unfolding l2_of
  ascends_of = ap (chain less_of) (sym (prefixes_in_lem l m)) ∙ sym (chain_prefixes less_of (manifest_in l m).segments) ∙ keeps.second

  both : (placed l m ≡ true) × (within lim (manifest_in l m) ≡ true)
  unfolding l1_of
  both = and_both (placed l m) (within lim (manifest_in l m)) keeps.first

  rows_placed : segments_placed (length l.pool) l.views l.runs l.segments m.segments ≡ true
  unfolding placed
  rows_placed =
      let t = tree_placed (length l.pool) l.views l.runs m.tree in
      let s = segments_placed (length l.pool) l.views l.runs l.segments m.segments in
      let n = name_placed (length l.pool) m.segment_extractor_name in
      let b = borrows_placed (length l.pool) l.ids l.borrows m.external_dbs in
      (and_both t s (and_both (t && s) n (and_both (t && s && n) b both.0).0).0).1

  row_placed : (k : ℕ) → k < held_of m.segments (length l.segments / 12)
      → (key_in (length l.pool) (segment_at l.segments (m.segments.first + k)).prefix && tree_placed (length l.pool) l.views l.runs (segment_at l.segments (m.segments.first + k)).tree) ≡ true
  unfolding segments_placed segment_placed
  row_placed k h =
      let i = m.segments.first + k in
      let a = opened (at l.segments (i * 12 + 2)) true in
      let b = opened (at l.segments (i * 12 + 5)) true in
      let p = key_in (length l.pool) (segment_at l.segments i).prefix in
      let g = tree_placed (length l.pool) l.views l.runs (segment_at l.segments i).tree in
      let q : ℕ → Bool = λ j. segment_placed (length l.pool) l.views l.runs l.segments (m.segments.first + j) in
      let r = below_at q m.segments.count k (held_lies m.segments (length l.segments / 12) k h) (and_both (lies_in m.segments (length l.segments / 12)) (all_below q m.segments.count) rows_placed).1 in
      let u = and_both (a && b && p) g r in
      both_and (and_both (a && b) p u.0).1 u.1

  abbrev view_short : View → Bool
  view_short v = all_of (short lim.key) (view_keys v)

  row_short : (k : ℕ) → k < held_of m.segments (length l.segments / 12)
      → (short lim.prefix (bytes_in l.pool (segment_at l.segments (m.segments.first + k)).prefix) && all_of view_short (tree_views (tree_in l.runs l.views l.pool (segment_at l.segments (m.segments.first + k)).tree))) ≡ true
  unfolding within all_views manifest_in segment_in
  row_short k h =
      let x = manifest_in l m in
      let f = fits (manifest_fill x) lim.fill in
      let a = all_of (λ (s : Segment). short lim.prefix s.prefix) x.segments in
      let n = all_of (short lim.name) (name_keys x.extractor) in
      let v = all_of view_short (joined tree_views (trees x)) in
      let b = all_of (λ (b : Borrow). short lim.path b.path) x.borrows in
      let u = and_both (f && a && n) v (and_both (f && a && n && v) b both.1).0 in
      let t = and_both (all_of view_short (tree_views x.tree)) (all_of (λ (s : Segment). all_of view_short (tree_views s.tree)) x.segments) (sym (all_trees view_short tree_views x) ∙ u.1) in
      let p = (and_both f a (and_both (f && a) n u.0).0).1 in
      let n = held_of m.segments (length l.segments / 12) in
      both_and
      (below_at _ n k h (sym (segments_all l.segments l.runs l.views l.pool m.segments (λ (s : Segment). short lim.prefix s.prefix)) ∙ p))
      (below_at _ n k h (sym (segments_all l.segments l.runs l.views l.pool m.segments (λ (s : Segment). all_of view_short (tree_views s.tree))) ∙ t.1))

  pub rows_of : all_of (row_kept lim l.views l.runs l.pool) (rows_in l.segments m.segments) ≡ true
  unfolding row_kept
  rows_of =
      all_up_to (row_kept lim l.views l.runs l.pool) (λ k. segment_at l.segments (m.segments.first + k)) (held_of m.segments (length l.segments / 12))
      ∙ below_all (λ k. row_kept lim l.views l.runs l.pool (segment_at l.segments (m.segments.first + k))) (held_of m.segments (length l.segments / 12)) (λ k h. both_and (row_placed k h) (row_short k h))
