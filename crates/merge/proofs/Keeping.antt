-- Rows that keep L1 by themselves: those of a lawful manifest do, and so does what is merged of them. Assumes nothing.
use Rattle.std.specs.Prelude.{None, Option, Some}
use Prim.Native.Nat.{ℕ, zero, suc, ◌+◌, ◌/◌, ◌≤◌}
use mathlib.Core.Path.{◌≡◌, refl, sym, ◌∙◌}
use mathlib.Core.Bool.{Bool, true, false, ◌&&◌}
use mathlib.Core.List.{List, [], ◌∷◌, ◌++◌}
use native.Mathlib.Omega.{arith}
use native.Mathlib.Decide.{dec_lt}
use lib.Dec.{leb}
use lib.ListN.{length, drop}
use borrow.Author.Tests.{leb-true, le-leb}
use Rattle.keys.specs.Pick.{pick}
use Rattle.keys.specs.Key.{order_of}
use Rattle.std.specs.declared.cmp.Ordering.{Ordering}
use Rattle.std.specs.declared.cmp.Ordering.TheVariants.{Less, Equal, Greater}
use Rattle.tables.specs.Layout.{joined}
use Rattle.tables.specs.Window.{held_of}
use Rattle.tables.specs.declared.Window.{Window}
use Rattle.tables.proofs.Holds.{pick_same}
use Rattle.records.specs.Model.{View}
use Rattle.records.specs.Fill.{view_keys}
use Rattle.records.specs.Decode.{bytes_in, views_in, runs_in, tree_in}
use Rattle.records.specs.declared.Place.{Place}
use Rattle.records.specs.declared.Limits.{Limits}
use Rattle.records.specs.declared.TreeRow.{TreeRow}
use Rattle.records.specs.declared.SegmentRow.{SegmentRow}
use Rattle.measure.specs.Tests.{all_of, all_below}
use Rattle.measure.specs.Within.{run_views, short}
use Rattle.measure.specs.Placed.{key_in, view_placed, views_placed, runs_placed, tree_placed}
use Rattle.measure.proofs.Lists.{all_append}
use Rattle.segments.proofs.Places.{and_both}
use Rattle.merge.specs.Tree.{absorbed, until}
use Rattle.merge.specs.Rows.{left_of, merged_tree}
use Rattle.merge.specs.Steps.{step_by, step_of, new_row, merged_row, empty_row, filled_keep, keep_by, row_kept}
use Rattle.merge.specs.declared.Side.{Side}
use Rattle.merge.specs.declared.Side.TheVariants.{Writer, Compactor}
use Rattle.merge.specs.declared.MergeStep.{MergeStep}
use Rattle.merge.specs.declared.MergeStep.TheVariants.{End, WriterOnly, CompactorOnly, Both}
use Rattle.merge.proofs.Trees.{left_most, l0_merged}

pub both_and : {a b : Bool} → a ≡ true → b ≡ true → (a && b) ≡ true
both_and e f = rw (e, f)

-- ---- a list cut short
pub all_until : {A : Type 0} (p f : A → Bool) (xs : List A) → all_of p xs ≡ true → all_of p (until f xs) ≡ true
all_until p f [] e = refl
all_until p f (x ∷ xs) e = let w = and_both (p x) (all_of p xs) e in go (f x) w.0 (all_until p f xs w.1)
  where
    go : (b : Bool) → p x ≡ true → all_of p (until f xs) ≡ true → all_of p (pick b [] (x ∷ until f xs)) ≡ true
    go true h i = refl
    go false h i = both_and h i

below_less : (p : ℕ → Bool) (k n : ℕ) → k ≤ n → all_below p n ≡ true → all_below p k ≡ true
below_less p k zero h e = let z : k ≡ 0 = omega arith in rw z
below_less p k (suc n) h e =
    elim (dec_lt k (suc n)) [ yes l ↦ below_less p k n (omega arith) (and_both (all_below p n) (p n) e).0 | no l ↦ (let z : k ≡ suc n = omega arith in rw z e) ]

module _ (lim : Limits) (views runs pool : List ℕ) where
  abbrev view_short : View → Bool
  view_short v = all_of (short lim.key) (view_keys v)

  -- ---- a merged row
  views_less : (w : Window) (k : ℕ) → k ≤ held_of w (length views / 16) → views_placed (length pool) views w ≡ true → views_placed (length pool) views (record { first = w.first; count = k }) ≡ true
  unfolding views_placed held_of
  views_less w k h e =
      let a = and_both (leb (w.first + w.count) (length views / 16)) (all_below (λ i. view_placed (length pool) views (w.first + i)) w.count) e in
      let n : k ≤ w.count = (rw a.0 at h) in
      let l : w.first + w.count ≤ length views / 16 = leb-true (w.first + w.count) (length views / 16) a.0 in
      both_and (le-leb (w.first + k) (length views / 16) (omega arith)) (below_less (λ i. view_placed (length pool) views (w.first + i)) k w.count n a.1)

  -- what a row's test says, part by part
  record Parts (p : Place) (t : TreeRow) : Type 0 where
    key : key_in (length pool) p ≡ true
    view_rows_lem : views_placed (length pool) views t.l0 ≡ true
    run_rows_lem : runs_placed (length pool) views runs t.compacted ≡ true
    long : short lim.prefix (bytes_in pool p) ≡ true
    l0 : all_of view_short (views_in views pool t.l0) ≡ true
    deep : all_of view_short (joined run_views (runs_in runs views pool t.compacted)) ≡ true

  parts_of : (s : SegmentRow) → row_kept lim views runs pool s ≡ true → Parts s.prefix s.tree
  unfolding row_kept tree_placed tree_in
  parts_of s e =
      let vs = views_in views pool s.tree.l0 in
      let ws = joined run_views (runs_in runs views pool s.tree.compacted) in
      let a =
      and_both (key_in (length pool) s.prefix && (views_placed (length pool) views s.tree.l0 && runs_placed (length pool) views runs s.tree.compacted))
      (short lim.prefix (bytes_in pool s.prefix) && all_of view_short (vs ++ ws)) e
      in
      let b = and_both (key_in (length pool) s.prefix) (views_placed (length pool) views s.tree.l0 && runs_placed (length pool) views runs s.tree.compacted) a.0 in
      let d = and_both (views_placed (length pool) views s.tree.l0) (runs_placed (length pool) views runs s.tree.compacted) b.1 in
      let f = and_both (short lim.prefix (bytes_in pool s.prefix)) (all_of view_short (vs ++ ws)) a.1 in
      let g = and_both (all_of view_short vs) (all_of view_short ws) (sym (all_append view_short vs ws) ∙ f.1) in
      record { key = b.0; view_rows_lem = d.0; run_rows_lem = d.1; long = f.0; l0 = g.0; deep = g.1 }

  of_parts : (p : Place) (t : TreeRow) → Parts p t → row_kept lim views runs pool (record { prefix = p; tree = t }) ≡ true
  unfolding row_kept tree_placed tree_in
  of_parts p t x =
      both_and (both_and x.key (both_and x.view_rows_lem x.run_rows_lem))
      (both_and x.long (all_append view_short (views_in views pool t.l0) (joined run_views (runs_in runs views pool t.compacted)) ∙ both_and x.l0 x.deep))

  merged_parts : (p q : Place) (w c : TreeRow) → Parts p w → Parts q c → Parts p (merged_tree views w c)
  unfolding merged_tree
  merged_parts p q w c x y =
      record {
        key = x.key;
        view_rows_lem = views_less w.l0 (left_of views w.l0 c) (left_most views w.l0 c) x.view_rows_lem;
        run_rows_lem = y.run_rows_lem;
        long = x.long;
        l0 = rw (l0_is) (all_until view_short (absorbed (tree_in runs views pool c)) (views_in views pool w.l0) x.l0);
        deep = y.deep;
      }
    where
      l0_is : views_in views pool (record { first = w.l0.first; count = left_of views w.l0 c }) ≡ until (absorbed (tree_in runs views pool c)) (views_in views pool w.l0)
      l0_is = l0_merged runs views pool w c

  new_parts : (p : Place) (t : TreeRow) → Parts p t → Parts p new_row
  unfolding views_placed runs_placed views_in runs_in held_of
  new_parts p t x =
      record {
        key = x.key;
        view_rows_lem = both_and (le-leb (0 + 0) (length views / 16) (omega arith)) refl;
        run_rows_lem = both_and (le-leb (0 + 0) (length runs / 3) (omega arith)) refl;
        long = x.long;
        l0 = rw (pick_same {A = ℕ} (leb (0 + 0) (length views / 16)) 0);
        deep = rw (pick_same {A = ℕ} (leb (0 + 0) (length runs / 3)) 0);
      }

  merged_kept : (w c : SegmentRow) → row_kept lim views runs pool w ≡ true → row_kept lim views runs pool c ≡ true → row_kept lim views runs pool (merged_row views w.prefix w.tree c.tree) ≡ true
  merged_kept w c a b = of_parts w.prefix (merged_tree views w.tree c.tree) (merged_parts w.prefix c.prefix w.tree c.tree (parts_of w a) (parts_of c b))

  new_kept : (w : SegmentRow) → row_kept lim views runs pool w ≡ true → row_kept lim views runs pool (record { prefix = w.prefix; tree = new_row }) ≡ true
  new_kept w a = of_parts w.prefix new_row (new_parts w.prefix w.tree (parts_of w a))

  -- ---- what a step gives keeps L1 where its rows do
  abbrev StepKept : MergeStep → Type 0
  StepKept End = Unit
  StepKept (WriterOnly w) = row_kept lim views runs pool w ≡ true
  StepKept (CompactorOnly c) = row_kept lim views runs pool c ≡ true
  StepKept (Both w c) = (row_kept lim views runs pool w ≡ true) × (row_kept lim views runs pool c ≡ true)

  pub step_kept : (ws cs : List SegmentRow) → all_of (row_kept lim views runs pool) ws ≡ true → all_of (row_kept lim views runs pool) cs ≡ true → StepKept (step_of pool ws cs)
  unfolding step_of
  step_kept [] [] a b = tt
  step_kept (w ∷ ws) [] a b = (and_both (row_kept lim views runs pool w) (all_of (row_kept lim views runs pool) ws) a).0
  step_kept [] (c ∷ cs) a b = (and_both (row_kept lim views runs pool c) (all_of (row_kept lim views runs pool) cs) b).0
  step_kept (w ∷ ws) (c ∷ cs) a b =
      go (order_of (bytes_in pool w.prefix) (bytes_in pool c.prefix)) (and_both (row_kept lim views runs pool w) (all_of (row_kept lim views runs pool) ws) a).0 (and_both (row_kept lim views runs pool c) (all_of (row_kept lim views runs pool) cs) b).0
    where
      go : (o : Ordering) → row_kept lim views runs pool w ≡ true → row_kept lim views runs pool c ≡ true → StepKept (step_by o w c)
      go Less x y = x
      go Equal x y = (x, y)
      go Greater x y = y

  abbrev pub KeepKept : Option SegmentRow → Type 0
  KeepKept None = Unit
  KeepKept (Some s) = row_kept lim views runs pool s ≡ true

  filled_keeps : (s : SegmentRow) → row_kept lim views runs pool s ≡ true → KeepKept (filled_keep views runs s)
  filled_keeps s a = go (empty_row views runs s.tree)
    where
      go : (b : Bool) → KeepKept (pick b None (Some s))
      go true = tt
      go false = a

  pub keep_kept : (side : Side) (s : MergeStep) → StepKept s → KeepKept (keep_by side views runs s)
  keep_kept Writer End k = tt
  keep_kept Writer (WriterOnly w) k = merged_kept w (record { prefix = w.prefix; tree = new_row }) k (new_kept w k)
  keep_kept Writer (CompactorOnly c) k = tt
  keep_kept Writer (Both w c) k = merged_kept w c k.0 k.1
  keep_kept Compactor End k = tt
  keep_kept Compactor (WriterOnly w) k = filled_keeps (merged_row views w.prefix w.tree new_row) (merged_kept w (record { prefix = w.prefix; tree = new_row }) k (new_kept w k))
  keep_kept Compactor (CompactorOnly c) k = filled_keeps (merged_row views c.prefix new_row c.tree) (merged_kept (record { prefix = c.prefix; tree = new_row }) c (new_kept c k) k)
  keep_kept Compactor (Both w c) k = filled_keeps (merged_row views w.prefix w.tree c.tree) (merged_kept w c k.0 k.1)

pub all_drop : {A : Type 0} (p : A → Bool) (i : ℕ) (xs : List A) → all_of p xs ≡ true → all_of p (drop i xs) ≡ true
all_drop p zero xs e = e
all_drop p (suc i) [] e = e
all_drop p (suc i) (x ∷ xs) e = all_drop p i xs (and_both (p x) (all_of p xs) e).1
