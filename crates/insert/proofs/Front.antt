-- The laws of laying a manifest part after part, at the front of the tables: behind nothing. Assumes nothing.
use mathlib.Core.Path.{◌≡◌, sym, ap, subst, ◌∙◌}
use mathlib.Core.List.{List, ◌++◌, append_assoc}
use Prim.Native.Nat.{ℕ, ◌+◌, ◌≤◌}
use native.Mathlib.Omega.{arith}
use lib.ListN.{length, length-append}
use Rattle.tables.specs.Layout.{write, over, joined}
use Rattle.tables.proofs.Writes.{write_front, then}
use Rattle.records.specs.Model.{Tree, Segment, Borrow}
use Rattle.records.specs.Fill.{empty, plus, sum, tree_fill, segment_fill}
use Rattle.records.specs.Layout.{tree_row, tree_runs_laid, tree_views_laid, tree_bytes, segments_laid, segments_runs_laid, segments_views_laid, segment_bytes, borrows_laid}
use Rattle.records.specs.declared.Fill.{Fill}
use Rattle.emit.specs.declared.LaidTree.{LaidTree}
use Rattle.records.proofs.Sums.{empty_plus}
use Rattle.records.proofs.Laid.{Table, segments, views, runs, borrows, ids, pool, at, at_empty}
use Rattle.records.proofs.Columns.{tree_bytes_long, segment_bytes_long}
use Rattle.emit.proofs.Laid.{joined_long}
use Rattle.copy.proofs.Manifest as laid

front : (t : Table) (d d' xs : List ℕ) → d' ≡ write d (at t empty) xs → d' ≡ over d xs
front t d d' xs w = w ∙ ap (λ (n : ℕ). write d n xs) (at_empty t) ∙ write_front d xs

-- ---- the tree, then the segments

module _ (t : Tree) (ss : List Segment) (l : LaidTree) (e : l ≡ record { tree = tree_row empty t; past = plus empty (tree_fill t) }) where
  module _ (d d₁ d₂ : List ℕ) where
    -- what comes behind the tree is laid from the tree's own fill on
    behind : (f : Fill → List ℕ) → d₁ ≡ over d (f (plus empty (tree_fill t))) → d₁ ≡ over d (f (tree_fill t))
    behind f h = h ∙ ap (λ (x : Fill). over d (f x)) (empty_plus (tree_fill t))

    pub trees_segments : d₁ ≡ write d (at segments l.past) (segments_laid l.past ss) → d₁ ≡ over d (segments_laid (tree_fill t) ss)
    trees_segments w = behind (λ f. segments_laid f ss) (front segments d d₁ (segments_laid (plus empty (tree_fill t)) ss) (laid.trees_segments empty t ss l e d d₁ d₂ w))

  module _ (d d₁ d₂ : List ℕ) (g : Fill) where
    pub trees_runs : at runs (plus empty g) ≤ length d → d₁ ≡ write d (at runs empty) (tree_runs_laid empty t) → d₂ ≡ write d₁ (at runs l.past) (segments_runs_laid l.past ss) → d₂ ≡ over d (tree_runs_laid empty t ++ segments_runs_laid (tree_fill t) ss)
    trees_runs h w v = behind d d₂ d (λ f. tree_runs_laid empty t ++ segments_runs_laid f ss) (front runs d d₂ (tree_runs_laid empty t ++ segments_runs_laid (plus empty (tree_fill t)) ss) (laid.trees_runs empty t ss l e d d₁ d₂ g h w v))

    pub trees_views : at views (plus empty g) ≤ length d → d₁ ≡ write d (at views empty) (tree_views_laid empty t) → d₂ ≡ write d₁ (at views l.past) (segments_views_laid l.past ss) → d₂ ≡ over d (tree_views_laid empty t ++ segments_views_laid (tree_fill t) ss)
    trees_views h w v = behind d d₂ d (λ f. tree_views_laid empty t ++ segments_views_laid f ss) (front views d d₂ (tree_views_laid empty t ++ segments_views_laid (plus empty (tree_fill t)) ss) (laid.trees_views empty t ss l e d d₁ d₂ g h w v))

    pub trees_bytes : at pool (plus empty g) ≤ length d → d₁ ≡ write d (at pool empty) (tree_bytes t) → d₂ ≡ write d₁ (at pool l.past) (joined segment_bytes ss) → d₂ ≡ over d (tree_bytes t ++ joined segment_bytes ss)
    trees_bytes h w v = front pool d d₂ (tree_bytes t ++ joined segment_bytes ss) (laid.trees_bytes empty t ss l e d d₁ d₂ g h w v)

  pub trees_laid : (q : Fill) → q ≡ plus l.past (sum segment_fill ss) → ◌≡◌ {A = LaidTree} (record { tree = l.tree; past = q }) (record { tree = tree_row empty t; past = plus (tree_fill t) (sum segment_fill ss) })
  trees_laid q p =
      laid.trees_laid empty t ss l e q p ∙ ap (λ (f : Fill). record { tree = tree_row empty t; past = f }) (empty_plus (plus (tree_fill t) (sum segment_fill ss)))

  pub trees_room : (b : Table) (g : Fill) (n : ℕ) → at b (plus (tree_fill t) g) ≤ n → at b (plus l.past g) ≤ n
  trees_room b g n h = subst (λ (x : Fill). at b (plus x g) ≤ n) (sym (laid.tree_past empty t ss l e ∙ empty_plus (tree_fill t))) h

-- ---- the whole

module _ (t : Tree) (ss : List Segment) (l : LaidTree) (e : l ≡ record { tree = tree_row empty t; past = plus (tree_fill t) (sum segment_fill ss) }) where
  past : l.past ≡ plus (tree_fill t) (sum segment_fill ss)
  past = ap (λ (x : LaidTree). x.past) e

  from : l ≡ record { tree = tree_row empty t; past = plus empty (plus (tree_fill t) (sum segment_fill ss)) }
  from = e ∙ ap (λ (f : Fill). record { tree = tree_row empty t; past = f }) (sym (empty_plus (plus (tree_fill t) (sum segment_fill ss))))

  pub rest_room : (b : Table) (g : Fill) (n : ℕ) → at b (plus (tree_fill t) (plus (sum segment_fill ss) g)) ≤ n → at b (plus l.past g) ≤ n
  rest_room b g n h = laid.rest_room empty t ss l from b g n (subst (λ (x : Fill). at b x ≤ n) (sym (empty_plus (plus (tree_fill t) (plus (sum segment_fill ss) g)))) h)

  module _ (d d₁ d₂ : List ℕ) where
    pub whole_borrows : (k : Fill) (bs : List Borrow) → d₁ ≡ write d (at borrows l.past) (borrows_laid (plus l.past k) bs) → d₁ ≡ over d (borrows_laid (plus (plus (tree_fill t) (sum segment_fill ss)) k) bs)
    whole_borrows k bs w =
        front borrows d d₁ (borrows_laid (plus empty (plus (plus (tree_fill t) (sum segment_fill ss)) k)) bs) (laid.whole_borrows empty t ss l from d d₁ d₂ k bs w)
        ∙ ap (λ (x : Fill). over d (borrows_laid x bs)) (empty_plus (plus (plus (tree_fill t) (sum segment_fill ss)) k))

    pub whole_ids : (xs : List ℕ) → d₁ ≡ write d (at ids l.past) xs → d₁ ≡ over d xs
    whole_ids xs w = front ids d d₁ xs (laid.whole_ids empty t ss l from d d₁ d₂ xs w)

    pub whole_bytes : (xs : List ℕ) → d₁ ≡ over d (tree_bytes t ++ joined segment_bytes ss) → d₂ ≡ write d₁ (at pool l.past) xs → d₂ ≡ over d (tree_bytes t ++ (joined segment_bytes ss ++ xs))
    whole_bytes xs w v =
        let ys = tree_bytes t ++ joined segment_bytes ss in
        let n : at pool l.past ≡ 0 + length ys =
        rw (past, length-append (tree_bytes t) (joined segment_bytes ss), tree_bytes_long t, joined_long segment_fill pool segment_bytes segment_bytes_long ss) (omega arith) in
        then d d₁ d₂ 0 (at pool l.past) ys xs (omega arith) (w ∙ sym (write_front d ys)) n v ∙ write_front d (ys ++ xs) ∙ ap (λ (z : List ℕ). over d z) (append_assoc (tree_bytes t) (joined segment_bytes ss) xs)
