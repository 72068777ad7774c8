-- The union without an extractor laid at the front of the tables: the joined trees, then the borrows. Assumes nothing.
use Rattle.std.specs.Prelude.{None, Option, Some}
use Prim.Native.Nat.{ℕ, suc, ◌+◌, ◌*◌, ◌≤◌}
use mathlib.Core.Path.{◌≡◌, refl, sym, ap, ◌∙◌}
use mathlib.Core.Bool.{true}
use mathlib.Core.List.{List, [], ◌∷◌, ◌++◌, append-nil}
use native.Mathlib.Omega.{arith}
use lib.IntN.{negsuc}
use lib.ListN.{length}
use Rattle.tables.specs.Layout.{write, over, joined}
use Rattle.tables.proofs.Writes.{write_front, then}
use Rattle.tables.proofs.Joined.{up_to_length}
use Rattle.ids.specs.declared.Uuid.{Uuid}
use Rattle.records.specs.Model.{Tree, Borrow, none, Manifest}
use Rattle.records.specs.Fill.{empty, plus, sum, tree_fill, manifest_fill}
use Rattle.records.specs.Layout.{tree_row, tree_bytes, tree_views_laid, tree_runs_laid, segments_laid, segments_views_laid, segments_runs_laid, borrows_laid, borrow_ids, borrow_path, past_name, manifest_row, layout}
use Rattle.records.specs.declared.Fill.{Fill}
use Rattle.records.specs.declared.ManifestRow.{ManifestRow}
use Rattle.records.specs.declared.TreeRow.{TreeRow}
use Rattle.records.proofs.Sums.{fill_same}
use Rattle.records.proofs.Columns.{borrows_fill, tree_fill_lem, tree_bytes_long}
use Rattle.measure.specs.Walk.{add_of}
use Rattle.project_views.proofs.Summed.{added_broken, added_on}
use Rattle.unite_trees.specs.Joined.{numbered_tree, numbered_segments}
use Rattle.unite_trees.proofs.Numbers.{numbered_tree_fill}
use Rattle.unite_groups.specs.Groups.{Member}
use Rattle.unite_groups.specs.Chosen.{lent_from, member_fill}
use Rattle.unite_groups.specs.Rows.{members_in, member_at}
use Rattle.unite_groups.proofs.Lent.{lent_fill_lem}
use Rattle.unite.specs.United.{assembled}

pub lent_long : (fresh : List Uuid) (n : ℕ) (ms : List Member) → length (lent_from fresh n ms) ≡ length ms
unfolding lent_from
lent_long fresh n [] = refl
lent_long fresh n (m ∷ ms) = ap suc (lent_long fresh (suc n) ms)

pub members_long : (groups work pool : List ℕ) (n : ℕ) → length (members_in groups work pool n) ≡ n
unfolding members_in
members_long groups work pool n = up_to_length (member_at groups work pool) n

-- borrows have no runs
pub lent_runs : (fresh : List Uuid) (ms : List Member) → (sum member_fill ms).runs ≡ 0
lent_runs fresh ms = rw (lent_fill_lem fresh 0 ms) (let h = ap (λ (f : Fill). f.runs) (borrows_fill (lent_from fresh 0 ms)) in omega (arith, h))

module _ (t : Tree) (ms : List Member) (fresh : List Uuid) (seq : ℕ) where
  abbrev bs : List Borrow
  bs = lent_from fresh 0 ms

  abbrev result : Manifest
  result = assembled t [] none seq bs

  -- what it fills
  pub plain_fill : manifest_fill result ≡ plus (tree_fill t) (sum member_fill ms)
  unfolding manifest_fill numbered_segments
  plain_fill = rw (numbered_tree_fill (length t.runs + 0) t, lent_fill_lem fresh 0 ms) (fill_same (omega arith))

  pub plain_counts : (plus (tree_fill t) (sum member_fill ms)).runs ≡ (tree_fill t).runs
  plain_counts = omega (arith, lent_runs fresh ms)

  -- it has no segments
  pub plain_segments : (d : List ℕ) → d ≡ over d (layout result).segments
  unfolding layout segments_laid numbered_segments
  plain_segments d = refl

  module _ (left : ℕ) (k : left ≡ (tree_fill t).runs) (c : Fill) (e : c ≡ empty) where
    numbers : left ≡ length t.runs + 0
    numbers = let h = ap (λ (f : Fill). f.runs) (tree_fill_lem t) in omega (arith, k, h)

    numbered_is : numbered_tree left t ≡ result.tree
    numbered_is = ap (λ (n : ℕ). numbered_tree n t) numbers

    pub plain_views : (d d' : List ℕ) → d' ≡ write d (c.views * 16) (tree_views_laid c (numbered_tree left t)) → d' ≡ over d (layout result).views
    unfolding layout segments_views_laid numbered_segments
    plain_views d d' w =
        let z : c.views * 16 ≡ 0 = rw e (omega arith) in
        w ∙ rw (z, e, numbered_is) (write_front d (tree_views_laid empty result.tree) ∙ ap (over d) (sym (append-nil (tree_views_laid empty result.tree))))

    pub plain_runs : (d d' : List ℕ) → d' ≡ write d (c.runs * 3) (tree_runs_laid c (numbered_tree left t)) → d' ≡ over d (layout result).runs
    unfolding layout segments_runs_laid numbered_segments
    plain_runs d d' w =
        let z : c.runs * 3 ≡ 0 = rw e (omega arith) in
        w ∙ rw (z, e, numbered_is) (write_front d (tree_runs_laid empty result.tree) ∙ ap (over d) (sym (append-nil (tree_runs_laid empty result.tree))))

    module _ (a : Fill) (q : a ≡ plus c (tree_fill t)) where
      past_is : a ≡ past_name result
      unfolding numbered_segments
      past_is = q ∙ rw (e, numbered_tree_fill (length t.runs + 0) t) (fill_same (omega arith))

      no_borrows : a.borrows * 9 ≡ 0
      no_borrows = let h = ap (λ (f : Fill). f.borrows) (tree_fill_lem t) in rw (q, e) (omega (arith, h))

      no_ids : a.ids * 2 ≡ 0
      no_ids = let h = ap (λ (f : Fill). f.ids) (tree_fill_lem t) in rw (q, e) (omega (arith, h))

      pub plain_borrows : (d d' : List ℕ) → d' ≡ write d (a.borrows * 9) (borrows_laid a bs) → d' ≡ over d (layout result).borrows
      unfolding layout
      plain_borrows d d' w = w ∙ rw (no_borrows, past_is) (write_front d (borrows_laid (past_name result) bs))

      pub plain_ids : (d d' : List ℕ) → d' ≡ write d (a.ids * 2) (joined borrow_ids bs) → d' ≡ over d (layout result).ids
      unfolding layout
      plain_ids d d' w = w ∙ rw no_ids (write_front d (joined borrow_ids bs))

      pub plain_pool : (d d₁ d₂ : List ℕ) → d₁ ≡ write d c.bytes (tree_bytes (numbered_tree left t)) → d₂ ≡ write d₁ a.bytes (joined borrow_path bs) → d₂ ≡ over d (layout result).pool
      unfolding layout numbered_segments
      plain_pool d d₁ d₂ w v =
          let xs = tree_bytes (numbered_tree left t) in
          let ys = joined borrow_path bs in
          let z : c.bytes ≡ 0 = rw e in
          let f : (tree_fill (numbered_tree left t)).bytes ≡ (tree_fill t).bytes = ap (λ (x : Fill). x.bytes) (numbered_tree_fill left t) in
          let h : a.bytes ≡ 0 + length xs = rw (q, e) (omega (arith, tree_bytes_long (numbered_tree left t), f)) in
          then d d₁ d₂ 0 a.bytes xs ys (omega arith) (rw z at w) h v ∙ write_front d (xs ++ ys) ∙ ap (λ (x : Tree). over d (tree_bytes x ++ ys)) numbered_is

    pub plain_row : (r : ManifestRow) (n : ℕ) (x : TreeRow) → x ≡ tree_row c (numbered_tree left t) → n ≡ length ms
        → r ≡ record {
          initialized = true;
          tree = x;
          segments = record { first = 0; count = 0 };
          segment_extractor_name = None;
          next_wal_sst_id = 1;
          replay_after_wal_id = 0;
          last_l0_clock_tick = negsuc 9223372036854775807;
          last_l0_seq = seq;
          recent_snapshot_min_seq = 0;
          external_dbs = record { first = 0; count = n };
          writer_epoch = 0;
          compactor_epoch = 0;
        }
        → r ≡ manifest_row result
    unfolding manifest_row numbered_segments
    plain_row r n x y h g = g ∙ rw (y, e, numbered_is, h, lent_long fresh 0 ms)

-- ---- measured and put

module _ (most c a b : Fill) (s : Option Fill) (q : c ≡ empty) (e : s ≡ add_of most c a) where
  pub plain_broken : s ≡ None → None ≡ add_of most empty (plus a b)
  plain_broken h = added_broken most c a b (plus a b) refl s e h ∙ ap (λ (x : Fill). add_of most x (plus a b)) q

  pub plain_added : (d : Fill) (r : Option Fill) → s ≡ Some d → r ≡ add_of most d b → r ≡ add_of most empty (plus a b)
  plain_added d r h k = added_on most c a b (plus a b) refl s d r e h k ∙ ap (λ (x : Fill). add_of most x (plus a b)) q

module _ (t : Tree) (c a : Fill) (e : c ≡ empty) (q : a ≡ plus c (tree_fill t)) (m n : ℕ) where
  pub room_borrows : m * 9 ≤ n → (a.borrows + m) * 9 ≤ n
  room_borrows h = let f = ap (λ (f : Fill). f.borrows) (tree_fill_lem t) in rw (q, e) (omega (arith, f))

  pub room_ids : m * 2 ≤ n → (a.ids + m) * 2 ≤ n
  room_ids h = let f = ap (λ (f : Fill). f.ids) (tree_fill_lem t) in rw (q, e) (omega (arith, f))

  pub room_pool : (tree_fill t).bytes + m ≤ n → a.bytes + m ≤ n
  room_pool h = rw (q, e) (omega arith)
