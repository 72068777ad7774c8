-- A manifest laid from a cursor on, part after part. Assumes nothing.
use Rattle.std.specs.Prelude.{Option}
use mathlib.Core.Path.{◌≡◌, sym, ap, subst, ◌∙◌}
use mathlib.Core.List.{List, ◌++◌, append_assoc}
use Prim.Native.Nat.{ℕ, ◌+◌, ◌/◌, ◌≤◌}
use native.Mathlib.Omega.{arith}
use lib.ListN.{length, length-append}
use Rattle.tables.specs.Layout.{write, joined}
use Rattle.tables.proofs.Joined.{up_to_length}
use Rattle.tables.specs.Window.{held_of}
use Rattle.tables.specs.declared.Window.{Window}
use Rattle.records.specs.Row.{segment_at, borrow_at}
use Rattle.records.specs.Decode.{segment_in, segments_in, borrow_in, borrows_in, Lent, manifest_in}
use Rattle.records.specs.Model.{View, Run, Tree, Segment, Borrow, Extractor}
use Rattle.records.specs.Fill.{plus, sum, key_fill, view_fill, run_fill, tree_fill, segment_fill, name_keys}
use Rattle.records.specs.Layout.{run, tree_row, tree_runs_laid, tree_views_laid, tree_bytes, segments_laid, segments_runs_laid, segments_views_laid, segment_bytes, name_row, borrows_laid, borrow_ids, borrow_path, manifest_row_at}
use Rattle.records.specs.declared.Fill.{Fill}
use Rattle.records.specs.declared.ManifestRow.{ManifestRow}
use Rattle.emit.specs.declared.LaidTree.{LaidTree}
use Rattle.emit.specs.declared.LaidName.{LaidName}
use Rattle.records.proofs.Sums.{plus_assoc}
use Rattle.records.proofs.Laid.{Table, segments, views, runs, borrows, ids, pool, at, at_plus}
use Rattle.emit.proofs.Laid.{room_rest, put_then, put_skip, none_filled, joined_long}
use Rattle.records.proofs.Columns.{keys_fill, view_fill_lem, run_fill_lem, tree_runs_long, tree_views_long, tree_bytes_long, segment_bytes_long}
use Rattle.emit.proofs.Columns.{tree_none, tree_no_segments}
use Rattle.records.specs.declared.Place.{Place}

-- ---- the tree, then the segments

module _ (c : Fill) (t : Tree) (ss : List Segment) (l : LaidTree) (e : l ≡ record { tree = tree_row c t; past = plus c (tree_fill t) }) where
  pub tree_past : l.past ≡ plus c (tree_fill t)
  tree_past = ap (λ (x : LaidTree). x.past) e

  module _ (d d₁ d₂ : List ℕ) where
    pub trees_segments : d₁ ≡ write d (at segments l.past) (segments_laid l.past ss) → d₁ ≡ write d (at segments c) (segments_laid (plus c (tree_fill t)) ss)
    trees_segments w = rw (← tree_past) (put_skip segments c (tree_fill t) l.past d d₁ (segments_laid l.past ss) tree_past (tree_no_segments t) w)

    pub trees_runs : (g : Fill) → at runs (plus c g) ≤ length d → d₁ ≡ write d (at runs c) (tree_runs_laid c t) → d₂ ≡ write d₁ (at runs l.past) (segments_runs_laid l.past ss) → d₂ ≡ write d (at runs c) (tree_runs_laid c t ++ segments_runs_laid (plus c (tree_fill t)) ss)
    trees_runs g h w v = rw (← tree_past) (put_then runs c (tree_fill t) l.past g d d₁ d₂ (tree_runs_laid c t) (segments_runs_laid l.past ss) h tree_past (tree_runs_long c t) w v)

    pub trees_views : (g : Fill) → at views (plus c g) ≤ length d → d₁ ≡ write d (at views c) (tree_views_laid c t) → d₂ ≡ write d₁ (at views l.past) (segments_views_laid l.past ss) → d₂ ≡ write d (at views c) (tree_views_laid c t ++ segments_views_laid (plus c (tree_fill t)) ss)
    trees_views g h w v = rw (← tree_past) (put_then views c (tree_fill t) l.past g d d₁ d₂ (tree_views_laid c t) (segments_views_laid l.past ss) h tree_past (tree_views_long c t) w v)

    pub trees_bytes : (g : Fill) → at pool (plus c g) ≤ length d → d₁ ≡ write d (at pool c) (tree_bytes t) → d₂ ≡ write d₁ (at pool l.past) (joined segment_bytes ss) → d₂ ≡ write d (at pool c) (tree_bytes t ++ joined segment_bytes ss)
    trees_bytes g h w v = put_then pool c (tree_fill t) l.past g d d₁ d₂ (tree_bytes t) (joined segment_bytes ss) h tree_past (tree_bytes_long t) w v

  pub trees_laid : (q : Fill) → q ≡ plus l.past (sum segment_fill ss) → ◌≡◌ {A = LaidTree} (record { tree = l.tree; past = q }) (record { tree = tree_row c t; past = plus c (plus (tree_fill t) (sum segment_fill ss)) })
  trees_laid q p = rw (p, e) (ap (λ (f : Fill). record { tree = tree_row c t; past = f }) (plus_assoc c (tree_fill t) (sum segment_fill ss)))

-- ---- the name, then the borrows

module _ (c : Fill) (n : Extractor) (bs : List Borrow) (l : LaidName) (e : l ≡ record { name = name_row c.bytes n; past = plus c (sum key_fill (name_keys n)) }) where
  pub name_past : l.past ≡ plus c (sum key_fill (name_keys n))
  name_past = ap (λ (x : LaidName). x.past) e

  pub name_row_lem : l.name ≡ name_row c.bytes n
  name_row_lem = ap (λ (x : LaidName). x.name) e

  module _ (d d₁ d₂ : List ℕ) where
    pub rest_borrows : d₁ ≡ write d (at borrows l.past) (borrows_laid l.past bs) → d₁ ≡ write d (at borrows c) (borrows_laid (plus c (sum key_fill (name_keys n))) bs)
    rest_borrows w = rw (← name_past) (put_skip borrows c (sum key_fill (name_keys n)) l.past d d₁ (borrows_laid l.past bs) name_past (rw (keys_fill (name_keys n))) w)

    pub rest_ids : d₁ ≡ write d (at ids l.past) (joined borrow_ids bs) → d₁ ≡ write d (at ids c) (joined borrow_ids bs)
    rest_ids w = put_skip ids c (sum key_fill (name_keys n)) l.past d d₁ (joined borrow_ids bs) name_past (rw (keys_fill (name_keys n))) w

    pub rest_bytes : (g : Fill) → at pool (plus c g) ≤ length d → d₁ ≡ write d (at pool c) (run (name_keys n)) → d₂ ≡ write d₁ (at pool l.past) (joined borrow_path bs) → d₂ ≡ write d (at pool c) (run (name_keys n) ++ joined borrow_path bs)
    rest_bytes g h w v = put_then pool c (sum key_fill (name_keys n)) l.past g d d₁ d₂ (run (name_keys n)) (joined borrow_path bs) h name_past (rw (keys_fill (name_keys n))) w v

-- ---- the whole

module _ (c : Fill) (t : Tree) (ss : List Segment) where
  abbrev trees : Fill
  trees = plus (tree_fill t) (sum segment_fill ss)

  -- a table that no tree and no segment writes into
  trees_none : (b : Table) → ((v : View) → at b (view_fill v) ≡ 0) → ((r : Run) → at b (run_fill r) ≡ 0) → ((s : Segment) → at b (segment_fill s) ≡ at b (tree_fill s.tree)) → at b trees ≡ 0
  trees_none b hv hr hs = rw (at_plus b (tree_fill t) (sum segment_fill ss), tree_none b hv hr t, none_filled segment_fill b (λ s. hs s ∙ tree_none b hv hr s.tree) ss)

  pub trees_no_borrows : at borrows trees ≡ 0
  unfolding segment_fill
  trees_no_borrows = trees_none borrows (λ v. rw (view_fill_lem v)) (λ r. rw (run_fill_lem r)) (λ s. omega arith)

  pub trees_no_ids : at ids trees ≡ 0
  unfolding segment_fill
  trees_no_ids = trees_none ids (λ v. rw (view_fill_lem v)) (λ r. rw (run_fill_lem r)) (λ s. omega arith)

  trees_bytes_long : length (tree_bytes t ++ joined segment_bytes ss) ≡ at pool trees
  trees_bytes_long = rw (length-append (tree_bytes t) (joined segment_bytes ss), tree_bytes_long t, joined_long segment_fill pool segment_bytes segment_bytes_long ss)

  module _ (l : LaidTree) (e : l ≡ record { tree = tree_row c t; past = plus c trees }) where
    pub body_past : l.past ≡ plus c trees
    body_past = ap (λ (x : LaidTree). x.past) e

    pub rest_room : (b : Table) (g : Fill) (n : ℕ) → at b (plus c (plus (tree_fill t) (plus (sum segment_fill ss) g))) ≤ n → at b (plus l.past g) ≤ n
    rest_room b g n h = room_rest b c trees l.past g n body_past (subst (λ (x : Fill). at b (plus c x) ≤ n) (sym (plus_assoc (tree_fill t) (sum segment_fill ss) g)) h)

    module _ (d d₁ d₂ : List ℕ) where
      pub whole_borrows : (k : Fill) (bs : List Borrow) → d₁ ≡ write d (at borrows l.past) (borrows_laid (plus l.past k) bs) → d₁ ≡ write d (at borrows c) (borrows_laid (plus c (plus trees k)) bs)
      whole_borrows k bs w =
          let f : plus l.past k ≡ plus c (plus trees k) = ap (λ (x : Fill). plus x k) body_past ∙ plus_assoc c trees k in
          put_skip borrows c trees l.past d d₁ (borrows_laid (plus c (plus trees k)) bs) body_past trees_no_borrows (w ∙ ap (λ (x : Fill). write d (at borrows l.past) (borrows_laid x bs)) f)

      pub whole_ids : (xs : List ℕ) → d₁ ≡ write d (at ids l.past) xs → d₁ ≡ write d (at ids c) xs
      whole_ids xs w = put_skip ids c trees l.past d d₁ xs body_past trees_no_ids w

      pub whole_bytes : (g : Fill) (xs : List ℕ) → at pool (plus c g) ≤ length d → d₁ ≡ write d (at pool c) (tree_bytes t ++ joined segment_bytes ss) → d₂ ≡ write d₁ (at pool l.past) xs → d₂ ≡ write d (at pool c) (tree_bytes t ++ (joined segment_bytes ss ++ xs))
      whole_bytes g xs h w v =
          put_then pool c trees l.past g d d₁ d₂ (tree_bytes t ++ joined segment_bytes ss) xs h body_past trees_bytes_long w v
          ∙ ap (λ (z : List ℕ). write d (at pool c) z) (append_assoc (tree_bytes t) (joined segment_bytes ss) xs)

pub segments_count : (s r v p : List ℕ) (w : Window) → length (segments_in s r v p w) ≡ held_of w (length s / 12)
unfolding segments_in
segments_count s r v p w = up_to_length (λ k. segment_in r v p (segment_at s (w.first + k))) (held_of w (length s / 12))

pub borrows_count : (b i p : List ℕ) (w : Window) → length (borrows_in b i p w) ≡ held_of w (length b / 9)
unfolding borrows_in
borrows_count b i p w = up_to_length (λ k. borrow_in i p (borrow_at b (w.first + k))) (held_of w (length b / 9))

-- a row like m's for the records that stand in x, laid from c on
pub manifest_laid : (x : Lent) (m : ManifestRow) (c : Fill) (l : LaidTree) (name : Option Place) (i j : ℕ) (r : ManifestRow)
    → l ≡ record { tree = tree_row c (manifest_in x m).tree; past = plus c (plus (tree_fill (manifest_in x m).tree) (sum segment_fill (manifest_in x m).segments)) }
    → name ≡ name_row l.past.bytes (manifest_in x m).extractor → i ≡ held_of m.segments (length x.segments / 12) → j ≡ held_of m.external_dbs (length x.borrows / 9)
    → r ≡ record {
      initialized = m.initialized;
      tree = l.tree;
      segments = record { first = c.segments; count = i };
      segment_extractor_name = name;
      next_wal_sst_id = m.next_wal_sst_id;
      replay_after_wal_id = m.replay_after_wal_id;
      last_l0_clock_tick = m.last_l0_clock_tick;
      last_l0_seq = m.last_l0_seq;
      recent_snapshot_min_seq = m.recent_snapshot_min_seq;
      external_dbs = record { first = c.borrows; count = j };
      writer_epoch = m.writer_epoch;
      compactor_epoch = m.compactor_epoch;
    }
    → r ≡ manifest_row_at c (manifest_in x m)
unfolding manifest_in manifest_row_at
manifest_laid x m c l name i j r e q hi hj h =
    h ∙ rw (q, e, hi, hj, segments_count x.segments x.runs x.views x.pool m.segments, borrows_count x.borrows x.ids x.pool m.external_dbs)
