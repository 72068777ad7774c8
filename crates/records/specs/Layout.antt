-- The canonical layout: which words and bytes stand for a manifest. Records in order, the unsegmented tree first, of a tree
-- its L0, then run by run; every prefix, key, path and name at the end of the pool so far, each occurrence, no gap.
-- What was laid before is handed on as what it fills: a `Fill`.
use Rattle.std.specs.Prelude.{ℕ, ◌+◌, List, [], ◌∷◌, ◌++◌, length, None, Option, Some}
use Rattle.keys.specs.Range.{Edge, unbounded, included, excluded}
use Rattle.keys.specs.declared.Bound.{Bound}
use Rattle.keys.specs.declared.Bound.TheVariants.{Unbounded, Included, Excluded}
use Rattle.ids.specs.declared.SstId.{SstId}
use Rattle.tables.specs.Layout.{joined}
use Rattle.records.specs.Model.{LastKey, unknown, known, Seen, all, only, View, Run, Tree, Segment, Borrow, Extractor, none, named, Manifest}
use Rattle.records.specs.Decode.{Lent}
use Rattle.records.specs.Words.{view_words, run_words, segment_words, borrow_words, id_words}
use Rattle.records.specs.Fill.{empty, plus, sum, key_fill, segments, last_keys, edge_keys, view_keys, name_keys, view_fill, run_fill, tree_fill, segment_fill, borrow_fill}
use Rattle.records.specs.declared.Fill.{Fill}
use Rattle.records.specs.declared.Place.{Place}
use Rattle.records.specs.declared.ViewRow.{ViewRow}
use Rattle.records.specs.declared.RunRow.{RunRow}
use Rattle.records.specs.declared.TreeRow.{TreeRow}
use Rattle.records.specs.declared.SegmentRow.{SegmentRow}
use Rattle.records.specs.declared.BorrowRow.{BorrowRow}
use Rattle.records.specs.declared.ManifestRow.{ManifestRow}
use Rattle.keys.specs.declared.Range.{Range}

-- some byte strings, one after the other
abbrev pub run : List (List ℕ) → List ℕ
run ks = joined (λ k. k) ks

-- ---- rows: where a record's byte strings stand, and where its own records begin

abbrev pub placed : ℕ → List ℕ → Place
placed from k = record { at = from; len = length k }

abbrev pub last_row : ℕ → LastKey → Option Place
last_row from unknown = None
last_row from (known k) = Some (placed from k)

abbrev pub bound_row : ℕ → Edge → Bound
bound_row from unbounded = Unbounded
bound_row from (included k) = Included from (length k)
bound_row from (excluded k) = Excluded from (length k)

abbrev pub visible_row : ℕ → Seen → Option Range
visible_row from all = None
visible_row from (only r) = Some (record { start = bound_row from r.start; end = bound_row (from + length (run (edge_keys r.start))) r.end })

unfoldable pub view_row : ℕ → View → ViewRow
view_row from v =
    record {
      id = v.id;
      sst = v.sst;
      first = placed from v.first;
      last = last_row (from + length v.first) v.last;
      visible = visible_row (from + length v.first + length (run (last_keys v.last))) v.visible;
    }

unfoldable pub run_row : Fill → Run → RunRow
run_row c r = record { id = r.id; views = record { first = c.views; count = length r.views } }

unfoldable pub tree_row : Fill → Tree → TreeRow
tree_row c t =
    record {
      view = t.view_mark;
      sst = t.sst_mark;
      l0 = record { first = c.views; count = length t.l0 };
      compacted = record { first = c.runs; count = length t.runs };
    }

unfoldable pub segment_row : Fill → Segment → SegmentRow
segment_row c s = record { prefix = placed c.bytes s.prefix; tree = tree_row c s.tree }

unfoldable pub borrow_row : Fill → Borrow → BorrowRow
borrow_row c b =
    record { path = placed c.bytes b.path; source = b.source; fin = b.final; ids = record { first = c.ids; count = length b.ids } }

abbrev pub name_row : ℕ → Extractor → Option Place
name_row from none = None
name_row from (named k) = Some (placed from k)

-- ---- words: the rows of some records, each laid where those before it end

module _ {A : Type 0} (fill : A → Fill) (words : Fill → A → List ℕ) where
  abbrev pub laid : Fill → List A → List ℕ
  laid c [] = []
  laid c (x ∷ xs) = words c x ++ laid (plus c (fill x)) xs

unfoldable pub view_bytes : View → List ℕ
view_bytes v = run (view_keys v)

unfoldable pub views_laid : Fill → List View → List ℕ
views_laid c vs = laid view_fill (λ d v. view_words (view_row d.bytes v)) c vs

unfoldable pub run_bytes : Run → List ℕ
run_bytes r = joined view_bytes r.views

unfoldable pub runs_laid : Fill → List Run → List ℕ
runs_laid c rs = laid run_fill (λ d r. run_words (run_row d r)) c rs

unfoldable pub runs_views_laid : Fill → List Run → List ℕ
runs_views_laid c rs = laid run_fill (λ d r. views_laid d r.views) c rs

unfoldable pub tree_bytes : Tree → List ℕ
tree_bytes t = joined view_bytes t.l0 ++ joined run_bytes t.runs

-- a tree's runs come after its L0
abbrev pub past_l0 : Fill → Tree → Fill
past_l0 c t = plus c (sum view_fill t.l0)

unfoldable pub tree_views_laid : Fill → Tree → List ℕ
tree_views_laid c t = views_laid c t.l0 ++ runs_views_laid (past_l0 c t) t.runs

unfoldable pub tree_runs_laid : Fill → Tree → List ℕ
tree_runs_laid c t = runs_laid (past_l0 c t) t.runs

unfoldable pub segment_bytes : Segment → List ℕ
segment_bytes s = s.prefix ++ tree_bytes s.tree

-- a segment's tree comes after its prefix
abbrev pub past_prefix : Fill → Segment → Fill
past_prefix c s = plus (plus c (segments 1)) (key_fill s.prefix)

unfoldable pub segments_laid : Fill → List Segment → List ℕ
segments_laid c ss = laid segment_fill (λ d s. segment_words (segment_row d s)) c ss

unfoldable pub segments_views_laid : Fill → List Segment → List ℕ
segments_views_laid c ss = laid segment_fill (λ d s. tree_views_laid (past_prefix d s) s.tree) c ss

unfoldable pub segments_runs_laid : Fill → List Segment → List ℕ
segments_runs_laid c ss = laid segment_fill (λ d s. tree_runs_laid (past_prefix d s) s.tree) c ss

unfoldable pub borrows_laid : Fill → List Borrow → List ℕ
borrows_laid c bs = laid borrow_fill (λ d b. borrow_words (borrow_row d b)) c bs

unfoldable pub ids_laid : List SstId → List ℕ
ids_laid xs = joined id_words xs

abbrev pub borrow_ids : Borrow → List ℕ
borrow_ids b = ids_laid b.ids

abbrev pub borrow_path : Borrow → List ℕ
borrow_path b = b.path

-- ---- a manifest: its tree, its segments, its name, its borrows

abbrev pub past_tree : Manifest → Fill
past_tree m = tree_fill m.tree

abbrev pub past_segments : Manifest → Fill
past_segments m = plus (past_tree m) (sum segment_fill m.segments)

abbrev pub past_name : Manifest → Fill
past_name m = plus (past_segments m) (sum key_fill (name_keys m.extractor))

-- the row of a manifest that is laid out from c on, its name from byte `name` on
abbrev pub row_from : Fill → ℕ → Manifest → ManifestRow
row_from c name m =
    record {
      initialized = m.initialized;
      tree = tree_row c m.tree;
      segments = record { first = c.segments; count = length m.segments };
      segment_extractor_name = name_row name m.extractor;
      next_wal_sst_id = m.next_wal_sst_id;
      replay_after_wal_id = m.replay_after_wal_id;
      last_l0_clock_tick = m.last_l0_clock_tick;
      last_l0_seq = m.last_l0_seq;
      recent_snapshot_min_seq = m.recent_snapshot_min_seq;
      external_dbs = record { first = c.borrows; count = length m.borrows };
      writer_epoch = m.writer_epoch;
      compactor_epoch = m.compactor_epoch;
    }

-- its words and bytes: the tree from c on, the segments from d, the borrows from e
abbrev pub laid_from : Fill → Fill → Fill → Manifest → Lent
laid_from c d e m =
    record {
      segments = segments_laid d m.segments;
      views = tree_views_laid c m.tree ++ segments_views_laid d m.segments;
      runs = tree_runs_laid c m.tree ++ segments_runs_laid d m.segments;
      borrows = borrows_laid e m.borrows;
      ids = joined borrow_ids m.borrows;
      pool = tree_bytes m.tree ++ (joined segment_bytes m.segments ++ (run (name_keys m.extractor) ++ joined borrow_path m.borrows));
    }

-- at the front of the tables
unfoldable pub manifest_row : Manifest → ManifestRow
manifest_row m = row_from empty (past_segments m).bytes m

unfoldable pub layout : Manifest → Lent
layout m = laid_from empty (past_tree m) (past_name m) m

-- behind what fills c, where the same tables hold several manifests
unfoldable pub manifest_row_at : Fill → Manifest → ManifestRow
manifest_row_at c m = row_from c (c.bytes + (past_segments m).bytes) m

unfoldable pub layout_at : Fill → Manifest → Lent
layout_at c m = laid_from c (plus c (past_tree m)) (plus c (past_name m)) m
