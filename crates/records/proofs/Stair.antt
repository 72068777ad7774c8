-- The stair from the tables to the model: decoding a layout gives the manifest back. Assumes nothing.
use mathlib.Core.Path.{◌≡◌, refl, sym, ap, ◌∙◌}
use mathlib.Core.List.{[], ◌++◌, append-nil}
use lib.ListN.{length, drop}
use Rattle.tables.proofs.Holds.{Holds, holds_front, holds_place}
use Rattle.records.specs.Model.{Manifest}
use Rattle.records.specs.Decode.{Lent, manifest_in}
use Rattle.records.specs.Fill.{empty, manifest_fill}
use Rattle.records.specs.Layout.{tree_bytes, tree_views_laid, tree_runs_laid, views_laid, runs_laid, runs_views_laid, segments_laid, segments_views_laid, segments_runs_laid, borrows_laid, manifest_row, layout}
use Rattle.records.specs.New.{new_manifest}
use Rattle.records.proofs.Laid.{Table, segments, views, runs, borrows, ids, pool, at, at_empty}
use Rattle.records.proofs.Cursor.{row_front, layout_front, layout_at_long, manifest_at_back}
pub use Rattle.records.proofs.Cursor.{table_of}

-- each table of l begins with that of k
pub record Begins (l k : Lent) : Type 0 where
  pub segments : Holds l.segments 0 k.segments
  pub views : Holds l.views 0 k.views
  pub runs : Holds l.runs 0 k.runs
  pub borrows : Holds l.borrows 0 k.borrows
  pub ids : Holds l.ids 0 k.ids
  pub pool : Holds l.pool 0 k.pool

-- k, and behind each of its tables whatever stands there
abbrev pub before : Lent → Lent → Lent
before k post =
    record {
      segments = k.segments ++ post.segments;
      views = k.views ++ post.views;
      runs = k.runs ++ post.runs;
      borrows = k.borrows ++ post.borrows;
      ids = k.ids ++ post.ids;
      pool = k.pool ++ post.pool;
    }

pub begins_before : (k post : Lent) → Begins (before k post) k
begins_before k post =
    record {
      segments = holds_front k.segments post.segments;
      views = holds_front k.views post.views;
      runs = holds_front k.runs post.runs;
      borrows = holds_front k.borrows post.borrows;
      ids = holds_front k.ids post.ids;
      pool = holds_front k.pool post.pool;
    }

-- tables that begin with a manifest's layout hold that manifest
pub manifest_back : (l : Lent) (m : Manifest) → Begins l (layout m) → manifest_in l (manifest_row m) ≡ m
manifest_back l m b = rw (row_front m) at (manifest_at_back l empty m (λ t. rw (layout_front m) (holds_place (table_of t l) 0 (at t empty) (table_of t (layout m)) (sym (at_empty t)) (go t))))
  where
    go : (t : Table) → Holds (table_of t l) 0 (table_of t (layout m))
    go segments = b.segments
    go views = b.views
    go runs = b.runs
    go borrows = b.borrows
    go ids = b.ids
    go pool = b.pool

-- whatever stands behind it
pub decode_before : (m : Manifest) (post : Lent) → manifest_in (before (layout m) post) (manifest_row m) ≡ m
decode_before m post = manifest_back (before (layout m) post) m (begins_before (layout m) post)

-- what stands in lent tables behind k, where k is laid over them
abbrev pub past : Lent → Lent → Lent
past k o =
    record {
      segments = drop (length k.segments) o.segments;
      views = drop (length k.views) o.views;
      runs = drop (length k.runs) o.runs;
      borrows = drop (length k.borrows) o.borrows;
      ids = drop (length k.ids) o.ids;
      pool = drop (length k.pool) o.pool;
    }

-- laid over any lent tables, the rest as lent
pub decode_over : (m : Manifest) (o : Lent) → manifest_in (before (layout m) (past (layout m) o)) (manifest_row m) ≡ m
decode_over m o = decode_before m (past (layout m) o)

-- tables that hold nothing
abbrev pub bare : Lent
bare = record { segments = []; views = []; runs = []; borrows = []; ids = []; pool = [] }

pub decode_layout : (m : Manifest) → manifest_in (layout m) (manifest_row m) ≡ m
decode_layout m = simp append-nil at (decode_before m bare)

-- what a manifest fills is what its layout takes
pub layout_long : (t : Table) (m : Manifest) → length (table_of t (layout m)) ≡ at t (manifest_fill m)
layout_long t m = ap (λ (k : Lent). length (table_of t k)) (sym (layout_front m)) ∙ layout_at_long t empty m

-- ---- the new manifest takes no place at all

pub layout_new : layout new_manifest ≡ bare
unfolding layout segments_laid segments_views_laid segments_runs_laid tree_views_laid tree_runs_laid tree_bytes views_laid runs_laid runs_views_laid borrows_laid
layout_new = refl

-- whatever tables are lent
pub decode_new : (l : Lent) → manifest_in l (manifest_row new_manifest) ≡ new_manifest
decode_new l = manifest_back l new_manifest (rw layout_new (begins_before bare l))
