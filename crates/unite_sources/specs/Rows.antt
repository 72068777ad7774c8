-- Sources as they are lent: a table of 22 words a row over one set of six tables: 0 tree, 10 segments, 12 name, 15 last_l0_seq, 16 borrows,
-- 18 path, 20 checkpoint. Of a manifest the other numbers are not asked for, and stand as those of the new one.
use Rattle.std.specs.Prelude.{ℕ, ◌+◌, ◌*◌, ◌/◌, negsuc, Bool, true, ◌&&◌, leb, List, [], ◌∷◌, length, None, Some}
use Rattle.tables.specs.Window.{held_of}
use Rattle.tables.specs.Layout.{up_to, joined}
use Rattle.records.specs.Row.{at, place_at, window_at, tree_at, optional}
use Rattle.records.specs.Decode.{Lent, bytes_in, tree_in, segments_in, name_in, manifest_in}
use Rattle.records.specs.Model.{View, Tree, Extractor, segment_trees}
use Rattle.measure.specs.Within.{tree_views}
use Rattle.segments.specs.Prefixes.{prefixes_in}
use Rattle.records.specs.declared.ManifestRow.{ManifestRow}
use Rattle.unite_ranges.specs.Arranged.{Ranged}
use Rattle.merge.specs.Merge.{tree_of}
use Rattle.unite_sources.specs.Source.{Source}
use Rattle.unite_sources.specs.Prefixed.{among_all}

-- the manifest whose row begins at word b
unfoldable pub manifest_at_word : List ℕ → ℕ → ManifestRow
manifest_at_word t b =
    record {
      initialized = true;
      tree = tree_at t b;
      segments = window_at t (b + 10);
      segment_extractor_name = optional None Some (at t (b + 12)) (place_at t (b + 13));
      next_wal_sst_id = 1;
      replay_after_wal_id = 0;
      last_l0_clock_tick = negsuc 9223372036854775807;
      last_l0_seq = at t (b + 15);
      recent_snapshot_min_seq = 0;
      external_dbs = window_at t (b + 16);
      writer_epoch = 0;
      compactor_epoch = 0;
    }

unfoldable pub source_at_word : Lent → List ℕ → ℕ → Source
source_at_word l t b =
    record { manifest = manifest_in l (manifest_at_word t b); path = bytes_in l.pool (place_at t (b + 18)); checkpoint = (at t (b + 20), at t (b + 21)) }

-- what the code asks of a row: the views, the segments' prefixes, the name
unfoldable pub views_at_word : List ℕ → List ℕ → List ℕ → List ℕ → List ℕ → ℕ → List View
views_at_word segments runs views pool t b =
    joined tree_views (tree_in runs views pool (tree_at t b) ∷ segment_trees (segments_in segments runs views pool (window_at t (b + 10))))

unfoldable pub prefixes_at_word : List ℕ → List ℕ → List ℕ → ℕ → List (List ℕ)
prefixes_at_word segments pool t b = prefixes_in segments pool (window_at t (b + 10))

abbrev pub name_at_word : List ℕ → List ℕ → ℕ → Extractor
name_at_word pool t b = name_in pool (optional None Some (at t (b + 12)) (place_at t (b + 13)))

-- where the first n rows begin
unfoldable pub words_of : ℕ → List ℕ
words_of n = up_to (λ i. i * 22) n

-- the first n rows
unfoldable pub sources_in : Lent → List ℕ → ℕ → List Source
sources_in l t n = up_to (λ i. source_at_word l t (i * 22)) n

-- arranged numbers of words, as the sources that begin there
unfoldable pub ranged_sources : Lent → List ℕ → List (Ranged ℕ) → List (Ranged Source)
ranged_sources l t [] = []
ranged_sources l t (x ∷ xs) = record { what = source_at_word l t x.what; range = x.range } ∷ ranged_sources l t xs

-- ---- the used sources as the code holds them: rows of seven words, the first the word at which the source's row begins

-- where they begin, in order
unfoldable pub begins : List ℕ → ℕ → List ℕ
begins rows n = up_to (λ i. at rows (i * 7)) n

-- each of the sources that begin there has at most so many segments
abbrev pub counts_within : ℕ → List ℕ → List ℕ → List ℕ → Bool
counts_within most segments t [] = true
counts_within most segments t (b ∷ bs) = leb (held_of (window_at t (b + 10)) (length segments / 12)) most && counts_within most segments t bs

-- a list of prefixes: two words a row, the place of each
unfoldable pub places_in : List ℕ → List ℕ → ℕ → List (List ℕ)
places_in list pool n = up_to (λ i. bytes_in pool (place_at list (i * 2))) n

unfoldable pub prefixes_of_all : List (List ℕ) → List ℕ → List ℕ → List ℕ → List ℕ → List (List ℕ)
prefixes_of_all done segments pool t [] = done
prefixes_of_all done segments pool t (b ∷ bs) = prefixes_of_all (among_all done (prefixes_at_word segments pool t b)) segments pool t bs

-- the tree of each source at a prefix
unfoldable pub trees_at_in : Lent → List ℕ → List ℕ → List ℕ → List Tree
trees_at_in l t p [] = []
trees_at_in l t p (b ∷ bs) = tree_of (segments_in l.segments l.runs l.views l.pool (window_at t (b + 10))) p ∷ trees_at_in l t p bs

-- arranged words of the segment table, as the trees that begin there
unfoldable pub ranged_trees : Lent → List (Ranged ℕ) → List (Ranged Tree)
ranged_trees l [] = []
ranged_trees l (x ∷ xs) = record { what = tree_in l.runs l.views l.pool (tree_at l.segments x.what); range = x.range } ∷ ranged_trees l xs
