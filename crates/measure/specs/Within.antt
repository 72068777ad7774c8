-- L1's numbers, over a manifest of the model.
use Rattle.std.specs.Prelude.{ℕ, Bool, not, ◌&&◌, List, [], ◌∷◌, ◌++◌, leb, length}
use Rattle.ids.specs.declared.SstId.{SstId}
use Rattle.tables.specs.Layout.{joined}
use Rattle.records.specs.Model.{View, Run, Tree, Manifest, trees}
use Rattle.records.specs.Fill.{fits, manifest_fill, view_keys, name_keys}
use Rattle.records.specs.declared.Fill.{Fill}
use Rattle.records.specs.declared.Limits.{Limits}
use Rattle.measure.specs.Tests.{all_of}

-- ---- all views and all runs of a manifest, in record order

abbrev pub run_views : Run → List View
run_views r = r.views

abbrev pub tree_views : Tree → List View
tree_views t = t.l0 ++ joined run_views t.runs

abbrev pub tree_runs : Tree → List Run
tree_runs t = t.runs

unfoldable pub all_views : Manifest → List View
all_views m = joined tree_views (trees m)

unfoldable pub all_runs : Manifest → List Run
all_runs m = joined tree_runs (trees m)

-- the SST ids of some views: "ids of all views, in record order, repeats kept"
abbrev pub ids_used : List View → List SstId
ids_used [] = []
ids_used (v ∷ vs) = v.sst ∷ ids_used vs

-- a byte string of at most so many bytes
abbrev pub short : ℕ → List ℕ → Bool
short most k = leb (length k) most

-- "L1: at most 64 segments, 512 views, 128 runs, 32 borrows, 512 borrowed ids; prefix and extractor name at most 32 bytes, key
-- and path at most 64; all prefixes, keys (bounds too), paths and the name together at most 8,192 bytes, each occurrence counted"
unfoldable pub within : Limits → Manifest → Bool
within lim m =
    fits (manifest_fill m) lim.fill
    && all_of (λ s. short lim.prefix s.prefix) m.segments
    && all_of (short lim.name) (name_keys m.extractor)
    && all_of (λ v. all_of (short lim.key) (view_keys v)) (all_views m)
    && all_of (λ b. short lim.path b.path) m.borrows

-- Refusal 4: "result breaks a number in L1, or a lent output is too short: fewer places (one a record or id) or bytes than the
-- result fills"
unfoldable pub no_room : Limits → Fill → Fill → Bool
no_room lim room result = not (fits result lim.fill && fits result room)
