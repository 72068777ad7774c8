-- What the merges answer, and what the lent output tables then hold.
use Rattle.std.specs.Prelude.{ℕ, ◌/◌, List, [], ◌∷◌, length, Err, Ok, Result}
use Rattle.keys.specs.Pick.{pick}
use Rattle.tables.specs.Layout.{over, joined}
use Rattle.records.specs.Model.{Segment}
use Rattle.records.specs.Fill.{empty, sum, segment_fill}
use Rattle.records.specs.Layout.{segments_laid, segments_runs_laid, segments_views_laid, segment_bytes}
use Rattle.records.specs.Decode.{Lent, manifest_in}
use Rattle.records.specs.Refusals.{refusal}
use Rattle.records.specs.declared.Fill.{Fill}
use Rattle.records.specs.declared.Limits.{Limits}
use Rattle.records.specs.declared.ManifestRow.{ManifestRow}
use Rattle.records.specs.declared.Refusal.{Refusal}
use Rattle.records.specs.declared.Refusal.TheVariants.{Unlawful, NoRoom, CompactorOnly, KeptNest}
use Rattle.copy.specs.Copy.{no_room}
use Rattle.segments.specs.Refuses.{refuses1, first_broken}
use Rattle.merge.specs.Merge.{from_writer, refuses6, place6, from_compactor, refuses7, place7}
use Rattle.merge.specs.declared.Side.{Side}
use Rattle.merge.specs.declared.Side.TheVariants.{Writer, Compactor}
use Rattle.tables.specs.declared.Window.{Window}

-- the four lent output tables of a segment list
pub record LentList : Type 0 where
  pub segments : List ℕ
  pub views : List ℕ
  pub runs : List ℕ
  pub pool : List ℕ

-- an answer, and what the lent output tables hold
pub record Outcome : Type 0 where
  pub answer : Result Window Refusal
  pub out : LentList

-- the places of the lent tables; of borrows and ids a segment list fills none
abbrev pub list_room : LentList → Fill
list_room o =
    record { segments = length o.segments / 12; views = length o.views / 16; runs = length o.runs / 3; borrows = 0; ids = 0; bytes = length o.pool }

-- a segment list laid out canonically at the front of the lent tables; the rest as lent
abbrev pub list_over : LentList → List Segment → LentList
list_over o ss =
    record {
      segments = over o.segments (segments_laid empty ss);
      views = over o.views (segments_views_laid empty ss);
      runs = over o.runs (segments_runs_laid empty ss);
      pool = over o.pool (joined segment_bytes ss);
    }

abbrev pub refused : Refusal → LentList → Outcome
refused r o = record { answer = Err r; out = o }

-- "give a segment list from their segments alone; refusal 4 counts just that list"
unfoldable pub list_given : Limits → List Segment → LentList → Outcome
list_given lim ss o =
    pick (no_room lim (list_room o) (sum segment_fill ss)) (refused NoRoom o)
    (record { answer = Ok (record { first = 0; count = length ss }); out = list_over o ss })

-- merge from writer: 6, 4
unfoldable pub writer_given : Limits → List Segment → List Segment → LentList → Outcome
writer_given lim ws cs o =
    pick (refuses6 ws cs) (refused (CompactorOnly (place6 ws cs)) o)
    (list_given lim (from_writer ws cs) o)

-- merge from compactor: 7, 4
unfoldable pub compactor_given : Limits → List Segment → List Segment → LentList → Outcome
compactor_given lim ws cs o =
    pick (refuses7 (from_compactor ws cs)) (refused (KeptNest (place7 (from_compactor ws cs))) o)
    (list_given lim (from_compactor ws cs) o)

-- the two merges, of lawful manifests' segments
unfoldable pub given_by : Side → Limits → List Segment → List Segment → LentList → Outcome
given_by Writer lim ws cs o = writer_given lim ws cs o
given_by Compactor lim ws cs o = compactor_given lim ws cs o

-- "1 (manifests in given order)": "Both take two manifests, the writer's first"
abbrev pub judged_both : Limits → Lent → ManifestRow → ManifestRow → Outcome → LentList → Outcome
judged_both lim l w c given o =
    pick (refuses1 lim l w) (refused (Unlawful (first_broken lim l w)) o)
    (pick (refuses1 lim l c) (refused (Unlawful (first_broken lim l c)) o)
    given)

-- a merge of any two manifests
unfoldable pub merge_of : Side → Limits → Lent → ManifestRow → ManifestRow → LentList → Outcome
merge_of side lim l w c o = judged_both lim l w c (given_by side lim (manifest_in l w).segments (manifest_in l c).segments o) o

-- the number and the values of each answer
abbrev pub merged : Result Window Refusal → List ℕ
merged (Ok w) = 0 ∷ w.count ∷ []
merged (Err r) = refusal r
