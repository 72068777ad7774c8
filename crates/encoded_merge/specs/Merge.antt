-- Both merges on encoded manifests, the writer's bytes first.
use Rattle.std.specs.Prelude.{ℕ, Bool, not, ◌||◌, List, ltb, length}
use Rattle.keys.specs.Pick.{pick}
use Rattle.records.specs.Model.{Segment}
use Rattle.records.specs.Fill.{plus, sum, fits, segment_fill}
use Rattle.records.specs.Decode.{Lent}
use Rattle.records.specs.declared.Fill.{Fill}
use Rattle.records.specs.declared.Limits.{Limits}
use Rattle.records.specs.declared.Refusal.TheVariants.{OverLimit, NoRoom, CompactorOnly, KeptNest}
use Rattle.copy.specs.Copy.{room_of, no_room}
use Rattle.merge.specs.Merge.{from_writer, refuses6, place6, from_compactor, refuses7, place7}
use Rattle.merge.specs.declared.Side.{Side}
use Rattle.merge.specs.declared.Side.TheVariants.{Writer, Compactor}
use Rattle.manifest_write.specs.Bytes.{segments_bytes}
use Rattle.manifest_write.specs.Answer.{Outcome, put_of}
use Rattle.encoded.specs.Encoded.{Encoded, on, encoded_of, long_of, short_of}
use Rattle.encoded.specs.Read.{refused_with}

-- "give a segment list from their segments alone; refusal 4 counts just that list": first by the records and bytes that it fills, then
-- by its encoded form
unfoldable pub list_to : Limits → Fill → List ℕ → List Segment → Outcome
list_to lim room out ss =
    pick (no_room lim room (sum segment_fill ss)) (refused_with out NoRoom)
    (put_of (segments_bytes ss) out)

-- merge from writer: 6, 4
unfoldable pub writer_to : Limits → Fill → List ℕ → List Segment → List Segment → Outcome
writer_to lim room out ws cs =
    pick (refuses6 ws cs) (refused_with out (CompactorOnly (place6 ws cs)))
    (list_to lim room out (from_writer ws cs))

-- merge from compactor: 7, 4
unfoldable pub compactor_to : Limits → Fill → List ℕ → List Segment → List Segment → Outcome
compactor_to lim room out ws cs =
    pick (refuses7 (from_compactor ws cs)) (refused_with out (KeptNest (place7 (from_compactor ws cs))))
    (list_to lim room out (from_compactor ws cs))

unfoldable pub merged_to : Side → Limits → Fill → List ℕ → List Segment → List Segment → Outcome
merged_to Writer lim room out ws cs = writer_to lim room out ws cs
merged_to Compactor lim room out ws cs = compactor_to lim room out ws cs

-- too few places for some two manifests within L1: in w, into which each is read, in t, which holds both, or in the pool of the result
unfoldable pub short_both : Limits → Lent → Lent → List ℕ → Bool
short_both lim w t pool = short_of lim w || (not (fits (plus lim.fill lim.fill) (room_of t)) || ltb (length pool) lim.fill.bytes)

-- the writer's refusal first, then the compactor's, then those of the merge
unfoldable pub both_to : Side → Limits → Fill → List ℕ → Encoded → Encoded → Outcome
both_to side lim room out writer compactor =
    on (refused_with out) (λ m. on (refused_with out) (λ n. merged_to side lim room out m.segments n.segments) compactor) writer

-- the order of refusals: 2, the working tables, then the writer's 18, 19, 1, the compactor's, 6 or 7, and 4
unfoldable pub merge_to : Side → Limits → List ℕ → List ℕ → Fill → Lent → Lent → List ℕ → List ℕ → Outcome
merge_to side lim writer compactor room w t pool out =
    pick (long_of writer || long_of compactor) (refused_with out OverLimit)
    (pick (short_both lim w t pool) (refused_with out NoRoom)
    (both_to side lim room out (encoded_of lim writer) (encoded_of lim compactor)))
