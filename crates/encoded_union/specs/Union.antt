-- The union of encoded manifests.
use Rattle.std.specs.Prelude.{ℕ, zero, suc, ◌+◌, ◌-◌, ◌*◌, Bool, false, not, ◌||◌, List, ltb, length}
use Rattle.keys.specs.Pick.{pick}
use Rattle.keys.specs.Pool.{part_of}
use Rattle.ids.specs.declared.Uuid.{Uuid}
use Rattle.tables.specs.Layout.{up_to}
use Rattle.records.specs.Model.{Manifest, Extractor, none, named}
use Rattle.records.specs.New.{new_manifest}
use Rattle.records.specs.Fill.{plus, bytes, fits, manifest_fill}
use Rattle.records.specs.Row.{at}
use Rattle.records.specs.Decode.{Lent}
use Rattle.records.specs.declared.Fill.{Fill}
use Rattle.records.specs.declared.Limits.{Limits}
use Rattle.records.specs.declared.Refusal.{Refusal}
use Rattle.records.specs.declared.Refusal.TheVariants.{OverLimit, NoRoom, ExtractorsDiffer, Overlap, SegmentsUnnamed, SourcesNest, NoFinal}
use Rattle.copy.specs.Copy.{room_of, no_room}
use Rattle.borrows.specs.Clone.{uuids_of, refuses16}
use Rattle.unite_ranges.specs.Arranged.{Ranged, whats}
use Rattle.unite_sources.specs.Source.{Source, agreed_name, refuses11}
use Rattle.unite_sources.specs.Used.{in_order, refuses12, refuses13}
use Rattle.unite_sources.specs.Prefixed.{all_prefixes, refuses14, refuses12_at, place12_at}
use Rattle.unite_judge.specs.Judging.{most_sources}
use Rattle.unite.specs.United.{united_from, refuses15_all}
use Rattle.manifest_write.specs.Bytes.{manifest_bytes}
use Rattle.manifest_write.specs.Answer.{Outcome}
use Rattle.encoded.specs.Encoded.{Encoded, holds, refused, on, encoded_of, short_of}
use Rattle.encoded.specs.Read.{refused_with}
use Rattle.encoded_borrows.specs.Clone.{fresh_put}

-- ---- parts one after the other

-- the ends say where each part ends; the first is from 0 on
abbrev pub start_of : List ℕ → ℕ → ℕ
start_of ends zero = 0
start_of ends (suc k) = at ends k

abbrev pub piece_of : List ℕ → List ℕ → ℕ → List ℕ
piece_of s ends k = part_of s (start_of ends k) (at ends k - start_of ends k)

-- the k-th part ends before it begins, passes the n bytes that there are, or is longer than it may be
abbrev pub bad_piece : ℕ → ℕ → List ℕ → ℕ → Bool
bad_piece most n ends k = ltb (at ends k) (start_of ends k) || (ltb n (at ends k) || ltb most (at ends k - start_of ends k))

abbrev pub some_bad : ℕ → ℕ → List ℕ → ℕ → Bool
some_bad most n ends zero = false
some_bad most n ends (suc k) = some_bad most n ends k || bad_piece most n ends k

-- ---- the sources

-- of a manifest that is a source the other numbers are not asked for, and stand as those of the new one
unfoldable pub bare_of : Manifest → Manifest
bare_of m =
    record {
      initialized = new_manifest.initialized;
      tree = m.tree;
      segments = m.segments;
      extractor = m.extractor;
      next_wal_sst_id = new_manifest.next_wal_sst_id;
      replay_after_wal_id = new_manifest.replay_after_wal_id;
      last_l0_clock_tick = new_manifest.last_l0_clock_tick;
      last_l0_seq = m.last_l0_seq;
      recent_snapshot_min_seq = new_manifest.recent_snapshot_min_seq;
      borrows = m.borrows;
      writer_epoch = new_manifest.writer_epoch;
      compactor_epoch = new_manifest.compactor_epoch;
    }

-- the manifest that bytes are; where they are none the call is refused before this is asked
abbrev pub manifest_of : Encoded → Manifest
manifest_of (holds m) = m
manifest_of (refused r) = new_manifest

-- "sources (manifest, path, checkpoint)": the k-th
unfoldable pub source_of : Limits → List ℕ → List ℕ → List ℕ → List ℕ → List ℕ → ℕ → Source
source_of lim s ends paths path_ends checkpoints k =
    record {
      manifest = bare_of (manifest_of (encoded_of lim (piece_of s ends k)));
      path = piece_of paths path_ends k;
      checkpoint = (at checkpoints (k * 2), at checkpoints (k * 2 + 1));
    }

unfoldable pub sources_of : Limits → List ℕ → List ℕ → List ℕ → List ℕ → List ℕ → ℕ → List Source
sources_of lim s ends paths path_ends checkpoints n = up_to (λ k. source_of lim s ends paths path_ends checkpoints k) n

-- "Reading: 18, 19, 1", of the first n sources "in given order"
unfoldable pub unless_unread : (Refusal → Outcome) → Limits → List ℕ → List ℕ → ℕ → Outcome → Outcome
unless_unread refuse lim s ends zero given = given
unless_unread refuse lim s ends (suc k) given = unless_unread refuse lim s ends k (on refuse (λ m. given) (encoded_of lim (piece_of s ends k)))

-- ---- the result

-- "then 15, 4, 16": 4 first for the records and bytes that it fills, then for its encoded form
unfoldable pub union_put : Limits → Fill → List ℕ → List Source → List Uuid → Manifest → Outcome
union_put lim room out us fresh result =
    pick (refuses15_all us) (refused_with out NoFinal)
    (pick (no_room lim room (manifest_fill result)) (refused_with out NoRoom)
    (fresh_put (refuses16 result.borrows fresh) (manifest_bytes result) out))

-- "then 12, 13 without an extractor or 14, 12 with one"
abbrev pub unless_unfit : List ℕ → Extractor → List (Ranged Source) → Outcome → Outcome
unless_unfit out none us given =
    pick (refuses12 us) (refused_with out (Overlap 0)) (pick (refuses13 (whats us)) (refused_with out SegmentsUnnamed) given)
unless_unfit out (named k) us given =
    pick (refuses14 (all_prefixes (whats us))) (refused_with out SourcesNest)
    (pick (refuses12_at (whats us) (all_prefixes (whats us))) (refused_with out (Overlap (suc (place12_at (whats us) (all_prefixes (whats us)))))) given)

-- of lawful sources: "Union: 11; then 12, 13 without an extractor or 14, 12 with one", then 15, 4, 16
unfoldable pub union_of : Limits → Fill → List ℕ → List Source → List Uuid → Outcome
union_of lim room out ss fresh =
    pick (refuses11 ss) (refused_with out ExtractorsDiffer)
    (unless_unfit out (agreed_name ss) (in_order ss)
    (union_put lim room out (whats (in_order ss)) fresh (united_from ss (whats (in_order ss)) fresh)))

-- ---- the call

-- "2 | source count (8), path argument, input to read (65,536 bytes) over its limit"; not as many paths or checkpoints as sources, or an end
-- that is none, is no such call
unfoldable pub call_over : Limits → List ℕ → List ℕ → List ℕ → List ℕ → List ℕ → Bool
call_over lim s ends paths path_ends checkpoints =
    ltb most_sources (length ends)
    || (ltb (length path_ends) (length ends) || ltb (length ends) (length path_ends)
    || (ltb (length checkpoints) (length ends * 2) || ltb (length ends * 2) (length checkpoints)
    || (some_bad 0x1_0000 (length s) ends (length ends) || some_bad lim.path (length paths) path_ends (length ends))))

-- n manifests within L1 behind what fills c
unfoldable pub behind : Fill → Fill → ℕ → Fill
behind most c zero = c
behind most c (suc k) = behind most (plus c most) k

-- too few places: in w, into which each source is read; in t, which holds all sources behind so many bytes of paths; in the list of
-- UUIDs, which holds those given and as many again as a manifest may have borrows; or in the tables of the result
unfoldable pub short_union : Limits → ℕ → Lent → Lent → ℕ → ℕ → Lent → Bool
short_union lim n w t given lent o =
    short_of lim w
    || (not (fits (behind lim.fill (bytes n) most_sources) (room_of t))
    || (ltb lent (given + lim.fill.borrows * 2) || not (fits lim.fill (room_of o))))

-- the order of refusals: 2, the working memory, "18, 19, 1 (manifests in given order)", then those of the union
unfoldable pub union_to : Limits → List ℕ → List ℕ → List ℕ → List ℕ → List ℕ → List ℕ → Fill → Lent → Lent → ℕ → Bool → Lent → List ℕ → Outcome
union_to lim s ends paths path_ends checkpoints fresh room w t lent short o out =
    pick (call_over lim s ends paths path_ends checkpoints) (refused_with out OverLimit)
    (pick (short_union lim (length paths) w t (length fresh) lent o || short) (refused_with out NoRoom)
    (unless_unread (refused_with out) lim s ends (length ends)
    (union_of lim room out (sources_of lim s ends paths path_ends checkpoints (length ends)) (uuids_of fresh))))
