-- Clone on an encoded manifest.
use Rattle.std.specs.Prelude.{ℕ, Bool, not, ◌||◌, List, ltb, length}
use Rattle.keys.specs.Pick.{pick}
use Rattle.ids.specs.declared.Uuid.{Uuid}
use Rattle.records.specs.Model.{Manifest}
use Rattle.records.specs.Fill.{fits, manifest_fill}
use Rattle.records.specs.Decode.{Lent}
use Rattle.records.specs.declared.Fill.{Fill}
use Rattle.records.specs.declared.Limits.{Limits}
use Rattle.records.specs.declared.Refusal.TheVariants.{OverLimit, NoRoom, NoFinal, TooFewFresh}
use Rattle.copy.specs.Copy.{room_of, no_room}
use Rattle.borrows.specs.Clone.{cloned_of, refuses15, refuses16}
use Rattle.manifest_write.specs.Bytes.{manifest_bytes}
use Rattle.manifest_write.specs.Answer.{Outcome, put_of}
use Rattle.encoded.specs.Encoded.{Encoded, on, encoded_of, long_of, short_of}
use Rattle.encoded.specs.Read.{refused_with}

-- bytes put into the lent slice: 4 where it is too short for them, then 16 where there were too few fresh UUIDs
unfoldable pub fresh_put : Bool → List ℕ → List ℕ → Outcome
fresh_put few bs out =
    pick (ltb (length out) (length bs)) (refused_with out NoRoom)
    (pick few (refused_with out TooFewFresh)
    (put_of bs out))

-- the clone with some UUIDs, of which there may be too few: 15, then 4 for the records and bytes that it fills, then for its encoded
-- form, then 16
unfoldable pub cloned_with : Bool → Limits → Fill → List ℕ → List ℕ → Uuid → List Uuid → Manifest → Outcome
cloned_with few lim room out path checkpoint fresh m =
    pick (refuses15 m.borrows) (refused_with out NoFinal)
    (pick (no_room lim room (manifest_fill (cloned_of m path checkpoint fresh))) (refused_with out NoRoom)
    (fresh_put few (manifest_bytes (cloned_of m path checkpoint fresh)) out))

-- "15, 4, 16"
unfoldable pub cloned_put : Limits → Fill → List ℕ → List ℕ → Uuid → List Uuid → Manifest → Outcome
cloned_put lim room out path checkpoint fresh m =
    cloned_with (refuses16 (cloned_of m path checkpoint fresh).borrows fresh) lim room out path checkpoint fresh m

unfoldable pub cloned_on : Limits → Fill → List ℕ → List ℕ → Uuid → List Uuid → Encoded → Outcome
cloned_on lim room out path checkpoint fresh x = on (refused_with out) (cloned_put lim room out path checkpoint fresh) x

-- "2 | .. path argument .. over its limit"
abbrev pub path_over : Limits → List ℕ → Bool
path_over lim path = ltb lim.path (length path)

-- the order of refusals: 2, the working tables w for the manifest and o for the result, 18, 19, 1, then 15, 4 and 16
unfoldable pub clone_to : Limits → List ℕ → List ℕ → Uuid → List Uuid → Fill → Lent → Lent → List ℕ → Outcome
clone_to lim s path checkpoint fresh room w o out =
    pick (long_of s || path_over lim path) (refused_with out OverLimit)
    (pick (short_of lim w || not (fits lim.fill (room_of o))) (refused_with out NoRoom)
    (cloned_on lim room out path checkpoint fresh (encoded_of lim s)))
