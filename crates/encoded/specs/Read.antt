-- Reading a manifest and writing it anew.
use Rattle.std.specs.Prelude.{ℕ, List, Err}
use Rattle.keys.specs.Pick.{pick}
use Rattle.records.specs.Model.{Manifest}
use Rattle.records.specs.Fill.{manifest_fill}
use Rattle.records.specs.Decode.{Lent, manifest_in}
use Rattle.records.specs.declared.Fill.{Fill}
use Rattle.records.specs.declared.Limits.{Limits}
use Rattle.records.specs.declared.ManifestRow.{ManifestRow}
use Rattle.records.specs.declared.Refusal.{Refusal}
use Rattle.records.specs.declared.Refusal.TheVariants.{Unlawful, OverLimit, NoRoom}
use Rattle.measure.specs.Measure.{l1_of}
use Rattle.copy.specs.Copy.{no_room}
use Rattle.manifest_write.specs.Bytes.{manifest_bytes}
use Rattle.manifest_write.specs.Answer.{Outcome, put_of}
use Rattle.encoded.specs.Encoded.{on, encoded_of, long_of, short_of}

-- "Each returns its number and place (0 where none is named) and changes no lent output."
abbrev pub refused_with : List ℕ → Refusal → Outcome
refused_with out r = record { answer = Err r; out = out }

-- a manifest as the result: "result breaks a number in L1, or a lent output is too short" is 4, first for the records and bytes that
-- it fills, then for its encoded form
unfoldable pub given_of : Limits → Fill → List ℕ → Manifest → Outcome
given_of lim room out m =
    pick (no_room lim room (manifest_fill m)) (refused_with out NoRoom)
    (put_of (manifest_bytes m) out)

-- the same of a manifest that stands in tables, where it keeps L1
unfoldable pub within_of : Limits → Fill → List ℕ → Lent → ManifestRow → Outcome
within_of lim room out l m = pick (l1_of lim l m) (given_of lim room out (manifest_in l m)) (refused_with out (Unlawful 1))

-- "Reading: 18, 19, 1", after 2 and the working tables, before 4
unfoldable pub read_to : Limits → List ℕ → Fill → Lent → List ℕ → Outcome
read_to lim s room w out =
    pick (long_of s) (refused_with out OverLimit)
    (pick (short_of lim w) (refused_with out NoRoom)
    (on (refused_with out) (given_of lim room out) (encoded_of lim s)))
