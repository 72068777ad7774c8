-- What the bytes handed to an entry point are: a lawful manifest, or a refusal.
use Rattle.std.specs.Prelude.{ℕ, Bool, not, List, ltb, length, Err, Ok, Result}
use Rattle.records.specs.Model.{Manifest}
use Rattle.records.specs.Fill.{fits}
use Rattle.records.specs.Decode.{Lent}
use Rattle.records.specs.declared.Limits.{Limits}
use Rattle.records.specs.declared.Refusal.{Refusal}
use Rattle.records.specs.declared.Refusal.TheVariants.{Unlawful, NotWellFormed, NotTheRecord}
use Rattle.msgpack.specs.Skip.{whole_of}
use Rattle.manifest_values.specs.Read.{Got, is, wrong, manifest_at}
use Rattle.manifest_read.specs.Answer.{broken_of, work_room}

pub data Encoded : Type 0 where
  holds : Manifest → Encoded
  refused : Refusal → Encoded

-- what follows for a manifest, and for a refusal
abbrev pub on : {A : Type 0} → (Refusal → A) → (Manifest → A) → Encoded → A
on refuse give (holds m) = give m
on refuse give (refused r) = refuse r

-- "a manifest breaks L1..L5", "first broken rule's number"
abbrev pub by_law : Result Unit ℕ → Manifest → Encoded
by_law (Ok _) m = holds m
by_law (Err rule) m = refused (Unlawful rule)

-- "well-formed, not the record", "start of the first wrong value"
abbrev pub by_record : Limits → Got Manifest → Encoded
by_record lim (wrong q) = refused (NotTheRecord q)
by_record lim (is m p) = by_law (broken_of lim m) m

-- "not well-formed MessagePack, bytes left over, nesting above 16"
abbrev pub by_whole : Limits → List ℕ → Result Unit ℕ → Encoded
by_whole lim s (Err q) = refused (NotWellFormed q)
by_whole lim s (Ok _) = by_record lim (manifest_at s 0)

-- "Reading: 18, 19, 1."
unfoldable pub encoded_of : Limits → List ℕ → Encoded
encoded_of lim s = by_whole lim s (whole_of s)

-- "input to read (65,536 bytes) over its limit": refusal 2
abbrev pub long_of : List ℕ → Bool
long_of s = ltb 0x1_0000 (length s)

-- the working tables have too few places for some manifest within L1: refusal 4, since nothing can be read without them
abbrev pub short_of : Limits → Lent → Bool
short_of lim w = not (fits lim.fill (work_room lim w))
