-- What reading answers, for any bytes: which manifest they are, or which refusal with which place. Order: 2, then 4 for working
-- tables that are too short for some manifest within L1 (nothing can be read without them), 18, 19, 1, and 4 for the output.
use Rattle.std.specs.Prelude.{ℕ, ◌/◌, not, List, ltb, length, Err, Ok, Result}
use Rattle.keys.specs.Pick.{pick}
use Rattle.records.specs.Model.{Manifest}
use Rattle.records.specs.Fill.{fits}
use Rattle.records.specs.Decode.{Lent}
use Rattle.records.specs.declared.Fill.{Fill}
use Rattle.records.specs.declared.Limits.{Limits}
use Rattle.records.specs.declared.Refusal.{Refusal}
use Rattle.records.specs.declared.Refusal.TheVariants.{Unlawful, OverLimit, NoRoom, NotWellFormed, NotTheRecord}
use Rattle.measure.specs.Within.{within}
use Rattle.lawful.specs.Judge.{rules_of}
use Rattle.copy.specs.Copy.{Outcome, given_of, given_at}
use Rattle.msgpack.specs.Skip.{whole_of}
use Rattle.manifest_values.specs.Read.{Got, is, wrong, manifest_at}

-- "a manifest breaks L1..L5", "first broken rule's number"
unfoldable pub broken_of : Limits → Manifest → Result Unit ℕ
broken_of lim m = rules_of (within lim m) m

-- "A refused reading leaves the lent output as it was."
abbrev pub refused : Refusal → Lent → Outcome
refused r o = record { answer = Err r; out = o }

abbrev pub by_law : Result Unit ℕ → Outcome → Lent → Outcome
by_law (Ok _) given o = given
by_law (Err rule) given o = refused (Unlawful rule) o

-- "well-formed, not the record", "start of the first wrong value"; `give` is what a lawful manifest comes to
abbrev pub by_record : Limits → (Manifest → Outcome) → Lent → Got Manifest → Outcome
by_record lim give o (wrong q) = refused (NotTheRecord q) o
by_record lim give o (is m p) = by_law (broken_of lim m) (give m) o

-- "not well-formed MessagePack, bytes left over, nesting above 16", "start of the first innermost bad value .., or of what is left"
abbrev pub by_whole : Limits → (Manifest → Outcome) → List ℕ → Lent → Result Unit ℕ → Outcome
by_whole lim give s o (Err q) = refused (NotWellFormed q) o
by_whole lim give s o (Ok _) = by_record lim give o (manifest_at s 0)

-- the places of lent working tables; their pool is the input, which holds every byte that it names
abbrev pub work_room : Limits → Lent → Fill
work_room lim w =
    record {
      segments = length w.segments / 12;
      views = length w.views / 16;
      runs = length w.runs / 3;
      borrows = length w.borrows / 9;
      ids = length w.ids / 2;
      bytes = lim.fill.bytes;
    }

-- "an encoded manifest longer than 65,536 bytes" is 2
abbrev pub read_by : Limits → (Manifest → Outcome) → List ℕ → Lent → Lent → Outcome
read_by lim give s w o =
    pick (ltb 0x1_0000 (length s)) (refused OverLimit o)
    (pick (not (fits lim.fill (work_room lim w))) (refused NoRoom o)
    (by_whole lim give s o (whole_of s)))

-- laid out at the front of the lent tables
unfoldable pub read_of : Limits → List ℕ → Lent → Lent → Outcome
read_of lim s w o = read_by lim (λ m. given_of lim m o) s w o

-- behind what fills c, where the same tables hold several manifests
unfoldable pub read_at_of : Limits → List ℕ → Lent → Lent → Fill → Outcome
read_at_of lim s w o c = read_by lim (λ m. given_at lim c m o) s w o
