-- What the inner functions answer. No public promise speaks of it.
use Rattle.std.specs.Prelude.{ℕ, ◌≤◌, ◌≡◌, true, not, ◌||◌, List, ltb, length, Err, Ok, Result}
use Rattle.keys.specs.Pick.{pick}
use Rattle.records.specs.Fill.{plus, fits}
use Rattle.records.specs.Decode.{Lent, manifest_in}
use Rattle.records.specs.declared.Fill.{Fill}
use Rattle.records.specs.declared.Limits.{Limits}
use Rattle.records.specs.declared.Refusal.TheVariants.{OverLimit, NoRoom}
use Rattle.lawful.specs.Judge.{judged_of}
use Rattle.merge.specs.declared.Side.{Side}
use Rattle.manifest_read.specs.Answer.{work_room}
use Rattle.encoded.specs.Encoded.{long_of}
use Rattle.encoded.specs.Read.{refused_with}
use Rattle.encoded_merge.specs.Merge.{merged_to, merge_to}
use Rattle.records.specs.declared.ManifestRow.{ManifestRow}
use Rattle.records.specs.declared.Refusal.{Refusal}

-- the refusals that come before any reading, but for those of the tables that each source is read into: `room` is what the tables that hold
-- both have, p the bytes of the result's pool
unfoldable pub ready_of : Limits → List ℕ → List ℕ → Fill → ℕ → Result Unit Refusal
ready_of lim s t room p =
    pick (long_of s || long_of t) (Err OverLimit)
    (pick (not (fits (plus lim.fill lim.fill) room) || ltb p lim.fill.bytes) (Err NoRoom)
    (Ok tt))

-- both manifests' rows, or the writer's refusal before the compactor's
abbrev pub joined_of : Result ManifestRow Refusal → Result ManifestRow Refusal → Result (ManifestRow × ManifestRow) Refusal
joined_of (Ok m) (Ok n) = Ok (m, n)
joined_of (Ok m) (Err x) = Err x
joined_of (Err x) r = Err x

-- what reading the sources s and t into w, and from there into o, leaves in l: rows that are lawful and of which either merge is what it
-- has to answer, or its refusal
abbrev pub BothRead : Limits → List ℕ → List ℕ → ℕ → Lent → Lent → Lent → Result (ManifestRow × ManifestRow) Refusal → Type 0
BothRead lim s t p w o l (Ok (m, n)) =
    ((judged_of lim l m ≡ Ok tt) × (judged_of lim l n ≡ Ok tt)) × (fits lim.fill (work_room lim w) ≡ true) × (lim.fill.bytes ≤ p) × ((side : Side) (room : Fill) (pool out : List ℕ) → length pool ≡ p → merged_to side lim room out (manifest_in l m).segments (manifest_in l n).segments ≡ merge_to side lim s t room w o pool out)
BothRead lim s t p w o l (Err x) = (side : Side) (room : Fill) (pool out : List ℕ) → length pool ≡ p → refused_with out x ≡ merge_to side lim s t room w o pool out
