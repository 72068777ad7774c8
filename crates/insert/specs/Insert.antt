-- Insert on lent tables: what it answers and what every lent output then holds.
use Rattle.std.specs.Prelude.{ℕ, List, [], ◌∷◌, Err, Ok, Result}
use Rattle.keys.specs.Pick.{pick}
use Rattle.records.specs.Model.{Manifest}
use Rattle.records.specs.Layout.{layout, manifest_row}
use Rattle.records.specs.Decode.{Lent, manifest_in}
use Rattle.records.specs.Refusals.{refusal}
use Rattle.records.specs.declared.Fill.{Fill}
use Rattle.records.specs.declared.Limits.{Limits}
use Rattle.records.specs.declared.ManifestRow.{ManifestRow}
use Rattle.records.specs.declared.Refusal.TheVariants.{Unlawful, OverLimit, NoRoom}
use Rattle.copy.specs.Copy.{room_of, laid_over}
use Rattle.segments.specs.Prefixes.{prefixes}
use Rattle.segments.specs.Refuses.{prefix_over, refuses1, first_broken}
use Rattle.segments.specs.Place.{place_of}
use Rattle.segments.specs.Insert.{new_segment, with_segments, put, refuses4, Entry, found, entered, refused, inserted_of}
use Rattle.insert.specs.declared.Inserted.TheVariants.{Found, Entered}
use Rattle.insert.specs.declared.Inserted.{Inserted}
use Rattle.records.specs.declared.Refusal.{Refusal}

-- an answer, and what the lent output tables hold
pub record Outcome : Type 0 where
  pub answer : Result Inserted Refusal
  pub out : Lent

-- what insert answers on a manifest of the model, on lent tables: `found` fills nothing, and a refused call "changes no lent
-- output"; where the prefix entered, the resulting manifest is laid out canonically
abbrev pub laid_entry : Lent → Entry → Outcome
laid_entry o (found i) = record { answer = Ok (Found i); out = o }
laid_entry o (entered i n) = record { answer = Ok (Entered i (manifest_row n)); out = laid_over o (layout n) }
laid_entry o (refused r) = record { answer = Err r; out = o }

-- the order of refusals: 2, 1, then those of the manifest that stands in the tables
unfoldable pub insert_of : Limits → Lent → ManifestRow → List ℕ → Lent → Outcome
insert_of lim l m p o =
    pick (prefix_over lim p) (record { answer = Err OverLimit; out = o })
    (pick (refuses1 lim l m) (record { answer = Err (Unlawful (first_broken lim l m)); out = o })
    (laid_entry o (inserted_of lim (room_of o) (manifest_in l m) p)))

-- the number and the values of each answer
abbrev pub inserted : Result Inserted Refusal → List ℕ
inserted (Ok (Found i)) = 0 ∷ 0 ∷ i ∷ []
inserted (Ok (Entered i m)) = 0 ∷ 1 ∷ i ∷ []
inserted (Err r) = refusal r

-- ---- the steps that the code takes

-- the manifest with an empty tree for p at place i of its segments
abbrev pub entered_at : ℕ → List ℕ → Manifest → Manifest
entered_at i p m = with_segments m (put i (new_segment p) m.segments)

-- what an empty segment with a prefix of so many bytes fills
abbrev pub new_fill : ℕ → Fill
new_fill len = record { segments = 1; views = 0; runs = 0; borrows = 0; ids = 0; bytes = len }

-- "then no room; else an empty tree enters at its sorted place"
unfoldable pub entered_of : Limits → Fill → Manifest → List ℕ → Entry
entered_of lim room m p =
    pick (refuses4 lim room (entered_at (place_of (prefixes m.segments) p) p m)) (refused NoRoom)
    (entered (place_of (prefixes m.segments) p) (entered_at (place_of (prefixes m.segments) p) p m))
