-- The canonical copy: what it answers and what every lent output then holds.
use Rattle.std.specs.Prelude.{ℕ, ◌*◌, ◌/◌, Bool, not, ◌&&◌, List, [], ◌∷◌, length, Err, Ok, Result}
use Rattle.keys.specs.Pick.{pick}
use Rattle.tables.specs.Layout.{write, over}
use Rattle.records.specs.Model.{Manifest}
use Rattle.records.specs.Fill.{plus, fits, manifest_fill}
use Rattle.records.specs.Layout.{layout, manifest_row, layout_at, manifest_row_at}
use Rattle.records.specs.Decode.{Lent, manifest_in}
use Rattle.records.specs.Refusals.{refusal}
use Rattle.records.specs.declared.Refusal.TheVariants.{Unlawful, NoRoom}
use Rattle.records.specs.declared.Fill.{Fill}
use Rattle.records.specs.declared.Limits.{Limits}
use Rattle.records.specs.declared.ManifestRow.{ManifestRow}
use Rattle.measure.specs.Measure.{l1_of}
unfoldable pub use Rattle.measure.specs.Within.{no_room}
use Rattle.records.specs.declared.Refusal.{Refusal}

-- how many places lent tables have, one a record or id, and how many bytes
abbrev pub room_of : Lent → Fill
room_of o =
    record {
      segments = length o.segments / 12;
      views = length o.views / 16;
      runs = length o.runs / 3;
      borrows = length o.borrows / 9;
      ids = length o.ids / 2;
      bytes = length o.pool;
    }

-- the layout of a manifest at the front of the lent tables; the rest as lent
abbrev pub laid_over : Lent → Lent → Lent
laid_over o l =
    record {
      segments = over o.segments l.segments;
      views = over o.views l.views;
      runs = over o.runs l.runs;
      borrows = over o.borrows l.borrows;
      ids = over o.ids l.ids;
      pool = over o.pool l.pool;
    }

-- an answer, and what the lent output tables hold
pub record Outcome : Type 0 where
  pub answer : Result ManifestRow Refusal
  pub out : Lent

-- A manifest given as a result: laid out canonically where there is room, else refusal 4, nothing changed.
unfoldable pub given_of : Limits → Manifest → Lent → Outcome
given_of lim m o =
    pick (no_room lim (room_of o) (manifest_fill m))
    (record { answer = Err NoRoom; out = o })
    (record { answer = Ok (manifest_row m); out = laid_over o (layout m) })

-- The copy needs L1 alone; a manifest that breaks it is refusal 1, rule 1.
unfoldable pub copy_of : Limits → Lent → ManifestRow → Lent → Outcome
copy_of lim l m o = pick (l1_of lim l m) (given_of lim (manifest_in l m) o) (record { answer = Err (Unlawful 1); out = o })

-- ---- behind what fills c, where the same tables hold several manifests

unfoldable pub no_room_at : Limits → Fill → Fill → Fill → Bool
no_room_at lim room c result = not (fits result lim.fill && fits (plus c result) room)

abbrev pub laid_at : Fill → Lent → Lent → Lent
laid_at c o l =
    record {
      segments = write o.segments (c.segments * 12) l.segments;
      views = write o.views (c.views * 16) l.views;
      runs = write o.runs (c.runs * 3) l.runs;
      borrows = write o.borrows (c.borrows * 9) l.borrows;
      ids = write o.ids (c.ids * 2) l.ids;
      pool = write o.pool c.bytes l.pool;
    }

unfoldable pub given_at : Limits → Fill → Manifest → Lent → Outcome
given_at lim c m o =
    pick (no_room_at lim (room_of o) c (manifest_fill m))
    (record { answer = Err NoRoom; out = o })
    (record { answer = Ok (manifest_row_at c m); out = laid_at c o (layout_at c m) })

unfoldable pub copy_at_of : Limits → Fill → Lent → ManifestRow → Lent → Outcome
copy_at_of lim c l m o = pick (l1_of lim l m) (given_at lim c (manifest_in l m) o) (record { answer = Err (Unlawful 1); out = o })

-- the number and the values of each answer
abbrev pub copied : Result ManifestRow Refusal → List ℕ
copied (Ok m) = 0 ∷ []
copied (Err r) = refusal r
