-- Demand 3 on lent tables: calls one after the other, each with output tables of its own.
use Rattle.std.specs.Prelude.{ℕ, List, [], ◌∷◌, Err, Ok, Result}
use Rattle.records.specs.Model.{Manifest}
use Rattle.records.specs.Decode.{Lent, manifest_in}
use Rattle.records.specs.declared.Limits.{Limits}
use Rattle.records.specs.declared.ManifestRow.{ManifestRow}
use Rattle.copy.specs.Copy.{room_of}
use Rattle.insert.specs.Insert.{Outcome, insert_of}
use Rattle.insert.specs.declared.Inserted.TheVariants.{Found, Entered}
use Rattle.history.specs.History.{Call}
use Rattle.insert.specs.declared.Inserted.{Inserted}
use Rattle.records.specs.declared.Refusal.{Refusal}

-- lent tables with a manifest in them
pub record Site : Type 0 where
  pub tables : Lent
  pub row : ManifestRow

-- the manifest that stands there
abbrev pub standing : Site → Manifest
standing s = manifest_in s.tables s.row

-- a call is data: insert of a prefix, with output tables lent for it
pub record Insertion : Type 0 where
  pub prefix : List ℕ
  pub out : Lent

-- where the prefix entered, the manifest stands in the output tables from then on; else where it stood
abbrev pub moved : Site → Result Inserted Refusal → Lent → Site
moved s (Ok (Found i)) o = s
moved s (Ok (Entered i row)) o = record { tables = o; row = row }
moved s (Err r) o = s

abbrev pub after_insert : Site → Outcome → Site
after_insert s w = moved s w.answer w.out

-- where the manifest stands after all calls
abbrev pub replay_in : Limits → Site → List Insertion → Site
replay_in lim s [] = s
replay_in lim s (c ∷ cs) = replay_in lim (after_insert s (insert_of lim s.tables s.row c.prefix c.out)) cs

-- the same calls on the model, with as much room as the output tables have
abbrev pub call_of : Insertion → Call
call_of c = record { prefix = c.prefix; room = room_of c.out }

abbrev pub calls_of : List Insertion → List Call
calls_of [] = []
calls_of (c ∷ cs) = call_of c ∷ calls_of cs
