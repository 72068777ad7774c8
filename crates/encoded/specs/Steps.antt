-- What the inner functions answer. No public promise speaks of it.
use Rattle.std.specs.Prelude.{ℕ, Bool, ◌&&◌, List, Err, Ok, Result}
use Rattle.keys.specs.Pick.{pick}
use Rattle.records.specs.Fill.{fits}
use Rattle.records.specs.Decode.{Lent, manifest_in}
use Rattle.records.specs.declared.Fill.{Fill}
use Rattle.records.specs.declared.Limits.{Limits}
use Rattle.records.specs.declared.Refusal.TheVariants.{NoRoom}
use Rattle.copy.specs.Copy.{no_room}
use Rattle.insert.specs.declared.Inserted.TheVariants as lay
use Rattle.manifest_write.specs.Bytes.{manifest_bytes}
use Rattle.manifest_write.specs.Answer.{put_of}
use Rattle.encoded.specs.Insert.{Outcome, refused_to, wrote}
use Rattle.encoded.specs.declared.InsertedTo.TheVariants.{Found}
use Rattle.insert.specs.declared.Inserted.{Inserted}
use Rattle.records.specs.declared.Refusal.{Refusal}

-- the working tables w and those of the result o, in places, have room for what a manifest may fill
unfoldable pub both_fit : Fill → Fill → Fill → Bool
both_fit most w o = fits most w && fits most o

-- what came of insertion into the tables l, written, where the manifest with the prefix fills f
abbrev pub laid_to : Limits → Fill → Fill → List ℕ → Lent → Result Inserted Refusal → Outcome
laid_to lim room f out l (Ok (lay.Found i)) = record { answer = Ok (Found i); out = out }
laid_to lim room f out l (Ok (lay.Entered i row)) =
    pick (no_room lim room f) (refused_to out NoRoom)
    (wrote i (put_of (manifest_bytes (manifest_in l row)) out))
laid_to lim room f out l (Err r) = refused_to out r
