-- What the inner functions answer. No public promise speaks of it.
use Rattle.std.specs.Prelude.{ℕ, Bool, List, Err, Ok, Result}
use Rattle.keys.specs.Pick.{pick}
use Rattle.records.specs.Decode.{Lent, manifest_in}
use Rattle.records.specs.declared.Fill.{Fill}
use Rattle.records.specs.declared.Limits.{Limits}
use Rattle.records.specs.declared.Refusal.TheVariants.{NoRoom}
use Rattle.copy.specs.Copy.{no_room}
use Rattle.manifest_write.specs.Bytes.{manifest_bytes}
use Rattle.manifest_write.specs.Answer.{Outcome}
use Rattle.encoded.specs.Read.{refused_with}
use Rattle.encoded_borrows.specs.Clone.{fresh_put}
use Rattle.records.specs.declared.ManifestRow.{ManifestRow}
use Rattle.records.specs.declared.Refusal.{Refusal}

-- what came of laying the clone in the tables l, written, where the clone fills f
abbrev pub laid_put : Bool → Limits → Fill → Fill → List ℕ → Lent → Result ManifestRow Refusal → Outcome
laid_put few lim room f out l (Ok row) =
    pick (no_room lim room f) (refused_with out NoRoom)
    (fresh_put few (manifest_bytes (manifest_in l row)) out)
laid_put few lim room f out l (Err r) = refused_with out r
