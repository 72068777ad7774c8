-- Reading what was written of a lawful manifest gives its canonical tables. Assumes nothing.
use Rattle.std.specs.Prelude.{Ok}
use Prim.Native.Nat.{◌≤◌}
use mathlib.Core.Path.{◌≡◌}
use mathlib.Core.Bool.{true}
use borrow.Author.Tests.{le-ltb}
use lib.ListN.{length}
use Rattle.records.specs.Model.{Manifest}
use Rattle.records.specs.Fill.{fits}
use Rattle.records.specs.Decode.{Lent}
use Rattle.records.specs.declared.Limits.{Limits}
use Rattle.copy.specs.Copy.{given_of}
use Rattle.manifest_write.specs.Bytes.{manifest_bytes}
use Rattle.manifest_read.specs.Answer.{broken_of, work_room, read_of}
use Rattle.manifest_round.specs.Fits.{ManifestFits}
use Rattle.manifest_round.proofs.Round.{round_trip}
use Rattle.manifest_round.proofs.Well.{well_manifest}

pub read_back : (lim : Limits) (m : Manifest) (w o : Lent) → ManifestFits m → length (manifest_bytes m) ≤ 0x1_0000 → fits lim.fill (work_room lim w) ≡ true → broken_of lim m ≡ Ok tt
    → read_of lim (manifest_bytes m) w o ≡ given_of lim m o
unfolding read_of
read_back lim m w o f h r b = rw (le-ltb 0x1_0000 (length (manifest_bytes m)) h, r, well_manifest m f, round_trip m f, b)
