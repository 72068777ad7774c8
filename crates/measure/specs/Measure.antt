-- L1 whole, and what a manifest that keeps it fills.
use Rattle.std.specs.Prelude.{Bool, ◌&&◌, None, Option, Some}
use Rattle.keys.specs.Pick.{pick}
use Rattle.records.specs.Fill.{manifest_fill}
use Rattle.records.specs.Decode.{Lent, manifest_in}
use Rattle.records.specs.declared.Limits.{Limits}
use Rattle.records.specs.declared.ManifestRow.{ManifestRow}
use Rattle.measure.specs.Within.{within}
use Rattle.measure.specs.Placed.{placed}
use Rattle.records.specs.declared.Fill.{Fill}

-- L1 of the manifest that stands in lent tables: its records lie within them, and its numbers within the limits
unfoldable pub l1_of : Limits → Lent → ManifestRow → Bool
l1_of lim l m = placed l m && within lim (manifest_in l m)

-- what a manifest that keeps L1 fills
unfoldable pub measured_of : Limits → Lent → ManifestRow → Option Fill
measured_of lim l m = pick (l1_of lim l m) (Some (manifest_fill (manifest_in l m))) None
