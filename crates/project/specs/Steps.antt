-- The steps that the code takes towards its answer. No public promise speaks of them.
use Rattle.std.specs.Prelude.{ℕ, ltb, Ok}
use Rattle.keys.specs.Pick.{pick}
use Rattle.records.specs.Model.{Manifest}
use Rattle.records.specs.Decode.{Lent}
use Rattle.records.specs.Fill.{plus, sum, key_fill, name_keys, tree_fill, segment_fill, manifest_fill}
use Rattle.records.specs.Layout.{layout, manifest_row}
use Rattle.records.specs.declared.Fill.{Fill}
use Rattle.records.specs.declared.Limits.{Limits}
use Rattle.records.specs.declared.Refusal.TheVariants.{NoRoom}
use Rattle.copy.specs.Copy.{room_of, no_room, laid_over}
use Rattle.project.specs.Answer.{Outcome, refused}

-- what its trees and its name fill
abbrev pub body_fill : Manifest → Fill
body_fill m = plus (tree_fill m.tree) (plus (sum segment_fill m.segments) (sum key_fill (name_keys m.extractor)))

-- given where there is room, with how many segments the mask names
unfoldable pub filled_to : Limits → ℕ → Manifest → Lent → Outcome
filled_to lim names result o =
    pick (no_room lim (room_of o) (manifest_fill result)) (refused NoRoom o) (record { answer = Ok (names, manifest_row result); out = laid_over o (layout result) })

-- the same, with so many places in the working list
unfoldable pub listed_to : Limits → ℕ → ℕ → Manifest → Lent → Outcome
listed_to lim names places result o = pick (ltb places (manifest_fill result).views) (refused NoRoom o) (filled_to lim names result o)
