-- What the inner functions answer. No public promise speaks of it.
use Rattle.std.specs.Prelude.{ℕ, ◌&&◌, List, length}
use Rattle.keys.specs.Pick.{pick}
use Rattle.tables.specs.Layout.{write}
use Rattle.records.specs.Fill.{plus, bytes, fits}
use Rattle.records.specs.Decode.{Lent}
use Rattle.records.specs.declared.Fill.{Fill}
use Rattle.records.specs.declared.Limits.{Limits}
use Rattle.records.specs.declared.ManifestRow.{ManifestRow}
use Rattle.records.specs.declared.Refusal.TheVariants.{Unlawful, OverLimit, NoRoom}
use Rattle.lawful.specs.Judge.{judged_of}
use Rattle.copy.specs.Copy.{Outcome, room_of, given_at, copy_at_of}
use Rattle.msgpack.specs.Skip.{whole_of}
use Rattle.manifest_read.specs.Answer.{refused, by_law, by_whole, work_room}
use Rattle.project_ranges.specs.declared.ProjectionConfig.{ProjectionConfig}
use Rattle.encoded_project.specs.Project.{over_in}

-- rows of which there are f, judged, and copied behind what fills c where they are lawful
unfoldable pub kept_at : Limits → Fill → Fill → Lent → ManifestRow → Lent → Outcome
kept_at lim f c l m o = pick (fits f lim.fill) (by_law (judged_of lim l m) (copy_at_of lim c l m o) o) (refused (Unlawful 1) o)

-- bytes read behind what fills c: 18, 19, 2 of the own ranges that count, 1
unfoldable pub read_with : Limits → ℕ → ProjectionConfig → List ℕ → List ℕ → Fill → Lent → Outcome
read_with lim n a own s c o = pick (over_in lim n a own s) (refused OverLimit o) (by_whole lim (λ m. given_at lim c m o) s o (whole_of s))

-- the arguments laid at the front, and the bytes read behind them, where w has room for any manifest within L1, and o behind the arguments
unfoldable pub read_behind : Limits → List ℕ → ProjectionConfig → List ℕ → List ℕ → Lent → Lent → Outcome
read_behind lim args a own s w o =
    pick (fits lim.fill (work_room lim w) && fits (plus (bytes (length args)) lim.fill) (room_of o))
    (read_with lim (length args) a own s (bytes (length args)) (record { segments = o.segments; views = o.views; runs = o.runs; borrows = o.borrows; ids = o.ids; pool = write o.pool 0 args }))
    (refused NoRoom o)
