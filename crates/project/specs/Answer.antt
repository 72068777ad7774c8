-- What projection answers, and what every lent output then holds.
use Rattle.std.specs.Prelude.{ℕ, ◌/◌, Bool, not, ◌&&◌, ◌||◌, List, [], ◌∷◌, ltb, length, Err, Ok, Result, None, Option, Some}
use Rattle.keys.specs.Pick.{pick}
use Rattle.records.specs.Model.{Manifest}
use Rattle.records.specs.Fill.{manifest_fill}
use Rattle.records.specs.Layout.{layout, manifest_row}
use Rattle.records.specs.Decode.{Lent, manifest_in}
use Rattle.records.specs.Refusals.{refusal}
use Rattle.records.specs.declared.Limits.{Limits}
use Rattle.records.specs.declared.ManifestRow.{ManifestRow}
use Rattle.records.specs.declared.Refusal.{Refusal}
use Rattle.records.specs.declared.Refusal.TheVariants.{Unlawful, OverLimit, NoRoom, EmptyRange, MaskBit}
use Rattle.copy.specs.Copy.{room_of, no_room, laid_over}
use Rattle.segments.specs.Prefixes.{prefixes}
use Rattle.segments.specs.Refuses.{refuses1, first_broken}
use Rattle.project_ranges.specs.Config.{Config, is_noop, names_count, refuses10, place10}
use Rattle.project_ranges.specs.Own.{own_fault}
use Rattle.project_ranges.specs.Args.{config_in, config_over, global_empty}
use Rattle.project_ranges.specs.declared.ProjectionConfig.{ProjectionConfig}
use Rattle.project.specs.Project.{projected_of}

-- an answer, and what the lent output tables hold
pub record Outcome : Type 0 where
  pub answer : Result (ℕ × ManifestRow) Refusal
  pub out : Lent

abbrev pub refused : Refusal → Lent → Outcome
refused r o = record { answer = Err r; out = o }

-- "8 / 9 | own range empty / not contained"
abbrev pub unless_fault : Option Refusal → Lent → Outcome → Outcome
unless_fault None o given = given
unless_fault (Some r) o given = refused r o

-- 4 too where the working list has fewer places than the result has views; a copy needs none
abbrev pub used_short : Config → ℕ → Manifest → Bool
used_short c places result = not (is_noop c) && ltb places (manifest_fill result).views

-- 4, or the manifest and how many segments the mask names
unfoldable pub projected_to : Limits → Config → ℕ → Manifest → Lent → Outcome
projected_to lim c places result o =
    pick (no_room lim (room_of o) (manifest_fill result) || used_short c places result) (refused NoRoom o)
    (record { answer = Ok (names_count c.filter, manifest_row result); out = laid_over o (layout result) })

-- of a lawful manifest: 5, 10, then 8 and 9, then 4
unfoldable pub projected_given : Limits → Config → ℕ → Manifest → Lent → Outcome
projected_given lim c places m o =
    pick (global_empty c.global) (refused EmptyRange o)
    (pick (refuses10 (length m.segments) c.filter) (refused (MaskBit (place10 c.filter)) o)
    (unless_fault (own_fault c (prefixes m.segments)) o (projected_to lim c places (projected_of c m) o)))

-- 2 for every argument, then 1. `used` is a working list of ids, two words each.
unfoldable pub projected_in : Limits → Lent → ManifestRow → ProjectionConfig → List ℕ → List ℕ → Lent → Outcome
projected_in lim l m c own used o =
    pick (config_over lim.key (length l.pool) m.segments.count c own) (refused OverLimit o)
    (pick (refuses1 lim l m) (refused (Unlawful (first_broken lim l m)) o)
    (projected_given lim (config_in l.pool c own) (length used / 2) (manifest_in l m) o))

-- the number and the values of each answer
abbrev pub projected_says : Result (ℕ × ManifestRow) Refusal → List ℕ
projected_says (Ok (names, m)) = 0 ∷ names ∷ []
projected_says (Err r) = refusal r
