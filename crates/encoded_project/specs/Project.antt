-- Projection of an encoded manifest.
use Rattle.std.specs.Prelude.{ℕ, ◌*◌, ◌/◌, Bool, false, not, ◌||◌, List, [], ◌∷◌, ltb, length, take, Err, Ok, Result, None, Option, Some}
use Rattle.keys.specs.Pick.{pick}
use Rattle.records.specs.Model.{Manifest}
use Rattle.records.specs.Fill.{plus, bytes, fits, manifest_fill}
use Rattle.records.specs.Decode.{Lent}
use Rattle.records.specs.Refusals.{refusal}
use Rattle.records.specs.declared.Fill.{Fill}
use Rattle.records.specs.declared.Limits.{Limits}
use Rattle.records.specs.declared.Refusal.{Refusal}
use Rattle.records.specs.declared.Refusal.TheVariants.{OverLimit, NoRoom, EmptyRange, MaskBit}
use Rattle.copy.specs.Copy.{room_of, no_room}
use Rattle.segments.specs.Prefixes.{prefixes}
use Rattle.msgpack.specs.Skip.{whole_of}
use Rattle.manifest_write.specs.Bytes.{manifest_bytes}
use Rattle.manifest_write.specs.Answer.{put_of, Outcome as Put}
use Rattle.manifest_values.specs.Read.{Got, is, wrong, manifest_at}
use Rattle.project_ranges.specs.Config.{Config, names_count, refuses10, place10}
use Rattle.project_ranges.specs.Own.{own_fault}
use Rattle.project_ranges.specs.Args.{config_in, counted, global_over, config_over, global_empty}
use Rattle.project_ranges.specs.declared.ProjectionConfig.{ProjectionConfig}
use Rattle.project.specs.Project.{projected_of}
use Rattle.encoded.specs.Encoded.{on, encoded_of, long_of, short_of}

-- an answer, and what the lent slice for the encoded result holds
pub record Outcome : Type 0 where
  pub answer : Result (ℕ × ℕ) Refusal
  pub out : List ℕ

-- "Each returns its number and place (0 where none is named) and changes no lent output."
abbrev pub refused_to : List ℕ → Refusal → Outcome
refused_to out r = record { answer = Err r; out = out }

-- ---- what is asked of a manifest with so many segments

-- "excess: unread": the rows of the own table past those that count are none
abbrev pub config_for : List ℕ → ProjectionConfig → List ℕ → ℕ → Config
config_for args c own segments = config_in args c (take (counted own segments * 6) own)

-- 2, of the own ranges that count: bytes that are no manifest are refused for that, 18 or 19, and a manifest need not be lawful
abbrev pub over_got : (Manifest → Bool) → Got Manifest → Bool
over_got over (wrong q) = false
over_got over (is m p) = over m

abbrev pub over_whole : (Manifest → Bool) → List ℕ → Result Unit ℕ → Bool
over_whole over s (Err q) = false
over_whole over s (Ok _) = over_got over (manifest_at s 0)

unfoldable pub over_in : Limits → ℕ → ProjectionConfig → List ℕ → List ℕ → Bool
over_in lim n c own s = over_whole (λ m. config_over lim.key n (length m.segments) c own) s (whole_of s)

-- ---- the result

-- what came of writing it, where the mask names so many segments
abbrev pub wrote_by : ℕ → Result ℕ Refusal → Result (ℕ × ℕ) Refusal
wrote_by names (Ok n) = Ok (names, n)
wrote_by names (Err r) = Err r

abbrev pub wrote : ℕ → Put → Outcome
wrote names w = record { answer = wrote_by names w.answer; out = w.out }

-- "result breaks a number in L1, or a lent output is too short" is 4, first for the records and bytes that it fills, then for its
-- encoded form
unfoldable pub given_to : Limits → Fill → List ℕ → ℕ → Manifest → Outcome
given_to lim room out names result =
    pick (no_room lim room (manifest_fill result)) (refused_to out NoRoom)
    (wrote names (put_of (manifest_bytes result) out))

-- "8 / 9 | own range empty / not contained"
abbrev pub unless_fault : List ℕ → Option Refusal → Outcome → Outcome
unless_fault out None given = given
unless_fault out (Some r) given = refused_to out r

-- of a lawful manifest: 5, 10, then 8 and 9, then 4
unfoldable pub projected_to : Limits → Fill → List ℕ → Config → Manifest → Outcome
projected_to lim room out c m =
    pick (global_empty c.global) (refused_to out EmptyRange)
    (pick (refuses10 (length m.segments) c.filter) (refused_to out (MaskBit (place10 c.filter)))
    (unless_fault out (own_fault c (prefixes m.segments)) (given_to lim room out (names_count c.filter) (projected_of c m))))

-- too few places for some manifest within L1: in w, into which it is read; in t, which holds it behind n bytes of arguments; in the
-- list of ids in use; or in the pool of the result
abbrev pub short_any : Limits → ℕ → Lent → Lent → List ℕ → List ℕ → Bool
short_any lim n w t used pool =
    short_of lim w || not (fits (plus (bytes n) lim.fill) (room_of t)) || ltb (length used / 2) lim.fill.views || ltb (length pool) lim.fill.bytes

-- the order of refusals: 2 of the input and the global range, the working tables, 18, 19, 2 of the own ranges that count, 1, then
-- those of the projection
unfoldable pub project_to : Limits → List ℕ → List ℕ → ProjectionConfig → List ℕ → Fill → Lent → Lent → List ℕ → List ℕ → List ℕ → Outcome
project_to lim s args c own room w t used pool out =
    pick (long_of s || global_over lim.key (length args) c.global_range) (refused_to out OverLimit)
    (pick (short_any lim (length args) w t used pool) (refused_to out NoRoom)
    (pick (over_in lim (length args) c own s) (refused_to out OverLimit)
    (on (refused_to out) (λ m. projected_to lim room out (config_for args c own (length m.segments)) m) (encoded_of lim s))))

-- the number and the values of each answer
abbrev pub projected : Result (ℕ × ℕ) Refusal → List ℕ
projected (Ok (names, n)) = 0 ∷ names ∷ n ∷ []
projected (Err r) = refusal r
