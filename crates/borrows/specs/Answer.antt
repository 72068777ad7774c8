-- What owned ids and clone answer, and what the lent outputs then hold.
use Rattle.std.specs.Prelude.{ℕ, ◌/◌, List, [], ◌∷◌, ltb, length, Err, Ok, Result}
use Rattle.keys.specs.Pick.{pick}
use Rattle.tables.specs.Layout.{over}
use Rattle.ids.specs.declared.Uuid.{Uuid}
use Rattle.records.specs.Model.{Manifest}
use Rattle.records.specs.Fill.{ids, manifest_fill}
use Rattle.records.specs.Layout.{ids_laid, layout, manifest_row}
use Rattle.records.specs.Decode.{Lent, manifest_in}
use Rattle.records.specs.Refusals.{refusal}
use Rattle.records.specs.declared.Fill.{Fill}
use Rattle.records.specs.declared.Limits.{Limits}
use Rattle.records.specs.declared.ManifestRow.{ManifestRow}
use Rattle.records.specs.declared.Refusal.{Refusal}
use Rattle.records.specs.declared.Refusal.TheVariants.{Unlawful, OverLimit, NoRoom, NoFinal, TooFewFresh}
use Rattle.copy.specs.Copy.{room_of, no_room, laid_over}
use Rattle.segments.specs.Refuses.{refuses1, first_broken}
use Rattle.borrows.specs.Owned.{owned_of}
use Rattle.borrows.specs.Clone.{cloned_of, refuses15, refuses16}

-- ---- owned ids

-- an answer, and what the lent list of ids holds
pub record OwnedOutcome : Type 0 where
  pub answer : Result ℕ Refusal
  pub out : List ℕ

-- "Owned ids ask places in the id table"
abbrev pub id_room : List ℕ → Fill
id_room out = ids (length out / 2)

-- 4, or the ids at the front of the lent list, the rest as lent
unfoldable pub owned_given : Limits → Manifest → List ℕ → OwnedOutcome
owned_given lim m out =
    pick (no_room lim (id_room out) (ids (length (owned_of m))))
    (record { answer = Err NoRoom; out = out })
    (record { answer = Ok (length (owned_of m)); out = over out (ids_laid (owned_of m)) })

-- 1, 4
unfoldable pub owned_in : Limits → Lent → ManifestRow → List ℕ → OwnedOutcome
owned_in lim l m out =
    pick (refuses1 lim l m) (record { answer = Err (Unlawful (first_broken lim l m)); out = out })
    (owned_given lim (manifest_in l m) out)

-- the number and the values of each answer
abbrev pub owned_says : Result ℕ Refusal → List ℕ
owned_says (Ok n) = 0 ∷ n ∷ []
owned_says (Err r) = refusal r

-- ---- clone

-- an answer, and what the lent output tables hold
pub record ClonedOutcome : Type 0 where
  pub answer : Result ManifestRow Refusal
  pub out : Lent

abbrev pub refused : Refusal → Lent → ClonedOutcome
refused r o = record { answer = Err r; out = o }

-- 15, 4, 16
unfoldable pub cloned_given : Limits → Manifest → List ℕ → Uuid → List Uuid → Lent → ClonedOutcome
cloned_given lim m path checkpoint fresh o =
    pick (refuses15 m.borrows) (refused NoFinal o)
    (pick (no_room lim (room_of o) (manifest_fill (cloned_of m path checkpoint fresh))) (refused NoRoom o)
    (pick (refuses16 (cloned_of m path checkpoint fresh).borrows fresh) (refused TooFewFresh o)
    (record { answer = Ok (manifest_row (cloned_of m path checkpoint fresh)); out = laid_over o (layout (cloned_of m path checkpoint fresh)) })))

-- "2 | .. path argument .. over its limit", then 1
unfoldable pub cloned_in : Limits → Lent → ManifestRow → List ℕ → Uuid → List Uuid → Lent → ClonedOutcome
cloned_in lim l m path checkpoint fresh o =
    pick (ltb lim.path (length path)) (refused OverLimit o)
    (pick (refuses1 lim l m) (refused (Unlawful (first_broken lim l m)) o)
    (cloned_given lim (manifest_in l m) path checkpoint fresh o))

abbrev pub cloned_says : Result ManifestRow Refusal → List ℕ
cloned_says (Ok m) = 0 ∷ []
cloned_says (Err r) = refusal r
