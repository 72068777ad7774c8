-- What writing answers, and what the lent slice then holds.
use Rattle.std.specs.Prelude.{ℕ, List, [], ◌∷◌, ltb, length, Err, Ok, Result}
use Rattle.keys.specs.Pick.{pick}
use Rattle.tables.specs.Layout.{over}
use Rattle.records.specs.Decode.{Lent, manifest_in}
use Rattle.records.specs.Refusals.{refusal}
use Rattle.records.specs.declared.Refusal.TheVariants.{Unlawful, NoRoom}
use Rattle.records.specs.declared.Limits.{Limits}
use Rattle.records.specs.declared.ManifestRow.{ManifestRow}
use Rattle.lawful.specs.Judge.{judged_of}
use Rattle.manifest_write.specs.Bytes.{manifest_bytes}
use Rattle.records.specs.declared.Refusal.{Refusal}

-- an answer, and what the lent slice holds
pub record Outcome : Type 0 where
  pub answer : Result ℕ Refusal
  pub out : List ℕ

-- "a lent output is too short: fewer places (one a record or id) or bytes than the result fills": refusal 4, nothing changed; else
-- the bytes at the front, the rest as lent
unfoldable pub put_of : List ℕ → List ℕ → Outcome
put_of bs out =
    pick (ltb (length out) (length bs))
    (record { answer = Err NoRoom; out = out })
    (record { answer = Ok (length bs); out = over out bs })

-- "a manifest breaks L1..L5": refusal 1, nothing changed
abbrev pub after_judged : Result Unit ℕ → List ℕ → List ℕ → Outcome
after_judged (Err rule) bs out = record { answer = Err (Unlawful rule); out = out }
after_judged (Ok _) bs out = put_of bs out

-- a manifest that stands in lent tables, written
unfoldable pub write_of : Limits → Lent → ManifestRow → List ℕ → Outcome
write_of lim l m out = after_judged (judged_of lim l m) (manifest_bytes (manifest_in l m)) out

-- the number and the values of each answer
abbrev pub written : Result ℕ Refusal → List ℕ
written (Ok n) = 0 ∷ n ∷ []
written (Err r) = refusal r
