-- What the lawful check answers: "a manifest breaks L1..L5", "first broken rule's number".
use Rattle.std.specs.Prelude.{ℕ, Bool, not, List, [], ◌∷◌, Err, Ok, Result}
use Rattle.keys.specs.Pick.{pick}
use Rattle.records.specs.Model.{Manifest}
use Rattle.records.specs.Decode.{Lent, manifest_in}
use Rattle.records.specs.Refusals.{refusal}
use Rattle.records.specs.declared.Refusal.TheVariants.{Unlawful}
use Rattle.records.specs.declared.Limits.{Limits}
use Rattle.records.specs.declared.ManifestRow.{ManifestRow}
use Rattle.measure.specs.Measure.{l1_of}
use Rattle.lawful.specs.Law.{l2_of, l3_of, l4_of, l5_of}

-- "rules in order": the first that is broken, where `first` says whether L1 is kept
abbrev pub rules_of : Bool → Manifest → Result Unit ℕ
rules_of first m =
    pick (not first) (Err 1)
    (pick (not (l2_of m)) (Err 2)
    (pick (not (l3_of m)) (Err 3)
    (pick (not (l4_of m)) (Err 4)
    (pick (not (l5_of m)) (Err 5)
    (Ok tt)))))

unfoldable pub judged_of : Limits → Lent → ManifestRow → Result Unit ℕ
judged_of lim l m = rules_of (l1_of lim l m) (manifest_in l m)

-- the number and the values of each answer: 0, or refusal 1 with the rule's number as its place
abbrev pub judged : Result Unit ℕ → List ℕ
judged (Ok _) = 0 ∷ []
judged (Err rule) = refusal (Unlawful rule)
