-- What the working tables stand for once bytes were read into them. No public promise speaks of it.
use Rattle.std.specs.Prelude.{Err, Ok, Result, ℕ}
use Rattle.keys.specs.Pick.{pick}
use Rattle.records.specs.Fill.{fits}
use Rattle.records.specs.Decode.{Lent, manifest_in}
use Rattle.records.specs.declared.Limits.{Limits}
use Rattle.records.specs.declared.Refusal.TheVariants.{Unlawful, NotTheRecord}
use Rattle.lawful.specs.Judge.{judged_of}
use Rattle.encoded.specs.Encoded.{Encoded, refused, by_law}
use Rattle.records.specs.declared.ManifestRow.{ManifestRow}
use Rattle.records.specs.declared.Fill.{Fill}
use Rattle.records.specs.declared.Refusal.{Refusal}

-- the manifest of the rows, where it is lawful
abbrev pub rows_in : Limits → Lent → Result ManifestRow Refusal → Encoded
rows_in lim l (Ok m) = by_law (judged_of lim l m) (manifest_in l m)
rows_in lim l (Err r) = refused r

-- the rows that were filled, where their number is within L1
unfoldable pub rows_got : Limits → Result (ManifestRow × Fill × ℕ) ℕ → Result ManifestRow Refusal
rows_got lim (Ok (row, c, p)) = pick (fits c lim.fill) (Ok row) (Err (Unlawful 1))
rows_got lim (Err q) = Err (NotTheRecord q)
