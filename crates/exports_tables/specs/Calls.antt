-- What a call on lent tables answers.
use Rattle.std.specs.Prelude.{ℕ, List, [], ◌∷◌, pos, replicate, Err, Ok, Result}
use Rattle.keys.specs.Pick.{pick}
use Rattle.records.specs.Decode.{Lent}
use Rattle.records.specs.Limits.{limits01}
use Rattle.records.specs.Words.{segment_words}
use Rattle.records.specs.Refusals.{refusal}
use Rattle.records.specs.declared.ManifestRow.{ManifestRow}
use Rattle.records.specs.declared.Refusal.TheVariants.{OverLimit}
use Rattle.copy.specs.Copy.{Outcome}
use Rattle.segments.specs.Select.{selected_of}
use Rattle.insert.specs.Insert.{Outcome as Inserts, inserted}
use Rattle.insert.specs.declared.Inserted.TheVariants as entry
use Rattle.exports_forms.specs.Replies.{told}
use Rattle.exports_forms.specs.Arguments.{range_arg, odd_of}
use Rattle.exports_forms.specs.declared.Answer.{Answer}
use Rattle.exports_tables.specs.Head.{tree_row, rest_words}
use Rattle.exports_tables.specs.declared.Laid.{Laid}
use Rattle.records.specs.declared.Refusal.{Refusal}
use Rattle.segments.specs.declared.Selected.{Selected}
use Rattle.insert.specs.declared.Inserted.{Inserted}

-- "2 | .. bound .. over its limit": a kind that stands for nothing is over its limit too
unfoldable pub select_in : List ℕ → List ℕ → Lent → ManifestRow → Result Selected Refusal
select_in r args l m = pick (odd_of r) (Err OverLimit) (selected_of limits01 l m args (range_arg r))

-- an answer without a manifest
abbrev pub bare : Answer → Laid
bare a = record { answer = a; tree = replicate 12 0; rest = replicate 12 0; tick = pos 0 }

-- an answer, and the own value of the manifest that was laid into the lent tables
abbrev pub headed : Answer → ManifestRow → Laid
headed a m = record { answer = a; tree = segment_words (tree_row m); rest = rest_words m; tick = m.last_l0_clock_tick }

-- what is returned, and what the lent tables for the result hold
pub record Reply : Type 0 where
  pub laid : Laid
  pub out : Lent

-- 0 and the manifest's value, or the refusal
abbrev pub copied_laid : Result ManifestRow Refusal → Laid
copied_laid (Ok m) = headed (told (0 ∷ [])) m
copied_laid (Err r) = bare (told (refusal r))

abbrev pub read_reply : Outcome → Reply
read_reply o = record { laid = copied_laid o.answer; out = o.out }

-- 0, how the prefix's segment came to be and its index, with the manifest's value where it entered, or the refusal
abbrev pub inserted_laid : Result Inserted Refusal → Laid
inserted_laid (Ok (entry.Found i)) = bare (told (inserted (Ok (entry.Found i))))
inserted_laid (Ok (entry.Entered i m)) = headed (told (inserted (Ok (entry.Entered i m)))) m
inserted_laid (Err r) = bare (told (refusal r))

abbrev pub insert_reply : Inserts → Reply
insert_reply o = record { laid = inserted_laid o.answer; out = o.out }
