-- What the entry points answer where their arguments are numbers, or more than bytes come out.
use Rattle.std.specs.Prelude.{ℕ, List, Err, Result}
use Rattle.keys.specs.Pick.{pick}
use Rattle.records.specs.Decode.{Lent}
use Rattle.records.specs.Limits.{limits01}
use Rattle.records.specs.declared.Fill.{Fill}
use Rattle.records.specs.declared.Refusal.TheVariants.{OverLimit}
use Rattle.encoded.specs.Insert.{Outcome as Inserts, inserted}
use Rattle.encoded.specs.Select.{select_of}
use Rattle.encoded_project.specs.Project.{Outcome as Projects, refused_to, projected, project_to}
use Rattle.exports_forms.specs.Arguments.{range_arg, odd_of, config_arg, odd_global}
use Rattle.exports_forms.specs.Replies.{Reply, told}
use Rattle.segments.specs.declared.Selected.{Selected}
use Rattle.records.specs.declared.Refusal.{Refusal}

-- "2 | .. bound .. over its limit": a kind that stands for nothing is over its limit too
unfoldable pub select_by : List ℕ → List ℕ → List ℕ → Lent → Result Selected Refusal
select_by r s args w = pick (odd_of r) (Err OverLimit) (select_of limits01 s args (range_arg r) w)

-- the same of the global range
unfoldable pub project_by : List ℕ → List ℕ → List ℕ → List ℕ → List ℕ → Fill → Lent → Lent → List ℕ → List ℕ → List ℕ → Projects
project_by f r s args own room w t used pool out =
    pick (odd_global f r) (refused_to out OverLimit) (project_to limits01 s args (config_arg f r) own room w t used pool out)

-- 0, how the prefix's segment came to be, its index and how many bytes were written, or the refusal
abbrev pub insert_reply : Inserts → Reply
insert_reply o = record { answer = told (inserted o.answer); out = o.out }

-- 0, how many segments the mask names and how many bytes were written, or the refusal
abbrev pub project_reply : Projects → Reply
project_reply o = record { answer = told (projected o.answer); out = o.out }
