-- Projection by the kinds of the global range. Assumes nothing.
use Rattle.std.specs.Prelude.{Result}
use Prim.Native.Nat.{ℕ}
use mathlib.Core.Path.{◌≡◌, ap, ◌∙◌}
use mathlib.Core.Bool.{true, false}
use mathlib.Core.List.{List}
use Rattle.records.specs.Decode.{Lent}
use Rattle.records.specs.Limits.{limits01}
use Rattle.records.specs.Refusals.{refusal}
use Rattle.records.specs.declared.Fill.{Fill}
use Rattle.records.specs.declared.Limits.{Limits}
use Rattle.records.specs.declared.Refusal.{Refusal}
use Rattle.records.specs.declared.Refusal.TheVariants.{OverLimit}
use Rattle.project_ranges.specs.declared.ProjectionConfig.{ProjectionConfig}
use Rattle.encoded_project.specs.Project.{refused_to, projected, project_to}
use Rattle.exports_forms.specs.Arguments.{config_arg, odd_global}
use Rattle.exports_forms.specs.Replies.{told}
use Rattle.exports_forms.specs.declared.Answer.{Answer}
use Rattle.exports.specs.Calls.{project_by, project_reply}

module _ (f r s args own : List ℕ) (room : Fill) (w t : Lent) (used pool out : List ℕ) where
  pub project_odd : odd_global f r ≡ true → (a : Answer) → a ≡ told (refusal OverLimit) → record { answer = a; out = out } ≡ project_reply (project_by f r s args own room w t used pool out)
  unfolding project_by
  project_odd h a e = rw (h, e)

  -- where the limits, what is asked and the room were worked out
  module _ (h : odd_global f r ≡ false) (lim : Limits) (el : lim ≡ limits01) (c : ProjectionConfig) (ec : c ≡ config_arg f r) (most : Fill) (em : most ≡ room) where
    project_even : project_to lim s args c own most w t used pool out ≡ project_by f r s args own room w t used pool out
    unfolding project_by
    project_even =
        ap (λ (l : Limits). project_to l s args c own most w t used pool out) el
        ∙ ap (λ (d : ProjectionConfig). project_to limits01 s args d own most w t used pool out) ec
        ∙ ap (λ (m : Fill). project_to limits01 s args (config_arg f r) own m w t used pool out) em
        ∙ rw h

    pub even_refused : (x : Refusal) (a : Answer) → a ≡ told (refusal x) → refused_to out x ≡ project_to lim s args c own most w t used pool out → record { answer = a; out = out } ≡ project_reply (project_by f r s args own room w t used pool out)
    even_refused x a e k = rw e (ap project_reply (k ∙ project_even))

    pub even_given : (x : Result (ℕ × ℕ) Refusal) (a : Answer) (o : List ℕ) → a ≡ told (projected x) → record { answer = x; out = o } ≡ project_to lim s args c own most w t used pool out → record { answer = a; out = o } ≡ project_reply (project_by f r s args own room w t used pool out)
    even_given x a o e k = rw e (ap project_reply (k ∙ project_even))
