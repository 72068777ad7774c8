-- What a union replies, by what the calls in it answer. Assumes nothing.
use Rattle.std.specs.Prelude.{Result}
use Prim.Native.Nat.{ℕ}
use mathlib.Core.Path.{◌≡◌, ap}
use mathlib.Core.List.{List}
use Rattle.records.specs.Decode.{Lent}
use Rattle.records.specs.Limits.{limits01}
use Rattle.records.specs.declared.Fill.{Fill}
use Rattle.records.specs.declared.Limits.{Limits}
use Rattle.manifest_write.specs.Answer.{written}
use Rattle.encoded_union.specs.Union.{union_to}
use Rattle.encoded_united.specs.Lists.{own_short}
use Rattle.exports_forms.specs.Replies.{told, wrote_reply}
use Rattle.exports_forms.specs.declared.Answer.{Answer}
use Rattle.records.specs.declared.Refusal.{Refusal}

module _ (s ends paths path_ends checkpoints fresh out done : List ℕ) (most : Fill) (w t o : Lent) (given sets : ℕ) where
  pub union_replies : {lim : Limits} {room : Fill} {x : Result ℕ Refusal} {a : Answer} →
      lim ≡ limits01 → room ≡ most → a ≡ told (written x) →
      record { answer = x; out = done } ≡ union_to lim s ends paths path_ends checkpoints fresh room w t given (own_short lim sets) o out →
      record { answer = a; out = done } ≡ wrote_reply (union_to limits01 s ends paths path_ends checkpoints fresh most w t given (own_short limits01 sets) o out)
  union_replies l m e h = rw e (ap wrote_reply (rw (l, m) at h))
