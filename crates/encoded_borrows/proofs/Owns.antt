-- Which answer owned ids give, by their tests. Assumes nothing.
use Rattle.std.specs.Prelude.{Ok}
use Prim.Native.Nat.{ℕ}
use mathlib.Core.Path.{◌≡◌, refl}
use mathlib.Core.Bool.{true, false}
use mathlib.Core.List.{List}
use Rattle.records.specs.Fill.{fits}
use Rattle.records.specs.Decode.{Lent, manifest_in}
use Rattle.records.specs.declared.Limits.{Limits}
use Rattle.records.specs.declared.ManifestRow.{ManifestRow}
use Rattle.records.specs.declared.Refusal.{Refusal}
use Rattle.records.specs.declared.Refusal.TheVariants.{OverLimit, NoRoom}
use Rattle.lawful.specs.Judge.{judged_of}
use Rattle.borrows.specs.Answer.{owned_given, owned_in}
use Rattle.manifest_read.specs.Answer.{work_room}
use Rattle.encoded.specs.Encoded.{refused, encoded_of, long_of}
use Rattle.encoded.specs.InTables.{rows_in}
use Rattle.encoded.proofs.Looks.{judged_on}
use Rattle.encoded_borrows.specs.Owned.{refused_ids, owned_on, owned_to}

pub owned_rows : (lim : Limits) (l : Lent) (m : ManifestRow) (out : List ℕ) → owned_in lim l m out ≡ owned_on lim out (rows_in lim l (Ok m))
unfolding owned_in owned_on
owned_rows lim l m out = judged_on (refused_ids out) (λ n. owned_given lim n out) (judged_of lim l m) (manifest_in l m)

pub owned_refused : (lim : Limits) (out : List ℕ) (x : Refusal) → refused_ids out x ≡ owned_on lim out (refused x)
unfolding owned_on
owned_refused lim out x = refl

-- ---- the order of refusals

module _ (lim : Limits) (s : List ℕ) (w : Lent) (out : List ℕ) where
  pub owned_long : long_of s ≡ true → refused_ids out OverLimit ≡ owned_to lim s w out
  unfolding owned_to
  owned_long h = rw h

  module _ (h : long_of s ≡ false) where
    pub owned_short : fits lim.fill (work_room lim w) ≡ false → refused_ids out NoRoom ≡ owned_to lim s w out
    unfolding owned_to
    owned_short k = rw (h, k)

    pub owned_bytes : fits lim.fill (work_room lim w) ≡ true → owned_on lim out (encoded_of lim s) ≡ owned_to lim s w out
    unfolding owned_to
    owned_bytes k = rw (h, k)
