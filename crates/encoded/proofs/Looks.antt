-- Which answer lookup and selection give, by their tests. Assumes nothing.
use Rattle.std.specs.Prelude.{Err, Ok, Result}
use Prim.Native.Nat.{ℕ}
use mathlib.Core.Path.{◌≡◌, refl}
use mathlib.Core.Bool.{true, false}
use mathlib.Core.List.{List}
use lib.ListN.{length}
use Rattle.keys.specs.Pick.{pick}
use Rattle.keys.specs.Pool.{edges_of}
use Rattle.keys.specs.declared.Range.{Range}
use Rattle.records.specs.Model.{Manifest}
use Rattle.records.specs.Fill.{fits}
use Rattle.records.specs.Decode.{Lent, manifest_in}
use Rattle.records.specs.declared.Limits.{Limits}
use Rattle.records.specs.declared.ManifestRow.{ManifestRow}
use Rattle.records.specs.declared.Refusal.{Refusal}
use Rattle.records.specs.declared.Refusal.TheVariants.{Unlawful, OverLimit, NoRoom}
use Rattle.lawful.specs.Judge.{judged_of}
use Rattle.segments.specs.Prefixes.{prefixes}
use Rattle.segments.specs.Refuses.{prefix_over, range_over, is_broken, rule_of}
use Rattle.segments.specs.Lookup.{tree_for, looked_of}
use Rattle.segments.specs.Select.{selected_of}
use Rattle.manifest_read.specs.Answer.{work_room}
use Rattle.encoded.specs.Encoded.{refused, on, by_law, encoded_of, long_of}
use Rattle.encoded.specs.InTables.{rows_in}
use Rattle.encoded.specs.Lookup.{looked_in, lookup_of}
use Rattle.encoded.specs.Select.{answered, selected_in, select_of}

-- an operation that judges its manifest says what follows from the rows
pub judged_on : {A : Type 0} (refuse : Refusal → A) (give : Manifest → A) (j : Result Unit ℕ) (m : Manifest)
    → pick (is_broken j) (refuse (Unlawful (rule_of j))) (give m) ≡ on refuse give (by_law j m)
judged_on refuse give (Ok _) m = refl
judged_on refuse give (Err rule) m = refl

-- ---- lookup

pub looked_rows : (lim : Limits) (l : Lent) (m : ManifestRow) (p : List ℕ) → prefix_over lim p ≡ false → looked_of lim l m p ≡ looked_in p (rows_in lim l (Ok m))
unfolding looked_of looked_in
looked_rows lim l m p h = rw h (judged_on Err (λ n. tree_for (prefixes n.segments) p) (judged_of lim l m) (manifest_in l m))

pub looked_refused : (p : List ℕ) (x : Refusal) → Err x ≡ looked_in p (refused x)
unfolding looked_in
looked_refused p x = refl

module _ (lim : Limits) (s p : List ℕ) (w : Lent) where
  pub lookup_long : long_of s ≡ true → Err OverLimit ≡ lookup_of lim s p w
  unfolding lookup_of
  lookup_long h = rw h

  module _ (h : long_of s ≡ false) where
    pub lookup_over : prefix_over lim p ≡ true → Err OverLimit ≡ lookup_of lim s p w
    unfolding lookup_of
    lookup_over k = rw (h, k)

    module _ (k : prefix_over lim p ≡ false) where
      pub lookup_short : fits lim.fill (work_room lim w) ≡ false → Err NoRoom ≡ lookup_of lim s p w
      unfolding lookup_of
      lookup_short f = rw (h, k, f)

      pub lookup_bytes : fits lim.fill (work_room lim w) ≡ true → looked_in p (encoded_of lim s) ≡ lookup_of lim s p w
      unfolding lookup_of
      lookup_bytes f = rw (h, k, f)

-- ---- selection

pub selected_rows : (lim : Limits) (l : Lent) (m : ManifestRow) (args : List ℕ) (r : Range) → range_over lim.key (length args) r ≡ false → selected_of lim l m args r ≡ selected_in args r (rows_in lim l (Ok m))
unfolding selected_of selected_in
selected_rows lim l m args r h = rw h (judged_on Err (λ n. answered (edges_of args r) (prefixes n.segments)) (judged_of lim l m) (manifest_in l m))

-- what follows for a refusal
pub selected_refused : (args : List ℕ) (r : Range) (x : Refusal) → Err x ≡ selected_in args r (refused x)
unfolding selected_in
selected_refused args r x = refl

module _ (lim : Limits) (s args : List ℕ) (r : Range) (w : Lent) where
  pub select_long : long_of s ≡ true → Err OverLimit ≡ select_of lim s args r w
  unfolding select_of
  select_long h = rw h

  module _ (h : long_of s ≡ false) where
    pub select_over : range_over lim.key (length args) r ≡ true → Err OverLimit ≡ select_of lim s args r w
    unfolding select_of
    select_over k = rw (h, k)

    module _ (k : range_over lim.key (length args) r ≡ false) where
      pub select_short : fits lim.fill (work_room lim w) ≡ false → Err NoRoom ≡ select_of lim s args r w
      unfolding select_of
      select_short f = rw (h, k, f)

      pub select_bytes : fits lim.fill (work_room lim w) ≡ true → selected_in args r (encoded_of lim s) ≡ select_of lim s args r w
      unfolding select_of
      select_bytes f = rw (h, k, f)
