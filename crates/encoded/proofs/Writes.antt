-- Which answer the writing of a manifest gives, by its tests. Assumes nothing.
use Rattle.std.specs.Prelude.{Err, None, Ok, Option, Result, Some}
use Prim.Native.Nat.{ℕ}
use mathlib.Core.Path.{◌≡◌, refl, sym, ◌∙◌}
use mathlib.Core.Bool.{Bool, true, false, not}
use mathlib.Core.List.{List}
use native.Mathlib.Omega.{arith}
use Rattle.keys.specs.Pick.{pick}
use Rattle.records.specs.Fill.{fits, manifest_fill}
use Rattle.records.specs.Decode.{Lent, manifest_in}
use Rattle.records.specs.declared.Fill.{Fill}
use Rattle.records.specs.declared.Limits.{Limits}
use Rattle.records.specs.declared.ManifestRow.{ManifestRow}
use Rattle.records.specs.declared.Refusal.TheVariants.{Unlawful, OverLimit, NoRoom}
use Rattle.measure.specs.Measure.{l1_of, measured_of}
use Rattle.lawful.specs.Judge.{judged_of}
use Rattle.copy.specs.Copy.{no_room}
use Rattle.manifest_write.specs.Bytes.{manifest_bytes}
use Rattle.manifest_write.specs.Answer.{put_of}
use Rattle.manifest_read.specs.Answer.{work_room}
use Rattle.encoded.specs.Encoded.{on, encoded_of, long_of}
use Rattle.encoded.specs.InTables.{rows_in}
use Rattle.encoded.specs.Read.{refused_with, given_of, within_of, read_to}

-- ---- what the measure tells

module _ (lim : Limits) (l : Lent) (m : ManifestRow) (r : Option Fill) (q : r ≡ measured_of lim l m) where
  pub measured_broken : r ≡ None → l1_of lim l m ≡ false
  unfolding measured_of
  measured_broken h = go (l1_of lim l m) (sym h ∙ q)
    where
      go : (b : Bool) → None ≡ pick b (Some (manifest_fill (manifest_in l m))) None → b ≡ false
      go true e = let z : ◌≡◌ {A = ℕ} 0 1 = cc in absurd (omega arith)
      go false e = refl

  pub measured_fills : (f : Fill) → r ≡ Some f → (l1_of lim l m ≡ true) × (f ≡ manifest_fill (manifest_in l m))
  unfolding measured_of
  measured_fills f h = go (l1_of lim l m) (sym h ∙ q)
    where
      go : (b : Bool) → Some f ≡ pick b (Some (manifest_fill (manifest_in l m))) None → (b ≡ true) × (f ≡ manifest_fill (manifest_in l m))
      go true e = (refl, cc)
      go false e = let z : ◌≡◌ {A = ℕ} 0 1 = cc in absurd (omega arith)

  -- ---- rows that keep L1

  module _ (room : Fill) (out : List ℕ) where
    pub within_broken : r ≡ None → refused_with out (Unlawful 1) ≡ within_of lim room out l m
    unfolding within_of
    within_broken h = rw (measured_broken h)

    module _ (f : Fill) (h : r ≡ Some f) (b : Bool) (n : b ≡ no_room lim room f) where
      pub within_full : b ≡ true → refused_with out NoRoom ≡ within_of lim room out l m
      unfolding within_of given_of
      within_full t = let k = measured_fills f h in rw (k.0, ← k.1, sym n ∙ t)

      pub within_put : b ≡ false → put_of (manifest_bytes (manifest_in l m)) out ≡ within_of lim room out l m
      unfolding within_of given_of
      within_put t = let k = measured_fills f h in rw (k.0, ← k.1, sym n ∙ t)

-- ---- rows that are lawful

module _ (lim : Limits) (l : Lent) (m : ManifestRow) (room : Fill) (out : List ℕ) where
  pub lawful_breaks : (rule : ℕ) → judged_of lim l m ≡ Err rule → refused_with out (Unlawful rule) ≡ on (refused_with out) (given_of lim room out) (rows_in lim l (Ok m))
  lawful_breaks rule h = rw h

  kept_first : (b : Bool) (rest : Result Unit ℕ) → pick {A = Result Unit ℕ} (not b) (Err 1) rest ≡ Ok tt → b ≡ true
  kept_first true rest e = refl
  kept_first false rest e = let z : ◌≡◌ {A = ℕ} 0 1 = cc in absurd (omega arith)

  pub lawful_within : judged_of lim l m ≡ Ok tt → within_of lim room out l m ≡ on (refused_with out) (given_of lim room out) (rows_in lim l (Ok m))
  unfolding within_of judged_of
  lawful_within h = rw (h, kept_first (l1_of lim l m) _ h)

-- ---- the order of refusals

module _ (lim : Limits) (s : List ℕ) (room : Fill) (w : Lent) (out : List ℕ) where
  pub read_long : long_of s ≡ true → refused_with out OverLimit ≡ read_to lim s room w out
  unfolding read_to
  read_long h = rw h

  pub read_short : long_of s ≡ false → fits lim.fill (work_room lim w) ≡ false → refused_with out NoRoom ≡ read_to lim s room w out
  unfolding read_to
  read_short h k = rw (h, k)

  pub read_bytes : long_of s ≡ false → fits lim.fill (work_room lim w) ≡ true → on (refused_with out) (given_of lim room out) (encoded_of lim s) ≡ read_to lim s room w out
  unfolding read_to
  read_bytes h k = rw (h, k)
