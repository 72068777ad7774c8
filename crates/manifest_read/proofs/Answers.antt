-- What the rows say is what the bytes say. Assumes nothing.
use Rattle.std.specs.Prelude.{Err, Result}
use Prim.Native.Nat.{ℕ}
use mathlib.Core.Path.{◌≡◌, refl, ap}
use mathlib.Core.Bool.{Bool, true, false, not}
use mathlib.Core.List.{List}
use native.Mathlib.Omega.{arith}
use native.Mathlib.Nat.{add-zero, zero-add}
use lib.ListN.{length}
use Rattle.keys.specs.Pick.{pick}
use Rattle.records.specs.Model.{Manifest}
use Rattle.records.specs.Fill.{empty, plus, bytes, fits, manifest_fill}
use Rattle.records.specs.Decode.{Lent, manifest_in}
use Rattle.records.specs.declared.Fill.{Fill}
use Rattle.records.specs.declared.Limits.{Limits}
use Rattle.records.specs.declared.ManifestRow.{ManifestRow}
use Rattle.records.specs.declared.Refusal.TheVariants.{Unlawful}
use Rattle.records.proofs.Sums.{fill_same}
use Rattle.measure.specs.Within.{within}
use Rattle.measure.specs.Measure.{l1_of}
use Rattle.measure.proofs.Fits.{under, fits_part}
use Rattle.lawful.specs.Judge.{judged_of}
use Rattle.copy.specs.Copy.{Outcome, given_at, copy_at_of}
use Rattle.copy.proofs.Answers.{given_front}
use Rattle.manifest_values.specs.Read.{Got}
use Rattle.manifest_rows.specs.Stored.{ManifestIs}
use Rattle.manifest_rows.proofs.Backs.{Fitting, manifest_back}
use Rattle.manifest_rows.proofs.Totals.{rows, manifest_rows}
use Rattle.manifest_read.specs.Answer.{broken_of, refused, by_law, by_record, work_room, read_by, read_of, read_at_of}

-- a manifest that breaks L1 is not given
judged_first : (b : Bool) (rest : Result Unit ℕ) (given : Outcome) (o : Lent) → by_law (pick {A = Result Unit ℕ} (not b) (Err 1) rest) (pick b given (refused (Unlawful 1) o)) o ≡ by_law (pick {A = Result Unit ℕ} (not b) (Err 1) rest) given o
judged_first true rest given o = refl
judged_first false rest given o = refl

with_bytes : (f : Fill) → plus (rows f) (bytes f.bytes) ≡ f
with_bytes f = fill_same (add-zero _, add-zero _, add-zero _, add-zero _, add-zero _, zero-add _)

-- of the same length, table by table
pub record SameLong (l l' : Lent) : Type 0 where
  pub segments : length l'.segments ≡ length l.segments
  pub views : length l'.views ≡ length l.views
  pub runs : length l'.runs ≡ length l.runs
  pub borrows : length l'.borrows ≡ length l.borrows
  pub ids : length l'.ids ≡ length l.ids

module _ (lim : Limits) (g : Got Manifest) (l l' o : Lent) (row : ManifestRow) (c : Fill) (p : ℕ) (x : ManifestIs g l l' row c p) where
  -- more rows than L1 allows
  pub rows_break : fits c lim.fill ≡ false → broken_of lim x.value ≡ Err 1
  unfolding broken_of within
  rows_break h =
      let m = x.value in
      let e : c ≡ rows (manifest_fill m) = manifest_rows l l' row c m x.step in
      let f : fits (manifest_fill m) lim.fill ≡ false =
      rw (with_bytes (manifest_fill m)) at (fits_part (rows (manifest_fill m)) (bytes (manifest_fill m).bytes) lim.fill (rw e at h)) in
      rw f

  -- whatever a lawful manifest would come to
  pub rows_over : (give : Manifest → Outcome) → fits c lim.fill ≡ false → refused (Unlawful 1) o ≡ by_record lim give o g
  rows_over give h = rw (x.read, rows_break h)

  fitting : l'.pool ≡ l.pool → SameLong l l' → fits c lim.fill ≡ true → fits lim.fill (work_room lim l) ≡ true → Fitting c l'
  fitting q n h w =
      let a = under c lim.fill h in
      let b = under lim.fill (work_room lim l) w in
      record {
        segments = rw n.segments (omega (arith, a.segments, b.segments));
        views = rw n.views (omega (arith, a.views, b.views));
        runs = rw n.runs (omega (arith, a.runs, b.runs));
        borrows = rw n.borrows (omega (arith, a.borrows, b.borrows));
        ids = rw n.ids (omega (arith, a.ids, b.ids));
      }

  -- rows within their tables stand for the manifest, and are judged as it is
  pub rows_stand : l'.pool ≡ l.pool → SameLong l l' → fits c lim.fill ≡ true → fits lim.fill (work_room lim l) ≡ true → (manifest_in l' row ≡ x.value) × (judged_of lim l' row ≡ broken_of lim x.value)
  unfolding judged_of l1_of broken_of
  rows_stand q n h w = let b = manifest_back l l' row c x.value q x.step (fitting q n h w) in (b.0, rw (b.0, b.1))

  pub rows_judged : (d : Fill) → l'.pool ≡ l.pool → SameLong l l' → fits c lim.fill ≡ true → fits lim.fill (work_room lim l) ≡ true → by_law (judged_of lim l' row) (copy_at_of lim d l' row o) o ≡ by_record lim (λ m. given_at lim d m o) o g
  unfolding judged_of copy_at_of l1_of broken_of
  rows_judged d q n h w =
      let m = x.value in
      let b = manifest_back l l' row c m q x.step (fitting q n h w) in
      rw (x.read, b.0, b.1) (judged_first (within lim m) _ (given_at lim d m o) o)

-- at the front is behind nothing
pub read_front : (lim : Limits) (s : List ℕ) (w o : Lent) → read_at_of lim s w o empty ≡ read_of lim s w o
unfolding read_at_of read_of
read_front lim s w o = ap (λ (give : Manifest → Outcome). read_by lim give s w o) (λ i m. given_front lim m o i)
