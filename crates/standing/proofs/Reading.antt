-- WHAT READING BEHIND A CURSOR LEAVES: the manifest that the bytes are stands there, accepted, or nothing changed. Assumes nothing.
use Rattle.std.specs.Prelude.{Err, Ok, Result}
use Prim.Native.Nat.{ℕ}
use mathlib.Core.Path.{◌≡◌, refl, sym, ap, subst, ◌∙◌}
use mathlib.Core.Bool.{Bool, true, false, not}
use mathlib.Core.List.{List}
use native.Mathlib.Omega.{arith}
use Rattle.keys.specs.Pick.{pick}
use Rattle.keys.proofs.Says.{true_says}
use Rattle.records.specs.Model.{Manifest}
use Rattle.records.specs.Fill.{plus, fits, manifest_fill}
use Rattle.records.specs.Layout.{manifest_row_at, layout_at}
use Rattle.records.specs.Decode.{Lent, manifest_in}
use Rattle.records.specs.declared.Fill.{Fill}
use Rattle.records.specs.declared.Limits.{Limits}
use Rattle.records.specs.declared.ManifestRow.{ManifestRow}
use Rattle.records.specs.declared.Refusal.{Refusal}
use Rattle.records.proofs.Cursor.{Stands, stands_decode}
use Rattle.measure.specs.Within.{within}
use Rattle.measure.proofs.Fits.{says_fits, under}
use Rattle.measure.proofs.Lies.{and_each}
use Rattle.lawful.specs.Judge.{judged_of}
use Rattle.copy.specs.Copy.{room_of, no_room_at, laid_at, Outcome, given_at}
use Rattle.history.proofs.Tables.{Small}
use Rattle.msgpack.specs.Skip.{whole_of}
use Rattle.manifest_values.specs.Read.{Got, is, wrong, manifest_at}
use Rattle.manifest_read.specs.Answer.{broken_of, work_room, read_at_of, by_law as law, by_record as record_by, by_whole as whole_by}
use Rattle.encoded.specs.Encoded.{Encoded, holds, refused, by_law, by_record, by_whole, encoded_of, long_of}
use Rattle.standing.proofs.Staying.{laid_stands, stands_stays, laid_roomy}
use Rattle.standing.proofs.Placing.{stands_judged}
use Rattle.standing.proofs.Small.{read_small}

-- no judgement is another
never : {A : Type 0} (rule : ℕ) → ◌≡◌ {A = Result Unit ℕ} (Err rule) (Ok tt) → A
never rule e = let z : ◌≡◌ {A = ℕ} 0 1 = cc in absurd (omega arith)

first_kept : (b : Bool) (rest : Result Unit ℕ) → pick {A = Result Unit ℕ} (not b) (Err 1) rest ≡ Ok tt → b ≡ true
first_kept true rest e = refl
first_kept false rest e = never 1 e

-- a lawful manifest fills no more than L1 allows
pub lawful_fits : (lim : Limits) (m : Manifest) → broken_of lim m ≡ Ok tt → fits (manifest_fill m) lim.fill ≡ true
unfolding broken_of within
lawful_fits lim m e =
    let w = first_kept (within lim m) _ e in
    (and_each (fits (manifest_fill m) lim.fill) _ (and_each _ _ (and_each _ _ (and_each _ _ w).0).0).0).0

-- ---- what reading comes to, by what the bytes are

abbrev pub read_into : Fill → Lent → Encoded → Outcome
read_into c o (holds m) = record { answer = Ok (manifest_row_at c m); out = laid_at c o (layout_at c m) }
read_into c o (refused r) = record { answer = Err r; out = o }

-- where there is room for any manifest within L1 there is room for a lawful one
lawful_roomy : (lim : Limits) (c room : Fill) → fits (plus c lim.fill) room ≡ true → (m : Manifest) → broken_of lim m ≡ Ok tt → fits (plus c (manifest_fill m)) room ≡ true
lawful_roomy lim c room h m e =
    let a = under (manifest_fill m) lim.fill (lawful_fits lim m e) in
    let b = under (plus c lim.fill) room h in
    true_says (says_fits (plus c (manifest_fill m)) room)
    (record {
      segments = omega (arith, a.segments, b.segments);
      views = omega (arith, a.views, b.views);
      runs = omega (arith, a.runs, b.runs);
      borrows = omega (arith, a.borrows, b.borrows);
      ids = omega (arith, a.ids, b.ids);
      bytes = omega (arith, a.bytes, b.bytes);
    })

module _ (lim : Limits) (c : Fill) (o : Lent) (h : fits (plus c lim.fill) (room_of o) ≡ true) where
  given_is : (m : Manifest) → broken_of lim m ≡ Ok tt → given_at lim c m o ≡ read_into c o (holds m)
  unfolding given_at no_room_at
  given_is m e = rw (lawful_fits lim m e, lawful_roomy lim c (room_of o) h m e)

  pub read_is : (s : List ℕ) (w : Lent) → long_of s ≡ false → fits lim.fill (work_room lim w) ≡ true → read_at_of lim s w o c ≡ read_into c o (encoded_of lim s)
  unfolding read_at_of encoded_of
  read_is s w k f = rw (k, f) (go (whole_of s))
    where
      judged : (m : Manifest) (j : Result Unit ℕ) → broken_of lim m ≡ j → law j (given_at lim c m o) o ≡ read_into c o (by_law j m)
      judged m (Ok _) e = given_is m e
      judged m (Err r) e = refl

      got : (g : Got Manifest) → record_by lim (λ m. given_at lim c m o) o g ≡ read_into c o (by_record lim g)
      got (is m p) = judged m (broken_of lim m) refl
      got (wrong q) = refl

      go : (x : Result Unit ℕ) → whole_by lim (λ m. given_at lim c m o) s o x ≡ read_into c o (by_whole lim s x)
      go (Ok _) = got (manifest_at s 0)
      go (Err q) = refl

-- bytes that are a manifest are a lawful one, with run ids of 32 bits
pub encoded_lawful : (lim : Limits) (s : List ℕ) (m : Manifest) → encoded_of lim s ≡ holds m → (broken_of lim m ≡ Ok tt) × Small m
unfolding encoded_of
encoded_lawful lim s m e = go (whole_of s) e
  where
    judged : (n : Manifest) (p : ℕ) → manifest_at s 0 ≡ is n p → (j : Result Unit ℕ) → broken_of lim n ≡ j → by_law j n ≡ holds m → (broken_of lim m ≡ Ok tt) × Small m
    judged n p g (Ok _) f e = let z : n ≡ m = cc in (rw (← z) f, rw (← z) (read_small s 0 n p g))
    judged n p g (Err r) f e = let z : ◌≡◌ {A = ℕ} 0 1 = cc in absurd (omega arith)

    got : (g : Got Manifest) → manifest_at s 0 ≡ g → by_record lim g ≡ holds m → (broken_of lim m ≡ Ok tt) × Small m
    got (is n p) g e = judged n p g (broken_of lim n) refl e
    got (wrong q) g e = let z : ◌≡◌ {A = ℕ} 0 1 = cc in absurd (omega arith)

    go : (x : Result Unit ℕ) → by_whole lim s x ≡ holds m → (broken_of lim m ≡ Ok tt) × Small m
    go (Ok _) e = got (manifest_at s 0) refl e
    go (Err q) e = let z : ◌≡◌ {A = ℕ} 0 1 = cc in absurd (omega arith)

-- ---- what stands in the tables after some readings

-- the manifest that the bytes s are stands in l from cursor c on, and `row` is its row
pub record Accepted (lim : Limits) (s : List ℕ) (c : Fill) (row : ManifestRow) (l : Lent) : Type 0 where
  pub value : Manifest
  pub is : encoded_of lim s ≡ holds value
  pub at : row ≡ manifest_row_at c value
  pub stands : Stands c value l

module _ (lim : Limits) (s : List ℕ) (c : Fill) (row : ManifestRow) (l : Lent) (a : Accepted lim s c row l) where
  pub accepted_decode : manifest_in l row ≡ a.value
  accepted_decode = rw a.at (stands_decode c a.value l a.stands)

  pub accepted_is : encoded_of lim s ≡ holds (manifest_in l row)
  accepted_is = a.is ∙ ap holds (sym accepted_decode)

  pub accepted_judged : judged_of lim l row ≡ Ok tt
  accepted_judged =
      let w = encoded_lawful lim s a.value a.is in
      rw a.at (stands_judged c a.value l a.stands w.1 lim ∙ w.0)

-- what a reading that is done leaves
record LaidIn (lim : Limits) (s : List ℕ) (c : Fill) (o o' : Lent) (row : ManifestRow) : Type 0 where
  pub value : Manifest
  pub is : encoded_of lim s ≡ holds value
  pub at : row ≡ manifest_row_at c value
  pub out : o' ≡ laid_at c o (layout_at c value)

-- what a reading answered, and what the tables hold then
module _ (lim : Limits) (s : List ℕ) (c : Fill) (o o' : Lent) (r : Result ManifestRow Refusal) (e : record { answer = r; out = o' } ≡ read_into c o (encoded_of lim s)) where
  pub read_refused : (x : Refusal) → r ≡ Err x → encoded_of lim s ≡ refused x
  read_refused x f = go (encoded_of lim s) e
    where
      go : (y : Encoded) → record { answer = r; out = o' } ≡ read_into c o y → y ≡ refused x
      go (holds m) e = let u : Err x ≡ Ok (manifest_row_at c m) = sym f ∙ ap (λ (w : Outcome). w.answer) e in let z : ◌≡◌ {A = ℕ} 0 1 = cc in absurd (omega arith)
      go (refused y) e = let u : Err x ≡ Err y = sym f ∙ ap (λ (w : Outcome). w.answer) e in let z : y ≡ x = cc in rw z

  module _ (h : fits (plus c lim.fill) (room_of o) ≡ true) (row : ManifestRow) (f : r ≡ Ok row) where
    laid_in : LaidIn lim s c o o' row
    laid_in = go (encoded_of lim s) refl e
      where
        go : (y : Encoded) → encoded_of lim s ≡ y → record { answer = r; out = o' } ≡ read_into c o y → LaidIn lim s c o o' row
        go (holds m) i e =
            let u : Ok row ≡ Ok (manifest_row_at c m) = sym f ∙ ap (λ (w : Outcome). w.answer) e in
            record { value = m; is = i; at = cc; out = ap (λ (w : Outcome). w.out) e }
        go (refused y) i e = let u : Ok row ≡ Err y = sym f ∙ ap (λ (w : Outcome). w.answer) e in let z : ◌≡◌ {A = ℕ} 0 1 = cc in absurd (omega arith)

    roomy : fits (plus c (manifest_fill laid_in.value)) (room_of o) ≡ true
    roomy = lawful_roomy lim c (room_of o) h laid_in.value (encoded_lawful lim s laid_in.value laid_in.is).0

    pub read_accepted : Accepted lim s c row o'
    read_accepted =
        record { value = laid_in.value; is = laid_in.is; at = laid_in.at; stands = subst (λ (x : Lent). Stands c laid_in.value x) (sym laid_in.out) (laid_stands c laid_in.value o roomy) }

    -- the tables have as many places as before
    pub read_roomy : room_of o' ≡ room_of o
    read_roomy = ap room_of laid_in.out ∙ laid_roomy c laid_in.value o roomy

    -- and what stood in them before stands on
    pub accepted_stays : (s₀ : List ℕ) (b : Fill) (row₀ : ManifestRow) → fits (plus b lim.fill) c ≡ true → Accepted lim s₀ b row₀ o → Accepted lim s₀ b row₀ o'
    accepted_stays s₀ b row₀ g a =
        record {
          value = a.value;
          is = a.is;
          at = a.at;
          stands = subst (λ (x : Lent). Stands b a.value x) (sym laid_in.out) (stands_stays c laid_in.value o roomy b a.value (lawful_roomy lim b c g a.value (encoded_lawful lim s₀ a.value a.is).0) a.stands);
        }
