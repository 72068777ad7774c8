-- Which answer insert gives, by its tests. Assumes nothing.
use Rattle.std.specs.Prelude.{Err, None, Ok, Option, Result, Some}
use Prim.Native.Nat.{ℕ}
use mathlib.Core.Path.{◌≡◌, refl, sym, ap, ◌∙◌}
use mathlib.Core.Bool.{Bool, true, false, not, true≢false, ◌&&◌, ◌||◌}
use mathlib.Core.List.{List}
use native.Mathlib.Omega.{arith}
use lib.ListN.{length}
use Rattle.keys.specs.Pick.{pick}
use Rattle.keys.proofs.Says.{true_says}
use Rattle.records.specs.Model.{Manifest}
use Rattle.records.specs.Fill.{plus, fits, manifest_fill}
use Rattle.records.specs.Layout.{layout, manifest_row}
use Rattle.records.specs.Decode.{Lent, manifest_in}
use Rattle.records.specs.declared.Fill.{Fill}
use Rattle.records.specs.declared.Limits.{Limits}
use Rattle.records.specs.declared.ManifestRow.{ManifestRow}
use Rattle.records.specs.declared.Refusal.{Refusal}
use Rattle.records.specs.declared.Refusal.TheVariants.{Unlawful, OverLimit, Nests, NoRoom}
use Rattle.records.proofs.Stair.{decode_over}
use Rattle.measure.specs.Walk.{add_of}
use Rattle.measure.specs.Within.{no_room}
use Rattle.measure.proofs.Fits.{under, says_fits}
use Rattle.lawful.specs.Judge.{judged_of}
use Rattle.copy.specs.Copy.{room_of, laid_over}
use Rattle.segments.specs.Prefixes.{prefixes}
use Rattle.segments.specs.Refuses.{prefix_over}
use Rattle.segments.specs.Lookup.{index_of}
use Rattle.segments.specs.Place.{place_of, refuses3, conflict_of}
use Rattle.segments.specs.Insert.{holds_of, Entry, found, entered, refused, inserted_of}
use Rattle.insert.specs.Insert.{entered_at, new_fill, laid_entry}
use Rattle.insert.specs.declared.Inserted.TheVariants as lay
use Rattle.insert.proofs.Entering.{with_fill}
use Rattle.manifest_write.specs.Bytes.{manifest_bytes}
use Rattle.manifest_write.specs.Answer.{put_of, Outcome as Put}
use Rattle.manifest_read.specs.Answer.{work_room}
use Rattle.encoded.specs.Encoded.{refused as unread, encoded_of, long_of}
use Rattle.encoded.specs.InTables.{rows_in}
use Rattle.encoded.specs.Insert.{Outcome, refused_to, wrote, entered_to, inserted_in, insert_to}
use Rattle.encoded.specs.Steps.{laid_to, both_fit}
use Rattle.encoded.specs.declared.InsertedTo.TheVariants.{Found, Entered}
use Rattle.insert.specs.declared.Inserted.{Inserted}

-- ---- room for one segment more

module _ (lim : Limits) (room c more : Fill) (s : Option Fill) (q : s ≡ add_of lim.fill c more) where
  pub lacks_all : s ≡ None → true ≡ no_room lim room (plus c more)
  unfolding add_of no_room
  lacks_all h = go (fits (plus c more) lim.fill) refl (sym h ∙ q)
    where
      go : (b : Bool) → fits (plus c more) lim.fill ≡ b → None ≡ pick b (Some (plus c more)) None → true ≡ no_room lim room (plus c more)
      go true e k = let z : ◌≡◌ {A = ℕ} 0 1 = cc in absurd (omega arith)
      go false e k = rw e

  pub lacks_some : (f : Fill) → s ≡ Some f → (r : Bool) → r ≡ fits f room → not r ≡ no_room lim room (plus c more)
  unfolding add_of no_room
  lacks_some f h r k = go (fits (plus c more) lim.fill) refl (sym h ∙ q)
    where
      go : (b : Bool) → fits (plus c more) lim.fill ≡ b → Some f ≡ pick b (Some (plus c more)) None → not r ≡ no_room lim room (plus c more)
      go true e j = let g : f ≡ plus c more = cc in rw (e, k, g)
      go false e j = let z : ◌≡◌ {A = ℕ} 0 1 = cc in absurd (omega arith)

-- ---- the manifest that the prefix entered, written

module _ (i : ℕ) (y : Put) (w : Result ℕ Refusal) (out : List ℕ) (e : record { answer = w; out = out } ≡ y) where
  pub wrote_done : (n : ℕ) → w ≡ Ok n → record { answer = Ok (Entered i n); out = out } ≡ wrote i y
  wrote_done n h = let a : ◌≡◌ {A = Outcome} (record { answer = Ok (Entered i n); out = out }) (wrote i (record { answer = w; out = out })) = rw h in a ∙ ap (wrote i) e

  pub wrote_refused : (r : Refusal) → w ≡ Err r → record { answer = Err r; out = out } ≡ wrote i y
  wrote_refused r h = let a : ◌≡◌ {A = Outcome} (refused_to out r) (wrote i (record { answer = w; out = out })) = rw h in a ∙ ap (wrote i) e

-- ---- what another room changes, where that of the tables is no less than L1

abbrev narrow : Bool → Entry → Entry
narrow full (found i) = found i
narrow full (entered i n) = pick full (refused NoRoom) (entered i n)
narrow full (refused r) = refused r

fits_wide : (f a b : Fill) → fits f a ≡ true → fits a b ≡ true → fits f b ≡ true
fits_wide f a b h k =
    let u = under f a h in
    let v = under a b k in
    true_says (says_fits f b) (record { segments = omega (arith, u.segments, v.segments); views = omega (arith, u.views, v.views); runs = omega (arith, u.runs, v.runs); borrows = omega (arith, u.borrows, v.borrows); ids = omega (arith, u.ids, v.ids); bytes = omega (arith, u.bytes, v.bytes) })

pub full_too : (lim : Limits) (room big f : Fill) → fits lim.fill big ≡ true → no_room lim big f ≡ true → no_room lim room f ≡ true
unfolding no_room
full_too lim room big f w h = go (fits f lim.fill) refl h
  where
    go : (b : Bool) → fits f lim.fill ≡ b → not (b && fits f big) ≡ true → not (b && fits f room) ≡ true
    go true e k = absurd (true≢false (sym k ∙ ap not (fits_wide f lim.fill big e w)))
    go false e k = refl

narrow_by : (over held nests b full : Bool) (x y : Refusal) (z i : ℕ) (m : Manifest) → (b ≡ true → full ≡ true)
    → pick over (refused x) (pick held (found z) (pick nests (refused y) (pick full (refused NoRoom) (entered i m))))
    ≡ narrow full (pick over (refused x) (pick held (found z) (pick nests (refused y) (pick b (refused NoRoom) (entered i m)))))
narrow_by true held nests b full x y z i m k = refl
narrow_by false true nests b full x y z i m k = refl
narrow_by false false true b full x y z i m k = refl
narrow_by false false false true full x y z i m k = rw (k refl)
narrow_by false false false false full x y z i m k = refl

narrowed : (lim : Limits) (room big : Fill) (m : Manifest) (p : List ℕ) → fits lim.fill big ≡ true
    → inserted_of lim room m p ≡ narrow (no_room lim room (plus (manifest_fill m) (new_fill (length p)))) (inserted_of lim big m p)
unfolding inserted_of
narrowed lim room big m p w =
    let ps = prefixes m.segments in
    let f = manifest_fill (entered_at (place_of ps p) p m) in
    narrow_by (prefix_over lim p) (holds_of ps p) (refuses3 ps p) (no_room lim big f) (no_room lim room f) OverLimit (Nests (conflict_of ps p)) (index_of ps p) (place_of ps p) (entered_at (place_of ps p) p m) (full_too lim room big f w)
    ∙ ap (λ (g : Fill). narrow (no_room lim room g) (inserted_of lim big m p)) (with_fill (place_of ps p) p m)

-- ---- from the answer on tables

module _ (o : Lent) (out : List ℕ) (full : Bool) where
  narrow_found : (i : ℕ) (e : Entry) → Ok (lay.Found i) ≡ (laid_entry o e).answer → record { answer = Ok (Found i); out = out } ≡ entered_to out (narrow full e)
  narrow_found i (found j) k = let g : i ≡ j = cc in rw g
  narrow_found i (entered j n) k = let z : ◌≡◌ {A = ℕ} 0 1 = cc in absurd (omega arith)
  narrow_found i (refused r) k = let z : ◌≡◌ {A = ℕ} 0 1 = cc in absurd (omega arith)

  narrow_refused : (x : Refusal) (e : Entry) → Err x ≡ (laid_entry o e).answer → refused_to out x ≡ entered_to out (narrow full e)
  narrow_refused x (found j) k = let z : ◌≡◌ {A = ℕ} 0 1 = cc in absurd (omega arith)
  narrow_refused x (entered j n) k = let z : ◌≡◌ {A = ℕ} 0 1 = cc in absurd (omega arith)
  narrow_refused x (refused r) k = let g : x ≡ r = cc in rw g

  module _ (i : ℕ) (row : ManifestRow) where
    narrow_full : (e : Entry) → Ok (lay.Entered i row) ≡ (laid_entry o e).answer → full ≡ true → refused_to out NoRoom ≡ entered_to out (narrow full e)
    narrow_full (found j) k t = let z : ◌≡◌ {A = ℕ} 0 1 = cc in absurd (omega arith)
    narrow_full (entered j n) k t = rw t
    narrow_full (refused r) k t = let z : ◌≡◌ {A = ℕ} 0 1 = cc in absurd (omega arith)

    narrow_put : (l : Lent) (e : Entry) → Ok (lay.Entered i row) ≡ (laid_entry o e).answer → l ≡ (laid_entry o e).out → full ≡ false → wrote i (put_of (manifest_bytes (manifest_in l row)) out) ≡ entered_to out (narrow full e)
    narrow_put l (found j) k d t = let z : ◌≡◌ {A = ℕ} 0 1 = cc in absurd (omega arith)
    narrow_put l (entered j n) k d t =
        let g : i ≡ j = cc k in
        let h : row ≡ manifest_row n = cc k in
        let b : manifest_in l row ≡ n = ap (λ x. manifest_in x row) d ∙ ap (manifest_in (laid_over o (layout n))) h ∙ decode_over n o in
        rw (t, b, g)
    narrow_put l (refused r) k d t = let z : ◌≡◌ {A = ℕ} 0 1 = cc in absurd (omega arith)

module _ (lim : Limits) (room : Fill) (m : Manifest) (p : List ℕ) (o : Lent) (out : List ℕ) (r : Result Inserted Refusal) (l : Lent) (q : record { answer = r; out = l } ≡ laid_entry o (inserted_of lim (room_of o) m p)) (w : fits lim.fill (room_of o) ≡ true) where
  told : (x : Result Inserted Refusal) → r ≡ x → x ≡ (laid_entry o (inserted_of lim (room_of o) m p)).answer
  told x h = sym h ∙ ap (λ y. y.answer) q

  back : (y : Outcome) → y ≡ entered_to out (narrow (no_room lim room (plus (manifest_fill m) (new_fill (length p)))) (inserted_of lim (room_of o) m p)) → y ≡ entered_to out (inserted_of lim room m p)
  back y e = e ∙ ap (entered_to out) (sym (narrowed lim room (room_of o) m p w))

  within_found : (i : ℕ) → r ≡ Ok (lay.Found i) → record { answer = Ok (Found i); out = out } ≡ entered_to out (inserted_of lim room m p)
  within_found i h = back (record { answer = Ok (Found i); out = out }) (narrow_found o out (no_room lim room (plus (manifest_fill m) (new_fill (length p)))) i (inserted_of lim (room_of o) m p) (told (Ok (lay.Found i)) h))

  within_refused : (x : Refusal) → r ≡ Err x → refused_to out x ≡ entered_to out (inserted_of lim room m p)
  within_refused x h = back (refused_to out x) (narrow_refused o out (no_room lim room (plus (manifest_fill m) (new_fill (length p)))) x (inserted_of lim (room_of o) m p) (told (Err x) h))

  module _ (i : ℕ) (row : ManifestRow) (h : r ≡ Ok (lay.Entered i row)) (b : Bool) (k : b ≡ no_room lim room (plus (manifest_fill m) (new_fill (length p)))) where
    within_full : b ≡ true → refused_to out NoRoom ≡ entered_to out (inserted_of lim room m p)
    within_full t = back (refused_to out NoRoom) (narrow_full o out (no_room lim room (plus (manifest_fill m) (new_fill (length p)))) i row (inserted_of lim (room_of o) m p) (told (Ok (lay.Entered i row)) h) (sym k ∙ t))

    within_put : b ≡ false → wrote i (put_of (manifest_bytes (manifest_in l row)) out) ≡ entered_to out (inserted_of lim room m p)
    within_put t = back (wrote i (put_of (manifest_bytes (manifest_in l row)) out)) (narrow_put o out (no_room lim room (plus (manifest_fill m) (new_fill (length p)))) i row l (inserted_of lim (room_of o) m p) (told (Ok (lay.Entered i row)) h) (ap (λ y. y.out) q) (sym k ∙ t))

  laid_entered : (i : ℕ) (row : ManifestRow) → r ≡ Ok (lay.Entered i row) → (b : Bool) → b ≡ no_room lim room (plus (manifest_fill m) (new_fill (length p)))
      → pick b (refused_to out NoRoom) (wrote i (put_of (manifest_bytes (manifest_in l row)) out)) ≡ entered_to out (inserted_of lim room m p)
  laid_entered i row h true k = within_full i row h true k refl
  laid_entered i row h false k = within_put i row h false k refl

  pub laid_means : laid_to lim room (plus (manifest_fill m) (new_fill (length p))) out l r ≡ entered_to out (inserted_of lim room m p)
  laid_means = go r refl
    where
      go : (x : Result Inserted Refusal) → r ≡ x → laid_to lim room (plus (manifest_fill m) (new_fill (length p))) out l x ≡ entered_to out (inserted_of lim room m p)
      go (Ok (lay.Found i)) h = within_found i h
      go (Ok (lay.Entered i row)) h = laid_entered i row h (no_room lim room (plus (manifest_fill m) (new_fill (length p)))) refl
      go (Err x) h = within_refused x h

-- ---- what came of the insertion

module _ (lim : Limits) (room f : Fill) (out : List ℕ) (l : Lent) (a : Result Inserted Refusal) where
  pub laid_refused : (x : Refusal) → a ≡ Err x → refused_to out x ≡ laid_to lim room f out l a
  laid_refused x h = rw h

  module _ (i : ℕ) (row : ManifestRow) (h : a ≡ Ok (lay.Entered i row)) (b : Bool) (k : b ≡ no_room lim room f) where
    pub laid_full : b ≡ true → refused_to out NoRoom ≡ laid_to lim room f out l a
    laid_full t = rw (h, sym k ∙ t)

    pub laid_put_lem : b ≡ false → wrote i (put_of (manifest_bytes (manifest_in l row)) out) ≡ laid_to lim room f out l a
    laid_put_lem t = rw (h, sym k ∙ t)

-- ---- rows, and what was read

module _ (lim : Limits) (room : Fill) (p out : List ℕ) where
  pub rows_broken : (l : Lent) (m : ManifestRow) (rule : ℕ) → judged_of lim l m ≡ Err rule → refused_to out (Unlawful rule) ≡ inserted_in lim room p out (rows_in lim l (Ok m))
  unfolding inserted_in
  rows_broken l m rule h = rw h

  pub rows_lawful : (l : Lent) (m : ManifestRow) → judged_of lim l m ≡ Ok tt → entered_to out (inserted_of lim room (manifest_in l m) p) ≡ inserted_in lim room p out (rows_in lim l (Ok m))
  unfolding inserted_in
  rows_lawful l m h = rw h

  pub inserted_refused : (x : Refusal) → refused_to out x ≡ inserted_in lim room p out (unread x)
  unfolding inserted_in
  inserted_refused x = refl

-- ---- room in both kinds of tables

module _ (f w o : Fill) where
  pub both_fit_lem : both_fit f w o ≡ true → (fits f w ≡ true) × (fits f o ≡ true)
  unfolding both_fit
  both_fit_lem e = go (fits f w) (fits f o) e
    where
      go : (x y : Bool) → (x && y) ≡ true → (x ≡ true) × (y ≡ true)
      go true y e = (refl, e)
      go false y e = absurd (true≢false (sym e))

  pub unless_both : {A : Type 0} (a z : A) → both_fit f w o ≡ false → a ≡ pick (not (fits f w) || not (fits f o)) a z
  unfolding both_fit
  unless_both {A} a z e = go (fits f w) (fits f o) e
    where
      go : (x y : Bool) → (x && y) ≡ false → a ≡ pick (not x || not y) a z
      go true true e = absurd (true≢false e)
      go true false e = refl
      go false y e = refl

-- ---- the order of refusals

module _ (lim : Limits) (s p : List ℕ) (room : Fill) (w o : Lent) (out : List ℕ) where
  pub insert_long : long_of s ≡ true → refused_to out OverLimit ≡ insert_to lim s p room w o out
  unfolding insert_to
  insert_long h = rw h

  module _ (h : long_of s ≡ false) where
    pub insert_over : prefix_over lim p ≡ true → refused_to out OverLimit ≡ insert_to lim s p room w o out
    unfolding insert_to
    insert_over k = rw (h, k)

    module _ (k : prefix_over lim p ≡ false) where
      pub insert_short : both_fit lim.fill (work_room lim w) (room_of o) ≡ false → refused_to out NoRoom ≡ insert_to lim s p room w o out
      unfolding insert_to
      insert_short f = rw (h, k) (unless_both lim.fill (work_room lim w) (room_of o) (refused_to out NoRoom) (inserted_in lim room p out (encoded_of lim s)) f)

      pub insert_bytes : both_fit lim.fill (work_room lim w) (room_of o) ≡ true → inserted_in lim room p out (encoded_of lim s) ≡ insert_to lim s p room w o out
      unfolding insert_to
      insert_bytes f = let g = both_fit_lem lim.fill (work_room lim w) (room_of o) f in rw (h, k, g.0, g.1)
