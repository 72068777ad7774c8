-- Which answer the clone gives, by its tests. Assumes nothing.
use Rattle.std.specs.Prelude.{Err, Ok, Result}
use Prim.Native.Nat.{ℕ, ◌+◌, ◌/◌, ◌^◌, ◌*◌, ◌≤◌, ◌<◌}
use mathlib.Core.Path.{◌≡◌, refl, sym, ap, ◌∙◌}
use mathlib.Core.Bool.{Bool, true, false, not, ◌&&◌, true≢false}
use mathlib.Core.List.{List}
use native.Mathlib.Omega.{arith}
use lib.Dec.{ltb}
use lib.ListN.{length}
use borrow.Author.Tests.{ltb-true, ltb-false, lt-ltb, le-ltb}
use Rattle.keys.specs.Pick.{pick}
use Rattle.tables.specs.Layout.{over}
use Rattle.tables.specs.Window.{held_of}
use Rattle.ids.specs.declared.Uuid.{Uuid}
use Rattle.records.specs.Model.{Manifest}
use Rattle.records.specs.Fill.{plus, fits, manifest_fill}
use Rattle.records.specs.Layout.{layout, manifest_row}
use Rattle.records.specs.Decode.{Lent, manifest_in}
use Rattle.records.specs.declared.Fill.{Fill}
use Rattle.records.specs.declared.Limits.{Limits}
use Rattle.records.specs.declared.ManifestRow.{ManifestRow}
use Rattle.records.specs.declared.Refusal.{Refusal}
use Rattle.records.specs.declared.Refusal.TheVariants.{Unlawful, OverLimit, NoRoom, NoFinal, TooFewFresh}
use Rattle.records.proofs.Stair.{decode_over}
use Rattle.measure.specs.Within.{no_room}
use Rattle.measure.proofs.Fits.{under}
use Rattle.lawful.specs.Judge.{judged_of}
use Rattle.copy.specs.Copy.{room_of, laid_over}
use Rattle.borrows.specs.Owned.{owned_of}
use Rattle.borrows.specs.Clone.{uuids_of, cloned_of, refuses15, refuses16}
use Rattle.borrows.specs.Bare.{lent_fill}
use Rattle.borrows.specs.Answer.{ClonedOutcome, cloned_given}
use Rattle.borrows.specs.Answer as laying
use Rattle.borrows.proofs.Renewing.{uuids_long}
use Rattle.borrows.proofs.Lending.{held_is}
use Rattle.borrows.proofs.Baring.{clone_fill}
use Rattle.borrows.proofs.Cloning.{cloned_count}
use Rattle.borrows.proofs.ClonedAnswers.{borrows_filled}
use Rattle.manifest_write.specs.Bytes.{manifest_bytes}
use Rattle.manifest_write.specs.Answer.{Outcome, put_of}
use Rattle.manifest_write.specs.Wrote.{Wrote}
use Rattle.manifest_read.specs.Answer.{work_room}
use Rattle.encoded.specs.Encoded.{refused as unread, encoded_of, long_of}
use Rattle.encoded.specs.InTables.{rows_in}
use Rattle.encoded.specs.Read.{refused_with}
use Rattle.encoded.specs.Steps.{both_fit}
use Rattle.encoded.proofs.Inserts.{full_too, both_fit_lem, unless_both}
use Rattle.encoded_borrows.specs.Steps.{laid_put}
use Rattle.encoded_borrows.specs.Clone.{fresh_put, cloned_with, cloned_put, cloned_on, path_over, clone_to}
use Rattle.encoded_borrows.proofs.Lengths.{clone_long}

-- ---- how long the encoded form is, by a count of it

pub longer : (d d' bs : List ℕ) (n : ℕ) → Wrote d 0 bs n d' → (out : List ℕ) → length out * 1 < 2 ^ 63 → ltb (length out) n ≡ ltb (length out) (length bs)
longer d d' bs n w out long = go (ltb (length out) n) refl
  where
    go : (b : Bool) → ltb (length out) n ≡ b → ltb (length out) n ≡ ltb (length out) (length bs)
    go true e = e ∙ sym (lt-ltb (length out) (length bs) (omega (arith, w.next, ltb-true (length out) n e)))
    go false e = e ∙ sym (le-ltb (length out) (length bs) (omega (arith, w.next, ltb-false (length out) n e)))

-- ---- bytes put, or 4, or 16

module _ (bs out : List ℕ) where
  module _ (r : Bool) (e : r ≡ ltb (length out) (length bs)) where
    pub few_long : r ≡ true → refused_with out NoRoom ≡ fresh_put true bs out
    unfolding fresh_put
    few_long t = rw (sym e ∙ t)

    pub few_fits : r ≡ false → refused_with out TooFewFresh ≡ fresh_put true bs out
    unfolding fresh_put
    few_fits t = rw (sym e ∙ t)

  pub enough : put_of bs out ≡ fresh_put false bs out
  unfolding fresh_put put_of
  enough = go (ltb (length out) (length bs)) (record { answer = Ok (length bs); out = over out bs })
    where
      go : (b : Bool) (y : Outcome) → pick b (refused_with out NoRoom) y ≡ pick b (refused_with out NoRoom) (pick b (refused_with out NoRoom) y)
      go true y = refl
      go false y = refl

-- ---- from the answer on tables

clone_count : (m : Manifest) (path : List ℕ) (cp : Uuid) (fresh : List Uuid) → length (cloned_of m path cp fresh).borrows ≡ length m.borrows + 1
unfolding cloned_of
clone_count m path cp fresh = cloned_count m path cp fresh

-- a UUID for each borrow of a clone that keeps L1
names_suffice : (lim : Limits) (m : Manifest) (path : List ℕ) (cp : Uuid) (ws : List ℕ) (room : Fill) → (length m.borrows < lim.fill.borrows → length m.borrows < length ws / 2)
    → no_room lim room (manifest_fill (cloned_of m path cp (uuids_of ws))) ≡ false → refuses16 (cloned_of m path cp (uuids_of ws)).borrows (uuids_of ws) ≡ false
unfolding no_room
names_suffice lim m path cp ws room k h =
    let f = cloned_of m path cp (uuids_of ws) in
    let u = under (manifest_fill f) lim.fill (first_true (fits (manifest_fill f) lim.fill) (fits (manifest_fill f) room) h) in
    let n = clone_count m path cp (uuids_of ws) in
    rw (uuids_long ws) (le-ltb (length ws / 2) (length f.borrows) (omega (arith, n, k (omega (arith, n, u.borrows, borrows_filled f)))))
  where
    first_true : (a b : Bool) → not (a && b) ≡ false → a ≡ true
    first_true true b e = refl
    first_true false b e = sym e

module _ (o : Lent) (out : List ℕ) (row : ManifestRow) (laid : Lent) where
  abbrev told : Bool → Bool → Bool → ClonedOutcome
  told none full few = pick none (laying.refused NoFinal o) (pick full (laying.refused NoRoom o) (pick few (laying.refused TooFewFresh o) (record { answer = Ok row; out = laid })))

  by_refused : (none full few narrow : Bool) (x : Refusal) (rest : Outcome) → (full ≡ true → narrow ≡ true) → (full ≡ false → few ≡ false) → Err x ≡ (told none full few).answer
      → refused_with out x ≡ pick none (refused_with out NoFinal) (pick narrow (refused_with out NoRoom) rest)
  by_refused true full few narrow x rest k j e = let g : x ≡ NoFinal = cc in rw g
  by_refused false true few narrow x rest k j e = let g : x ≡ NoRoom = cc in rw (k refl, g)
  by_refused false false true narrow x rest k j e = absurd (true≢false (j refl))
  by_refused false false false narrow x rest k j e = let z : ◌≡◌ {A = ℕ} 0 1 = cc in absurd (omega arith)

  by_done : (none full few : Bool) (q : ManifestRow) (l : Lent) → Ok q ≡ (told none full few).answer → l ≡ (told none full few).out → (none ≡ false) × (q ≡ row) × (l ≡ laid)
  by_done true full few q l e h = let z : ◌≡◌ {A = ℕ} 0 1 = cc in absurd (omega arith)
  by_done false true few q l e h = let z : ◌≡◌ {A = ℕ} 0 1 = cc in absurd (omega arith)
  by_done false false true q l e h = let z : ◌≡◌ {A = ℕ} 0 1 = cc in absurd (omega arith)
  by_done false false false q l e h = (refl, cc, h)

module _ (lim : Limits) (room : Fill) (m : Manifest) (path : List ℕ) (cp : Uuid) (ws : List ℕ) (o : Lent) (w : fits lim.fill (room_of o) ≡ true) (out : List ℕ) (few : Bool) (r : Result ManifestRow Refusal) (l : Lent) (q : record { answer = r; out = l } ≡ cloned_given lim m path cp (uuids_of ws) o) where
  abbrev clone : Manifest
  clone = cloned_of m path cp (uuids_of ws)

  answered : (x : Result ManifestRow Refusal) → r ≡ x → x ≡ (cloned_given lim m path cp (uuids_of ws) o).answer
  answered x h = sym h ∙ ap (λ y. y.answer) q

  with_refused : (x : Refusal) → r ≡ Err x → (n : ℕ) → n ≡ length m.borrows → (n < lim.fill.borrows → n < length ws / 2) → refused_with out x ≡ cloned_with few lim room out path cp (uuids_of ws) m
  unfolding cloned_given cloned_with
  with_refused x h n e k =
      by_refused o out (manifest_row clone) (laid_over o (layout clone)) (refuses15 m.borrows) (no_room lim (room_of o) (manifest_fill clone)) (refuses16 clone.borrows (uuids_of ws)) (no_room lim room (manifest_fill clone)) x _
      (full_too lim room (room_of o) (manifest_fill clone) w) (names_suffice lim m path cp ws (room_of o) (rw e at k)) (answered (Err x) h)

  module _ (row : ManifestRow) (h : r ≡ Ok row) where
    given : (refuses15 m.borrows ≡ false) × (row ≡ manifest_row clone) × (l ≡ laid_over o (layout clone))
    unfolding cloned_given
    given = by_done o out (manifest_row clone) (laid_over o (layout clone)) (refuses15 m.borrows) (no_room lim (room_of o) (manifest_fill clone)) (refuses16 clone.borrows (uuids_of ws)) row l (answered (Ok row) h) (ap (λ y. y.out) q)

    is_clone : manifest_in l row ≡ clone
    is_clone = ap (λ (x : Lent). manifest_in x row) given.2 ∙ ap (manifest_in (laid_over o (layout clone))) given.1 ∙ decode_over clone o

    module _ (b : Bool) (k : b ≡ no_room lim room (plus (manifest_fill m) (lent_fill path (owned_of m)))) where
      narrow : no_room lim room (manifest_fill clone) ≡ b
      narrow = ap (no_room lim room) (clone_fill m path cp (uuids_of ws)) ∙ sym k

      with_full : b ≡ true → refused_with out NoRoom ≡ cloned_with few lim room out path cp (uuids_of ws) m
      unfolding cloned_with
      with_full t = rw (given.0, narrow ∙ t)

      with_put : b ≡ false → fresh_put few (manifest_bytes (manifest_in l row)) out ≡ cloned_with few lim room out path cp (uuids_of ws) m
      unfolding cloned_with
      with_put t = rw (is_clone, given.0, narrow ∙ t)

  laid_done : (row : ManifestRow) → r ≡ Ok row → (b : Bool) → b ≡ no_room lim room (plus (manifest_fill m) (lent_fill path (owned_of m)))
      → pick b (refused_with out NoRoom) (fresh_put few (manifest_bytes (manifest_in l row)) out) ≡ cloned_with few lim room out path cp (uuids_of ws) m
  laid_done row h true k = with_full row h true k refl
  laid_done row h false k = with_put row h false k refl

  pub laid_means : (n : ℕ) → n ≡ length m.borrows → (n < lim.fill.borrows → n < length ws / 2) → laid_put few lim room (plus (manifest_fill m) (lent_fill path (owned_of m))) out l r ≡ cloned_with few lim room out path cp (uuids_of ws) m
  laid_means n e k = go r refl
    where
      go : (x : Result ManifestRow Refusal) → r ≡ x → laid_put few lim room (plus (manifest_fill m) (lent_fill path (owned_of m))) out l x ≡ cloned_with few lim room out path cp (uuids_of ws) m
      go (Ok row) h = laid_done row h (no_room lim room (plus (manifest_fill m) (lent_fill path (owned_of m)))) refl
      go (Err x) h = with_refused x h n e k

-- ---- what came of laying

module _ (few : Bool) (lim : Limits) (room f : Fill) (out : List ℕ) (l : Lent) (a : Result ManifestRow Refusal) where
  pub laid_refused : (x : Refusal) → a ≡ Err x → refused_with out x ≡ laid_put few lim room f out l a
  laid_refused x h = rw h

  module _ (row : ManifestRow) (h : a ≡ Ok row) (b : Bool) (k : b ≡ no_room lim room f) where
    pub laid_full : b ≡ true → refused_with out NoRoom ≡ laid_put few lim room f out l a
    laid_full t = rw (h, sym k ∙ t)

    pub laid_put_lem : b ≡ false → fresh_put few (manifest_bytes (manifest_in l row)) out ≡ laid_put few lim room f out l a
    laid_put_lem t = rw (h, sym k ∙ t)

-- ---- too few fresh UUIDs, or enough

module _ (lim : Limits) (room : Fill) (out path : List ℕ) (cp : Uuid) (l : Lent) (row : ManifestRow) (ws : List ℕ) where
  abbrev from : Manifest
  from = manifest_in l row

  -- 15 and 4 do not hang on which UUIDs they are
  any_names : (f g : List Uuid) → cloned_with true lim room out path cp f from ≡ cloned_with true lim room out path cp g from
  unfolding cloned_with fresh_put
  any_names f g = rw (clone_fill from path cp f, clone_fill from path cp g, clone_long f g from path cp)

  counted : length (cloned_of from path cp (uuids_of ws)).borrows ≡ held_of row.external_dbs (length l.borrows / 9) + 1
  counted = clone_count from path cp (uuids_of ws) ∙ ap (λ (k : ℕ). k + 1) (sym (held_is l row))

  pub put_enough : (n : ℕ) → n ≡ held_of row.external_dbs (length l.borrows / 9) → n < length ws / 2 → cloned_with false lim room out path cp (uuids_of ws) from ≡ cloned_put lim room out path cp (uuids_of ws) from
  unfolding cloned_put
  put_enough n q h = let e : refuses16 (cloned_of from path cp (uuids_of ws)).borrows (uuids_of ws) ≡ false = rw (uuids_long ws) (le-ltb (length ws / 2) (length (cloned_of from path cp (uuids_of ws)).borrows) (omega (arith, counted, q, h))) in rw e

  pub put_few : (names : List Uuid) (n : ℕ) → n ≡ held_of row.external_dbs (length l.borrows / 9) → length ws / 2 ≤ n → cloned_with true lim room out path cp names from ≡ cloned_put lim room out path cp (uuids_of ws) from
  unfolding cloned_put
  put_few names n q h = let e : refuses16 (cloned_of from path cp (uuids_of ws)).borrows (uuids_of ws) ≡ true = rw (uuids_long ws) (lt-ltb (length ws / 2) (length (cloned_of from path cp (uuids_of ws)).borrows) (omega (arith, counted, q, h))) in any_names names (uuids_of ws) ∙ rw e

-- ---- rows, and what was read

module _ (lim : Limits) (room : Fill) (out path : List ℕ) (cp : Uuid) (fresh : List Uuid) where
  pub rows_broken : (l : Lent) (m : ManifestRow) (rule : ℕ) → judged_of lim l m ≡ Err rule → refused_with out (Unlawful rule) ≡ cloned_on lim room out path cp fresh (rows_in lim l (Ok m))
  unfolding cloned_on
  rows_broken l m rule h = rw h

  pub rows_lawful : (l : Lent) (m : ManifestRow) → judged_of lim l m ≡ Ok tt → cloned_put lim room out path cp fresh (manifest_in l m) ≡ cloned_on lim room out path cp fresh (rows_in lim l (Ok m))
  unfolding cloned_on
  rows_lawful l m h = rw h

  pub cloned_unread : (x : Refusal) → refused_with out x ≡ cloned_on lim room out path cp fresh (unread x)
  unfolding cloned_on
  cloned_unread x = refl

-- ---- the order of refusals

module _ (lim : Limits) (s path : List ℕ) (cp : Uuid) (fresh : List Uuid) (room : Fill) (w o : Lent) (out : List ℕ) where
  pub clone_too_long : long_of s ≡ true → refused_with out OverLimit ≡ clone_to lim s path cp fresh room w o out
  unfolding clone_to
  clone_too_long h = rw h

  module _ (h : long_of s ≡ false) where
    pub clone_over : path_over lim path ≡ true → refused_with out OverLimit ≡ clone_to lim s path cp fresh room w o out
    unfolding clone_to
    clone_over k = rw (h, k)

    module _ (k : path_over lim path ≡ false) where
      pub clone_short : both_fit lim.fill (work_room lim w) (room_of o) ≡ false → refused_with out NoRoom ≡ clone_to lim s path cp fresh room w o out
      unfolding clone_to
      clone_short f = rw (h, k) (unless_both lim.fill (work_room lim w) (room_of o) (refused_with out NoRoom) (cloned_on lim room out path cp fresh (encoded_of lim s)) f)

      pub clone_bytes : both_fit lim.fill (work_room lim w) (room_of o) ≡ true → cloned_on lim room out path cp fresh (encoded_of lim s) ≡ clone_to lim s path cp fresh room w o out
      unfolding clone_to
      clone_bytes f = let g = both_fit_lem lim.fill (work_room lim w) (room_of o) f in rw (h, k, g.0, g.1)
