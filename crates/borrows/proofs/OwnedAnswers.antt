-- Which answer owned ids give, by their tests. Assumes nothing.
use Rattle.std.specs.Prelude.{Err, Ok, Result}
use Prim.Native.Nat.{ℕ, ◌+◌, ◌*◌, ◌/◌, ◌^◌, ◌≤◌, ◌<◌}
use mathlib.Core.Path.{◌≡◌, refl, sym, ap, ◌∙◌}
use mathlib.Core.Bool.{Bool, true, false, not, ◌&&◌}
use mathlib.Core.List.{List}
use native.Mathlib.Omega.{arith}
use lib.ListN.{length}
use Rattle.tables.specs.Layout.{over}
use Rattle.tables.proofs.Writes.{write_front}
use Rattle.records.specs.Fill.{ids, fits}
use Rattle.records.specs.Decode.{Lent, manifest_in}
use Rattle.records.specs.Layout.{ids_laid}
use Rattle.records.specs.declared.Fill.{Fill}
use Rattle.records.specs.declared.Limits.{Limits}
use Rattle.records.specs.declared.ManifestRow.{ManifestRow}
use Rattle.records.specs.declared.Refusal.TheVariants.{Unlawful, NoRoom}
use Rattle.measure.proofs.Fits.{under}
use Rattle.lawful.specs.Judge.{judged_of}
use Rattle.copy.specs.Copy.{no_room}
use Rattle.borrows.specs.Owned.{owned_of}
use Rattle.borrows.specs.Places.{put_from}
use Rattle.borrows.specs.Answer.{OwnedOutcome, owned_given, owned_in}
use Rattle.borrows.proofs.Putting.{put_laid}
use Rattle.borrows.proofs.Poolless.{poolless, owned_poolless}
use Rattle.borrows.proofs.Lawfully.{keeps, owned_most}

-- what does not lack room fits
pub room_fits : (lim : Limits) (room f : Fill) → no_room lim room f ≡ false → (fits f lim.fill ≡ true) × (fits f room ≡ true)
unfolding no_room
room_fits lim room f h = go (fits f lim.fill) (fits f room) h
  where
    go : (x y : Bool) → not (x && y) ≡ false → (x ≡ true) × (y ≡ true)
    go true true e = (refl, refl)
    go true false e = let z : ◌≡◌ {A = ℕ} 0 1 = cc in absurd (omega arith)
    go false y e = let z : ◌≡◌ {A = ℕ} 0 1 = cc in absurd (omega arith)

module _ (lim : Limits) (l : Lent) (m : ManifestRow) (h : judged_of lim l m ≡ Ok tt) where
  pub count_small : lim.fill.views < 2 ^ 64 → length (owned_of (manifest_in (poolless l) m)) < 2 ^ 64
  count_small v = rw (owned_poolless l m) (omega (arith, owned_most lim (manifest_in l m) (keeps lim l m h).within))

module _ (lim : Limits) (l : Lent) (m : ManifestRow) (d : List ℕ) (n : ℕ) (e : n ≡ length (owned_of (manifest_in (poolless l) m)))
    (room result : Fill) (p : room ≡ ids (length d / 2)) (q : result ≡ ids n) (b : Bool) (r : b ≡ no_room lim room result) where
  counted : n ≡ length (owned_of (manifest_in l m))
  counted = e ∙ ap length (owned_poolless l m)

  tested : no_room lim (ids (length d / 2)) (ids (length (owned_of (manifest_in l m)))) ≡ b
  tested = rw (← counted, ← p, ← q) (sym r)

  pub owned_no_room : b ≡ true → record { answer = Err NoRoom; out = d } ≡ owned_given lim (manifest_in l m) d
  unfolding owned_given
  owned_no_room t = rw (tested ∙ t)

  pub owned_done : (d' : List ℕ) → b ≡ false → d' ≡ put_from d 0 (owned_of (manifest_in (poolless l) m)) → record { answer = Ok n; out = d' } ≡ owned_given lim (manifest_in l m) d
  unfolding owned_given
  owned_done d' t w =
      let xs = owned_of (manifest_in l m) in
      let u = under (ids (length xs)) (ids (length d / 2)) (room_fits lim (ids (length d / 2)) (ids (length xs)) (tested ∙ t)).1 in
      let k : (0 + length xs) * 2 ≤ length d = omega (arith, u.ids) in
      let z : 0 * 2 ≡ 0 = omega arith in
      let g : d' ≡ over d (ids_laid xs) = w ∙ rw (owned_poolless l m) (put_laid xs d 0 k ∙ rw z (write_front d (ids_laid xs))) in
      rw (tested ∙ t) (rw (counted, g))

-- ---- the law first

module _ (lim : Limits) (l : Lent) (m : ManifestRow) (d : List ℕ) (j : Result Unit ℕ) (e : j ≡ judged_of lim l m) where
  pub judged_so : j ≡ Ok tt → judged_of lim l m ≡ Ok tt
  judged_so t = sym e ∙ t

  pub owned_broken : (rule : ℕ) → j ≡ Err rule → record { answer = Err (Unlawful rule); out = d } ≡ owned_in lim l m d
  unfolding owned_in
  owned_broken rule t = rw (sym e ∙ t)

  pub owned_lawful : (o : OwnedOutcome) → j ≡ Ok tt → o ≡ owned_given lim (manifest_in l m) d → o ≡ owned_in lim l m d
  unfolding owned_in
  owned_lawful o t g = rw (sym e ∙ t) g
