-- Which answer the copy gives, by its tests; and the room that a fitting result has. Assumes nothing.
use Rattle.std.specs.Prelude.{Err, None, Ok, Option, Some}
use mathlib.Core.Path.{◌≡◌, refl, sym, ap, ◌∙◌}
use mathlib.Core.Bool.{Bool, true, false, not, ◌&&◌}
use mathlib.Core.List.{List}
use Prim.Native.Nat.{ℕ}
use native.Mathlib.Omega.{arith}
use Rattle.keys.specs.Pick.{pick}
use Rattle.keys.proofs.Says.{true_says}
use Rattle.tables.specs.Layout.{write, over}
use Rattle.tables.proofs.Writes.{write_front}
use Rattle.records.specs.Model.{Manifest}
use Rattle.records.specs.Fill.{empty, plus, fits, manifest_fill}
use Rattle.records.specs.Decode.{Lent, manifest_in}
use Rattle.records.specs.Layout.{layout, layout_at, manifest_row_at}
use Rattle.records.specs.declared.Fill.{Fill}
use Rattle.records.specs.declared.Limits.{Limits}
use Rattle.records.specs.declared.ManifestRow.{ManifestRow}
use Rattle.records.specs.declared.Refusal.TheVariants.{Unlawful, NoRoom}
use Rattle.records.proofs.Sums.{empty_plus}
use Rattle.records.proofs.Laid.{Table, segments, views, runs, borrows, ids, pool, at, at_empty}
use Rattle.records.proofs.Cursor.{row_front, layout_front}
use Rattle.measure.specs.Measure.{l1_of, measured_of}
use Rattle.measure.specs.Walk.{left_of}
use Rattle.measure.proofs.Fits.{says_fits, under, fits_left}
use Rattle.copy.specs.Copy.{room_of, no_room, no_room_at, laid_over, laid_at, Outcome, given_of, given_at, copy_of, copy_at_of}

-- ---- refusal 4

module _ (lim : Limits) (room f : Fill) where
  pub over_limit : (a : Bool) → a ≡ fits f lim.fill → a ≡ false → true ≡ no_room lim room f
  unfolding no_room
  over_limit a e h = rw (sym e ∙ h)

  pub within_limit : (a b : Bool) → a ≡ fits f lim.fill → a ≡ true → b ≡ fits f room → not b ≡ no_room lim room f
  unfolding no_room
  within_limit a b e h g = rw (g, sym e ∙ h)

-- ---- what the measure tells

module _ (lim : Limits) (c : Fill) (l : Lent) (m : ManifestRow) (o : Lent) (r : Option Fill) (q : r ≡ measured_of lim l m) where
  broken : (b : Bool) → None ≡ pick b (Some (manifest_fill (manifest_in l m))) None → b ≡ false
  broken true e = let z : ◌≡◌ {A = ℕ} 0 1 = cc in absurd (omega arith)
  broken false e = refl

  filled : (f : Fill) (b : Bool) → Some f ≡ pick b (Some (manifest_fill (manifest_in l m))) None → (b ≡ true) × (f ≡ manifest_fill (manifest_in l m))
  filled f true e = (refl, cc)
  filled f false e = let z : ◌≡◌ {A = ℕ} 0 1 = cc in absurd (omega arith)

  pub copy_broken : r ≡ None → record { answer = Err (Unlawful 1); out = o } ≡ copy_at_of lim c l m o
  unfolding measured_of copy_at_of
  copy_broken h = rw (broken (l1_of lim l m) (sym h ∙ q))

  module _ (f : Fill) (h : r ≡ Some f) where
    keeps : (l1_of lim l m ≡ true) × (f ≡ manifest_fill (manifest_in l m))
    unfolding measured_of
    keeps = filled f (l1_of lim l m) (sym h ∙ q)

    module _ (u : fits c (room_of o) ≡ true) (left : Fill) (k : left ≡ left_of (room_of o) c) (b : Bool) (n : b ≡ no_room lim left f) where
      -- what is left is enough exactly where both together fit
      beside : b ≡ no_room_at lim (room_of o) c (manifest_fill (manifest_in l m))
      unfolding no_room no_room_at
      beside = n ∙ rw (k, keeps.1, fits_left (room_of o) c (manifest_fill (manifest_in l m)) (under c (room_of o) u))

      pub copy_no_room : b ≡ true → record { answer = Err NoRoom; out = o } ≡ copy_at_of lim c l m o
      unfolding copy_at_of given_at
      copy_no_room t = rw (keeps.0, sym beside ∙ t)

      -- a result that does not lack room fits
      pub copy_fits : b ≡ false → fits (plus c (manifest_fill (manifest_in l m))) (room_of o) ≡ true
      unfolding no_room_at
      copy_fits t = go (fits (manifest_fill (manifest_in l m)) lim.fill) (fits (plus c (manifest_fill (manifest_in l m))) (room_of o)) (sym beside ∙ t)
        where
          go : (x y : Bool) → not (x && y) ≡ false → y ≡ true
          go true true e = refl
          go true false e = let z : ◌≡◌ {A = ℕ} 0 1 = cc in absurd (omega arith)
          go false y e = let z : ◌≡◌ {A = ℕ} 0 1 = cc in absurd (omega arith)

      copy_done : b ≡ false → record { answer = Ok (manifest_row_at c (manifest_in l m)); out = laid_at c o (layout_at c (manifest_in l m)) } ≡ copy_at_of lim c l m o
      unfolding copy_at_of given_at
      copy_done t = rw (keeps.0, sym beside ∙ t)

      -- what was written, table by table
      pub copy_given : (row : ManifestRow) (k : Lent) → b ≡ false → row ≡ manifest_row_at c (manifest_in l m) → k.segments ≡ (laid_at c o (layout_at c (manifest_in l m))).segments
          → k.views ≡ (laid_at c o (layout_at c (manifest_in l m))).views → k.runs ≡ (laid_at c o (layout_at c (manifest_in l m))).runs → k.borrows ≡ (laid_at c o (layout_at c (manifest_in l m))).borrows
          → k.ids ≡ (laid_at c o (layout_at c (manifest_in l m))).ids → k.pool ≡ (laid_at c o (layout_at c (manifest_in l m))).pool
          → ◌≡◌ {A = Outcome} (record { answer = Ok row; out = k }) (copy_at_of lim c l m o)
      copy_given row k t e s v r w i p =
          let same : ◌≡◌ {A = Outcome} (record { answer = Ok row; out = k }) (record { answer = Ok (manifest_row_at c (manifest_in l m)); out = laid_at c o (layout_at c (manifest_in l m)) }) =
          λ j. record { answer = Ok (e j); out = record { segments = s j; views = v j; runs = r j; borrows = w j; ids = i j; pool = p j } } in
          same ∙ copy_done t

-- ---- at the front is behind nothing

pub empty_fits : (most : Fill) → fits empty most ≡ true
empty_fits most = true_says (says_fits empty most) (record { segments = omega arith; views = omega arith; runs = omega arith; borrows = omega arith; ids = omega arith; bytes = omega arith })

laid_front : (o k : Lent) → laid_at empty o k ≡ laid_over o k
laid_front o k =
    λ i.
    record {
      segments = front segments o.segments k.segments i;
      views = front views o.views k.views i;
      runs = front runs o.runs k.runs i;
      borrows = front borrows o.borrows k.borrows i;
      ids = front ids o.ids k.ids i;
      pool = front pool o.pool k.pool i;
    }
  where
    front : (t : Table) (d xs : List ℕ) → write d (at t empty) xs ≡ over d xs
    front t d xs = ap (λ (n : ℕ). write d n xs) (at_empty t) ∙ write_front d xs

pub given_front : (lim : Limits) (m : Manifest) (o : Lent) → given_at lim empty m o ≡ given_of lim m o
unfolding given_at given_of no_room_at no_room
given_front lim m o = rw (empty_plus (manifest_fill m), row_front m, layout_front m, laid_front o (layout m))

pub copy_front : (lim : Limits) (l : Lent) (m : ManifestRow) (o : Lent) → copy_at_of lim empty l m o ≡ copy_of lim l m o
unfolding copy_at_of copy_of
copy_front lim l m o = ap (λ (x : Outcome). pick (l1_of lim l m) x (record { answer = Err (Unlawful 1); out = o })) (given_front lim (manifest_in l m) o)
