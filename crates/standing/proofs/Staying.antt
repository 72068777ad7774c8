-- A manifest laid out behind a cursor stands there, and what stood before it stands on. Assumes nothing.
use Prim.Native.Nat.{ℕ, ◌+◌, ◌-◌, ◌≤◌}
use mathlib.Core.Path.{◌≡◌, refl, ap, ◌∙◌}
use mathlib.Core.Bool.{true}
use mathlib.Core.List.{List, ◌++◌, append_assoc}
use native.Mathlib.Omega.{arith}
use lib.ListN.{length, take, drop}
use lib.Seq.{length-take-le, take-add, take-append-add}
use Rattle.tables.specs.Layout.{write}
use Rattle.tables.proofs.Holds.{Holds, holds_at}
use Rattle.tables.proofs.Writes.{write_length}
use Rattle.records.specs.Model.{Manifest}
use Rattle.records.specs.Fill.{plus, fits, manifest_fill}
use Rattle.records.specs.Layout.{layout_at}
use Rattle.records.specs.Decode.{Lent}
use Rattle.records.specs.declared.Fill.{Fill}
use Rattle.records.proofs.Laid.{Table, segments, views, runs, borrows, ids, pool, at, at_plus}
use Rattle.records.proofs.Cursor.{table_of, layout_at_long, Stands}
use Rattle.measure.proofs.Fits.{Under, under}
use Rattle.copy.specs.Copy.{room_of, laid_at}

-- ---- in one table

-- what is written stands where it was written
holds_written : (d : List ℕ) (from : ℕ) (xs : List ℕ) → from ≤ length d → Holds (write d from xs) from xs
holds_written d from xs h = holds_at (take from d) xs (drop (from + length xs) d) from (length-take-le from d h)

-- what stood before it stands on
holds_before : (d : List ℕ) (n : ℕ) (ys : List ℕ) (from : ℕ) (xs : List ℕ) → n + length ys ≤ from → from ≤ length d → Holds d n ys → Holds (write d from xs) n ys
holds_before d n ys from xs h l s =
    let k = from - (n + length ys) in
    let rest = xs ++ drop (from + length xs) d in
    let e : from ≡ n + (length ys + k) = omega arith in
    let f : take from d ≡ take n d ++ (ys ++ take k s.behind) =
    ap (λ (i : ℕ). take i d) e ∙ take-add n (length ys + k) d ∙ ap (λ (z : List ℕ). take n d ++ take (length ys + k) z) s.is ∙ ap (λ (z : List ℕ). take n d ++ z) (take-append-add ys s.behind k) in
    let g : write d from xs ≡ take n d ++ (ys ++ (take k s.behind ++ rest)) =
    ap (λ (z : List ℕ). z ++ rest) f ∙ append_assoc (take n d) (ys ++ take k s.behind) rest ∙ ap (λ (z : List ℕ). take n d ++ z) (append_assoc ys (take k s.behind) rest) in
    rw g (holds_at (take n d) ys (take k s.behind ++ rest) n (length-take-le n d (omega arith)))

-- ---- in every table

-- places that a table has are words that it has
pub room_at : (t : Table) (f : Fill) (o : Lent) → Under f (room_of o) → at t f ≤ length (table_of t o)
room_at segments f o u = omega (arith, u.segments)
room_at views f o u = omega (arith, u.views)
room_at runs f o u = omega (arith, u.runs)
room_at borrows f o u = omega (arith, u.borrows)
room_at ids f o u = omega (arith, u.ids)
room_at pool f o u = u.bytes

at_under : (t : Table) (a b : Fill) → Under a b → at t a ≤ at t b
at_under segments a b u = omega (arith, u.segments)
at_under views a b u = omega (arith, u.views)
at_under runs a b u = omega (arith, u.runs)
at_under borrows a b u = omega (arith, u.borrows)
at_under ids a b u = omega (arith, u.ids)
at_under pool a b u = u.bytes

laid_table : (t : Table) (c : Fill) (o k : Lent) → table_of t (laid_at c o k) ≡ write (table_of t o) (at t c) (table_of t k)
laid_table segments c o k = refl
laid_table views c o k = refl
laid_table runs c o k = refl
laid_table borrows c o k = refl
laid_table ids c o k = refl
laid_table pool c o k = refl

module _ (d : Fill) (n : Manifest) (o : Lent) (h : fits (plus d (manifest_fill n)) (room_of o) ≡ true) where
  room_of_lem : (t : Table) → at t d + at t (manifest_fill n) ≤ length (table_of t o)
  room_of_lem t = omega (arith, room_at t (plus d (manifest_fill n)) o (under (plus d (manifest_fill n)) (room_of o) h), at_plus t d (manifest_fill n))

  laid_long : (t : Table) → length (table_of t (laid_at d o (layout_at d n))) ≡ length (table_of t o)
  laid_long t =
      ap length (laid_table t d o (layout_at d n))
      ∙ write_length (table_of t o) (at t d) (table_of t (layout_at d n)) (omega (arith, room_of_lem t, layout_at_long t d n))

  -- WHAT IS LAID OUT BEHIND A CURSOR STANDS THERE
  pub laid_stands : Stands d n (laid_at d o (layout_at d n))
  laid_stands =
      record {
        holds = λ t. rw (laid_table t d o (layout_at d n)) (holds_written (table_of t o) (at t d) (table_of t (layout_at d n)) (omega (arith, room_of_lem t)));
        room = λ t. rw (laid_long t) (room_at t (plus d (manifest_fill n)) o (under (plus d (manifest_fill n)) (room_of o) h));
      }

  -- AND WHAT STOOD BEFORE IT STANDS ON
  pub stands_stays : (c : Fill) (m : Manifest) → fits (plus c (manifest_fill m)) d ≡ true → Stands c m o → Stands c m (laid_at d o (layout_at d n))
  stands_stays c m f s =
      record {
        holds =
            λ t.
            let u = at_under t (plus c (manifest_fill m)) d (under (plus c (manifest_fill m)) d f) in
            rw (laid_table t d o (layout_at d n))
            (holds_before (table_of t o) (at t c) (table_of t (layout_at c m)) (at t d) (table_of t (layout_at d n)) (omega (arith, u, layout_at_long t c m, at_plus t c (manifest_fill m))) (omega (arith, room_of_lem t)) (s.holds t));
        room = λ t. rw (laid_long t) (s.room t);
      }

  -- the tables have as many places as before
  pub laid_roomy : room_of (laid_at d o (layout_at d n)) ≡ room_of o
  laid_roomy = rw (laid_long segments, laid_long views, laid_long runs, laid_long borrows, laid_long ids, laid_long pool)
