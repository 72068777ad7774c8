-- A lawful manifest without its borrows keeps L1, and what the clone fills. Assumes nothing.
use Rattle.std.specs.Prelude.{None, Ok, Option, Some}
use Prim.Native.Nat.{ℕ, ◌+◌, ◌/◌}
use mathlib.Core.Path.{◌≡◌, refl, ap, ◌∙◌}
use mathlib.Core.Bool.{true, ◌&&◌}
use mathlib.Core.List.{List, [], ◌∷◌}
use native.Mathlib.Omega.{arith}
use lib.Dec.{leb}
use lib.ListN.{length}
use borrow.Author.Tests.{le-leb}
use Rattle.keys.proofs.Says.{true_says}
use Rattle.tables.specs.Window.{held_of}
use Rattle.tables.proofs.Holds.{pick_same}
use Rattle.ids.specs.declared.Uuid.{Uuid}
use Rattle.records.specs.Model.{Borrow, Manifest}
use Rattle.records.specs.Fill.{plus, sum, fits, borrow_fill, manifest_fill}
use Rattle.records.specs.Decode.{Lent, borrows_in, manifest_in}
use Rattle.records.specs.declared.Fill.{Fill}
use Rattle.records.specs.declared.Limits.{Limits}
use Rattle.records.specs.declared.ManifestRow.{ManifestRow}
use Rattle.records.proofs.Sums.{fill_same, sum_more}
use Rattle.measure.specs.Within.{all_views, within}
use Rattle.measure.specs.Placed.{tree_placed, segments_placed, name_placed, borrows_placed, placed}
use Rattle.measure.specs.Measure.{l1_of, measured_of}
use Rattle.measure.specs.Walk.{add_of}
use Rattle.measure.proofs.Fits.{under, says_fits}
use Rattle.lawful.specs.Judge.{judged_of}
use Rattle.borrows.specs.Owned.{owned_of}
use Rattle.borrows.specs.Clone.{renewed_all, cloned_borrows, cloned_of, fresh_at, of_parent}
use Rattle.borrows.specs.Bare.{bare_of, bare_row, lent_fill}
use Rattle.borrows.proofs.Poolless.{poolless, owned_poolless}
use Rattle.borrows.proofs.Lawfully.{keeps, both, within_parts, parts_within}

pub fits_first : (a b most : Fill) → fits (plus a b) most ≡ true → fits a most ≡ true
fits_first a b most h =
    let u = under (plus a b) most h in
    true_says (says_fits a most) (record { segments = omega (arith, u.segments); views = omega (arith, u.views); runs = omega (arith, u.runs); borrows = omega (arith, u.borrows); ids = omega (arith, u.ids); bytes = omega (arith, u.bytes) })

-- ---- without its borrows

pub bare_in : (l : Lent) (m : ManifestRow) → manifest_in l (bare_row m) ≡ bare_of (manifest_in l m)
unfolding bare_row bare_of manifest_in borrows_in held_of
bare_in l m = rw (pick_same {A = ℕ} (leb (0 + 0) (length l.borrows / 9)) 0)

bare_over : (m : Manifest) → manifest_fill m ≡ plus (manifest_fill (bare_of m)) (sum borrow_fill m.borrows)
unfolding manifest_fill bare_of
bare_over m = fill_same (omega arith)

bare_placed : (l : Lent) (m : ManifestRow) → placed l m ≡ true → placed l (bare_row m) ≡ true
unfolding placed bare_row borrows_placed
bare_placed l m h =
    let n = length l.pool in
    let t = tree_placed n l.views l.runs m.tree in
    let s = segments_placed n l.views l.runs l.segments m.segments in
    let e = name_placed n m.segment_extractor_name in
    let a = both (t && s && e) (borrows_placed n l.ids l.borrows m.external_dbs) h in
    rw (a.0, le-leb (0 + 0) (length l.borrows / 9) (omega arith))

bare_within : (lim : Limits) (m : Manifest) → within lim m ≡ true → within lim (bare_of m) ≡ true
unfolding bare_of all_views
bare_within lim m h =
    let w = within_parts lim m h in
    parts_within lim (bare_of m) (record { numbers = fits_first (manifest_fill (bare_of m)) (sum borrow_fill m.borrows) lim.fill (rw (bare_over m) at w.numbers); prefixes = w.prefixes; name = w.name; keys = w.keys; paths = refl })

measured_fills : (lim : Limits) (l : Lent) (m : ManifestRow) → placed l m ≡ true → within lim (manifest_in l m) ≡ true → measured_of lim l m ≡ Some (manifest_fill (manifest_in l m))
unfolding measured_of l1_of
measured_fills lim l m p w = rw (p, w)

-- what is measured fills
pub filled : (r : Option Fill) (f g : Fill) → r ≡ Some g → r ≡ Some f → f ≡ g
filled r f g e h = cc

pub unbroken : {A : Type 0} (r : Option Fill) (g : Fill) → r ≡ Some g → r ≡ None → A
unbroken r g e h = let z : ◌≡◌ {A = ℕ} 0 1 = cc in absurd (omega arith)

module _ (lim : Limits) (l : Lent) (m : ManifestRow) (h : judged_of lim l m ≡ Ok tt) where
  pub whole_fills : (r : Option Fill) → r ≡ measured_of lim l m → r ≡ Some (manifest_fill (manifest_in l m))
  whole_fills r e = let k = keeps lim l m h in e ∙ measured_fills lim l m k.placed k.within

  pub bare_fills : (b : ManifestRow) (r : Option Fill) → b ≡ bare_row m → r ≡ measured_of lim l b → r ≡ Some (manifest_fill (bare_of (manifest_in l m)))
  bare_fills b r q e =
      let k = keeps lim l m h in
      e ∙ rw (q, ← bare_in l m) (measured_fills lim l (bare_row m) (bare_placed l m k.placed) (rw (bare_in l m) (bare_within lim (manifest_in l m) k.within)))

-- ---- what the clone fills

renewed_fill : (fresh : List Uuid) (n : ℕ) (bs : List Borrow) → sum borrow_fill (renewed_all fresh n bs) ≡ sum borrow_fill bs
unfolding renewed_all borrow_fill
renewed_fill fresh n [] = refl
renewed_fill fresh n (b ∷ bs) = ap (λ (f : Fill). plus (borrow_fill b) f) (renewed_fill fresh _ bs)

module _ (m : Manifest) (path : List ℕ) (cp : Uuid) (fresh : List Uuid) where
  borrows_fill : sum borrow_fill (cloned_borrows m path cp fresh) ≡ plus (sum borrow_fill m.borrows) (lent_fill path (owned_of m))
  unfolding cloned_borrows borrow_fill
  borrows_fill = sum_more borrow_fill (renewed_all fresh 0 m.borrows) (of_parent path cp (fresh_at fresh (length m.borrows)) (owned_of m)) ∙ ap (λ (f : Fill). plus f (lent_fill path (owned_of m))) (renewed_fill fresh 0 m.borrows)

  pub clone_over_bare : manifest_fill (cloned_of m path cp fresh) ≡ plus (manifest_fill (bare_of m)) (sum borrow_fill (cloned_borrows m path cp fresh))
  unfolding manifest_fill bare_of cloned_of
  clone_over_bare = fill_same (omega arith)

  pub clone_fill : manifest_fill (cloned_of m path cp fresh) ≡ plus (manifest_fill m) (lent_fill path (owned_of m))
  clone_fill = clone_over_bare ∙ rw (borrows_fill, bare_over m) (fill_same (omega arith))

pub clone_adds : (lim : Limits) (l : Lent) (m : ManifestRow) (path : List ℕ) (f : Fill) (n : ℕ) (a : Option Fill) → f ≡ manifest_fill (manifest_in l m) → n ≡ length (owned_of (manifest_in (poolless l) m))
    → a ≡ add_of lim.fill f (record { segments = 0; views = 0; runs = 0; borrows = 1; ids = n; bytes = length path }) → a ≡ add_of lim.fill (manifest_fill (manifest_in l m)) (lent_fill path (owned_of (manifest_in l m)))
clone_adds lim l m path f n a e h q =
    let k : n ≡ length (owned_of (manifest_in l m)) = h ∙ ap length (owned_poolless l m) in
    let s : record { segments = 0; views = 0; runs = 0; borrows = 1; ids = n; bytes = length path } ≡ lent_fill path (owned_of (manifest_in l m)) = rw (← k) (fill_same (omega arith)) in
    q ∙ rw (e, s)
