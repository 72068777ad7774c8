-- What a lawful manifest keeps, and how many ids it owns at most. Assumes nothing.
use Rattle.std.specs.Prelude.{Err, Ok, Result}
use Prim.Native.Nat.{ℕ, ◌≤◌}
use mathlib.Core.Path.{◌≡◌, refl, ap}
use mathlib.Core.Bool.{Bool, true, false, not, ◌&&◌}
use mathlib.Core.List.{List, [], ◌∷◌}
use native.Mathlib.Omega.{arith}
use lib.ListN.{length, length-append}
use Rattle.keys.specs.Pick.{pick}
use Rattle.tables.specs.Layout.{joined}
use Rattle.ids.specs.declared.SstId.{SstId}
use Rattle.records.specs.Model.{View, Segment, Borrow, Manifest, segment_trees}
use Rattle.records.specs.Fill.{fits, manifest_fill, name_keys, view_keys}
use Rattle.records.specs.Decode.{Lent, manifest_in}
use Rattle.records.specs.declared.Fill.{Fill}
use Rattle.records.specs.declared.Limits.{Limits}
use Rattle.records.specs.declared.ManifestRow.{ManifestRow}
use Rattle.records.proofs.Columns.{keys_fill, tree_fill_lem, segments_fill, borrows_fill}
use Rattle.measure.specs.Tests.{all_of}
use Rattle.measure.specs.Within.{tree_views, all_views, short, within, ids_used}
use Rattle.measure.specs.Placed.{placed}
use Rattle.measure.specs.Measure.{l1_of}
use Rattle.measure.proofs.Fits.{under}
use Rattle.lawful.specs.Law.{l2_of, l3_of, l4_of, l5_of}
use Rattle.lawful.specs.Judge.{judged_of}
use Rattle.borrows.specs.Owned.{is_borrowed, unborrowed, owned_of}
use Rattle.borrows.proofs.Poolless.{segments_joined}

-- ---- L1 to L5

pub record Keeps (lim : Limits) (l : Lent) (m : ManifestRow) : Type 0 where
  pub placed : placed l m ≡ true
  pub within : within lim (manifest_in l m) ≡ true
  pub l2 : l2_of (manifest_in l m) ≡ true
  pub l3 : l3_of (manifest_in l m) ≡ true
  pub l4 : l4_of (manifest_in l m) ≡ true
  pub l5 : l5_of (manifest_in l m) ≡ true

-- a rule that is broken is named
unbroken : (b : Bool) (rule : ℕ) (j : Result Unit ℕ) → pick (not b) (Err rule) j ≡ Ok tt → (b ≡ true) × (j ≡ Ok tt)
unbroken true rule j h = (refl, h)
unbroken false rule j h = let z : ◌≡◌ {A = ℕ} 0 1 = cc in absurd (omega arith)

pub both : (a b : Bool) → (a && b) ≡ true → (a ≡ true) × (b ≡ true)
both true b h = (refl, h)
both false b h = let z : ◌≡◌ {A = ℕ} 0 1 = cc in absurd (omega arith)

module _ (lim : Limits) (l : Lent) (m : ManifestRow) (h : judged_of lim l m ≡ Ok tt) where
  pub keeps : Keeps lim l m
  unfolding judged_of l1_of
  keeps =
      let a = unbroken (l1_of lim l m) 1 _ h in
      let b = unbroken (l2_of (manifest_in l m)) 2 _ a.1 in
      let c = unbroken (l3_of (manifest_in l m)) 3 _ b.1 in
      let d = unbroken (l4_of (manifest_in l m)) 4 _ c.1 in
      let e = unbroken (l5_of (manifest_in l m)) 5 _ d.1 in
      let p = both (placed l m) (within lim (manifest_in l m)) a.0 in
      record { placed = p.0; within = p.1; l2 = b.0; l3 = c.0; l4 = d.0; l5 = e.0 }

-- ---- how many ids

unborrowed_most : (bs : List Borrow) (xs : List SstId) → length (unborrowed bs xs) ≤ length xs
unborrowed_most bs [] = omega arith
unborrowed_most bs (x ∷ xs) = go (is_borrowed bs x) (unborrowed_most bs xs)
  where
    go : (t : Bool) → length (unborrowed bs xs) ≤ length xs → length (pick t (unborrowed bs xs) (x ∷ unborrowed bs xs)) ≤ length (x ∷ xs)
    go true h = omega arith
    go false h = omega arith

used_long : (vs : List View) → length (ids_used vs) ≡ length vs
used_long [] = refl
used_long (v ∷ vs) = rw (used_long vs)

views_filled : (m : Manifest) → (manifest_fill m).views ≡ length (all_views m)
unfolding manifest_fill all_views
views_filled m =
    let t = ap (λ (f : Fill). f.views) (tree_fill_lem m.tree) in
    let s = ap (λ (f : Fill). f.views) (segments_fill m.segments) in
    let n = ap (λ (f : Fill). f.views) (keys_fill (name_keys m.extractor)) in
    let b = ap (λ (f : Fill). f.views) (borrows_fill m.borrows) in
    let e = length-append (tree_views m.tree) (joined tree_views (segment_trees m.segments)) in
    omega (arith, ap length (segments_joined m.segments))

-- ---- L1's five parts

pub record Within (lim : Limits) (m : Manifest) : Type 0 where
  pub numbers : fits (manifest_fill m) lim.fill ≡ true
  pub prefixes : all_of (λ s. short lim.prefix s.prefix) m.segments ≡ true
  pub name : all_of (short lim.name) (name_keys m.extractor) ≡ true
  pub keys : all_of (λ v. all_of (short lim.key) (view_keys v)) (all_views m) ≡ true
  pub paths : all_of (λ b. short lim.path b.path) m.borrows ≡ true

module _ (lim : Limits) (m : Manifest) where
  abbrev numbers_of : Bool
  numbers_of = fits (manifest_fill m) lim.fill

  abbrev prefixes_of : Bool
  prefixes_of = all_of (λ (s : Segment). short lim.prefix s.prefix) m.segments

  abbrev name_of : Bool
  name_of = all_of (short lim.name) (name_keys m.extractor)

  abbrev keys_of : Bool
  keys_of = all_of (λ (v : View). all_of (short lim.key) (view_keys v)) (all_views m)

  abbrev paths_of : Bool
  paths_of = all_of (λ (b : Borrow). short lim.path b.path) m.borrows

  pub within_parts : within lim m ≡ true → Within lim m
  unfolding within
  within_parts h =
      let a = both (((numbers_of && prefixes_of) && name_of) && keys_of) paths_of h in
      let b = both ((numbers_of && prefixes_of) && name_of) keys_of a.0 in
      let c = both (numbers_of && prefixes_of) name_of b.0 in
      let d = both numbers_of prefixes_of c.0 in
      record { numbers = d.0; prefixes = d.1; name = c.1; keys = b.1; paths = a.1 }

  pub parts_within : Within lim m → within lim m ≡ true
  unfolding within
  parts_within w = rw (w.numbers, w.prefixes, w.name, w.keys, w.paths)

pub owned_most : (lim : Limits) (m : Manifest) → within lim m ≡ true → length (owned_of m) ≤ lim.fill.views
unfolding owned_of
owned_most lim m h =
    let u = under (manifest_fill m) lim.fill (within_parts lim m h).numbers in
    omega (arith, u.views, unborrowed_most m.borrows (ids_used (all_views m)), used_long (all_views m), views_filled m)
