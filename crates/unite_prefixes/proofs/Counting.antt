-- No used source has more segments than a lawful manifest may have. Assumes nothing.
use Prim.Native.Nat.{ℕ, zero, suc, ◌+◌, ◌*◌, ◌/◌, ◌≤◌}
use mathlib.Core.Path.{◌≡◌, refl, ap, ◌∙◌}
use mathlib.Core.Bool.{Bool, true}
use mathlib.Core.List.{List}
use native.Mathlib.Nat.{mul-le-mul_right}
use native.Mathlib.Omega.{arith}
use lib.Dec.{leb}
use lib.ListN.{length}
use borrow.Author.Tests.{le-leb}
use Rattle.tables.specs.Window.{held_of}
use Rattle.records.specs.Model.{Manifest}
use Rattle.records.specs.Fill.{name_keys, manifest_fill}
use Rattle.records.specs.Row.{at, window_at}
use Rattle.records.specs.Decode.{Lent, manifest_in}
use Rattle.records.specs.declared.Fill.{Fill}
use Rattle.records.specs.declared.Limits.{Limits}
use Rattle.records.proofs.Columns.{keys_fill, tree_fill_lem, segments_fill, borrows_fill}
use Rattle.measure.specs.Tests.{all_below}
use Rattle.measure.proofs.Fits.{under}
use Rattle.measure.proofs.Lists.{all_up_to}
use Rattle.copy.proofs.Manifest.{segments_count}
use Rattle.borrows.proofs.Lawfully.{both, keeps, within_parts}
use Rattle.unite_sources.specs.Rows.{manifest_at_word, begins, counts_within}
use Rattle.unite_sources.proofs.Results.{counts_all}
use Rattle.unite_judge.specs.Judging.{most_sources}
use Rattle.unite_lend.specs.Used.{sound_at, sound_below}
use Rattle.unite_lend.proofs.Gathering.{sound_lawful}

segments_filled : (m : Manifest) → (manifest_fill m).segments ≡ length m.segments
unfolding manifest_fill
segments_filled m =
    let t = ap (λ (f : Fill). f.segments) (tree_fill_lem m.tree) in
    let s = ap (λ (f : Fill). f.segments) (segments_fill m.segments) in
    let n = ap (λ (f : Fill). f.segments) (keys_fill (name_keys m.extractor)) in
    let b = ap (λ (f : Fill). f.segments) (borrows_fill m.borrows) in
    omega arith

module _ (lim : Limits) (l : Lent) (t : List ℕ) where
  -- at most so many segments
  abbrev few : ℕ → Bool
  few b = leb (held_of (window_at t (b + 10)) (length l.segments / 12)) lim.fill.segments

  few_sound : (b : ℕ) → sound_at lim l t b ≡ true → few b ≡ true
  unfolding manifest_at_word manifest_in
  few_sound b h =
      let m = manifest_in l (manifest_at_word t b) in
      let u = under (manifest_fill m) lim.fill (within_parts lim m (keeps lim l (manifest_at_word t b) (sound_lawful lim l t b h)).within).numbers in
      let k : length m.segments ≡ held_of (window_at t (b + 10)) (length l.segments / 12) = segments_count l.segments l.runs l.views l.pool (window_at t (b + 10)) in
      le-leb (held_of (window_at t (b + 10)) (length l.segments / 12)) lim.fill.segments (omega (arith, k, segments_filled m, u.segments))

  each_few : (rows : List ℕ) (n : ℕ) → sound_below lim l t rows n ≡ true → all_below (λ i. few (at rows (i * 7))) n ≡ true
  each_few rows zero h = refl
  each_few rows (suc n) h =
      let q = both (sound_below lim l t rows n) (sound_at lim l t (at rows (n * 7))) h in
      rw (each_few rows n q.0, few_sound (at rows (n * 7)) q.1)

  pub counts_sound : (rows : List ℕ) (n : ℕ) → sound_below lim l t rows n ≡ true → counts_within lim.fill.segments l.segments t (begins rows n) ≡ true
  unfolding begins
  counts_sound rows n h = counts_all lim.fill.segments l.segments t (begins rows n) ∙ all_up_to few (λ i. at rows (i * 7)) n ∙ each_few rows n h

-- room for the segments of the most sources is room for those of n
pub prefix_room : (n m k : ℕ) → n ≤ most_sources → most_sources * m * 2 ≤ k → n * m * 2 ≤ k
prefix_room n m k h r = go (n * m) (mul-le-mul_right m h)
  where
    go : (x : ℕ) → x ≤ most_sources * m → x * 2 ≤ k
    go x l = omega (arith, l, r)
