-- The walk over a whole manifest gives what L1 and the measure say. Assumes nothing.
use Rattle.std.specs.Prelude.{None, Option, Some}
use mathlib.Core.Path.{◌≡◌, refl, sym, ap, ◌∙◌}
use mathlib.Core.Bool.{Bool, true, false, ◌&&◌}
use mathlib.Core.List.{List, [], ◌∷◌}
use native.Mathlib.Omega.{arith}
use lib.ListN.{length}
use Rattle.keys.specs.Pick.{pick}
use Rattle.keys.proofs.Says.{true_says}
use Rattle.tables.specs.Layout.{joined}
use Rattle.records.specs.Model.{Tree, Segment, Manifest, segment_trees, trees}
use Rattle.records.specs.Fill.{empty, fits, name_keys, manifest_fill}
use Rattle.records.specs.Decode.{Lent, manifest_in}
use Rattle.records.specs.declared.Fill.{Fill}
use Rattle.records.specs.declared.Limits.{Limits}
use Rattle.records.specs.declared.ManifestRow.{ManifestRow}
use Rattle.measure.specs.Tests.{all_of}
use Rattle.measure.specs.Within.{tree_views, all_views, short, within}
use Rattle.measure.specs.Placed.{tree_placed, segments_placed, name_placed, borrows_placed, placed}
use Rattle.measure.specs.Measure.{l1_of, measured_of}
use Rattle.measure.specs.Walk.{then, tree_walk, segments_walk, name_walk, borrows_walk, manifest_walk}
use Rattle.measure.proofs.Fits.{says_fits}
use Rattle.records.proofs.Sums.{empty_plus}
use Rattle.measure.proofs.Lists.{and_false, and_true, and_assoc, and_comm, all_both, all_joined}
use Rattle.measure.proofs.Steps.{Step, step_then}
use Rattle.measure.proofs.Rows.{view_short, tree_short, segment_short, borrow_short, tree_step, segments_step, name_step, borrows_step}

-- ---- the limits of length, record by record and kind by kind
shuffle : (t a w n p f : Bool) → ((t && ((a && w) && (n && p))) && f) ≡ ((((f && a) && n) && (t && w)) && p)
shuffle false a w n p f = rw (and_false (f && a && n))
shuffle true false w n p f = rw (and_false f)
shuffle true true false n p f = rw (and_false (f && true && n))
shuffle true true true false p f = rw (and_false (f && true))
shuffle true true true true p f = simp and_true (and_comm p f)

all_trees : (q : Tree → Bool) (ss : List Segment) → all_of q (segment_trees ss) ≡ all_of (λ s. q s.tree) ss
all_trees q [] = refl
all_trees q (s ∷ ss) = ap (λ b. q s.tree && b) (all_trees q ss)

-- what the walk asks of a manifest's byte strings
abbrev manifest_short : Limits → Manifest → Bool
manifest_short lim m = tree_short lim m.tree && (all_of (segment_short lim) m.segments && (all_of (short lim.name) (name_keys m.extractor) && all_of (borrow_short lim) m.borrows))

within_is : (lim : Limits) (m : Manifest) → (manifest_short lim m && fits (manifest_fill m) lim.fill) ≡ within lim m
unfolding within all_views
within_is lim m =
    let t = tree_short lim m.tree in
    let a = all_of (λ (s : Segment). short lim.prefix s.prefix) m.segments in
    let w = all_of (λ (s : Segment). tree_short lim s.tree) m.segments in
    let n = all_of (short lim.name) (name_keys m.extractor) in
    let p = all_of (borrow_short lim) m.borrows in
    let f = fits (manifest_fill m) lim.fill in
    let v : all_of (view_short lim) (joined tree_views (trees m)) ≡ (t && w) =
    all_joined (view_short lim) tree_views (trees m) ∙ ap (λ b. t && b) (all_trees (tree_short lim) m.segments) in
    ap (λ b. (t && (b && (n && p))) && f) (all_both (λ (s : Segment). short lim.prefix s.prefix) (λ (s : Segment). tree_short lim s.tree) m.segments)
    ∙ shuffle t a w n p f
    ∙ ap (λ b. (((f && a) && n) && b) && p) (sym v)

abbrev kept : Option Fill → Bool
kept None = false
kept (Some c) = true

module _ (lim : Limits) (l : Lent) (m : ManifestRow) where
  abbrev from : Fill → Option Fill
  from c =
      then (tree_walk lim l.views l.runs (length l.pool) m.tree c)
      (λ d. then (segments_walk lim l.views l.runs l.segments (length l.pool) m.segments d)
      (λ e. then (name_walk lim (length l.pool) m.segment_extractor_name e)
      (borrows_walk lim l.ids l.borrows (length l.pool) m.external_dbs)))

  manifest_step : Step lim.fill (placed l m) (manifest_short lim (manifest_in l m)) (manifest_fill (manifest_in l m)) from
  unfolding placed manifest_in manifest_fill
  manifest_step =
      let n = length l.pool in
      let t = tree_placed n l.views l.runs m.tree in
      let s = segments_placed n l.views l.runs l.segments m.segments in
      let e = name_placed n m.segment_extractor_name in
      let b = borrows_placed n l.ids l.borrows m.external_dbs in
      rw (and_assoc (t && s) e b, and_assoc t s (e && b))
      (step_then
      (tree_step lim l.pool l.views l.runs m.tree)
      (step_then
      (segments_step lim l.pool l.views l.runs l.segments m.segments)
      (step_then
      (name_step lim l.pool m.segment_extractor_name)
      (borrows_step lim l.pool l.ids l.borrows m.external_dbs))))

  pub measured_is : manifest_walk lim l m ≡ measured_of lim l m
  unfolding manifest_walk measured_of l1_of
  measured_is =
      let most = lim.fill in
      let g = manifest_fill (manifest_in l m) in
      let s = manifest_short lim (manifest_in l m) in
      let z = true_says (says_fits empty most) (record { segments = omega arith; views = omega arith; runs = omega arith; borrows = omega arith; ids = omega arith; bytes = omega arith }) in
      manifest_step.gives empty z
      ∙ ap (λ v. pick (placed l m && (s && fits v most)) (Some v) None) (empty_plus g)
      ∙ ap (λ b. pick (placed l m && b) (Some g) None) (within_is lim (manifest_in l m))

  pub measured_by : (r : Option Fill) → r ≡ manifest_walk lim l m → r ≡ measured_of lim l m
  measured_by r e = e ∙ measured_is

  module _ (r : Option Fill) (e : r ≡ measured_of lim l m) where
    kept_is : kept r ≡ l1_of lim l m
    unfolding measured_of
    kept_is = ap kept e ∙ go (l1_of lim l m)
      where
        go : (b : Bool) → kept (pick b (Some (manifest_fill (manifest_in l m))) None) ≡ b
        go true = refl
        go false = refl

    pub l1_broken : r ≡ None → false ≡ l1_of lim l m
    l1_broken h = rw h at kept_is

    pub l1_kept : (c : Fill) → r ≡ Some c → true ≡ l1_of lim l m
    l1_kept c h = rw h at kept_is

pub ruleset l1s = (l1_broken, l1_kept)
