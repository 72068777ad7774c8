-- Which answer is given, by the tests that the code makes. Assumes nothing.
use Rattle.std.specs.Prelude.{Err, Ok, Option, Result, Some, None}
use Prim.Native.Nat.{ℕ, suc, ◌-◌, ◌*◌, ◌/◌, ◌≤◌, ◌<◌}
use mathlib.Core.Path.{◌≡◌, refl, sym, ap, ◌∙◌}
use mathlib.Core.Bool.{Bool, true, false, not, ◌||◌}
use mathlib.Core.List.{List, [], ◌∷◌, ◌++◌}
use native.Mathlib.Omega.{arith}
use lib.Dec.{ltb}
use lib.ListN.{length, take, drop, length-append}
use lib.Seq.{take-append_seam}
use borrow.Author.Tests.{not-true, not-false, lt-ltb, le-ltb}
use Rattle.keys.specs.Pick.{pick}
use Rattle.ids.specs.Names.{ids_of}
use Rattle.ids.specs.declared.SstId.{SstId}
use Rattle.tables.specs.Layout.{write, over, joined}
use Rattle.tables.specs.Window.{held_of}
use Rattle.tables.proofs.Holds.{pick_same}
use Rattle.tables.proofs.Writes.{write_front}
use Rattle.records.specs.Model.{View, Segment, Manifest, segment_trees}
use Rattle.records.specs.Words.{id_words}
use Rattle.records.specs.Fill.{empty, plus, sum, fits, name_keys, key_fill, tree_fill, segment_fill, borrow_fill, manifest_fill}
use Rattle.records.specs.Layout.{ids_laid, layout, manifest_row, layout_at, manifest_row_at}
use Rattle.records.specs.Decode.{Lent, tree_in, segments_in, name_in, borrows_in, manifest_in}
use Rattle.records.specs.declared.Fill.{Fill}
use Rattle.records.specs.declared.Limits.{Limits}
use Rattle.records.specs.declared.ManifestRow.{ManifestRow}
use Rattle.records.specs.declared.Refusal.{Refusal}
use Rattle.records.specs.declared.Refusal.TheVariants.{Unlawful, OverLimit, NoRoom, EmptyRange, MaskBit}
use Rattle.records.proofs.Sums.{fill_same, empty_plus}
use Rattle.records.proofs.Cursor.{row_front, layout_front}
use Rattle.records.proofs.Laid.{Table, segments, views, runs, borrows, ids, pool, at, at_empty}
use Rattle.records.proofs.Columns.{keys_fill, tree_fill_lem, segments_fill, borrows_fill}
use Rattle.emit.proofs.Columns.{ids_laid_long}
use Rattle.measure.specs.Within.{tree_views, all_views, ids_used}
use Rattle.measure.specs.Walk.{add_of}
use Rattle.measure.proofs.Fits.{fits_part}
use Rattle.lawful.specs.Judge.{judged_of}
use Rattle.copy.specs.Copy as copy
use Rattle.copy.specs.Copy.{room_of, no_room, laid_over, laid_at, given_of, copy_of}
use Rattle.copy.proofs.Manifest.{segments_count}
use Rattle.segments.specs.Prefixes.{prefixes_in}
use Rattle.segments.proofs.Answers.{prefixes_in_lem}
use Rattle.segments.proofs.Demand3.{lawful_keeps}
use Rattle.project_views.proofs.Summed.{added_is}
use Rattle.project_ranges.specs.Config.{Config, is_noop, names_count, refuses10, place10}
use Rattle.project_ranges.specs.Own.{own_fault}
use Rattle.project_ranges.specs.Action.{action_of}
use Rattle.project_ranges.specs.Args.{asked_in, config_in, config_over, global_empty}
use Rattle.project_ranges.specs.declared.ProjectionConfig.{ProjectionConfig}
use Rattle.project_lay.specs.After.{tree_after, segments_after}
use Rattle.project_lay.specs.Steps.{segments_views}
use Rattle.prune.specs.Prune.{pruned}
use Rattle.project.specs.Project.{narrowed, with_used, projected_of}
use Rattle.project.specs.Answer.{Outcome, refused, unless_fault, projected_to, projected_given, projected_in}
use Rattle.project.specs.Steps.{body_fill, filled_to, listed_to}

-- ---- what a sum tells

sum_broken : (most c more : Fill) → add_of most c more ≡ None → fits (plus c more) most ≡ false
unfolding add_of
sum_broken most c more h = go (fits (plus c more) most) h
  where
    go : (b : Bool) → pick b (Some (plus c more)) None ≡ None → b ≡ false
    go true e = let z : ◌≡◌ {A = ℕ} 0 1 = cc in absurd (omega arith)
    go false e = refl

-- ---- the copy

module _ (lim : Limits) (names : ℕ) (l : Lent) (m : ManifestRow) (o : Lent) (h : judged_of lim l m ≡ Ok tt) (x : Result ManifestRow Refusal) (o' : Lent)
    (e : ◌≡◌ {A = copy.Outcome} (record { answer = x; out = o' }) (copy_of lim l m o))
  where
    given : ◌≡◌ {A = copy.Outcome} (record { answer = x; out = o' }) (given_of lim (manifest_in l m) o)
    unfolding copy_of
    given = rw (lawful_keeps lim l m h).first at e

    pub copy_done : (row : ManifestRow) → x ≡ Ok row → ◌≡◌ {A = Outcome} (record { answer = Ok (names, row); out = o' }) (filled_to lim names (manifest_in l m) o)
    unfolding given_of filled_to
    copy_done row k = go (no_room lim (room_of o) (manifest_fill (manifest_in l m))) given
      where
        go : (b : Bool) → ◌≡◌ {A = copy.Outcome} (record { answer = x; out = o' })
            (pick b (record { answer = Err NoRoom; out = o }) (record { answer = Ok (manifest_row (manifest_in l m)); out = laid_over o (layout (manifest_in l m)) }))
            → ◌≡◌ {A = Outcome} (record { answer = Ok (names, row); out = o' }) (pick b (refused NoRoom o) (record { answer = Ok (names, (manifest_row (manifest_in l m))); out = laid_over o (layout (manifest_in l m)) }))
        go true g = let a = sym k ∙ ap (λ (y : copy.Outcome). y.answer) g in let z : ◌≡◌ {A = ℕ} 0 1 = cc in absurd (omega arith)
        go false g =
            let a = sym k ∙ ap (λ (y : copy.Outcome). y.answer) g in
            let r : row ≡ manifest_row (manifest_in l m) = cc in
            rw (r, ap (λ (y : copy.Outcome). y.out) g)

    pub copy_refused : (r : Refusal) → x ≡ Err r → ◌≡◌ {A = Outcome} (record { answer = Err r; out = o' }) (filled_to lim names (manifest_in l m) o)
    unfolding given_of filled_to
    copy_refused r k = go (no_room lim (room_of o) (manifest_fill (manifest_in l m))) given
      where
        go : (b : Bool) → ◌≡◌ {A = copy.Outcome} (record { answer = x; out = o' })
            (pick b (record { answer = Err NoRoom; out = o }) (record { answer = Ok (manifest_row (manifest_in l m)); out = laid_over o (layout (manifest_in l m)) }))
            → ◌≡◌ {A = Outcome} (record { answer = Err r; out = o' }) (pick b (refused NoRoom o) (record { answer = Ok (names, (manifest_row (manifest_in l m))); out = laid_over o (layout (manifest_in l m)) }))
        go true g =
            let a = sym k ∙ ap (λ (y : copy.Outcome). y.answer) g in
            let q : r ≡ NoRoom = cc in
            rw (q, ap (λ (y : copy.Outcome). y.out) g)
        go false g = let a = sym k ∙ ap (λ (y : copy.Outcome). y.answer) g in let z : ◌≡◌ {A = ℕ} 0 1 = cc in absurd (omega arith)

-- ---- what is left

-- a manifest is its trees and its name, and its borrows
body_filled : (n : Manifest) → manifest_fill (with_used n) ≡ plus (body_fill n) (sum borrow_fill (with_used n).borrows)
unfolding manifest_fill with_used
body_filled n = fill_same (omega arith)

module _ (lim : Limits) (names : ℕ) (l : Lent) (m : ManifestRow) (x : Config) (o : Lent) where
  abbrev left : Manifest
  left = narrowed x (manifest_in l m)

  abbrev result : Manifest
  result = with_used left

  front : (t : Table) (d xs : List ℕ) → write d (at t empty) xs ≡ over d xs
  front t d xs = ap (λ (n : ℕ). write d n xs) (at_empty t) ∙ write_front d xs

  laid_front : (k : Lent) → laid_at empty o k ≡ laid_over o k
  laid_front k =
      λ i.
      record {
        segments = front segments o.segments k.segments i;
        views = front views o.views k.views i;
        runs = front runs o.runs k.runs i;
        borrows = front borrows o.borrows k.borrows i;
        ids = front ids o.ids k.ids i;
        pool = front pool o.pool k.pool i;
      }

  over_limit : fits (manifest_fill result) lim.fill ≡ false → refused NoRoom o ≡ filled_to lim names result o
  unfolding filled_to no_room
  over_limit h = rw h

  module _ (us : List SstId) (i : us ≡ ids_used (all_views left)) (d : Fill) (p : d ≡ body_fill left) (u : Option Fill)
      (q : u ≡ add_of lim.fill d (sum borrow_fill (pruned us (borrows_in l.borrows l.ids l.pool m.external_dbs))))
    where
      measured : u ≡ add_of lim.fill (body_fill left) (sum borrow_fill result.borrows)
      unfolding narrowed with_used manifest_in
      measured = q ∙ rw (p, i)

      pub listed_over : u ≡ None → refused NoRoom o ≡ filled_to lim names result o
      listed_over h = over_limit (rw (body_filled left) (sum_broken lim.fill (body_fill left) (sum borrow_fill result.borrows) (sym measured ∙ h)))

      module _ (f : Fill) (t : u ≡ Some f) where
        pub listed_fills : f ≡ manifest_fill result
        listed_fills = (added_is lim.fill (body_fill left) (sum borrow_fill result.borrows) f (sym measured ∙ t)).0 ∙ sym (body_filled left)

        within_limit : fits (manifest_fill result) lim.fill ≡ true
        within_limit = rw (← listed_fills) (added_is lim.fill (body_fill left) (sum borrow_fill result.borrows) f (sym measured ∙ t)).1

        module _ (b : Bool) (k : b ≡ fits f (room_of o)) where
          room_tested : fits (manifest_fill result) (room_of o) ≡ b
          room_tested = rw (← listed_fills) (sym k)

          pub listed_no_room : not b ≡ true → refused NoRoom o ≡ filled_to lim names result o
          unfolding filled_to no_room
          listed_no_room g = rw (within_limit, room_tested ∙ not-true b g)

          module _ (g : not b ≡ false) where
            pub listed_room : fits (plus empty (manifest_fill result)) (room_of o) ≡ true
            listed_room = rw (empty_plus (manifest_fill result)) (room_tested ∙ not-false b g)

            pub listed_done : (r : ManifestRow) (o' : Lent) → r ≡ manifest_row_at empty result → o' ≡ laid_at empty o (layout_at empty result)
                → ◌≡◌ {A = Outcome} (record { answer = Ok (names, r); out = o' }) (filled_to lim names result o)
            unfolding filled_to no_room
            listed_done r o' e y = rw (within_limit, room_tested ∙ not-false b g) (rw (e ∙ row_front result, y ∙ laid_front (layout_at empty result) ∙ ap (laid_over o) (layout_front result)))

  -- ---- the trees measured, and the ids listed

  trees_views : (ss : List Segment) → joined tree_views (segment_trees ss) ≡ segments_views ss
  trees_views [] = refl
  trees_views (s ∷ ss) = ap (λ (vs : List View). tree_views s.tree ++ vs) (trees_views ss)

  all_views_lem : all_views left ≡ tree_views left.tree ++ segments_views left.segments
  unfolding all_views
  all_views_lem = ap (λ (vs : List View). tree_views left.tree ++ vs) (trees_views left.segments)

  used_long : (vs : List View) → length (ids_used vs) ≡ length vs
  used_long [] = refl
  used_long (v ∷ vs) = ap suc (used_long vs)

  views_long : length (ids_used (tree_views left.tree ++ segments_views left.segments)) ≡ (body_fill left).views
  views_long =
      let t = ap (λ (f : Fill). f.views) (tree_fill_lem left.tree) in
      let s = ap (λ (f : Fill). f.views) (segments_fill left.segments) in
      let n = ap (λ (f : Fill). f.views) (keys_fill (name_keys left.extractor)) in
      used_long (tree_views left.tree ++ segments_views left.segments) ∙ length-append (tree_views left.tree) (segments_views left.segments) ∙ omega arith

  result_views : (manifest_fill result).views ≡ (body_fill left).views
  result_views =
      let b = ap (λ (f : Fill). f.views) (borrows_fill result.borrows) in
      let s = ap (λ (f : Fill). f.views) (body_filled left) in
      omega arith

  module _ (u : Option Fill)
      (q : u ≡ add_of lim.fill empty (plus (tree_fill (tree_after (action_of x 0 []) (tree_in l.runs l.views l.pool m.tree))) (plus (sum segment_fill (segments_after x 1 (segments_in l.segments l.runs l.views l.pool m.segments))) (sum key_fill (name_keys (name_in l.pool m.segment_extractor_name))))))
    where
      narrow : u ≡ add_of lim.fill empty (body_fill left)
      unfolding narrowed manifest_in
      narrow = q

      pub narrow_over : (n : ℕ) → u ≡ None → refused NoRoom o ≡ listed_to lim names n result o
      unfolding listed_to
      narrow_over n h =
          let f : fits (body_fill left) lim.fill ≡ false = rw (empty_plus (body_fill left)) at (sum_broken lim.fill empty (body_fill left) (sym narrow ∙ h)) in
          let e : refused NoRoom o ≡ filled_to lim names result o = over_limit (rw (body_filled left) (fits_part (body_fill left) (sum borrow_fill result.borrows) lim.fill f)) in
          rw (← e) (sym (pick_same (ltb n (manifest_fill result).views) (refused NoRoom o)))

      module _ (d : Fill) (t : u ≡ Some d) where
        pub narrow_fills : d ≡ body_fill left
        narrow_fills = (added_is lim.fill empty (body_fill left) d (sym narrow ∙ t)).0 ∙ empty_plus (body_fill left)

        narrow_views : (manifest_fill result).views ≡ d.views
        narrow_views = result_views ∙ ap (λ (f : Fill). f.views) (sym narrow_fills)

        pub narrow_short : (n : ℕ) → n < d.views → refused NoRoom o ≡ listed_to lim names n result o
        unfolding listed_to
        narrow_short n h = rw (narrow_views, lt-ltb n d.views h)

        module _ (n : ℕ) (h : d.views ≤ n / 2) where
          pub narrow_room : length (ids_used (tree_views (tree_after (action_of x 0 []) (tree_in l.runs l.views l.pool m.tree)) ++ segments_views (segments_after x 1 (segments_in l.segments l.runs l.views l.pool m.segments)))) * 2 ≤ n
          unfolding narrowed manifest_in
          narrow_room = let v = ap (λ (f : Fill). f.views) narrow_fills in omega (arith, views_long)

          pub narrow_given : (y : Outcome) → y ≡ filled_to lim names result o → y ≡ listed_to lim names (n / 2) result o
          unfolding listed_to
          narrow_given y e = rw (narrow_views, le-ltb (n / 2) d.views h) e

        -- what stands at the front of the working list
        ids_back : (xs : List SstId) → ids_of (ids_laid xs) ≡ xs
        unfolding ids_of ids_laid id_words
        ids_back [] = refl
        ids_back (y ∷ xs) = ap (λ (ys : List SstId). y ∷ ys) (ids_back xs)

        pub narrow_listed : (w w' : List ℕ)
            → w' ≡ over w (ids_laid (ids_used (tree_views (tree_after (action_of x 0 []) (tree_in l.runs l.views l.pool m.tree)) ++ segments_views (segments_after x 1 (segments_in l.segments l.runs l.views l.pool m.segments)))))
            → ids_of (take (d.views * 2 - 0) (drop 0 w')) ≡ ids_used (all_views left)
        unfolding narrowed manifest_in
        narrow_listed w w' e =
            let xs = ids_used (tree_views left.tree ++ segments_views left.segments) in
            let v = ap (λ (f : Fill). f.views) narrow_fills in
            let n : d.views * 2 - 0 ≡ length (ids_laid xs) = omega (arith, ids_laid_long xs, views_long) in
            rw (all_views_lem, e, n, take-append_seam (ids_laid xs) (drop (length (ids_laid xs)) w)) (ids_back xs)

-- ---- a copy, or what is left

module _ (lim : Limits) (names places : ℕ) (x : Config) (m : Manifest) (o : Lent) (e : names ≡ names_count x.filter) (b : Bool) (h : b ≡ is_noop x) (y : Outcome) where
  pub given_copy : b ≡ true → y ≡ filled_to lim names m o → y ≡ projected_to lim x places (projected_of x m) o
  unfolding projected_to projected_of filled_to
  given_copy t g = rw (sym h ∙ t, ← e) (g ∙ go (no_room lim (room_of o) (manifest_fill m)))
    where
      go : (r : Bool) → pick r (refused NoRoom o) (record { answer = Ok (names, manifest_row m); out = laid_over o (layout m) }) ≡ pick (r || false) (refused NoRoom o) (record { answer = Ok (names, manifest_row m); out = laid_over o (layout m) })
      go true = refl
      go false = refl

  pub given_narrowed : b ≡ false → y ≡ listed_to lim names places (with_used (narrowed x m)) o → y ≡ projected_to lim x places (projected_of x m) o
  unfolding projected_to projected_of listed_to filled_to
  given_narrowed t g = rw (sym h ∙ t, ← e) (g ∙ go (with_used (narrowed x m)) (no_room lim (room_of o) (manifest_fill (with_used (narrowed x m)))) (ltb places (manifest_fill (with_used (narrowed x m))).views))
    where
      go : (z : Manifest) (r s : Bool)
          → pick s (refused NoRoom o) (pick r (refused NoRoom o) (record { answer = Ok (names, manifest_row z); out = laid_over o (layout z) })) ≡ pick (r || s) (refused NoRoom o) (record { answer = Ok (names, manifest_row z); out = laid_over o (layout z) })
      go z true true = refl
      go z true false = refl
      go z false true = refl
      go z false false = refl

-- ---- 5, 10, 8, 9

module _ (lim : Limits) (l : Lent) (m : ManifestRow) (c : ProjectionConfig) (own : List ℕ) (places : ℕ) (o : Lent) where
  abbrev asked : Config
  asked = config_in l.pool c own

  module _ (b : Bool) (e : b ≡ global_empty (asked_in l.pool c.global_range)) where
    pub judged_empty : b ≡ true → refused EmptyRange o ≡ projected_given lim asked places (manifest_in l m) o
    unfolding projected_given config_in
    judged_empty t = rw (sym e ∙ t)

    module _ (t : b ≡ false) (n : ℕ) (h : n ≡ held_of m.segments (length l.segments / 12)) (g : Bool) (f : g ≡ refuses10 n c.segment_filter) where
      counted : length (manifest_in l m).segments ≡ n
      unfolding manifest_in
      counted = segments_count l.segments l.runs l.views l.pool m.segments ∙ sym h

      pub judged_mask : (k : ℕ) → g ≡ true → k ≡ place10 c.segment_filter → refused (MaskBit k) o ≡ projected_given lim asked places (manifest_in l m) o
      unfolding projected_given config_in
      judged_mask k s r = rw (sym e ∙ t, counted, sym f ∙ s, r)

      module _ (s : g ≡ false) (a : Option Refusal) (r : a ≡ own_fault asked (prefixes_in l.segments l.pool m.segments)) where
        judged_on : unless_fault a o (projected_to lim asked places (projected_of asked (manifest_in l m)) o) ≡ projected_given lim asked places (manifest_in l m) o
        unfolding projected_given config_in
        judged_on = rw (sym e ∙ t, counted, sym f ∙ s, prefixes_in_lem l m) (ap (λ (z : Option Refusal). unless_fault z o (projected_to lim asked places (projected_of asked (manifest_in l m)) o)) r)

        pub judged_own : (v : Refusal) → a ≡ Some v → refused v o ≡ projected_given lim asked places (manifest_in l m) o
        judged_own v q = rw q at judged_on

        pub judged_given : (y : Outcome) → a ≡ None → y ≡ projected_to lim asked places (projected_of asked (manifest_in l m)) o → y ≡ projected_given lim asked places (manifest_in l m) o
        judged_given y q k = k ∙ (rw q at judged_on)

-- ---- 2, 1

module _ (lim : Limits) (l : Lent) (m : ManifestRow) (c : ProjectionConfig) (own used : List ℕ) (o : Lent) (b : Bool) (e : b ≡ config_over lim.key (length l.pool) m.segments.count c own) where
  pub projected_over : b ≡ true → refused OverLimit o ≡ projected_in lim l m c own used o
  unfolding projected_in
  projected_over t = rw (sym e ∙ t)

  module _ (t : b ≡ false) (j : Result Unit ℕ) (h : j ≡ judged_of lim l m) where
    pub projected_lawful : j ≡ Ok tt → judged_of lim l m ≡ Ok tt
    projected_lawful k = sym h ∙ k

    pub projected_broken : (rule : ℕ) → j ≡ Err rule → refused (Unlawful rule) o ≡ projected_in lim l m c own used o
    unfolding projected_in
    projected_broken rule k = rw (sym e ∙ t, sym h ∙ k)

    pub projected_given_lem : (y : Outcome) → j ≡ Ok tt → y ≡ projected_given lim (config_in l.pool c own) (length used / 2) (manifest_in l m) o → y ≡ projected_in lim l m c own used o
    unfolding projected_in
    projected_given_lem y k g = rw (sym e ∙ t, sym h ∙ k) g
