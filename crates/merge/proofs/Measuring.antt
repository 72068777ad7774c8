-- The loop that measures the merged segments. Assumes nothing.
use Rattle.std.specs.Prelude.{None, Option, Some}
use Prim.Native.Nat.{ℕ, ◌+◌, ◌-◌, ◌/◌, ◌≤◌, ◌<◌}
use mathlib.Core.Path.{◌≡◌, refl, sym, ap, ◌∙◌}
use mathlib.Core.Bool.{Bool, true, false, ◌&&◌}
use mathlib.Core.List.{List, []}
use native.Mathlib.Omega.{arith}
use lib.ListN.{length, drop}
use Rattle.keys.specs.Pick.{pick}
use Rattle.keys.specs.Key.{less_of}
use Rattle.keys.proofs.Says.{true_says}
use Rattle.tables.specs.Window.{held_of}
use Rattle.tables.specs.declared.Window.{Window}
use Rattle.records.specs.Model.{Segment}
use Rattle.records.specs.Decode.{bytes_in, tree_in, segment_in, segments_in}
use Rattle.records.specs.Fill.{empty, plus, sum, fits, segments, key_fill, tree_fill, segment_fill}
use Rattle.records.specs.declared.Fill.{Fill}
use Rattle.records.specs.declared.Limits.{Limits}
use Rattle.records.specs.declared.SegmentRow.{SegmentRow}
use Rattle.records.proofs.Sums.{plus_empty, empty_plus, plus_assoc, sum_append}
use Rattle.measure.specs.Tests.{all_of, chain}
use Rattle.measure.specs.Within.{short}
use Rattle.measure.specs.Placed.{key_in, tree_placed}
use Rattle.measure.specs.Walk.{add_of, segment_row_walk}
use Rattle.measure.proofs.Fits.{says_fits, fits_part}
use Rattle.measure.proofs.Steps.{Step, step_then}
use Rattle.measure.proofs.Rows.{step_key, tree_step, tree_short}
use Rattle.segments.specs.Prefixes.{prefixes_in}
use Rattle.segments.proofs.Places.{and_both}
use Rattle.merge.specs.Steps.{rows_in, step_at, keep_in, merged_from, next_of, row_kept, keep_walk, list_measured}
use Rattle.merge.specs.declared.Side.{Side}
use Rattle.merge.specs.declared.Next.{Next}
use Rattle.merge.proofs.Keeping.{KeepKept, keep_kept, step_kept, all_drop}
use Rattle.merge.proofs.Left.{Between, between_none, left, left_all, left_end, next_between, next_less, next_left}

-- ---- sums that are made where they fit
module _ (most : Fill) where
  add_none : (c : Fill) → fits c most ≡ true → Some c ≡ add_of most c empty
  unfolding add_of
  add_none c k = rw (plus_empty c, k)

  -- where a sum of the first part is made, it fits, and the rest is added to it
  add_on : (c f g : Fill) (u : Option Fill) → u ≡ add_of most c f → (d : Fill) → u ≡ Some d → (fits d most ≡ true) × (add_of most c (plus f g) ≡ add_of most d g)
  unfolding add_of
  add_on c f g u e d h = go (fits (plus c f) most) refl (sym e ∙ h)
    where
      go : (b : Bool) → fits (plus c f) most ≡ b → pick b (Some (plus c f)) None ≡ Some d → (fits d most ≡ true) × (add_of most c (plus f g) ≡ add_of most d g)
      go true k z = let w : plus c f ≡ d = cc in (rw (← w) k, ap (λ (z : Fill). pick (fits z most) (Some z) None) (sym (plus_assoc c f g) ∙ ap (λ (x : Fill). plus x g) w))
      go false k z = let o : ◌≡◌ {A = ℕ} 0 1 = cc in absurd (omega arith)

  add_broken : (c f g : Fill) (u : Option Fill) → u ≡ add_of most c f → u ≡ None → None ≡ add_of most c (plus f g)
  unfolding add_of
  add_broken c f g u e h = go (fits (plus c f) most) refl (sym e ∙ h)
    where
      go : (b : Bool) → fits (plus c f) most ≡ b → pick b (Some (plus c f)) None ≡ None → None ≡ add_of most c (plus f g)
      go true k z = let o : ◌≡◌ {A = ℕ} 0 1 = cc in absurd (omega arith)
      go false k z = sym (ap (λ (z : Fill). pick (fits z most) (Some z) None) (sym (plus_assoc c f g)) ∙ rw (fits_part (plus c f) g most k))

-- ---- what the arms of the code know
module _ (lim : Limits) (views runs : List ℕ) (n : ℕ) (keep : Option SegmentRow) (c : Fill) where
  pub fill_none : keep ≡ None → Some c ≡ keep_walk lim views runs n keep c
  fill_none e = rw e

  module _ (s : SegmentRow) (u : Option Fill) (e : keep ≡ Some s) (f : u ≡ add_of lim.fill c (segments 1)) where
    pub fill_over : u ≡ None → None ≡ keep_walk lim views runs n keep c
    fill_over h = rw (e, sym f ∙ h)

    pub fill_on : (d : Fill) (r : Option Fill) → u ≡ Some d → r ≡ segment_row_walk lim views runs n s d → r ≡ keep_walk lim views runs n keep c
    fill_on d r h g = rw (e, sym f ∙ h) g

-- ---- what is kept, where its row keeps L1
module _ (lim : Limits) (views runs pool : List ℕ) where
  one_step : Step lim.fill true true (segments 1) (λ c. add_of lim.fill c (segments 1))
  unfolding add_of
  one_step = record { gives = λ c k. refl }

  row_step : (s : SegmentRow)
      → Step lim.fill (key_in (length pool) s.prefix && tree_placed (length pool) views runs s.tree) (short lim.prefix (bytes_in pool s.prefix) && tree_short lim (tree_in runs views pool s.tree))
      (plus (segments 1) (plus (key_fill (bytes_in pool s.prefix)) (tree_fill (tree_in runs views pool s.tree)))) (keep_walk lim views runs (length pool) (Some s))
  unfolding segment_row_walk
  row_step s = step_then one_step (step_then (step_key lim.fill lim.prefix pool s.prefix) (tree_step lim pool views runs s.tree))

  kept_adds : (keep : Option SegmentRow) → KeepKept lim views runs pool keep → (c : Fill) → fits c lim.fill ≡ true → keep_walk lim views runs (length pool) keep c ≡ add_of lim.fill c (sum segment_fill (keep_in runs views pool keep))
  unfolding row_kept add_of segment_fill segment_in
  kept_adds None h c k = add_none lim.fill c k
  kept_adds (Some s) h c k =
      let p = key_in (length pool) s.prefix && tree_placed (length pool) views runs s.tree in
      let q = short lim.prefix (bytes_in pool s.prefix) && tree_short lim (tree_in runs views pool s.tree) in
      let a = and_both p q h in
      (row_step s).gives c k
      ∙ rw (a.0, a.1) (ap (add_of lim.fill c) (sym (plus_empty (segment_fill (segment_in runs views pool s)))))

-- ---- the loop
module _ (side : Side) (lim : Limits) (segments runs views pool : List ℕ) (w c : Window) where
  abbrev all : List Segment
  all = merged_from side (segments_in segments runs views pool w) (segments_in segments runs views pool c)

  pub record Measuring (n m end i j : ℕ) (to : Fill) : Type 0 where
    pub ends : end ≡ n + m
    pub between : Between segments views runs pool w c n m i j
    pub w_kept : all_of (row_kept lim views runs pool) (rows_in segments w) ≡ true
    pub c_kept : all_of (row_kept lim views runs pool) (rows_in segments c) ≡ true
    pub within : fits to lim.fill ≡ true
    pub says : add_of lim.fill to (sum segment_fill (left side segments views runs pool w c i j)) ≡ list_measured lim all

  pub measuring_none : (n m : ℕ) → n ≡ held_of w (length segments / 12) → m ≡ held_of c (length segments / 12)
      → chain less_of (prefixes_in segments pool w) ≡ true → chain less_of (prefixes_in segments pool c) ≡ true
      → all_of (row_kept lim views runs pool) (rows_in segments w) ≡ true → all_of (row_kept lim views runs pool) (rows_in segments c) ≡ true
      → Measuring n m (n + m) 0 0 empty
  unfolding add_of list_measured
  measuring_none n m d e f g h k =
      record {
        ends = refl;
        between = between_none segments views runs pool w c n m d e f g;
        w_kept = h;
        c_kept = k;
        within = true_says (says_fits empty lim.fill) (record { segments = omega arith; views = omega arith; runs = omega arith; borrows = omega arith; ids = omega arith; bytes = omega arith });
        says = ap (λ (z : Fill). pick (fits z lim.fill) (Some z) None) (empty_plus (sum segment_fill (left side segments views runs pool w c 0 0)) ∙ ap (sum segment_fill) (left_all side segments views runs pool w c));
      }

  module _ (n m end i j : ℕ) (to : Fill) (y : Measuring n m end i j to) where
    abbrev rest : ℕ → ℕ → List Segment
    rest k l = left side segments views runs pool w c k l

    pub measuring_all : end ≤ i + j → Some to ≡ list_measured lim all
    measuring_all h =
        let z : rest i j ≡ [] = left_end segments views runs pool w c n m i j y.between side (omega (arith, y.ends)) in
        add_none lim.fill to y.within ∙ (rw z at y.says)

    module _ (t : Next) (e : t ≡ next_of side segments views runs pool w c i j) (h : i + j < end) where
      h' : i + j < n + m
      h' = omega (arith, y.ends)

      pub measuring_less : end - (t.i + t.j) < end - (i + j)
      measuring_less = next_less segments views runs pool w c n m i j y.between side t e h' end y.ends

      abbrev kept : List Segment
      kept = keep_in runs views pool t.keep

      sums : add_of lim.fill to (plus (sum segment_fill kept) (sum segment_fill (rest t.i t.j))) ≡ list_measured lim all
      sums =
          ap (add_of lim.fill to) (sym (sum_append segment_fill kept (rest t.i t.j)) ∙ ap (sum segment_fill) (sym (next_left segments views runs pool w c n m i j y.between side t e h')))
          ∙ y.says

      module _ (u : Option Fill) (f : u ≡ keep_walk lim views runs (length pool) t.keep to) where
        adds : u ≡ add_of lim.fill to (sum segment_fill kept)
        unfolding next_of
        adds =
            f
            ∙ kept_adds lim views runs pool t.keep
            (rw e (keep_kept lim views runs pool side (step_at segments pool w c i j) (step_kept lim views runs pool (drop i (rows_in segments w)) (drop j (rows_in segments c)) (all_drop (row_kept lim views runs pool) i (rows_in segments w) y.w_kept) (all_drop (row_kept lim views runs pool) j (rows_in segments c) y.c_kept))))
            to y.within

        pub measuring_broken : u ≡ None → None ≡ list_measured lim all
        measuring_broken b = add_broken lim.fill to (sum segment_fill kept) (sum segment_fill (rest t.i t.j)) u adds b ∙ sums

        pub measuring_more : (d : Fill) → u ≡ Some d → Measuring n m end t.i t.j d
        measuring_more d b =
            let a = add_on lim.fill to (sum segment_fill kept) (sum segment_fill (rest t.i t.j)) u adds d b in
            record {
              ends = y.ends;
              between = next_between segments views runs pool w c n m i j y.between side t e h';
              w_kept = y.w_kept;
              c_kept = y.c_kept;
              within = a.0;
              says = sym a.1 ∙ sums;
            }
