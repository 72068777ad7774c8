-- The loop that looks for kept prefixes that nest. Assumes nothing.
use Rattle.std.specs.Prelude.{None, Option, Some}
use Prim.Native.Nat.{ℕ, suc, ◌+◌, ◌-◌, ◌/◌, ◌^◌, ◌≤◌, ◌<◌}
use mathlib.Core.Path.{◌≡◌, refl, sym, ap, ◌∙◌}
use mathlib.Core.Bool.{Bool, true, false}
use mathlib.Core.List.{List, [], ◌∷◌, ◌++◌}
use native.Mathlib.Omega.{arith}
use native.Mathlib.Nat.{add-zero}
use lib.ListN.{length}
use Rattle.keys.specs.Pick.{pick}
use Rattle.keys.specs.Key.{less_of}
use Rattle.keys.specs.Prefix.{begins_of}
use Rattle.tables.specs.Window.{held_of}
use Rattle.tables.specs.declared.Window.{Window}
use Rattle.records.specs.Model.{Segment}
use Rattle.records.specs.Decode.{bytes_in, segment_in, segments_in}
use Rattle.records.specs.declared.Place.{Place}
use Rattle.records.specs.declared.SegmentRow.{SegmentRow}
use Rattle.measure.specs.Tests.{chain}
use Rattle.segments.specs.Prefixes.{prefixes, prefixes_in}
use Rattle.merge.specs.Merge.{nests, nests_at, from_compactor}
use Rattle.merge.specs.Steps.{keep_in, next_of}
use Rattle.merge.specs.Finds.{first_nest, nest_in, nest_step, nest_count, nest_found}
use Rattle.merge.specs.declared.Side.TheVariants.{Compactor}
use Rattle.merge.specs.declared.Next.{Next}
use Rattle.merge.specs.declared.Nest.{Nest}
use Rattle.merge.specs.declared.Nest.TheVariants.{Clear, Last, At}
use Rattle.merge.proofs.Left.{Between, between_none, left, left_all, left_end, next_between, next_on, next_less, next_left}

-- ---- what the arms of the code know
module _ (pool : List ℕ) (n : Nest) (keep : Option SegmentRow) where
  pub nest_none : keep ≡ None → n ≡ nest_step pool n keep
  nest_none e = rw e

  module _ (s : SegmentRow) (e : keep ≡ Some s) where
    pub nest_clear : n ≡ Clear → Last 0 s.prefix ≡ nest_step pool n keep
    nest_clear f = rw (e, f)

    pub nest_at : (k : ℕ) → n ≡ At k → At k ≡ nest_step pool n keep
    nest_at k f = rw (e, f)

    module _ (k : ℕ) (p : Place) (a b : List ℕ) (r : Bool) (f : n ≡ Last k p) (g : a ≡ bytes_in pool p) (h : b ≡ bytes_in pool s.prefix) (i : r ≡ begins_of a b) where
      pub nest_here : r ≡ true → At k ≡ nest_step pool n keep
      nest_here t = rw (e, f, ← g, ← h, sym i ∙ t)

      pub nest_on : r ≡ false → Last (k + 1) s.prefix ≡ nest_step pool n keep
      nest_on t = rw (e, f, ← g, ← h, sym i ∙ t)

pub count_fits : (n : Nest) (k : ℕ) (p : Place) → nest_count n < 2 ^ 64 → n ≡ Last k p → k + 1 < 2 ^ 64
count_fits n k p h e = rw e at h

module _ (n : Nest) where
  pub found_clear : n ≡ Clear → None ≡ nest_found n
  found_clear e = rw e

  pub found_last : (k : ℕ) (p : Place) → n ≡ Last k p → None ≡ nest_found n
  found_last k p e = rw e

  pub found_at : (k : ℕ) → n ≡ At k → Some k ≡ nest_found n
  found_at k e = rw e

pub ruleset founds = (found_clear, found_last, found_at)

-- ---- one more that is kept, or none
nest_two : (k : ℕ) (p q : List ℕ) (ps : List (List ℕ)) (b : Bool) → begins_of p q ≡ b → pick b (Some k) (first_nest (k + 1) (q ∷ ps)) ≡ first_nest k (p ∷ q ∷ ps)
unfolding first_nest nests nests_at
nest_two k p q ps true e = rw (e, add-zero k)
nest_two k p q ps false e = let n : k + suc (nests_at (q ∷ ps)) ≡ k + 1 + nests_at (q ∷ ps) = omega arith in rw (e, n)

nest_more : (runs views pool : List ℕ) (n : Nest) (keep : Option SegmentRow) (ss : List Segment) → nest_in pool (nest_step pool n keep) (prefixes ss) ≡ nest_in pool n (prefixes (keep_in runs views pool keep ++ ss))
unfolding segment_in
nest_more runs views pool n None ss = refl
nest_more runs views pool Clear (Some s) ss = refl
nest_more runs views pool (Last k p) (Some s) ss = go (begins_of (bytes_in pool p) (bytes_in pool s.prefix)) refl
  where
    go : (b : Bool) → begins_of (bytes_in pool p) (bytes_in pool s.prefix) ≡ b → nest_in pool (pick b (At k) (Last (k + 1) s.prefix)) (prefixes ss) ≡ first_nest k (bytes_in pool p ∷ bytes_in pool s.prefix ∷ prefixes ss)
    go true e = nest_two k (bytes_in pool p) (bytes_in pool s.prefix) (prefixes ss) true e
    go false e = nest_two k (bytes_in pool p) (bytes_in pool s.prefix) (prefixes ss) false e
nest_more runs views pool (At k) (Some s) ss = refl

nest_end : (pool : List ℕ) (n : Nest) → nest_found n ≡ nest_in pool n []
unfolding first_nest nests
nest_end pool Clear = refl
nest_end pool (Last k p) = refl
nest_end pool (At k) = refl

count_more : (pool : List ℕ) (n : Nest) (keep : Option SegmentRow) → nest_count (nest_step pool n keep) ≤ nest_count n + 1
count_more pool n None = omega arith
count_more pool Clear (Some s) = omega arith
count_more pool (Last k p) (Some s) = go (begins_of (bytes_in pool p) (bytes_in pool s.prefix))
  where
    go : (b : Bool) → nest_count (pick b (At k) (Last (k + 1) s.prefix)) ≤ k + 1 + 1
    go true = omega arith
    go false = omega arith
count_more pool (At k) (Some s) = omega arith

-- ---- the loop
module _ (segments runs views pool : List ℕ) (w c : Window) where
  abbrev rest : ℕ → ℕ → List Segment
  rest i j = left Compactor segments views runs pool w c i j

  abbrev whole : Option ℕ
  whole = first_nest 0 (prefixes (from_compactor (segments_in segments runs views pool w) (segments_in segments runs views pool c)))

  pub record Nesting (n m end i j : ℕ) (x : Nest) : Type 0 where
    pub ends : end ≡ n + m
    pub between : Between segments views runs pool w c n m i j
    pub few : nest_count x ≤ i + j
    pub says : nest_in pool x (prefixes (rest i j)) ≡ whole

  pub nesting_none : (n m : ℕ) → n ≡ held_of w (length segments / 12) → m ≡ held_of c (length segments / 12)
      → chain less_of (prefixes_in segments pool w) ≡ true → chain less_of (prefixes_in segments pool c) ≡ true → Nesting n m (n + m) 0 0 Clear
  nesting_none n m d e f g =
      record {
        ends = refl;
        between = between_none segments views runs pool w c n m d e f g;
        few = omega arith;
        says = ap (λ (ss : List Segment). first_nest 0 (prefixes ss)) (left_all Compactor segments views runs pool w c);
      }

  module _ (n m end i j : ℕ) (x : Nest) (y : Nesting n m end i j x) where
    pub nesting_all : (r : Option ℕ) → end ≤ i + j → r ≡ nest_found x → r ≡ whole
    nesting_all r h e =
        let z : rest i j ≡ [] = left_end segments views runs pool w c n m i j y.between Compactor (omega (arith, y.ends)) in
        e ∙ nest_end pool x ∙ (rw z at y.says)

    pub nesting_fits : (i + j < 2 ^ 64) → nest_count x < 2 ^ 64
    nesting_fits h = omega (arith, y.few)

    module _ (t : Next) (e : t ≡ next_of Compactor segments views runs pool w c i j) (h : i + j < end) where
      h' : i + j < n + m
      h' = omega (arith, y.ends)

      pub nesting_less : end - (t.i + t.j) < end - (i + j)
      nesting_less = next_less segments views runs pool w c n m i j y.between Compactor t e h' end y.ends

      pub nesting_more : (x' : Nest) → x' ≡ nest_step pool x t.keep → Nesting n m end t.i t.j x'
      nesting_more x' f =
          record {
            ends = y.ends;
            between = next_between segments views runs pool w c n m i j y.between Compactor t e h';
            few = rw f (omega (arith, count_more pool x t.keep, y.few, next_on segments views runs pool w c n m i j y.between Compactor t e h'));
            says =
                rw f (nest_more runs views pool x t.keep (rest t.i t.j))
                ∙ ap (λ (ss : List Segment). nest_in pool x (prefixes ss)) (sym (next_left segments views runs pool w c n m i j y.between Compactor t e h'))
                ∙ y.says;
          }
