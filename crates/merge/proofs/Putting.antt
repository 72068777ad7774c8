-- The loop that lays the merged segments out. Assumes nothing.
use Prim.Native.Nat.{ℕ, ◌+◌, ◌-◌, ◌*◌, ◌/◌, ◌≤◌, ◌<◌}
use mathlib.Core.Path.{◌≡◌, refl, sym, ap, ◌∙◌}
use mathlib.Core.Bool.{true}
use mathlib.Core.List.{List, [], ◌++◌}
use native.Mathlib.Omega.{arith}
use lib.ListN.{length}
use Rattle.keys.specs.Key.{less_of}
use Rattle.tables.specs.Layout.{write, over, joined}
use Rattle.tables.specs.Window.{held_of}
use Rattle.tables.specs.declared.Window.{Window}
use Rattle.records.specs.Model.{Segment}
use Rattle.records.specs.Decode.{segments_in}
use Rattle.records.specs.Fill.{empty, plus, sum, segment_fill}
use Rattle.records.specs.Layout.{segment_bytes, segments_laid, segments_runs_laid, segments_views_laid}
use Rattle.records.specs.declared.Fill.{Fill}
use Rattle.records.proofs.Sums.{plus_empty, empty_plus}
use Rattle.records.proofs.Laid.{laid_joined}
use Rattle.records.proofs.Columns.{segment_rows, segment_runs, segment_views, segment_pool}
use Rattle.measure.specs.Tests.{chain}
use Rattle.segments.specs.Prefixes.{prefixes_in}
use Rattle.merge.specs.Steps.{keep_in, merged_from, next_of}
use Rattle.merge.specs.declared.Side.{Side}
use Rattle.merge.specs.declared.Next.{Next}
use Rattle.merge.proofs.Left.{Between, between_none, left, left_all, left_end, next_between, next_less, next_left}
use Rattle.merge.proofs.Laying.{KeptLaid, Laying, laying_none, laying_all, laying_room, laying_more, filled_more}

module _ (side : Side) (segments runs views pool : List ℕ) (w c : Window) where
  abbrev all : List Segment
  all = merged_from side (segments_in segments runs views pool w) (segments_in segments runs views pool c)

  -- s, r, v, b: the tables, as they were lent and as they are
  pub record Putting (n m end i j : ℕ) (s₀ r₀ v₀ b₀ s r v b : List ℕ) (to : Fill) : Type 0 where
    pub ends : end ≡ n + m
    pub between : Between segments views runs pool w c n m i j
    pub fills : plus to (sum segment_fill (left side segments views runs pool w c i j)) ≡ sum segment_fill all
    pub rows : Laying segment_rows all (left side segments views runs pool w c i j) s₀ s to
    pub run_rows_lem : Laying segment_runs all (left side segments views runs pool w c i j) r₀ r to
    pub view_rows_lem : Laying segment_views all (left side segments views runs pool w c i j) v₀ v to
    pub bytes : Laying segment_pool all (left side segments views runs pool w c i j) b₀ b to

  pub putting_none : (n m : ℕ) (s r v b : List ℕ) → n ≡ held_of w (length segments / 12) → m ≡ held_of c (length segments / 12)
      → chain less_of (prefixes_in segments pool w) ≡ true → chain less_of (prefixes_in segments pool c) ≡ true
      → (sum segment_fill all).segments * 12 ≤ length s → (sum segment_fill all).runs * 3 ≤ length r → (sum segment_fill all).views * 16 ≤ length v → (sum segment_fill all).bytes ≤ length b
      → Putting n m (n + m) 0 0 s r v b s r v b empty
  putting_none n m s r v b d e f g hs hr hv hb =
      let z = left_all side segments views runs pool w c in
      record {
        ends = refl;
        between = between_none segments views runs pool w c n m d e f g;
        fills = rw z (empty_plus (sum segment_fill all));
        rows = rw z (laying_none segment_rows all s hs);
        run_rows_lem = rw z (laying_none segment_runs all r hr);
        view_rows_lem = rw z (laying_none segment_views all v hv);
        bytes = rw z (laying_none segment_pool all b hb);
      }

  module _ (n m end i j : ℕ) (s₀ r₀ v₀ b₀ s r v b : List ℕ) (to : Fill) (y : Putting n m end i j s₀ r₀ v₀ b₀ s r v b to) where
    abbrev rest : ℕ → ℕ → List Segment
    rest k l = left side segments views runs pool w c k l

    pub putting_all : end ≤ i + j
        → (to ≡ sum segment_fill all) × ((s ≡ over s₀ (segments_laid empty all)) × ((r ≡ over r₀ (segments_runs_laid empty all)) × ((v ≡ over v₀ (segments_views_laid empty all)) × (b ≡ over b₀ (joined segment_bytes all)))))
    unfolding segments_laid segments_runs_laid segments_views_laid
    putting_all h =
        let z : rest i j ≡ [] = left_end segments views runs pool w c n m i j y.between side (omega (arith, y.ends)) in (
          sym (plus_empty to) ∙ (rw z at y.fills),
          (
            laying_all segment_rows all s₀ s to (rest i j) z y.rows,
            (
              laying_all segment_runs all r₀ r to (rest i j) z y.run_rows_lem,
              (
                laying_all segment_views all v₀ v to (rest i j) z y.view_rows_lem,
                laying_all segment_pool all b₀ b to (rest i j) z y.bytes ∙ ap (λ (l : List ℕ). over b₀ l) (laid_joined segment_fill segment_bytes empty all),
              ),
            ),
          ),
        )

    module _ (t : Next) (e : t ≡ next_of side segments views runs pool w c i j) (h : i + j < end) where
      h' : i + j < n + m
      h' = omega (arith, y.ends)

      pub putting_less : end - (t.i + t.j) < end - (i + j)
      putting_less = next_less segments views runs pool w c n m i j y.between side t e h' end y.ends

      abbrev kept : List Segment
      kept = keep_in runs views pool t.keep

      more : rest i j ≡ kept ++ rest t.i t.j
      more = next_left segments views runs pool w c n m i j y.between side t e h'

      pub putting_room : ((to.segments + (sum segment_fill kept).segments) * 12 ≤ length s)
          × (((to.runs + (sum segment_fill kept).runs) * 3 ≤ length r) × (((to.views + (sum segment_fill kept).views) * 16 ≤ length v) × (to.bytes + (sum segment_fill kept).bytes ≤ length b)))
      putting_room = (
        laying_room segment_rows all s₀ s to (rest i j) kept (rest t.i t.j) more y.rows,
        (
          laying_room segment_runs all r₀ r to (rest i j) kept (rest t.i t.j) more y.run_rows_lem,
          (laying_room segment_views all v₀ v to (rest i j) kept (rest t.i t.j) more y.view_rows_lem, laying_room segment_pool all b₀ b to (rest i j) kept (rest t.i t.j) more y.bytes),
        ),
      )

      pub putting_more : (q : Fill) (s' r' v' b' : List ℕ) → KeptLaid runs views pool t.keep to q s r v b s' r' v' b' → Putting n m end t.i t.j s₀ r₀ v₀ b₀ s' r' v' b' q
      unfolding segments_laid segments_runs_laid segments_views_laid
      putting_more q s' r' v' b' k =
          record {
            ends = y.ends;
            between = next_between segments views runs pool w c n m i j y.between side t e h';
            fills = filled_more segment_fill all (rest i j) kept (rest t.i t.j) to q more y.fills k.0;
            rows = laying_more segment_rows all s₀ s to (rest i j) kept (rest t.i t.j) more y.rows s' q k.0 k.1.0;
            run_rows_lem = laying_more segment_runs all r₀ r to (rest i j) kept (rest t.i t.j) more y.run_rows_lem r' q k.0 k.1.1.0;
            view_rows_lem = laying_more segment_views all v₀ v to (rest i j) kept (rest t.i t.j) more y.view_rows_lem v' q k.0 k.1.1.1.0;
            bytes =
                laying_more segment_pool all b₀ b to (rest i j) kept (rest t.i t.j) more y.bytes b' q k.0
                (k.1.1.1.1 ∙ ap (λ (l : List ℕ). write b to.bytes l) (sym (laid_joined segment_fill segment_bytes to kept)));
          }
