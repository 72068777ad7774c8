-- What is left of a view, of a run and of a tree, added. Assumes nothing.
use Rattle.std.specs.Prelude.{None, Option, Some}
use Prim.Native.Nat.{ℕ, ◌+◌}
use mathlib.Core.Path.{◌≡◌, refl, sym, ap, ◌∙◌}
use mathlib.Core.Bool.{true}
use mathlib.Core.List.{List, [], ◌∷◌, ◌++◌, append-nil}
use native.Mathlib.Omega.{arith}
use lib.ListN.{length, length-append}
use Rattle.keys.specs.Range.{Edge}
use Rattle.keys.specs.Pool.{part_of, edge_of}
use Rattle.keys.specs.declared.Bound.{Bound}
use Rattle.keys.specs.declared.Bound.TheVariants as bound
use Rattle.keys.specs.declared.Range.{Range}
use Rattle.tables.proofs.Joined.{joined_append}
use Rattle.records.specs.Model.{LastKey, unknown, known, Seen, only, View, Run, last_end, seen_edges}
use Rattle.records.specs.Decode.{bytes_in, last_in, seen_in, view_in}
use Rattle.records.specs.Fill.{plus, sum, fits, bytes, views, runs, last_keys, edge_keys, seen_keys, view_fill, run_fill}
use Rattle.records.specs.Layout.{run, view_bytes}
use Rattle.records.specs.declared.Fill.{Fill}
use Rattle.records.specs.declared.ViewRow.{ViewRow}
use Rattle.records.proofs.Sums.{fill_same, plus_empty}
use Rattle.records.proofs.Columns.{view_fill_lem, views_fill}
use Rattle.measure.specs.Walk.{add_of}
use Rattle.lawful.specs.Steps.{last_bound, seen_row}
use Rattle.lawful.proofs.Arms.{last_edge, seen_edges_lem}
use Rattle.project_views.specs.Reach.{reach_of}
use Rattle.project_views.specs.Shown.{with_visible, kept_run}
use Rattle.project_views.specs.Steps.{left_in}
use Rattle.project_views.specs.declared.Reach.{Reach}
use Rattle.project_views.proofs.Summed.{added_none, added_is, added_broken, added_on}

-- the bytes of a bound's key
abbrev pub long : Edge → ℕ
long e = length (run (edge_keys e))

module _ (pool : List ℕ) (b : Bound) where
  pub long_free : b ≡ bound.Unbounded → 0 ≡ long (edge_of pool b)
  long_free t = rw t

  module _ (from len : ℕ) (k : List ℕ) (e : k ≡ part_of pool from len) where
    pub long_included : b ≡ bound.Included from len → length k ≡ long (edge_of pool b)
    long_included t = rw (t, append-nil (part_of pool from len)) (ap length e)

    pub long_excluded : b ≡ bound.Excluded from len → length k ≡ long (edge_of pool b)
    long_excluded t = rw (t, append-nil (part_of pool from len)) (ap length e)

pub ruleset longs = (long_free, long_included, long_excluded)

-- ---- a view is its keys and its row

last_long : (l : LastKey) → length (run (last_keys l)) ≡ long (last_end l)
last_long unknown = refl
last_long (known k) = refl

seen_long : (x : Seen) → length (run (seen_keys x)) ≡ long (seen_edges x).start + long (seen_edges x).end
seen_long Seen.all = refl
seen_long (only r) = rw (joined_append (λ k. k) (edge_keys r.start) (edge_keys r.end)) (length-append (run (edge_keys r.start)) (run (edge_keys r.end)))

module _ (pool : List ℕ) (v : ViewRow) (end : Bound) (x : Range) (p : end ≡ last_bound v.last) (q : x ≡ seen_row v.visible) where
  abbrev first : Fill
  first = plus (bytes (long (edge_of pool (bound.Included v.first.at v.first.len)))) (bytes (long (edge_of pool end)))

  abbrev rest : Fill
  rest = plus (bytes (long (edge_of pool x.start))) (bytes (long (edge_of pool x.end)))

  view_parts : plus first (plus rest (views 1)) ≡ view_fill (view_in pool v)
  unfolding view_in view_bytes
  view_parts =
      let l : long (edge_of pool end) ≡ length (run (last_keys (last_in pool v.last))) = ap (λ (z : Bound). long (edge_of pool z)) p ∙ ap long (last_edge pool v.last) ∙ sym (last_long (last_in pool v.last)) in
      let s : long (edge_of pool x.start) + long (edge_of pool x.end) ≡ length (run (seen_keys (seen_in pool v.visible))) = ap (λ (z : Range). long (edge_of pool z.start) + long (edge_of pool z.end)) q ∙ ap (λ z. long z.start + long z.end) (seen_edges_lem pool v.visible) ∙ sym (seen_long (seen_in pool v.visible)) in
      let a = append-nil (bytes_in pool v.first) in
      let b = length-append (bytes_in pool v.first) (run (last_keys (last_in pool v.last) ++ seen_keys (seen_in pool v.visible))) in
      let d = ap length (joined_append (λ k. k) (last_keys (last_in pool v.last)) (seen_keys (seen_in pool v.visible))) ∙ length-append (run (last_keys (last_in pool v.last))) (run (seen_keys (seen_in pool v.visible))) in
      rw (view_fill_lem (view_in pool v)) (fill_same (omega arith, omega arith, omega arith, omega arith, omega arith, omega (arith, ap length a)))

  module _ (most c : Fill) (a : Option Fill) (e : a ≡ add_of most c first) where
    pub view_broken : a ≡ None → None ≡ add_of most c (view_fill (view_in pool v))
    view_broken h = added_broken most c first (plus rest (views 1)) (view_fill (view_in pool v)) view_parts a e h

    module _ (d : Fill) (h : a ≡ Some d) (b : Option Fill) (f : b ≡ add_of most d rest) where
      pub view_broken_late : b ≡ None → None ≡ add_of most c (view_fill (view_in pool v))
      view_broken_late k = added_on most c first (plus rest (views 1)) (view_fill (view_in pool v)) view_parts a d None e h (added_broken most d rest (views 1) (plus rest (views 1)) refl b f k)

      pub view_added : (g : Fill) (r : Option Fill) → b ≡ Some g → r ≡ add_of most g (views 1) → r ≡ add_of most c (view_fill (view_in pool v))
      view_added g r k m = added_on most c first (plus rest (views 1)) (view_fill (view_in pool v)) view_parts a d r e h (added_on most d rest (views 1) (plus rest (views 1)) refl b g r f k m)

-- ---- what is left of a view

module _ (most : Fill) (pool : List ℕ) (k : Option (ViewRow × Reach)) (c : Fill) where
  pub add_gone : fits c most ≡ true → k ≡ None → Some c ≡ add_of most c (sum view_fill (left_in pool k))
  add_gone h t = rw t (added_none most c h)

  pub add_one_left : (v : ViewRow) (x : Reach) (q : Option Fill) → k ≡ Some (v, x) → q ≡ add_of most c (view_fill (with_visible (view_in pool v) (reach_of pool x))) → q ≡ add_of most c (sum view_fill (left_in pool k))
  add_one_left v x q t e = rw t (e ∙ ap (add_of most c) (sym (plus_empty (view_fill (with_visible (view_in pool v) (reach_of pool x))))))

-- ---- what is left of a run, whose views vs are left

module _ (most : Fill) (x : Run) (c : Fill) (s : Option Fill) where
  pub run_broken : (vs : List View) → s ≡ add_of most c (sum view_fill vs) → s ≡ None → None ≡ add_of most c (sum run_fill (kept_run x vs))
  unfolding run_fill
  run_broken [] e h = sym (sym e ∙ h)
  run_broken (v ∷ vs) e h = added_broken most c (sum view_fill (v ∷ vs)) (runs 1) (sum run_fill (kept_run x (v ∷ vs))) (fill_same (omega arith)) s e h

  module _ (d : Fill) where
    pub run_gone : (vs : List View) → s ≡ add_of most c (sum view_fill vs) → s ≡ Some d → d.views ≡ c.views → Some d ≡ add_of most c (sum run_fill (kept_run x vs))
    run_gone [] e h n = sym h ∙ e
    run_gone (v ∷ vs) e h n =
        let i = added_is most c (sum view_fill (v ∷ vs)) d (sym e ∙ h) in
        let m = ap (λ (f : Fill). f.views) (i.0 ∙ ap (plus c) (views_fill (v ∷ vs))) in
        absurd (omega arith)

    pub run_left : (vs : List View) (r : Option Fill) → s ≡ add_of most c (sum view_fill vs) → s ≡ Some d → (d.views ≡ c.views → ⊥) → r ≡ add_of most d (runs 1) → r ≡ add_of most c (sum run_fill (kept_run x vs))
    unfolding run_fill
    run_left [] r e h n k = absurd (n (ap (λ (f : Fill). f.views) (added_is most c (sum view_fill []) d (sym e ∙ h)).0 ∙ omega arith))
    run_left (v ∷ vs) r e h n k = added_on most c (sum view_fill (v ∷ vs)) (runs 1) (sum run_fill (kept_run x (v ∷ vs))) (fill_same (omega arith)) s d r e h k
