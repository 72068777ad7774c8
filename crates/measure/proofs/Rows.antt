-- What each record's part of the walk decides, in the words of the model. Assumes nothing.
use Rattle.std.specs.Prelude.{None, Option, Some}
use Prim.Native.Nat.{ℕ, zero, suc, ◌+◌, ◌*◌, ◌/◌, ◌^◌, ◌≤◌}
use mathlib.Core.Path.{◌≡◌, refl, sym, ap, ◌∙◌}
use mathlib.Core.Bool.{Bool, true, ◌&&◌}
use mathlib.Core.List.{List, [], ◌∷◌, ◌++◌}
use native.Mathlib.Omega.{arith}
use native.Mathlib.Numerals.{add-one}
use borrow.Author.Tests.{leb-true}
use lib.Dec.{leb, ltb}
use lib.ListN.{length, length-take, length-drop}
use Rattle.keys.specs.Pool.{edge_of}
use Rattle.keys.proofs.Places.{part_inside}
use Rattle.tables.specs.Layout.{joined}
use Rattle.tables.specs.Window.{lies_in, held_of}
use Rattle.tables.specs.declared.Window.{Window}
use Rattle.tables.proofs.Joined.{up_to_length}
use Rattle.records.specs.Model.{View, Run, Tree, Segment, Borrow}
use Rattle.records.specs.Row.{at, place_at, bound_of, bound_at, last_at, visible_at, view_at, run_at, segment_at, borrow_at, optional, id_at}
use Rattle.records.specs.Fill.{empty, plus, sum, bytes, views, runs, segments, borrows, ids, last_keys, edge_keys, seen_keys, view_keys, key_fill, view_fill, run_fill, tree_fill, segment_fill, borrow_fill, name_keys}
use Rattle.records.specs.Decode.{bytes_in, last_in, seen_in, view_in, views_in, run_in, runs_in, tree_in, segment_in, segments_in, ids_in, borrow_in, borrows_in, name_in}
use Rattle.records.specs.declared.Fill.{Fill}
use Rattle.records.specs.declared.Limits.{Limits}
use Rattle.records.specs.declared.Place.{Place}
use Rattle.records.specs.declared.TreeRow.{TreeRow}
use Rattle.measure.specs.Tests.{all_of}
use Rattle.measure.specs.Within.{run_views, tree_views, short}
use Rattle.measure.specs.Placed.{key_in, opened, bounded, bound_placed, last_placed, visible_placed, view_placed, views_placed, run_placed, runs_placed, tree_placed, segment_placed, segments_placed, borrow_placed, borrows_placed, name_placed}
use Rattle.measure.specs.Walk.{then, key_walk, open_walk, code_walk, last_walk, bound_walk, bounds_walk, visible_walk, view_walk, views_walk, run_walk, runs_walk, tree_walk, segment_row_walk, segment_walk, segments_walk, borrow_row_walk, borrow_walk, borrows_walk, name_walk}
use Rattle.records.proofs.Sums.{plus_empty, sum_append}
use Rattle.measure.proofs.Lists.{and_true, and_assoc, all_append, all_joined, Unit}
use Rattle.measure.proofs.Steps.{Step, step_none, step_never, step_then, step_as, step_guard, step_short, step_window, held, step_rows}

-- what n records of each kind fill by being there
unit : (u : ℕ → Fill) → u 0 ≡ empty → ((n : ℕ) → u (n + 1) ≡ plus (u n) (u 1)) → Unit u
unit u e h = record { none = e; more = λ n. rw (add-one n) at (h n) }

views_unit : Unit views
views_unit = unit views refl (λ n. refl)

runs_unit : Unit runs
runs_unit = unit runs refl (λ n. refl)

segments_unit : Unit segments
segments_unit = unit segments refl (λ n. refl)

borrows_unit : Unit borrows
borrows_unit = unit borrows refl (λ n. refl)

-- what a segment and a borrow fill beside their own rows
abbrev segment_more : Segment → Fill
segment_more s = plus (key_fill s.prefix) (tree_fill s.tree)

abbrev borrow_more : Borrow → Fill
borrow_more b = plus (key_fill b.path) (ids (length b.ids))

-- ---- whether a record's byte strings are short enough
module _ (lim : Limits) where
  abbrev pub view_short : View → Bool
  view_short v = all_of (short lim.key) (view_keys v)

  abbrev pub run_short : Run → Bool
  run_short r = all_of view_short r.views

  abbrev pub tree_short : Tree → Bool
  tree_short t = all_of view_short (tree_views t)

  abbrev pub segment_short : Segment → Bool
  segment_short s = short lim.prefix s.prefix && tree_short s.tree

  abbrev pub borrow_short : Borrow → Bool
  borrow_short b = short lim.path b.path

-- ---- byte strings

part_length : (pool : List ℕ) (p : Place) → key_in (length pool) p ≡ true → length (bytes_in pool p) ≡ p.len
part_length pool p e =
    let h : p.at + p.len ≤ length pool = leb-true (p.at + p.len) (length pool) e in
    rw (← part_inside pool p.at p.len h) (simp (length-take, length-drop) (omega arith))

pub step_key : (most : Fill) (longest : ℕ) (pool : List ℕ) (p : Place) → Step most (key_in (length pool) p) (short longest (bytes_in pool p)) (key_fill (bytes_in pool p)) (key_walk longest most (length pool) p)
unfolding key_walk
step_key most longest pool p =
    step_as
    (step_short (leb p.len longest) (step_window (record { first = p.at; count = p.len }) (length pool) (bytes p.len)))
    (λ e. and_true (leb p.len longest) ∙ ap (λ n. leb n longest) (sym (part_length pool p e)))
    (λ e. ap bytes (sym (part_length pool p e)))

module _ (most : Fill) (longest : ℕ) where
  -- some byte strings
  abbrev pub Keys : Bool → List (List ℕ) → (Fill → Option Fill) → Type 0
  Keys p ks f = Step most p (all_of (short longest) ks) (sum key_fill ks) f

  keys_as : {p : Bool} {ks ls : List (List ℕ)} {f : Fill → Option Fill} → ks ≡ ls → Keys p ks f → Keys p ls f
  keys_as e a = rw e at a

  pub keys_one : (pool : List ℕ) (p : Place) → Keys (key_in (length pool) p) (bytes_in pool p ∷ []) (key_walk longest most (length pool) p)
  keys_one pool p = step_as (step_key most longest pool p) (λ e. sym (and_true (short longest (bytes_in pool p)))) (λ e. sym (plus_empty (key_fill (bytes_in pool p))))

  pub keys_then : {p q : Bool} (ks ls : List (List ℕ)) {f e : Fill → Option Fill} → Keys p ks f → Keys q ls e → Keys (p && q) (ks ++ ls) (λ c. then (f c) e)
  keys_then ks ls a b =
      step_as
      (step_then a b)
      (λ e. sym (all_append (short longest) ks ls))
      (λ e. sym (sum_append key_fill ks ls))

-- ---- a view
module _ (lim : Limits) (pool : List ℕ) where
  last_at_lem : (k : ℕ) (p : Place) → Keys lim.fill lim.key (opened k (key_in (length pool) p)) (last_keys (last_in pool (optional None Some k p))) (open_walk k (key_walk lim.key lim.fill (length pool) p))
  last_at_lem zero p = step_none
  last_at_lem (suc zero) p = keys_one lim.fill lim.key pool p
  last_at_lem (suc (suc k)) p = step_never

  bound_at_lem : (k at len : ℕ) → Keys lim.fill lim.key (bounded k (key_in (length pool) (record { at = at; len = len }))) (edge_keys (edge_of pool (bound_of k at len))) (code_walk k (key_walk lim.key lim.fill (length pool) (record { at = at; len = len })))
  bound_at_lem zero at len = step_none
  bound_at_lem (suc zero) at len = keys_one lim.fill lim.key pool (record { at = at; len = len })
  bound_at_lem (suc (suc zero)) at len = keys_one lim.fill lim.key pool (record { at = at; len = len })
  bound_at_lem (suc (suc (suc k))) at len = step_never

  module _ (t : List ℕ) where
    bound_step : (b : ℕ) → Keys lim.fill lim.key (bound_placed (length pool) t b) (edge_keys (edge_of pool (bound_at t b))) (bound_walk lim t b (length pool))
    unfolding bound_walk
    bound_step b =
        let e : b + 1 + 1 ≡ b + 2 = omega arith in
        keys_as lim.fill lim.key (ap (λ n. edge_keys (edge_of pool (bound_of (at t b) (at t (b + 1)) (at t n)))) e) (bound_at_lem (at t b) (at t (b + 1)) (at t (b + 1 + 1)))

    visible_at_lem : (k b : ℕ) → Keys lim.fill lim.key (opened k (bound_placed (length pool) t (b + 1) && bound_placed (length pool) t (b + 4))) (seen_keys (seen_in pool (optional None Some k (record { start = bound_at t (b + 1); end = bound_at t (b + 4) })))) (open_walk k (bounds_walk lim t b (length pool)))
    unfolding bounds_walk
    visible_at_lem zero b = step_none
    visible_at_lem (suc zero) b = keys_then lim.fill lim.key (edge_keys (edge_of pool (bound_at t (b + 1)))) (edge_keys (edge_of pool (bound_at t (b + 4)))) (bound_step (b + 1)) (bound_step (b + 4))
    visible_at_lem (suc (suc k)) b = step_never

    pub view_step : (i : ℕ) → Step lim.fill (view_placed (length pool) t i) (view_short lim (view_in pool (view_at t i))) (sum key_fill (view_keys (view_in pool (view_at t i)))) (view_walk lim t (length pool) i)
    unfolding view_placed view_in view_at view_walk last_walk visible_walk
    view_step i =
        rw (and_assoc (key_in (length pool) (place_at t (i * 16 + 4))) (last_placed (length pool) t (i * 16 + 6)) (visible_placed (length pool) t (i * 16 + 9)))
        (step_then
        (step_key lim.fill lim.key pool (place_at t (i * 16 + 4)))
        (keys_then
        lim.fill
        lim.key
        (last_keys (last_in pool (last_at t (i * 16 + 6))))
        (seen_keys (seen_in pool (visible_at t (i * 16 + 9))))
        (last_at_lem (at t (i * 16 + 6)) (place_at t (i * 16 + 6 + 1)))
        (visible_at_lem (at t (i * 16 + 9)) (i * 16 + 9))))

    pub views_step : (w : Window) → Step lim.fill (views_placed (length pool) t w) (all_of (view_short lim) (views_in t pool w)) (sum view_fill (views_in t pool w)) (views_walk lim t (length pool) w)
    unfolding views_placed views_in view_fill views_walk
    views_step w = step_rows views views_unit (λ k. view_in pool (view_at t (w.first + k))) (view_short lim) (λ v. sum key_fill (view_keys v)) w (length t / 16) (λ k. view_step (w.first + k))

  -- ---- runs and trees
  module _ (views : List ℕ) where
    module _ (t : List ℕ) where
      run_step : (i : ℕ) → Step lim.fill (run_placed (length pool) views t i) (run_short lim (run_in views pool (run_at t i))) (sum view_fill (run_in views pool (run_at t i)).views) (run_walk lim views t (length pool) i)
      unfolding run_placed run_in run_walk
      run_step i = step_guard (ltb (run_at t i).id (2 ^ 32)) (views_step views (run_at t i).views)

      pub runs_step : (w : Window) → Step lim.fill (runs_placed (length pool) views t w) (all_of (run_short lim) (runs_in t views pool w)) (sum run_fill (runs_in t views pool w)) (runs_walk lim views t (length pool) w)
      unfolding runs_placed runs_in run_fill runs_walk
      runs_step w = step_rows runs runs_unit (λ k. run_in views pool (run_at t (w.first + k))) (run_short lim) (λ r. sum view_fill r.views) w (length t / 3) (λ k. run_step (w.first + k))

      pub tree_step : (r : TreeRow) → Step lim.fill (tree_placed (length pool) views t r) (tree_short lim (tree_in t views pool r)) (tree_fill (tree_in t views pool r)) (tree_walk lim views t (length pool) r)
      unfolding tree_placed tree_in tree_fill tree_walk
      tree_step r =
          let vs = views_in views pool r.l0 in
          let rs = runs_in t views pool r.compacted in
          step_as
          (step_then (views_step views r.l0) (runs_step r.compacted))
          (λ e. sym (all_append (view_short lim) vs (joined run_views rs) ∙ ap (λ b. all_of (view_short lim) vs && b) (all_joined (view_short lim) run_views rs)))
          (λ e. refl)

    -- ---- segments
    module _ (runs t : List ℕ) where
      segment_step : (i : ℕ) → Step lim.fill (segment_placed (length pool) views runs t i) (segment_short lim (segment_in runs views pool (segment_at t i))) (segment_more (segment_in runs views pool (segment_at t i))) (segment_walk lim views runs t (length pool) i)
      unfolding segment_placed segment_in segment_walk segment_row_walk
      segment_step i =
          let a = opened (at t (i * 12 + 2)) true in
          let b = opened (at t (i * 12 + 5)) true in
          let k = key_in (length pool) (segment_at t i).prefix in
          let g = tree_placed (length pool) views runs (segment_at t i).tree in
          rw (and_assoc (a && b) k g, and_assoc a b (k && g))
          (step_guard a (step_guard b (step_then (step_key lim.fill lim.prefix pool (segment_at t i).prefix) (tree_step runs (segment_at t i).tree))))

      pub segments_step : (w : Window) → Step lim.fill (segments_placed (length pool) views runs t w) (all_of (segment_short lim) (segments_in t runs views pool w)) (sum segment_fill (segments_in t runs views pool w)) (segments_walk lim views runs t (length pool) w)
      unfolding segments_placed segments_in segment_fill segments_walk
      segments_step w = step_rows segments segments_unit (λ k. segment_in runs views pool (segment_at t (w.first + k))) (segment_short lim) segment_more w (length t / 12) (λ k. segment_step (w.first + k))

  -- ---- the name
  pub name_step : (m : Option Place) → Keys lim.fill lim.name (name_placed (length pool) m) (name_keys (name_in pool m)) (name_walk lim (length pool) m)
  unfolding name_walk
  name_step None = step_none
  name_step (Some p) = keys_one lim.fill lim.name pool p

  -- ---- borrows
  module _ (table t : List ℕ) where
    borrow_step : (i : ℕ) → Step lim.fill (borrow_placed (length pool) table t i) (borrow_short lim (borrow_in table pool (borrow_at t i))) (borrow_more (borrow_in table pool (borrow_at t i))) (borrow_walk lim table t (length pool) i)
    unfolding borrow_placed borrow_in borrow_walk borrow_row_walk ids_in
    borrow_step i =
        let o = opened (at t (i * 9 + 4)) true in
        let k = key_in (length pool) (borrow_at t i).path in
        let w = (borrow_at t i).ids in
        let rows = length table / 2 in
        rw (and_assoc o k (lies_in w rows))
        (step_guard o
        (step_as
        (step_then
        (step_key lim.fill lim.path pool (borrow_at t i).path)
        (step_as (step_window w rows (ids w.count)) (λ e. refl) (λ e. ap ids (held w rows true (and_true (lies_in w rows) ∙ e) ∙ sym (up_to_length (λ j. id_at table (w.first + j)) (held_of w rows))))))
        (λ e. and_true (short lim.path (bytes_in pool (borrow_at t i).path)))
        (λ e. refl)))

    pub borrows_step : (w : Window) → Step lim.fill (borrows_placed (length pool) table t w) (all_of (borrow_short lim) (borrows_in t table pool w)) (sum borrow_fill (borrows_in t table pool w)) (borrows_walk lim table t (length pool) w)
    unfolding borrows_placed borrows_in borrow_fill borrows_walk
    borrows_step w = step_rows borrows borrows_unit (λ k. borrow_in table pool (borrow_at t (w.first + k))) (borrow_short lim) borrow_more w (length t / 9) (λ k. borrow_step (w.first + k))
