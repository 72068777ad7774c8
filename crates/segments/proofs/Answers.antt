-- What the arms of the code know. Assumes nothing.
use Rattle.std.specs.Prelude.{Err, Ok, Result}
use Prim.Native.Nat.{ℕ, zero, suc, ◌+◌, ◌/◌, ◌≤◌, ◌<◌}
use mathlib.Core.Path.{◌≡◌, refl, sym, ap, ◌∙◌}
use mathlib.Core.Bool.{Bool, true, false, not}
use mathlib.Core.List.{List, [], ◌∷◌, ◌++◌}
use mathlib.Core.Logic.{⊎_elim}
use native.Mathlib.Omega.{arith}
use lib.Dec.{ltb}
use lib.ListN.{length, get_or}
use borrow.Author.Tests.{lt-ltb, le-ltb}
use mir.Syntax.{w8}
use mir.Val.{Fits}
use Rattle.keys.specs.Pick.{pick}
use Rattle.keys.specs.declared.Bound.{Bound}
use Rattle.keys.specs.declared.Bound.TheVariants.{Unbounded, Included, Excluded}
use Rattle.keys.specs.declared.Range.{Range}
use Rattle.keys.specs.Key.{UpTo}
use Rattle.keys.specs.Prefix.{Bytes, Begins, Under, under_of, after}
use Rattle.keys.specs.Range.{low, top, empty_of}
use Rattle.keys.specs.Pool.{part_of, edge_of, edges_of, inside_of}
use Rattle.keys.proofs.Says.{says_same, true_says}
use Rattle.keys.proofs.ByteOrder.{up, either}
use Rattle.keys.proofs.Prefixes.{begins_refl, begins_under, begins_between, up_to_under, says_under}
use Rattle.keys.proofs.Ranges.{below_snoc, self_snoc}
use Rattle.keys.proofs.Places.{bytes_fit, bytes_part}
use Rattle.tables.specs.Layout.{up_to}
use Rattle.tables.specs.Window.{held_of}
use Rattle.tables.specs.declared.Window.{Window}
use Rattle.tables.proofs.Joined.{up_to_length}
use Rattle.records.specs.Model.{Segment}
use Rattle.records.specs.Row.{segment_at}
use Rattle.records.specs.Decode.{Lent, bytes_in, segment_in, segments_in, manifest_in}
use Rattle.records.specs.declared.SegmentRow.{SegmentRow}
use Rattle.records.specs.declared.Limits.{Limits}
use Rattle.records.specs.declared.ManifestRow.{ManifestRow}
use Rattle.records.specs.declared.Refusal.TheVariants.{Unlawful, OverLimit, EmptyRange}
use Rattle.lawful.specs.Judge.{judged_of}
use Rattle.lawful.specs.Steps.{prefix_at}
use Rattle.segments.specs.Prefixes.{prefixes, prefixes_in}
use Rattle.segments.specs.Refuses.{long_of, bound_over, range_over}
use Rattle.segments.specs.Lookup.{same_of, index_of, segment_of, tree_for, looked_of}
use Rattle.segments.specs.Select.{before, reached, first_of, past_of, chosen_of, selected_of}
use Rattle.segments.proofs.Fronts.{Led, led_none}
use Rattle.segments.specs.declared.Looked.TheVariants as look
use Rattle.segments.specs.declared.Selected.TheVariants as select
use Rattle.segments.specs.declared.Looked.{Looked}
use Rattle.records.specs.declared.Refusal.{Refusal}
use Rattle.segments.specs.declared.Selected.{Selected}

-- ---- the prefixes of a manifest in tables
prefixes_up_to : (g : ℕ → Segment) (n : ℕ) → prefixes (up_to g n) ≡ up_to (λ k. (g k).prefix) n
prefixes_up_to g zero = refl
prefixes_up_to g (suc n) = snoc (up_to g n) (g n) ∙ ap (λ ps. ps ++ ((g n).prefix ∷ [])) (prefixes_up_to g n)
  where
    snoc : (ss : List Segment) (s : Segment) → prefixes (ss ++ s ∷ []) ≡ prefixes ss ++ (s.prefix ∷ [])
    snoc [] s = refl
    snoc (t ∷ ss) s = ap (λ ps. t.prefix ∷ ps) (snoc ss s)

pub prefixes_in_lem : (l : Lent) (m : ManifestRow) → prefixes (manifest_in l m).segments ≡ prefixes_in l.segments l.pool m.segments
unfolding manifest_in segments_in segment_in prefixes_in
prefixes_in_lem l m = prefixes_up_to (λ k. segment_in l.runs l.views l.pool (segment_at l.segments (m.segments.first + k))) (held_of m.segments (length l.segments / 12))

pub in_length : (segments pool : List ℕ) (w : Window) → length (prefixes_in segments pool w) ≡ held_of w (length segments / 12)
unfolding prefixes_in
in_length segments pool w = up_to_length (λ k. prefix_at segments pool (w.first + k)) (held_of w (length segments / 12))

-- ---- a row's prefix
pub reached_at : (segments pool args : List ℕ) (i : ℕ) (s : SegmentRow) (b : Bound) (r : Bool) → s ≡ segment_at segments i
    → r ≡ empty_of (edge_of pool (Included s.prefix.at s.prefix.len)) (edge_of args b) → not r ≡ reached (edge_of args b) (prefix_at segments pool i)
unfolding empty_of
reached_at segments pool args i s b r at e = rw (← at) (ap not e ∙ twice (under_of (bytes_in pool s.prefix) (top (edge_of args b))))
  where
    twice : (x : Bool) → not (not x) ≡ x
    twice true = refl
    twice false = refl

-- ---- the start: a key and a 0 is below a successor where the key is
begins_more : (c : List ℕ) {p a : List ℕ} → Begins p a → Begins p (a ++ c)
begins_more c Begins.none = Begins.none
begins_more c (Begins.next h) = Begins.next (begins_more c h)

under_snoc : (a p : List ℕ) → Bytes a → under_of a (after p) ≡ under_of (a ++ 0 ∷ []) (after p)
under_snoc a p b = says_same (there, back) (says_under a (after p)) (says_under (a ++ 0 ∷ []) (after p))
  where
    there : Under a (after p) → Under (a ++ 0 ∷ []) (after p)
    there u = ⊎_elim (λ l. up_to_under (below_snoc.0 l) (begins_under (begins_refl p))) (λ l. begins_under (begins_more (0 ∷ []) ((begins_between p a b).1 (l, u)))) (either a p)

    back : Under (a ++ 0 ∷ []) (after p) → Under a (after p)
    back u = up_to_under (up (self_snoc a)) u

module _ (args p : List ℕ) (s : Bound) where
  pub start_free : s ≡ Unbounded → true ≡ under_of (low (edge_of args s)) (after p)
  start_free e = rw e (sym (true_says (says_under [] (after p)) (up_to_under UpTo.end (begins_under (begins_refl p)))))

  module _ (at len : ℕ) (a : List ℕ) (r : Bool) (q : a ≡ part_of args at len) (h : r ≡ under_of a (after p)) where
    pub start_included : s ≡ Included at len → r ≡ under_of (low (edge_of args s)) (after p)
    start_included e = rw e (rw q at h)

    pub start_excluded : ((i : ℕ) → Fits w8 (get_or args i 0)) → s ≡ Excluded at len → r ≡ under_of (low (edge_of args s)) (after p)
    start_excluded b e = rw e (rw q at h ∙ under_snoc (part_of args at len) p (bytes_part at len (bytes_fit args b)))

pub ruleset starts = (start_free, start_included, start_excluded)

-- ---- refusal 2
module _ (most : ℕ) (b : Bound) where
  pub long_free : b ≡ Unbounded → false ≡ long_of most b
  long_free e = rw e

  pub long_included : (at len : ℕ) → b ≡ Included at len → ltb most len ≡ long_of most b
  long_included at len e = rw e

  pub long_excluded : (at len : ℕ) → b ≡ Excluded at len → ltb most len ≡ long_of most b
  long_excluded at len e = rw e

module _ (most n : ℕ) (b : Bound) (r : Bool) (e : r ≡ long_of most b) where
  pub over_long : r ≡ true → true ≡ bound_over most n b
  over_long t = rw (sym e ∙ t)

  pub over_inside : (q : Bool) → r ≡ false → q ≡ inside_of n b → not q ≡ bound_over most n b
  over_inside q t h = rw (sym e ∙ t) (ap not h)

module _ (most n : ℕ) (g : Range) (r : Bool) (e : r ≡ bound_over most n g.start) where
  pub range_start : r ≡ true → true ≡ range_over most n g
  unfolding range_over
  range_start t = rw (sym e ∙ t)

  pub range_end : (q : Bool) → r ≡ false → q ≡ bound_over most n g.end → q ≡ range_over most n g
  unfolding range_over
  range_end q t h = rw (sym e ∙ t) h

pub ruleset overs = (long_free, long_included, long_excluded, over_long, over_inside, range_start, range_end)

-- ---- lookup
module _ (segments pool : List ℕ) (w : Window) (p : List ℕ) where
  pub tree_none : length p ≡ 0 → Ok look.Unsegmented ≡ tree_for (prefixes_in segments pool w) p
  unfolding tree_for
  tree_none h = go p h
    where
      go : (p : List ℕ) → length p ≡ 0 → Ok look.Unsegmented ≡ tree_for (prefixes_in segments pool w) p
      go [] h = refl
      go (x ∷ p) h = absurd (omega arith)

  tree_some : (length p ≡ 0 → ⊥) → tree_for (prefixes_in segments pool w) p ≡ segment_of (prefixes_in segments pool w) p
  unfolding tree_for
  tree_some h = go p h
    where
      go : (p : List ℕ) → (length p ≡ 0 → ⊥) → tree_for (prefixes_in segments pool w) p ≡ segment_of (prefixes_in segments pool w) p
      go [] h = absurd (h refl)
      go (x ∷ p) h = refl

  module _ (n i : ℕ) (h : length p ≡ 0 → ⊥) (e : n ≡ held_of w (length segments / 12)) (f : i ≡ index_of (prefixes_in segments pool w) p) where
    pub tree_at_lem : i < n → Ok (look.Segment i) ≡ tree_for (prefixes_in segments pool w) p
    tree_at_lem l = sym (tree_some h ∙ rw (in_length segments pool w, ← e, ← f, lt-ltb i n l))

    pub tree_absent : n ≤ i → Ok look.Absent ≡ tree_for (prefixes_in segments pool w) p
    tree_absent l = sym (tree_some h ∙ rw (in_length segments pool w, ← e, ← f, le-ltb i n l))

pub ruleset trees = (tree_none, tree_at_lem, tree_absent)

module _ (lim : Limits) (l : Lent) (m : ManifestRow) (p : List ℕ) where
  pub looked_over : lim.prefix < length p → Err OverLimit ≡ looked_of lim l m p
  unfolding looked_of
  looked_over h = rw (lt-ltb lim.prefix (length p) h)

  module _ (j : Result Unit ℕ) (e : j ≡ judged_of lim l m) (h : length p ≤ lim.prefix) where
    pub looked_broken : (rule : ℕ) → j ≡ Err rule → Err (Unlawful rule) ≡ looked_of lim l m p
    unfolding looked_of
    looked_broken rule t = rw (le-ltb lim.prefix (length p) h, sym e ∙ t)

    pub looked_tree : (a : Result Looked Refusal) → j ≡ Ok tt → a ≡ tree_for (prefixes_in l.segments l.pool m.segments) p → a ≡ looked_of lim l m p
    unfolding looked_of
    looked_tree a t q = rw (le-ltb lim.prefix (length p) h, sym e ∙ t, prefixes_in_lem l m) q

pub ruleset lookups = (looked_over, looked_broken, looked_tree)

-- ---- selection
module _ (segments pool : List ℕ) (w : Window) (args : List ℕ) (r : Range) (n : ℕ) (e : n ≡ held_of w (length segments / 12)) where
  pub choose_none : n ≡ 0 → Ok select.Unsegmented ≡ chosen_of (edges_of args r) (prefixes_in segments pool w)
  unfolding chosen_of prefixes_in
  choose_none h = rw (sym e ∙ h)

  choose_some : (n ≡ 0 → ⊥) → chosen_of (edges_of args r) (prefixes_in segments pool w) ≡ pick (ltb (first_of (edge_of args r.start) (prefixes_in segments pool w)) (past_of (edge_of args r.end) (prefixes_in segments pool w))) (Ok (select.Window (first_of (edge_of args r.start) (prefixes_in segments pool w)) (past_of (edge_of args r.end) (prefixes_in segments pool w)))) (Ok (select.Window 0 0))
  unfolding chosen_of
  choose_some h = go (prefixes_in segments pool w) (in_length segments pool w)
    where
      go : (ps : List (List ℕ)) → length ps ≡ held_of w (length segments / 12) → chosen_of (edges_of args r) ps ≡ pick (ltb (first_of (edge_of args r.start) ps) (past_of (edge_of args r.end) ps)) (Ok (select.Window (first_of (edge_of args r.start) ps) (past_of (edge_of args r.end) ps))) (Ok (select.Window 0 0))
      go [] l = absurd (h (e ∙ sym l))
      go (p ∷ ps) l = refl

  module _ (i j : ℕ) (h : n ≡ 0 → ⊥) (f : i ≡ first_of (edge_of args r.start) (prefixes_in segments pool w)) (g : j ≡ past_of (edge_of args r.end) (prefixes_in segments pool w)) where
    pub choose_window : i < j → Ok (select.Window i j) ≡ chosen_of (edges_of args r) (prefixes_in segments pool w)
    choose_window l = sym (choose_some h ∙ rw (← f, ← g, lt-ltb i j l))

    pub choose_nothing : j ≤ i → Ok (select.Window 0 0) ≡ chosen_of (edges_of args r) (prefixes_in segments pool w)
    choose_nothing l = sym (choose_some h ∙ rw (← f, ← g, le-ltb i j l))

pub ruleset chooses = (choose_none, choose_window, choose_nothing)

module _ (lim : Limits) (l : Lent) (m : ManifestRow) (args : List ℕ) (r : Range) (o : Bool) (d : o ≡ range_over lim.key (length args) r) where
  pub select_over : o ≡ true → Err OverLimit ≡ selected_of lim l m args r
  unfolding selected_of
  select_over h = rw (sym d ∙ h)

  module _ (j : Result Unit ℕ) (h : o ≡ false) (e : j ≡ judged_of lim l m) where
    pub select_broken : (rule : ℕ) → j ≡ Err rule → Err (Unlawful rule) ≡ selected_of lim l m args r
    unfolding selected_of
    select_broken rule t = rw (sym d ∙ h, sym e ∙ t)

    module _ (q : Bool) (t : j ≡ Ok tt) (f : q ≡ empty_of (edge_of args r.start) (edge_of args r.end)) where
      pub select_empty : q ≡ true → Err EmptyRange ≡ selected_of lim l m args r
      unfolding selected_of
      select_empty u = rw (sym d ∙ h, sym e ∙ t, sym f ∙ u)

      pub select_chosen : (a : Result Selected Refusal) → q ≡ false → a ≡ chosen_of (edges_of args r) (prefixes_in l.segments l.pool m.segments) → a ≡ selected_of lim l m args r
      unfolding selected_of
      select_chosen a u g = rw (sym d ∙ h, sym e ∙ t, sym f ∙ u, prefixes_in_lem l m) g

pub ruleset selects = (select_over, select_broken, select_empty, select_chosen)

-- ---- where the loops over the prefixes begin
module _ (segments pool : List ℕ) (w : Window) (args : List ℕ) (n : ℕ) (e : n ≡ held_of w (length segments / 12)) where
  pub index_none : Led (index_of (prefixes_in segments pool w) args) (λ i. not (same_of (prefix_at segments pool (w.first + i)) args)) n 0
  unfolding index_of prefixes_in
  index_none = led_none (λ q. not (same_of q args)) (λ k. prefix_at segments pool (w.first + k)) _ n _ e refl

  pub first_none : (s : Bound) → Led (first_of (edge_of args s) (prefixes_in segments pool w)) (λ i. before (edge_of args s) (prefix_at segments pool (w.first + i))) n 0
  unfolding first_of prefixes_in
  first_none s = led_none (λ p. before (edge_of args s) p) (λ k. prefix_at segments pool (w.first + k)) _ n _ e refl

  pub past_none : (s : Bound) → Led (past_of (edge_of args s) (prefixes_in segments pool w)) (λ i. reached (edge_of args s) (prefix_at segments pool (w.first + i))) n 0
  unfolding past_of prefixes_in
  past_none s = led_none (λ p. reached (edge_of args s) p) (λ k. prefix_at segments pool (w.first + k)) _ n _ e refl
