-- The bounds that a projection writes are no longer than the limits, where its arguments and the source's are not. Assumes nothing.
use Rattle.std.specs.Prelude.{None, Option, Some}
use Prim.Native.Nat.{ℕ, zero, suc, ◌+◌, ◌*◌, ◌/◌, ◌≤◌, ◌<◌}
use mathlib.Core.Path.{◌≡◌, refl, sym, ap, ◌∙◌}
use mathlib.Core.Bool.{Bool, true, false, not, ◌||◌}
use mathlib.Core.List.{List, [], ◌∷◌, ◌++◌}
use native.Mathlib.Omega.{arith}
use native.Mathlib.Decide.{dec_lt}
use lib.Dec.{ltb, leb}
use lib.ListN.{length, get_or, take, drop as skip}
use borrow.Author.Tests.{le-leb, lt-ltb}
use Rattle.keys.specs.Pick.{pick}
use Rattle.keys.specs.Key.{is_less}
use Rattle.keys.specs.Prefix.{keep_before, without_ff, add_one, last_up, after}
use Rattle.keys.specs.Range.{Edge, unbounded, included, excluded, Edges}
use Rattle.keys.specs.Meet.{start_order, end_order, meet_of}
use Rattle.keys.specs.Pool.{part_of, edge_of, edges_of, inside_of}
use Rattle.keys.specs.declared.Bound.{Bound}
use Rattle.keys.specs.declared.Bound.TheVariants as bound
use Rattle.keys.specs.declared.Range.{Range}
use Rattle.tables.specs.Layout.{up_to}
use Rattle.tables.proofs.Holds.{up_to_front}
use Rattle.records.specs.Model.{LastKey, unknown, known, Seen, only, View, Run, Tree, last_end, seen_edges, next_end, span}
use Rattle.records.specs.Row.{at}
use Rattle.records.specs.Fill.{last_keys, edge_keys, seen_keys, view_keys}
use Rattle.measure.specs.Tests.{all_of}
use Rattle.measure.specs.Within.{run_views, tree_views, short}
use Rattle.measure.proofs.Lists.{all_append}
use Rattle.lawful.proofs.Rules.{all_tree}
use Rattle.segments.specs.Refuses.{bound_over, range_over}
use Rattle.segments.proofs.Places.{and_both}
use Rattle.project_views.specs.Reach.{top_edge}
use Rattle.project_views.specs.Shown.{holds_none, shown, goes, with_visible, kept_view, run_shown, l0_shown, kept_run, runs_shown, tree_shown}
use Rattle.project_ranges.specs.Config.{free, own_range, passes}
use Rattle.project_ranges.specs.Own.{prefix_range, or_else, resolved}
use Rattle.project_ranges.specs.Action.{Action, drop, project, combined, action_of}
use Rattle.project_ranges.specs.Args.{asked_in, own_row, own_in, config_in, global_over, own_row_over, some_over, counted, own_over, config_over}
use Rattle.project_ranges.specs.declared.ProjectionConfig.{ProjectionConfig}
use Rattle.project.proofs.Results.{Good, dropped, shown as projected, passed}

or_none : (a b : Bool) → (a || b) ≡ false → (a ≡ false) × (b ≡ false)
or_none true b e = let z : ◌≡◌ {A = ℕ} 0 1 = cc in absurd (omega arith)
or_none false b e = (refl, e)

module _ (most : ℕ) where
  -- a bound's key is of at most so many bytes
  abbrev short_e : Edge → Bool
  short_e unbounded = true
  short_e (included k) = short most k
  short_e (excluded k) = short most k

  abbrev pub ShortR : Edges → Type 0
  ShortR r = (short_e r.start ≡ true) × (short_e r.end ≡ true)

  one_of : (b : Bool) (x y : Edge) → short_e x ≡ true → short_e y ≡ true → short_e (pick b x y) ≡ true
  one_of true x y h k = h
  one_of false x y h k = k

  meet_short : (a b : Edges) → ShortR a → ShortR b → ShortR (meet_of a b)
  meet_short a b h k = (one_of (is_less (start_order a.start b.start)) b.start a.start k.0 h.0, one_of (is_less (end_order b.end a.end)) b.end a.end k.1 h.1)

  -- ---- a view's keys

  abbrev pub view_short : View → Bool
  view_short v = all_of (short most) (view_keys v)

  last_short : (l : LastKey) → all_of (short most) (last_keys l) ≡ true → short_e (last_end l) ≡ true
  last_short unknown h = refl
  last_short (known k) h = (and_both (short most k) true h).0

  edge_keys_lem : (e : Edge) → short_e e ≡ true → all_of (short most) (edge_keys e) ≡ true
  edge_keys_lem unbounded h = refl
  edge_keys_lem (included k) h = rw h
  edge_keys_lem (excluded k) h = rw h

  keys_edge : (e : Edge) → all_of (short most) (edge_keys e) ≡ true → short_e e ≡ true
  keys_edge unbounded h = refl
  keys_edge (included k) h = (and_both (short most k) true h).0
  keys_edge (excluded k) h = (and_both (short most k) true h).0

  seen_short : (x : Seen) → all_of (short most) (seen_keys x) ≡ true → ShortR (seen_edges x)
  seen_short Seen.all h = (refl, refl)
  seen_short (only r) h = let w = and_both (all_of (short most) (edge_keys r.start)) (all_of (short most) (edge_keys r.end)) (sym (all_append (short most) (edge_keys r.start) (edge_keys r.end)) ∙ h) in (keys_edge r.start w.0, keys_edge r.end w.1)

  record Parts (v : View) : Type 0 where
    first : short most v.first ≡ true
    last : all_of (short most) (last_keys v.last) ≡ true
    seen : all_of (short most) (seen_keys v.visible) ≡ true

  parts : (v : View) → view_short v ≡ true → Parts v
  parts v h =
      let w = and_both (short most v.first) (all_of (short most) (last_keys v.last ++ seen_keys v.visible)) h in
      let u = and_both (all_of (short most) (last_keys v.last)) (all_of (short most) (seen_keys v.visible)) (sym (all_append (short most) (last_keys v.last) (seen_keys v.visible)) ∙ w.1) in
      record { first = w.0; last = u.0; seen = u.1 }

  next_short : (v : View) (later : List View) → view_short v ≡ true → all_of view_short later ≡ true → short_e (next_end v later) ≡ true
  next_short v [] h k = last_short v.last (parts v h).last
  next_short v (w ∷ ws) h k = (parts w (and_both (view_short w) (all_of view_short ws) k).0).first

  module _ (r : Edges) (g : ShortR r) where
    kept_short : (v : View) (later : List View) → view_short v ≡ true → all_of view_short later ≡ true → all_of view_short (kept_view r v later) ≡ true
    unfolding kept_view
    kept_short v later h k = go (goes (shown r v later) v)
      where
        seen : ShortR (shown r v later)
        seen = meet_short (span v later) r (meet_short (record { start = included v.first; end = next_end v later }) (seen_edges v.visible) ((parts v h).first, next_short v later h k) (seen_short v.visible (parts v h).seen)) g

        keys : all_of (short most) (seen_keys (only (shown r v later))) ≡ true
        keys = all_append (short most) (edge_keys (shown r v later).start) (edge_keys (shown r v later).end) ∙ rw (edge_keys_lem (shown r v later).start seen.0, edge_keys_lem (shown r v later).end seen.1)

        go : (b : Bool) → all_of view_short (pick b [] (with_visible v (shown r v later) ∷ [])) ≡ true
        go true = refl
        go false = rw ((parts v h).first, all_append (short most) (last_keys v.last) (seen_keys (only (shown r v later))), (parts v h).last, keys)

    run_short : (vs : List View) → all_of view_short vs ≡ true → all_of view_short (run_shown r vs) ≡ true
    unfolding run_shown
    run_short [] h = refl
    run_short (v ∷ vs) h =
        let w = and_both (view_short v) (all_of view_short vs) h in
        all_append view_short (kept_view r v vs) (run_shown r vs) ∙ rw (kept_short v vs w.0 w.1, run_short vs w.1)

    l0_short : (vs : List View) → all_of view_short vs ≡ true → all_of view_short (l0_shown r vs) ≡ true
    unfolding l0_shown
    l0_short [] h = refl
    l0_short (v ∷ vs) h =
        let w = and_both (view_short v) (all_of view_short vs) h in
        all_append view_short (kept_view r v []) (l0_shown r vs) ∙ rw (kept_short v [] w.0 refl, l0_short vs w.1)

    one_run : (x : Run) (vs : List View) → all_of view_short vs ≡ true → all_of (λ y. all_of view_short (run_views y)) (kept_run x vs) ≡ true
    one_run x [] h = refl
    one_run x (v ∷ vs) h = rw h

    runs_short : (xs : List Run) → all_of (λ y. all_of view_short (run_views y)) xs ≡ true → all_of (λ y. all_of view_short (run_views y)) (runs_shown r xs) ≡ true
    unfolding runs_shown
    runs_short [] h = refl
    runs_short (x ∷ xs) h =
        let w = and_both (all_of view_short (run_views x)) (all_of (λ (y : Run). all_of view_short (run_views y)) xs) h in
        all_append (λ (y : Run). all_of view_short (run_views y)) (kept_run x (run_shown r x.views)) (runs_shown r xs) ∙ rw (one_run x (run_shown r x.views) (run_short x.views w.0), runs_short xs w.1)

  -- what a range with short bounds leaves of a tree with short keys
  pub shown_short : (r : Edges) (t : Tree) → ShortR r → all_of view_short (tree_views t) ≡ true → all_of view_short (tree_views (tree_shown r t)) ≡ true
  unfolding tree_shown
  shown_short r t g h =
      let w = and_both (all_of view_short t.l0) (all_of (λ (y : Run). all_of view_short (run_views y)) t.runs) (sym (all_tree view_short t) ∙ h) in
      all_tree view_short (tree_shown r t) ∙ rw (l0_short r g t.l0 w.0, runs_short r g t.runs w.1)

  -- ---- the range of a prefix

  without_long : (p : List ℕ) → length (without_ff p) ≤ length p
  without_long [] = omega arith
  without_long (x ∷ p) = go (without_ff p) (without_long p)
    where
      go : (q : List ℕ) → length q ≤ length p → length (keep_before x q) ≤ suc (length p)
      go [] h = one (ltb x 255)
        where
          one : (b : Bool) → length (pick b (x ∷ []) []) ≤ suc (length p)
          one true = omega arith
          one false = omega arith
      go (y ∷ q) h = omega arith

  add_long : (x : ℕ) (q : List ℕ) → length (add_one x q) ≡ suc (length q)
  add_long x [] = refl
  add_long x (y ∷ q) = ap suc (add_long y q)

  top_short : (p : List ℕ) → length p ≤ most → short_e (top_edge (after p)) ≡ true
  unfolding after
  top_short p h = go (without_ff p) (without_long p)
    where
      go : (q : List ℕ) → length q ≤ length p → short_e (top_edge (last_up q)) ≡ true
      go [] k = refl
      go (x ∷ q) k = le-leb (length (add_one x q)) most (rw (add_long x q) (omega arith))

  prefix_short : (p : List ℕ) → length p ≤ most → ShortR (prefix_range p)
  prefix_short p h = (le-leb (length p) most h, top_short p h)

  else_short : (e d : Edge) → short_e e ≡ true → short_e d ≡ true → short_e (or_else e d) ≡ true
  else_short unbounded d h k = k
  else_short (included a) d h k = h
  else_short (excluded a) d h k = h

  resolved_short : (p : List ℕ) (r : Edges) → length p ≤ most → ShortR r → ShortR (resolved p r)
  resolved_short p r h k = (else_short r.start (prefix_range p).start k.0 (prefix_short p h).0, else_short r.end (prefix_range p).end k.1 (prefix_short p h).1)

  -- ---- the arguments

  part_long : (pool : List ℕ) (from len : ℕ) → length (part_of pool from len) ≤ len
  unfolding part_of
  part_long pool from len = go (leb (from + len) (length pool)) refl
    where
      go : (b : Bool) → leb (from + len) (length pool) ≡ b → length (pick b (take len (skip from pool)) []) ≤ len
      go true e = long len (skip from pool)
        where
          long : (n : ℕ) (xs : List ℕ) → length (take n xs) ≤ n
          long zero xs = omega arith
          long (suc n) [] = omega arith
          long (suc n) (x ∷ xs) = let k = long n xs in omega arith
      go false e = omega arith

  not_longer : (len : ℕ) → ltb most len ≡ false → len ≤ most
  not_longer len e = elim (dec_lt most len) [ yes l ↦ never (sym (lt-ltb most len l) ∙ e) | no l ↦ omega arith ]
    where
      never : true ≡ false → len ≤ most
      never z = let y : ◌≡◌ {A = ℕ} 0 1 = cc in absurd (omega arith)

  bound_short : (pool : List ℕ) (n : ℕ) (b : Bound) → bound_over most n b ≡ false → short_e (edge_of pool b) ≡ true
  bound_short pool n bound.Unbounded h = refl
  bound_short pool n (bound.Included from len) h = let l = not_longer len (or_none (ltb most len) (not (inside_of n (bound.Included from len))) h).0 in le-leb (length (part_of pool from len)) most (omega (arith, part_long pool from len))
  bound_short pool n (bound.Excluded from len) h = let l = not_longer len (or_none (ltb most len) (not (inside_of n (bound.Excluded from len))) h).0 in le-leb (length (part_of pool from len)) most (omega (arith, part_long pool from len))

  range_short : (pool : List ℕ) (n : ℕ) (r : Range) → range_over most n r ≡ false → ShortR (edges_of pool r)
  unfolding range_over
  range_short pool n r h = let w = or_none (bound_over most n r.start) (bound_over most n r.end) h in (bound_short pool n r.start w.0, bound_short pool n r.end w.1)

  some_none : (n : ℕ) (own : List ℕ) (k i : ℕ) → i < k → some_over most n own k ≡ false → range_over most n (own_row own i) ≡ false
  some_none n own zero i l h = absurd (omega arith)
  some_none n own (suc k) i l h =
      let w = or_none (some_over most n own k) (own_row_over most n own k) h in
      elim (dec_lt i k) [ yes j ↦ some_none n own k i j w.0 | no j ↦ (let z : i ≡ k = omega arith in rw z (or_none (ltb 2 (at own (k * 6)) || ltb 2 (at own (k * 6 + 3))) (range_over most n (own_row own k)) w.1).1) ]

  free_short : ShortR free
  free_short = (refl, refl)

  at_short : (f : ℕ → Edges) (n place : ℕ) → (place < n → ShortR (f place)) → ShortR (get_or (up_to f n) place free)
  at_short f zero place h = free_short
  at_short f (suc n) zero h = rw (up_to_front f n) (h (omega arith))
  at_short f (suc n) (suc place) h = rw (up_to_front f n) (at_short (λ i. f (suc i)) n place (λ l. h (omega arith)))

  -- "excess: unread": a place up to the number of segments is counted
  module _ (pool own : List ℕ) (n segments place : ℕ) (l : place ≤ segments) where
    is_counted : place < length own / 6 → place < counted own segments
    is_counted h = go (leb (length own / 6) segments)
      where
        go : (b : Bool) → place < pick b (length own / 6) (suc segments)
        go true = h
        go false = omega arith

    own_short_lem : some_over most n own (counted own segments) ≡ false → ShortR (own_range (up_to (λ i. edges_of pool (own_row own i)) (length own / 6)) place)
    own_short_lem h = at_short (λ i. edges_of pool (own_row own i)) (length own / 6) place (λ k. range_short pool n (own_row own place) (some_none n own (counted own segments) place (is_counted k) h))

    combined_good : (p : List ℕ) → length p ≤ most → (b : Bool) (g : Option Range) → global_over most n g ≡ false → own_over most n segments b own ≡ false → Good ShortR (combined (own_in pool b own) (asked_in pool g) place p)
    combined_good p s false None h k = passed
    combined_good p s false (Some r) h k = projected (range_short pool n r h)
    combined_good p s true None h k = projected (resolved_short p (own_range (up_to (λ i. edges_of pool (own_row own i)) (length own / 6)) place) s (own_short_lem k))
    combined_good p s true (Some r) h k = go (holds_none both)
      where
        both : Edges
        both = meet_of (resolved p (own_range (up_to (λ i. edges_of pool (own_row own i)) (length own / 6)) place)) (edges_of pool r)

        go : (b : Bool) → Good ShortR (pick b drop (project both))
        go true = dropped
        go false = projected (meet_short (resolved p (own_range (up_to (λ i. edges_of pool (own_row own i)) (length own / 6)) place)) (edges_of pool r) (resolved_short p (own_range (up_to (λ i. edges_of pool (own_row own i)) (length own / 6)) place) s (own_short_lem k)) (range_short pool n r h))

    -- the range that a tree is projected to has short bounds
    pub action_good : (c : ProjectionConfig) (p : List ℕ) → config_over most n segments c own ≡ false → length p ≤ most → Good ShortR (action_of (config_in pool c own) place p)
    unfolding action_of config_in config_over
    action_good c p h s =
        let w = or_none (global_over most n c.global_range) (own_over most n segments c.segment_projection own) h in
        go (passes c.segment_filter place) (combined_good p s c.segment_projection c.global_range w.0 w.1)
      where
        go : {a : Action} (b : Bool) → Good ShortR a → Good ShortR (pick b a drop)
        go true k = k
        go false k = dropped
