-- What projection leaves of a lawful tree keeps L4 and L5, and which keys are still seen. Assumes nothing.
use Prim.Native.Nat.{ℕ}
use mathlib.Core.Path.{◌≡◌, refl, sym, ◌∙◌}
use mathlib.Core.Bool.{Bool, true, false, not, ◌||◌}
use mathlib.Core.List.{List, [], ◌∷◌, ◌++◌}
use mathlib.Core.Logic.{◌↔◌}
use native.Mathlib.Omega.{arith}
use Rattle.keys.specs.Pick.{pick}
use Rattle.keys.specs.Key.{less_of}
use Rattle.keys.specs.Range.{Edges, In}
use Rattle.keys.specs.Meet.{meet_of}
use Rattle.keys.proofs.Says.{says_true, true_says}
use Rattle.keys.proofs.ByteOrder.{below_trans, says_less}
use Rattle.keys.proofs.Meets.{meet_law}
use Rattle.records.specs.Model.{LastKey, unknown, known, View, Run, Tree, physical, effective, span}
use Rattle.measure.specs.Tests.{all_of, chain, pairs}
use Rattle.measure.specs.Within.{run_views, tree_views}
use Rattle.measure.proofs.Lists.{all_append}
use Rattle.lawful.specs.Law.{not_above, view_lawful, last_below, follows, some_of, run_lawful}
use Rattle.lawful.proofs.Pairs.{chain_pairs}
use Rattle.lawful.proofs.Rules.{all_tree}
use Rattle.segments.proofs.Places.{and_both}
use Rattle.project_views.specs.Shown.{holds_none, shown, goes, with_visible, kept_view, run_shown, l0_shown, kept_run, runs_shown, tree_shown}

-- ---- one view: nothing is left, or the view with a range that does not let it go

data Piece (v : View) : List View → Type 0 where
  gone : Piece v []
  left : (seen : Edges) → goes seen v ≡ false → Piece v (with_visible v seen ∷ [])

piece : (r : Edges) (v : View) (later : List View) → Piece v (kept_view r v later)
unfolding kept_view
piece r v later = go (goes (shown r v later) v) refl
  where
    go : (b : Bool) → goes (shown r v later) v ≡ b → Piece v (pick b [] (with_visible v (shown r v later) ∷ []))
    go true e = gone
    go false e = left (shown r v later) e

or_second : (a b : Bool) → (a || b) ≡ false → b ≡ false
or_second true b e = let z : ◌≡◌ {A = ℕ} 0 1 = cc in absurd (omega arith)
or_second false b e = e

-- "a view's physical range meets its visible range in some key": what lets the view stay
view_keeps : (v : View) (seen : Edges) → goes seen v ≡ false → view_lawful v ≡ true → view_lawful (with_visible v seen) ≡ true
unfolding view_lawful
view_keeps v seen g h =
    rw ((and_both (not_above v.first v.last) (not (holds_none (effective v))) h).0, or_second (holds_none seen) (holds_none (meet_of (physical v) seen)) g)

piece_keeps : {v : View} {vs : List View} → Piece v vs → view_lawful v ≡ true → all_of view_lawful vs ≡ true
piece_keeps gone h = refl
piece_keeps {v = v} (left seen g) h = rw (view_keeps v seen g h)

-- ---- L4

all_both : (p : View → Bool) (xs ys : List View) → all_of p xs ≡ true → all_of p ys ≡ true → all_of p (xs ++ ys) ≡ true
all_both p xs ys a b = all_append p xs ys ∙ rw (a, b)

module _ (r : Edges) where
  run_l4 : (vs : List View) → all_of view_lawful vs ≡ true → all_of view_lawful (run_shown r vs) ≡ true
  unfolding run_shown
  run_l4 [] h = refl
  run_l4 (v ∷ vs) h =
      let w = and_both (view_lawful v) (all_of view_lawful vs) h in
      all_both view_lawful (kept_view r v vs) (run_shown r vs) (piece_keeps (piece r v vs) w.0) (run_l4 vs w.1)

  l0_l4 : (vs : List View) → all_of view_lawful vs ≡ true → all_of view_lawful (l0_shown r vs) ≡ true
  unfolding l0_shown
  l0_l4 [] h = refl
  l0_l4 (v ∷ vs) h =
      let w = and_both (view_lawful v) (all_of view_lawful vs) h in
      all_both view_lawful (kept_view r v []) (l0_shown r vs) (piece_keeps (piece r v []) w.0) (l0_l4 vs w.1)

  kept_l4 : (x : Run) (vs : List View) → all_of view_lawful vs ≡ true → all_of (λ y. all_of view_lawful (run_views y)) (kept_run x vs) ≡ true
  kept_l4 x [] h = refl
  kept_l4 x (v ∷ vs) h = rw h

  runs_l4 : (xs : List Run) → all_of (λ y. all_of view_lawful (run_views y)) xs ≡ true → all_of (λ y. all_of view_lawful (run_views y)) (runs_shown r xs) ≡ true
  unfolding runs_shown
  runs_l4 [] h = refl
  runs_l4 (x ∷ xs) h =
      let w = and_both (all_of view_lawful (run_views x)) (all_of (λ (y : Run). all_of view_lawful (run_views y)) xs) h in
      all_append (λ (y : Run). all_of view_lawful (run_views y)) (kept_run x (run_shown r x.views)) (runs_shown r xs)
      ∙ rw (kept_l4 x (run_shown r x.views) (run_l4 x.views w.0), runs_l4 xs w.1)

  -- L4: every view that is left is lawful
  pub shown_l4 : (t : Tree) → all_of view_lawful (tree_views t) ≡ true → all_of view_lawful (tree_views (tree_shown r t)) ≡ true
  unfolding tree_shown
  shown_l4 t h =
      let w = and_both (all_of view_lawful t.l0) (all_of (λ (y : Run). all_of view_lawful (run_views y)) t.runs) (sym (all_tree view_lawful t) ∙ h) in
      all_tree view_lawful (tree_shown r t) ∙ rw (l0_l4 t.l0 w.0, runs_l4 t.runs w.1)

-- ---- L5

less_trans : (a b c : List ℕ) → less_of a b ≡ true → less_of b c ≡ true → less_of a c ≡ true
less_trans a b c h k = true_says (says_less a c) (below_trans (says_true (says_less a b) h) (says_true (says_less b c) k))

last_trans : (l : LastKey) (b c : List ℕ) → last_below l b ≡ true → less_of b c ≡ true → last_below l c ≡ true
last_trans unknown b c h k = refl
last_trans (known l) b c h k = less_trans l b c h k

follows_trans : (u v w : View) → follows u v ≡ true → follows v w ≡ true → follows u w ≡ true
unfolding follows
follows_trans u v w h k =
    let a = and_both (less_of u.first v.first) (last_below u.last v.first) h in
    let b = and_both (less_of v.first w.first) (last_below v.last w.first) k in
    rw (less_trans u.first v.first w.first a.0 b.0, last_trans u.last v.first w.first a.1 b.0)

pairs_chain : {A : Type 0} (r : A → A → Bool) (xs : List A) → pairs r xs ≡ true → chain r xs ≡ true
pairs_chain r [] h = refl
pairs_chain r (x ∷ []) h = refl
pairs_chain r (x ∷ y ∷ ys) h =
    let w = and_both (all_of (r x) (y ∷ ys)) (pairs r (y ∷ ys)) h in
    rw ((and_both (r x y) (all_of (r x) ys) w.0).0, pairs_chain r (y ∷ ys) w.1)

-- another visible range changes neither key
before_piece : (u : View) {v : View} {vs : List View} → Piece v vs → follows u v ≡ true → all_of (follows u) vs ≡ true
unfolding follows
before_piece u gone h = refl
before_piece u (left seen g) h = rw h

after_piece : {v : View} {vs : List View} (ws : List View) → Piece v vs → all_of (follows v) ws ≡ true → pairs follows ws ≡ true → pairs follows (vs ++ ws) ≡ true
unfolding follows
after_piece ws gone h k = k
after_piece ws (left seen g) h k = rw (h, k)

module _ (r : Edges) where
  before_run : (u : View) (vs : List View) → all_of (follows u) vs ≡ true → all_of (follows u) (run_shown r vs) ≡ true
  unfolding run_shown
  before_run u [] h = refl
  before_run u (v ∷ vs) h =
      let w = and_both (follows u v) (all_of (follows u) vs) h in
      all_both (follows u) (kept_view r v vs) (run_shown r vs) (before_piece u (piece r v vs) w.0) (before_run u vs w.1)

  run_pairs : (vs : List View) → pairs follows vs ≡ true → pairs follows (run_shown r vs) ≡ true
  unfolding run_shown
  run_pairs [] h = refl
  run_pairs (v ∷ vs) h =
      let w = and_both (all_of (follows v) vs) (pairs follows vs) h in
      after_piece (run_shown r vs) (piece r v vs) (before_run v vs w.0) (run_pairs vs w.1)

  run_l5 : (x : Run) (vs : List View) → chain follows vs ≡ true → all_of run_lawful (kept_run x vs) ≡ true
  unfolding run_lawful
  run_l5 x [] h = refl
  run_l5 x (v ∷ vs) h = rw h

  -- L5: every run that is left has a view, and its views follow each other
  pub shown_l5 : (xs : List Run) → all_of run_lawful xs ≡ true → all_of run_lawful (runs_shown r xs) ≡ true
  unfolding runs_shown run_lawful
  shown_l5 [] h = refl
  shown_l5 (x ∷ xs) h =
      let w = and_both (run_lawful x) (all_of run_lawful xs) h in
      let c = (and_both (some_of x.views) (chain follows x.views) w.0).1 in
      all_append run_lawful (kept_run x (run_shown r x.views)) (runs_shown r xs)
      ∙ rw (run_l5 x (run_shown r x.views) (pairs_chain follows (run_shown r x.views) (run_pairs x.views (chain_pairs follows follows_trans x.views c))), shown_l5 xs w.1)

-- ---- which keys are seen

-- of a view that is left exactly the physical keys of its span that are in the range
pub shown_keys : (k : List ℕ) (r : Edges) (v : View) (later : List View) → In k (effective (with_visible v (shown r v later))) ↔ (In k (physical v) × (In k (span v later) × In k r))
shown_keys k r v later = (there, back)
  where
    there : In k (meet_of (physical v) (shown r v later)) → In k (physical v) × (In k (span v later) × In k r)
    there h = let w = (meet_law k (physical v) (shown r v later)).0 h in (w.0, (meet_law k (span v later) r).0 w.1)

    back : In k (physical v) × (In k (span v later) × In k r) → In k (meet_of (physical v) (shown r v later))
    back w = (meet_law k (physical v) (shown r v later)).1 (w.0, (meet_law k (span v later) r).1 w.1)
