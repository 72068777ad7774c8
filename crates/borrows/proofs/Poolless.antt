-- Which ids are owned does not hang on the pool. Assumes nothing.
use Prim.Native.Nat.{ℕ, zero, suc, ◌+◌, ◌/◌}
use mathlib.Core.Path.{◌≡◌, refl, sym, ap, ap₂, ◌∙◌}
use mathlib.Core.Bool.{◌||◌, or_assoc}
use mathlib.Core.List.{List, [], ◌∷◌, ◌++◌}
use lib.ListN.{length}
use Rattle.tables.specs.Layout.{up_to, joined}
use Rattle.tables.specs.Window.{held_of}
use Rattle.tables.specs.declared.Window.{Window}
use Rattle.tables.proofs.Joined.{joined_append}
use Rattle.ids.specs.Names.{names_of}
use Rattle.ids.specs.declared.SstId.{SstId}
use Rattle.records.specs.Model.{View, Segment, Borrow, segment_trees}
use Rattle.records.specs.Row.{view_at, run_at, segment_at, borrow_at}
use Rattle.records.specs.Decode.{Lent, view_in, views_in, run_in, runs_in, tree_in, segment_in, segments_in, borrow_in, borrows_in, manifest_in}
use Rattle.records.specs.declared.TreeRow.{TreeRow}
use Rattle.records.specs.declared.ManifestRow.{ManifestRow}
use Rattle.measure.specs.Within.{run_views, tree_views, all_views, ids_used}
use Rattle.borrows.specs.Owned.{is_borrowed, unborrowed, owned_of}

-- ---- the ids of views

pub used_append : (vs ws : List View) → ids_used (vs ++ ws) ≡ ids_used vs ++ ids_used ws
used_append [] ws = refl
used_append (v ∷ vs) ws = ap (λ (l : List SstId). v.sst ∷ l) (used_append vs ws)

-- rows of which each gives the same ids
used_same : {A B : Type 0} (f : A → List View) (g : B → List View) (a : ℕ → A) (b : ℕ → B) (n : ℕ) → ((k : ℕ) → ids_used (f (a k)) ≡ ids_used (g (b k)))
    → ids_used (joined f (up_to a n)) ≡ ids_used (joined g (up_to b n))
used_same f g a b zero h = refl
used_same f g a b (suc n) h =
    rw (joined_append f (up_to a n) (a n ∷ []), joined_append g (up_to b n) (b n ∷ []), used_append (joined f (up_to a n)) (joined f (a n ∷ [])), used_append (joined g (up_to b n)) (joined g (b n ∷ [])), used_append (f (a n)) [], used_append (g (b n)) [], used_same f g a b n h, h n)

one_each : (vs : List View) → joined (λ v. v ∷ []) vs ≡ vs
one_each [] = refl
one_each (v ∷ vs) = ap (λ (l : List View). v ∷ l) (one_each vs)

module _ (views p q : List ℕ) where
  views_same : (w : Window) → ids_used (views_in views p w) ≡ ids_used (views_in views q w)
  unfolding views_in view_in
  views_same w =
      rw (← one_each (views_in views p w), ← one_each (views_in views q w))
      (used_same (λ v. v ∷ []) (λ v. v ∷ []) (λ k. view_in p (view_at views (w.first + k))) (λ k. view_in q (view_at views (w.first + k))) (held_of w (length views / 16)) (λ k. refl))

  tree_same : (runs : List ℕ) (t : TreeRow) → ids_used (tree_views (tree_in runs views p t)) ≡ ids_used (tree_views (tree_in runs views q t))
  unfolding tree_in runs_in run_in
  tree_same runs t =
      rw (used_append (views_in views p t.l0) (joined run_views (runs_in runs views p t.compacted)), used_append (views_in views q t.l0) (joined run_views (runs_in runs views q t.compacted)), views_same t.l0)
      (ap (λ (l : List SstId). ids_used (views_in views q t.l0) ++ l)
      (used_same run_views run_views (λ k. run_in views p (run_at runs (t.compacted.first + k))) (λ k. run_in views q (run_at runs (t.compacted.first + k))) (held_of t.compacted (length runs / 3)) (λ k. views_same (run_at runs (t.compacted.first + k)).views)))

pub segments_joined : (ss : List Segment) → joined tree_views (segment_trees ss) ≡ joined (λ s. tree_views s.tree) ss
segments_joined [] = refl
segments_joined (s ∷ ss) = ap (λ (l : List View). tree_views s.tree ++ l) (segments_joined ss)

segments_same : (segments runs views p q : List ℕ) (w : Window) → ids_used (joined tree_views (segment_trees (segments_in segments runs views p w))) ≡ ids_used (joined tree_views (segment_trees (segments_in segments runs views q w)))
unfolding segments_in segment_in
segments_same segments runs views p q w =
    rw (segments_joined (segments_in segments runs views p w), segments_joined (segments_in segments runs views q w))
    (used_same (λ s. tree_views s.tree) (λ s. tree_views s.tree) (λ k. segment_in runs views p (segment_at segments (w.first + k))) (λ k. segment_in runs views q (segment_at segments (w.first + k))) (held_of w (length segments / 12)) (λ k. tree_same views p q runs (segment_at segments (w.first + k)).tree))

-- ---- the borrows

pub borrowed_append : (bs cs : List Borrow) (x : SstId) → is_borrowed (bs ++ cs) x ≡ (is_borrowed bs x || is_borrowed cs x)
borrowed_append [] cs x = refl
borrowed_append (b ∷ bs) cs x = ap (λ t. names_of b.ids x || t) (borrowed_append bs cs x) ∙ sym (or_assoc (names_of b.ids x) (is_borrowed bs x) (is_borrowed cs x))

borrows_same : (borrows ids p q : List ℕ) (w : Window) (x : SstId) → is_borrowed (borrows_in borrows ids p w) x ≡ is_borrowed (borrows_in borrows ids q w) x
unfolding borrows_in borrow_in
borrows_same borrows ids p q w x = go (held_of w (length borrows / 9))
  where
    go : (n : ℕ) → is_borrowed (up_to (λ k. borrow_in ids p (borrow_at borrows (w.first + k))) n) x ≡ is_borrowed (up_to (λ k. borrow_in ids q (borrow_at borrows (w.first + k))) n) x
    go zero = refl
    go (suc n) =
        rw (borrowed_append (up_to (λ k. borrow_in ids p (borrow_at borrows (w.first + k))) n) (borrow_in ids p (borrow_at borrows (w.first + n)) ∷ []) x, borrowed_append (up_to (λ k. borrow_in ids q (borrow_at borrows (w.first + k))) n) (borrow_in ids q (borrow_at borrows (w.first + n)) ∷ []) x, go n)

unborrowed_same : (bs cs : List Borrow) → ((x : SstId) → is_borrowed bs x ≡ is_borrowed cs x) → (xs : List SstId) → unborrowed bs xs ≡ unborrowed cs xs
unborrowed_same bs cs h [] = refl
unborrowed_same bs cs h (x ∷ xs) = rw (h x, unborrowed_same bs cs h xs)

-- ---- a manifest

abbrev pub poolless : Lent → Lent
poolless l = record { segments = l.segments; views = l.views; runs = l.runs; borrows = l.borrows; ids = l.ids; pool = [] }

pub owned_poolless : (l : Lent) (m : ManifestRow) → owned_of (manifest_in (poolless l) m) ≡ owned_of (manifest_in l m)
unfolding owned_of manifest_in all_views
owned_poolless l m =
    let t = tree_views (tree_in l.runs l.views [] m.tree) in
    let s = joined tree_views (segment_trees (segments_in l.segments l.runs l.views [] m.segments)) in
    let t' = tree_views (tree_in l.runs l.views l.pool m.tree) in
    let s' = joined tree_views (segment_trees (segments_in l.segments l.runs l.views l.pool m.segments)) in
    let u : ids_used (t ++ s) ≡ ids_used (t' ++ s') =
    used_append t s ∙ ap₂ (λ (a b : List SstId). a ++ b) (tree_same l.views [] l.pool l.runs m.tree) (segments_same l.segments l.runs l.views [] l.pool m.segments) ∙ sym (used_append t' s') in
    unborrowed_same _ _ (borrows_same l.borrows l.ids [] l.pool m.external_dbs) (ids_used (t ++ s))
    ∙ ap (λ (xs : List SstId). unborrowed (borrows_in l.borrows l.ids l.pool m.external_dbs) xs) u
