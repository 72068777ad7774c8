-- THE RESULT IS LAWFUL: L2 to L5 of the projection of a lawful manifest, and L1 but for its numbers and its keys. Assumes nothing.
use Prim.Native.Nat.{ℕ, suc, ◌+◌, ◌≤◌}
use mathlib.Core.Path.{◌≡◌, refl, sym, ◌∙◌}
use mathlib.Core.Bool.{Bool, true, false}
use mathlib.Core.List.{List, [], ◌∷◌, ◌++◌}
use native.Mathlib.Omega.{arith}
use lib.ListN.{length}
use Rattle.keys.specs.Pick.{pick}
use Rattle.keys.specs.Key.{less_of}
use Rattle.keys.specs.Range.{Edges}
use Rattle.ids.specs.declared.SstId.{SstId}
use Rattle.records.specs.Model.{View, Tree, Segment, Borrow, Manifest}
use Rattle.records.specs.New.{new_tree}
use Rattle.measure.specs.Tests.{all_of, chain, pairs}
use Rattle.measure.specs.Within.{tree_views, tree_runs, all_views, all_runs, ids_used}
use Rattle.measure.proofs.Lists.{all_append}
use Rattle.lawful.specs.Law.{l2_of, apart_of, l3_of, view_lawful, l4_of, run_lawful, l5_of}
use Rattle.lawful.proofs.Pairs.{l2_pairs}
use Rattle.lawful.proofs.Rules.{all_trees}
use Rattle.segments.proofs.Places.{and_both}
use Rattle.prune.specs.Prune.{used_only, kept_borrow, pruned}
use Rattle.project_views.specs.Shown.{tree_shown}
use Rattle.project_views.proofs.Results.{shown_l4, shown_l5}
use Rattle.project_ranges.specs.Config.{Config, is_noop}
use Rattle.project_ranges.specs.Action.{Action, drop, project, pass, action_of}
use Rattle.project_lay.specs.After.{tree_after, segment_after, segments_after}
use Rattle.project_lay.specs.Steps.{stays_by, kept_as}
use Rattle.project_lay.proofs.After.{after_is}
use Rattle.project.specs.Project.{narrowed, with_used, projected_of}

pairs_chain : {A : Type 0} (r : A → A → Bool) (xs : List A) → pairs r xs ≡ true → chain r xs ≡ true
pairs_chain r [] h = refl
pairs_chain r (x ∷ []) h = refl
pairs_chain r (x ∷ y ∷ ys) h =
    let w = and_both (all_of (r x) (y ∷ ys)) (pairs r (y ∷ ys)) h in
    rw ((and_both (r x y) (all_of (r x) ys) w.0).0, pairs_chain r (y ∷ ys) w.1)

-- ---- prefixes: those that are left come in the same order

-- what holds of each prefix
module _ (q : List ℕ → Bool) (c : Config) where
  abbrev each : Segment → Bool
  each s = q s.prefix

  one_left : (a : Action) (s : Segment) → q s.prefix ≡ true → all_of each (segment_after a s) ≡ true
  one_left a s h = rw (after_is a s) (go (stays_by a s.tree))
    where
      go : (b : Bool) → all_of each (pick b (kept_as a s ∷ []) []) ≡ true
      go true = rw h
      go false = refl

  pub prefixes_left : (place : ℕ) (ss : List Segment) → all_of each ss ≡ true → all_of each (segments_after c place ss) ≡ true
  unfolding segments_after
  prefixes_left place [] h = refl
  prefixes_left place (s ∷ ss) h =
      let w = and_both (each s) (all_of each ss) h in
      all_append each (segment_after (action_of c place s.prefix) s) (segments_after c (suc place) ss) ∙ rw (one_left (action_of c place s.prefix) s w.0, prefixes_left (suc place) ss w.1)

-- how each stands to every later one
module _ (q : List ℕ → List ℕ → Bool) (c : Config) where
  abbrev rel : Segment → Segment → Bool
  rel s t = q s.prefix t.prefix

  pub pairs_left : (place : ℕ) (ss : List Segment) → pairs rel ss ≡ true → pairs rel (segments_after c place ss) ≡ true
  unfolding segments_after
  pairs_left place [] h = refl
  pairs_left place (s ∷ ss) h =
      let w = and_both (all_of (rel s) ss) (pairs rel ss) h in
      let a = action_of c place s.prefix in
      rw (after_is a s) (go a (stays_by a s.tree) (prefixes_left (q s.prefix) c (suc place) ss w.0) (pairs_left (suc place) ss w.1))
    where
      go : (a : Action) (b : Bool) → all_of (rel s) (segments_after c (suc place) ss) ≡ true → pairs rel (segments_after c (suc place) ss) ≡ true
          → pairs rel (pick b (kept_as a s ∷ []) [] ++ segments_after c (suc place) ss) ≡ true
      go a true h k = rw (h, k)
      go a false h k = k

-- ---- trees: what holds of a new tree, and of what a good range leaves where it held before, holds of every tree that is left

pub data Good (g : Edges → Type 0) : Action → Type 0 where
  dropped : Good g drop
  shown : {r : Edges} → g r → Good g (project r)
  passed : Good g pass

module _ (p : Tree → Bool) (g : Edges → Type 0) (new : p new_tree ≡ true) (keeps : (r : Edges) (t : Tree) → g r → p t ≡ true → p (tree_shown r t) ≡ true) where
  pub tree_left : {a : Action} → Good g a → (t : Tree) → p t ≡ true → p (tree_after a t) ≡ true
  tree_left dropped t h = new
  tree_left (shown {r} k) t h = keeps r t k h
  tree_left passed t h = h

  one_tree : {a : Action} → Good g a → (s : Segment) → p s.tree ≡ true → all_of (λ x. p x.tree) (segment_after a s) ≡ true
  one_tree {a} k s h = rw (after_is a s) (go (stays_by a s.tree))
    where
      go : (b : Bool) → all_of (λ x. p x.tree) (pick b (kept_as a s ∷ []) []) ≡ true
      go true = rw (tree_left k s.tree h)
      go false = refl

  -- the ranges are good where the prefixes are, at places up to n
  module _ (q : List ℕ → Bool) (c : Config) (n : ℕ) (good : (place : ℕ) (k : List ℕ) → place ≤ n → q k ≡ true → Good g (action_of c place k)) where
    pub trees_left : (place : ℕ) (ss : List Segment) → place + length ss ≤ n + 1 → all_of (λ s. q s.prefix) ss ≡ true → all_of (λ s. p s.tree) ss ≡ true → all_of (λ s. p s.tree) (segments_after c place ss) ≡ true
    unfolding segments_after
    trees_left place [] l i h = refl
    trees_left place (s ∷ ss) l i h =
        let w = and_both (p s.tree) (all_of (λ (x : Segment). p x.tree) ss) h in
        let v = and_both (q s.prefix) (all_of (λ (x : Segment). q x.prefix) ss) i in
        all_append (λ (x : Segment). p x.tree) (segment_after (action_of c place s.prefix) s) (segments_after c (suc place) ss)
        ∙ rw (one_tree (good place s.prefix (omega arith) v.0) s w.0, trees_left (suc place) ss (omega arith) v.1 w.1)

all_any : (ss : List Segment) → all_of (λ (s : Segment). true) ss ≡ true
all_any [] = refl
all_any (s ∷ ss) = all_any ss

-- every range
abbrev Any : Edges → Type 0
Any r = ◌≡◌ {A = ℕ} 0 0

any_good : (a : Action) → Good Any a
any_good drop = dropped
any_good (project r) = shown refl
any_good pass = passed

-- ---- borrows

paths_left : (p : List ℕ → Bool) (us : List SstId) (bs : List Borrow) → all_of (λ b. p b.path) bs ≡ true → all_of (λ b. p b.path) (pruned us bs) ≡ true
unfolding pruned
paths_left p us [] h = refl
paths_left p us (b ∷ bs) h =
    let w = and_both (p b.path) (all_of (λ (x : Borrow). p x.path) bs) h in
    all_append (λ (x : Borrow). p x.path) (kept_borrow b (used_only us b.ids)) (pruned us bs) ∙ rw (go (used_only us b.ids) w.0, paths_left p us bs w.1)
  where
    go : (xs : List SstId) → p b.path ≡ true → all_of (λ (x : Borrow). p x.path) (kept_borrow b xs) ≡ true
    go [] i = refl
    go (x ∷ xs) i = rw i

-- ---- the rules

module _ (c : Config) (m : Manifest) where
  left_l2 : l2_of m ≡ true → l2_of (with_used (narrowed c m)) ≡ true
  unfolding l2_of narrowed with_used
  left_l2 h = pairs_chain (λ s t. less_of s.prefix t.prefix) (segments_after c 1 m.segments) (pairs_left less_of c 1 m.segments (l2_pairs m h))

  left_l3 : l3_of m ≡ true → l3_of (with_used (narrowed c m)) ≡ true
  unfolding l3_of narrowed with_used
  left_l3 h = pairs_left (λ p q. apart_of (record { prefix = p; tree = new_tree }) (record { prefix = q; tree = new_tree })) c 1 m.segments h

  left_l4 : l4_of m ≡ true → l4_of (with_used (narrowed c m)) ≡ true
  unfolding l4_of all_views narrowed with_used
  left_l4 h =
      let p : Tree → Bool = λ t. all_of view_lawful (tree_views t) in
      let w = and_both (p m.tree) (all_of (λ (s : Segment). p s.tree) m.segments) (sym (all_trees view_lawful tree_views m) ∙ h) in
      all_trees view_lawful tree_views (with_used (narrowed c m))
      ∙ rw (tree_left p Any refl (λ r t k i. shown_l4 r t i) (any_good (action_of c 0 [])) m.tree w.0, trees_left p Any refl (λ r t k i. shown_l4 r t i) (λ k. true) c (length m.segments) (λ place k d e. any_good (action_of c place k)) 1 m.segments (omega arith) (all_any m.segments) w.1)

  left_l5 : l5_of m ≡ true → l5_of (with_used (narrowed c m)) ≡ true
  unfolding l5_of all_runs narrowed with_used tree_shown
  left_l5 h =
      let p : Tree → Bool = λ t. all_of run_lawful (tree_runs t) in
      let w = and_both (p m.tree) (all_of (λ (s : Segment). p s.tree) m.segments) (sym (all_trees run_lawful tree_runs m) ∙ h) in
      all_trees run_lawful tree_runs (with_used (narrowed c m))
      ∙ rw (tree_left p Any refl (λ r t k i. shown_l5 r t.runs i) (any_good (action_of c 0 [])) m.tree w.0, trees_left p Any refl (λ r t k i. shown_l5 r t.runs i) (λ k. true) c (length m.segments) (λ place k d e. any_good (action_of c place k)) 1 m.segments (omega arith) (all_any m.segments) w.1)

  -- a copy, or what is left
  either : (p : Manifest → Bool) → p m ≡ true → p (with_used (narrowed c m)) ≡ true → p (projected_of c m) ≡ true
  unfolding projected_of
  either p h k = go (is_noop c)
    where
      go : (b : Bool) → p (pick b m (with_used (narrowed c m))) ≡ true
      go true = h
      go false = k

  pub projected_l2 : l2_of m ≡ true → l2_of (projected_of c m) ≡ true
  projected_l2 h = either l2_of h (left_l2 h)

  pub projected_l3 : l3_of m ≡ true → l3_of (projected_of c m) ≡ true
  projected_l3 h = either l3_of h (left_l3 h)

  pub projected_l4 : l4_of m ≡ true → l4_of (projected_of c m) ≡ true
  projected_l4 h = either l4_of h (left_l4 h)

  pub projected_l5 : l5_of m ≡ true → l5_of (projected_of c m) ≡ true
  projected_l5 h = either l5_of h (left_l5 h)

  -- of L1: the prefixes, and the paths
  pub projected_prefixes : (q : List ℕ → Bool) → all_of (λ s. q s.prefix) m.segments ≡ true → all_of (λ s. q s.prefix) (projected_of c m).segments ≡ true
  unfolding narrowed with_used
  projected_prefixes q h = either (λ (x : Manifest). all_of (λ (s : Segment). q s.prefix) x.segments) h left
    where
      left : all_of (λ (s : Segment). q s.prefix) (with_used (narrowed c m)).segments ≡ true
      left = prefixes_left q c 1 m.segments h

  pub projected_paths : (q : List ℕ → Bool) → all_of (λ b. q b.path) m.borrows ≡ true → all_of (λ b. q b.path) (projected_of c m).borrows ≡ true
  unfolding narrowed with_used
  projected_paths q h = either (λ (x : Manifest). all_of (λ (b : Borrow). q b.path) x.borrows) h left
    where
      left : all_of (λ (b : Borrow). q b.path) (with_used (narrowed c m)).borrows ≡ true
      left = paths_left q (ids_used (all_views (narrowed c m))) m.borrows h

  pub projected_name : (projected_of c m).extractor ≡ m.extractor
  unfolding projected_of narrowed with_used
  projected_name = go (is_noop c)
    where
      go : (b : Bool) → (pick b m (with_used (narrowed c m))).extractor ≡ m.extractor
      go true = refl
      go false = refl

  -- of L1: the keys, where the ranges have good ones
  pub projected_keys : (p : View → Bool) (g : Edges → Type 0) (q : List ℕ → Bool) (n : ℕ) → length m.segments ≤ n → ((r : Edges) (t : Tree) → g r → all_of p (tree_views t) ≡ true → all_of p (tree_views (tree_shown r t)) ≡ true)
      → ((place : ℕ) (k : List ℕ) → place ≤ n → q k ≡ true → Good g (action_of c place k)) → q [] ≡ true → all_of (λ s. q s.prefix) m.segments ≡ true
      → all_of p (all_views m) ≡ true → all_of p (all_views (projected_of c m)) ≡ true
  unfolding all_views narrowed with_used
  projected_keys p g q n l keeps good none i h = either (λ (x : Manifest). all_of p (all_views x)) h left
    where
      left : all_of p (all_views (with_used (narrowed c m))) ≡ true
      left =
          let w = and_both (all_of p (tree_views m.tree)) (all_of (λ (s : Segment). all_of p (tree_views s.tree)) m.segments) (sym (all_trees p tree_views m) ∙ h) in
          all_trees p tree_views (with_used (narrowed c m))
          ∙ rw (tree_left (λ t. all_of p (tree_views t)) g refl keeps (good 0 [] (omega arith) none) m.tree w.0, trees_left (λ t. all_of p (tree_views t)) g refl keeps q c n good 1 m.segments (omega arith) i w.1)
