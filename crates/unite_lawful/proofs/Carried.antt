-- WHAT A UNION CARRIES: what holds of every tree of the used sources, of the new tree, of joined trees where it holds of each, and whatever number the runs
-- have, holds of every tree of the result. Assumes nothing.
use Prim.Native.Nat.{ℕ, ◌+◌, ◌-◌}
use mathlib.Core.Path.{◌≡◌, refl, sym, ap, ◌∙◌}
use mathlib.Core.Bool.{Bool, true, false, ◌&&◌}
use mathlib.Core.List.{List, [], ◌∷◌, ◌++◌}
use lib.ListN.{length}
use Rattle.keys.specs.Pick.{pick}
use Rattle.tables.specs.Layout.{joined}
use Rattle.ids.specs.declared.Uuid.{Uuid}
use Rattle.records.specs.Model.{View, Run, Tree, Segment, Extractor, none, named, trees}
use Rattle.records.specs.New.{new_tree}
use Rattle.measure.specs.Tests.{all_of}
use Rattle.measure.specs.Within.{run_views, tree_views, tree_runs, all_views, all_runs}
use Rattle.measure.proofs.Lists.{all_append, all_both, all_joined}
use Rattle.lawful.proofs.Rules.{all_tree, all_trees}
use Rattle.segments.specs.Lookup.{same_of}
use Rattle.segments.proofs.Places.{and_both}
use Rattle.merge.specs.Merge.{tree_of}
use Rattle.merge.proofs.Keeping.{both_and}
use Rattle.unite_ranges.specs.Arranged.{whats}
use Rattle.unite_trees.specs.Joined.{tree_l0, joined_tree, numbered, numbered_tree, numbered_segments}
use Rattle.unite_sources.specs.Source.{Source, agreed_name}
use Rattle.unite_sources.specs.Used.{own_trees}
use Rattle.unite_sources.specs.Prefixed.{all_prefixes, trees_at, shares_at, segment_of, segments_of}
use Rattle.unite_sources.proofs.Results.{used_all}
use Rattle.unite.specs.United.{tree_united, segments_united, segment_runs, united_from}
use Rattle.unite_lawful.proofs.Lists.{all_on}

-- a test of trees that joining and numbering keep
pub record Carried (test : Tree → Bool) : Type 0 where
  pub new : test new_tree ≡ true
  pub joins : (ts : List Tree) → all_of test ts ≡ true → test (joined_tree ts) ≡ true
  pub numbers : (left : ℕ) (t : Tree) → test t ≡ true → test (numbered_tree left t) ≡ true

module _ (test : Tree → Bool) (c : Carried test) where
  abbrev segment_passes : Segment → Bool
  segment_passes g = test g.tree

  -- every tree of a source passes
  abbrev pub source_passes : Source → Bool
  source_passes s = test s.manifest.tree && all_of segment_passes s.manifest.segments

  own_pass : (us : List Source) → all_of source_passes us ≡ true → all_of test (own_trees us) ≡ true
  unfolding own_trees
  own_pass [] e = refl
  own_pass (s ∷ us) e =
      let w = and_both (source_passes s) (all_of source_passes us) e in
      both_and (and_both (test s.manifest.tree) (all_of segment_passes s.manifest.segments) w.0).0 (own_pass us w.1)

  tree_passes : (p : List ℕ) (ss : List Segment) → all_of segment_passes ss ≡ true → test (tree_of ss p) ≡ true
  unfolding tree_of
  tree_passes p [] e = c.new
  tree_passes p (g ∷ ss) e = let w = and_both (segment_passes g) (all_of segment_passes ss) e in go (same_of g.prefix p) w.0 (tree_passes p ss w.1)
    where
      go : (b : Bool) → test g.tree ≡ true → test (tree_of ss p) ≡ true → test (pick b g.tree (tree_of ss p)) ≡ true
      go true h i = h
      go false h i = i

  trees_pass : (p : List ℕ) (us : List Source) → all_of source_passes us ≡ true → all_of test (trees_at p us) ≡ true
  unfolding trees_at
  trees_pass p [] e = refl
  trees_pass p (s ∷ us) e =
      let w = and_both (source_passes s) (all_of source_passes us) e in
      both_and (tree_passes p s.manifest.segments (and_both (test s.manifest.tree) (all_of segment_passes s.manifest.segments) w.0).1) (trees_pass p us w.1)

  -- "only named segments are joined, per prefix, those with views"
  shares_pass : (us : List Source) (p : List ℕ) → all_of source_passes us ≡ true → all_of test (whats (shares_at us p)) ≡ true
  unfolding shares_at
  shares_pass us p e = used_all test tree_views (trees_at p us) (trees_pass p us e)

  segment_passes_lem : (p : List ℕ) (ts : List Tree) → all_of test ts ≡ true → all_of segment_passes (segment_of p ts) ≡ true
  segment_passes_lem p [] e = refl
  segment_passes_lem p (t ∷ ts) e = both_and (c.joins (t ∷ ts) e) refl

  segments_pass : (us : List Source) → all_of source_passes us ≡ true → (ps : List (List ℕ)) → all_of segment_passes (segments_of us ps) ≡ true
  unfolding segments_of
  segments_pass us e [] = refl
  segments_pass us e (p ∷ ps) =
      all_append segment_passes (segment_of p (whats (shares_at us p))) (segments_of us ps)
      ∙ both_and (segment_passes_lem p (whats (shares_at us p)) (shares_pass us p e)) (segments_pass us e ps)

  numbered_pass : (left : ℕ) (ss : List Segment) → all_of segment_passes ss ≡ true → all_of segment_passes (numbered_segments left ss) ≡ true
  unfolding numbered_segments
  numbered_pass left [] e = refl
  numbered_pass left (g ∷ ss) e =
      let w = and_both (segment_passes g) (all_of segment_passes ss) e in
      both_and (c.numbers left g.tree w.0) (numbered_pass (left - length g.tree.runs) ss w.1)

  tree_united_lem : (name : Extractor) (us : List Source) → all_of source_passes us ≡ true → test (tree_united name us) ≡ true
  tree_united_lem none us e = c.joins (own_trees us) (own_pass us e)
  tree_united_lem (named k) us e = c.new

  segments_united_lem : (name : Extractor) (us : List Source) → all_of source_passes us ≡ true → all_of segment_passes (segments_united name us) ≡ true
  segments_united_lem none us e = refl
  segments_united_lem (named k) us e = segments_pass us e (all_prefixes us)

  pub carried : (ss us : List Source) (fresh : List Uuid) → all_of source_passes us ≡ true
      → (test (united_from ss us fresh).tree ≡ true) × (all_of (λ (g : Segment). test g.tree) (united_from ss us fresh).segments ≡ true)
  unfolding united_from
  carried ss us fresh e =
      let t = tree_united (agreed_name ss) us in
      let gs = segments_united (agreed_name ss) us in (
        c.numbers (length t.runs + segment_runs gs) t (tree_united_lem (agreed_name ss) us e),
        numbered_pass (segment_runs gs) gs (segments_united_lem (agreed_name ss) us e),
      )

-- ---- what a tree holds: each of some things of it passes

module _ {A : Type 0} (test : A → Bool) (parts : Tree → List A) (c : Carried (λ t. all_of test (parts t))) where
  pub parts_carried : (ss us : List Source) (fresh : List Uuid) → all_of (λ (s : Source). all_of test (joined parts (trees s.manifest))) us ≡ true
      → all_of test (joined parts (trees (united_from ss us fresh))) ≡ true
  parts_carried ss us fresh e =
      let f : Tree → Bool = λ t. all_of test (parts t) in
      let w = carried f c ss us fresh (all_on (λ (s : Source). all_of test (joined parts (trees s.manifest))) (source_passes f c) (λ s h. sym (all_trees test parts s.manifest) ∙ h) us e) in
      all_trees test parts (united_from ss us fresh) ∙ both_and w.0 w.1

-- ---- views

module _ (test : View → Bool) where
  views_joined : (ts : List Tree) → all_of (λ t. all_of test (tree_views t)) ts ≡ true → all_of test (tree_views (joined_tree ts)) ≡ true
  unfolding joined_tree
  views_joined ts e =
      let low : Tree → Bool = λ t. all_of test t.l0 in
      let high : Tree → Bool = λ t. all_of (λ (r : Run). all_of test (run_views r)) t.runs in
      let w = and_both (all_of low ts) (all_of high ts) (sym (all_both low high ts) ∙ all_on (λ t. all_of test (tree_views t)) (λ t. low t && high t) (λ t h. sym (all_tree test t) ∙ h) ts e) in
      all_tree test (joined_tree ts)
      ∙ both_and (all_joined test tree_l0 ts ∙ w.0) (all_joined (λ (r : Run). all_of test (run_views r)) tree_runs ts ∙ w.1)

  views_numbered : (left : ℕ) (rs : List Run) → joined run_views (numbered left rs) ≡ joined run_views rs
  unfolding numbered
  views_numbered left [] = refl
  views_numbered left (r ∷ rs) = ap (λ (l : List View). r.views ++ l) (views_numbered (left - 1) rs)

  views_kept : Carried (λ t. all_of test (tree_views t))
  unfolding numbered_tree
  views_kept = record { new = refl; joins = views_joined; numbers = λ left t h. rw (views_numbered left t.runs) h }

  -- each view of the result is one of a used source
  pub views_carried : (ss us : List Source) (fresh : List Uuid) → all_of (λ (s : Source). all_of test (all_views s.manifest)) us ≡ true → all_of test (all_views (united_from ss us fresh)) ≡ true
  unfolding all_views
  views_carried ss us fresh e = parts_carried test tree_views views_kept ss us fresh e

-- ---- runs, by their views: a run has a new number

module _ (test : List View → Bool) where
  abbrev pub run_passes : Run → Bool
  run_passes r = test r.views

  runs_numbered : (left : ℕ) (rs : List Run) → all_of run_passes (numbered left rs) ≡ all_of run_passes rs
  unfolding numbered
  runs_numbered left [] = refl
  runs_numbered left (r ∷ rs) = rw (runs_numbered (left - 1) rs)

  runs_kept : Carried (λ t. all_of run_passes (tree_runs t))
  unfolding numbered_tree joined_tree
  runs_kept =
      record {
        new = refl;
        joins = λ ts e. all_joined run_passes tree_runs ts ∙ e;
        numbers = λ left t h. runs_numbered left t.runs ∙ h;
      }

  -- each run of the result has the views of a run of a used source
  pub runs_carried : (ss us : List Source) (fresh : List Uuid) → all_of (λ (s : Source). all_of run_passes (all_runs s.manifest)) us ≡ true → all_of run_passes (all_runs (united_from ss us fresh)) ≡ true
  unfolding all_runs
  runs_carried ss us fresh e = parts_carried run_passes tree_runs runs_kept ss us fresh e
