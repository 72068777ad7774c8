-- The segment of one prefix as the code finds it, and those of all; what they fill. Assumes nothing.
use Rattle.std.specs.Prelude.{None, Option, Some}
use Prim.Native.Nat.{ℕ, ◌*◌}
use mathlib.Core.Path.{◌≡◌, refl, sym, ap, ◌∙◌}
use mathlib.Core.Bool.{Bool, true}
use mathlib.Core.List.{List, [], ◌∷◌, ◌++◌, map}
use native.Mathlib.Omega.{arith}
use lib.ListN.{length}
use Rattle.tables.specs.Layout.{up_to, joined}
use Rattle.tables.proofs.Joined.{up_to_length}
use Rattle.records.specs.Model.{Tree, Segment}
use Rattle.records.specs.Row.{place_at, tree_at}
use Rattle.records.specs.Decode.{Lent, bytes_in, tree_in}
use Rattle.records.specs.Fill.{plus, sum, fits, tree_fill, segment_fill}
use Rattle.records.specs.declared.Fill.{Fill}
use Rattle.records.specs.declared.Place.{Place}
use Rattle.records.proofs.Sums.{fill_same, plus_empty}
use Rattle.measure.specs.Within.{tree_views}
use Rattle.measure.specs.Walk.{add_of}
use Rattle.project_views.proofs.Many.{all, sum_many}
use Rattle.project_views.proofs.Summed.{added_none, added_broken, added_on}
use Rattle.unite_ranges.specs.Arranged.{Ranged, arranged, some_overlap, whats}
use Rattle.unite_ranges.specs.Rows.{ranged_in}
use Rattle.unite_ranges.proofs.Mapped.{renamed, overlap_renamed, whats_renamed}
use Rattle.unite_trees.specs.Rows.{trees_in}
use Rattle.unite_trees.specs.Steps.{tree_of}
use Rattle.unite_trees.proofs.Parts.{all_joined, trees_named}
use Rattle.unite_sources.specs.Used.{ranged_by}
use Rattle.unite_sources.specs.Prefixed.{segment_of}
use Rattle.unite_sources.specs.Rows.{begins, places_in, trees_at_in, ranged_trees}
use Rattle.unite_named.specs.Named.{shares_in, segments_at, tree_tables}
use Rattle.unite_named.specs.Steps.{prefix_in, piece_at, piece_in, joined_as}

-- ---- the shares of a prefix, where the code holds the words at which they begin

trees_renamed : (segments views runs pool : List ℕ) (xs : List (Ranged ℕ))
    → ranged_trees (tree_tables segments views runs pool) xs ≡ map (renamed (λ w. tree_in runs views pool (tree_at segments w))) xs
unfolding ranged_trees
trees_renamed segments views runs pool [] = refl
trees_renamed segments views runs pool (x ∷ xs) =
    ap (λ (ys : List (Ranged Tree)). record { what = tree_in runs views pool (tree_at segments x.what); range = x.range } ∷ ys) (trees_renamed segments views runs pool xs)

some_one : (p : List ℕ) (ts : List Tree) (m : ℕ) → length ts ≡ m → (m ≡ 0 → ⊥) → segment_of p ts ≡ joined_as p ts ∷ []
some_one p [] m e h = absurd (h (sym e))
some_one p (t ∷ ts) m e h = refl

module _ (segments views runs pool t bs p rows : List ℕ) (m : ℕ)
    (e : ranged_trees (tree_tables segments views runs pool) (ranged_in pool rows m) ≡ arranged (ranged_by tree_views (trees_at_in (tree_tables segments views runs pool) t p bs))) where
  abbrev read : ℕ → Tree
  read w = tree_in runs views pool (tree_at segments w)

  shares_are : shares_in (tree_tables segments views runs pool) t bs p ≡ map (renamed read) (ranged_in pool rows m)
  unfolding shares_in
  shares_are = sym e ∙ trees_renamed segments views runs pool (ranged_in pool rows m)

  -- an overlap of the words' ranges is one of the trees'
  overlap_is : (b : Bool) → b ≡ some_overlap (ranged_in pool rows m) → b ≡ some_overlap (shares_in (tree_tables segments views runs pool) t bs p)
  overlap_is b h = h ∙ sym (ap some_overlap shares_are ∙ overlap_renamed read (ranged_in pool rows m))

  trees_are : whats (shares_in (tree_tables segments views runs pool) t bs p) ≡ trees_in segments rows m runs views pool
  trees_are = ap whats shares_are ∙ whats_renamed read (ranged_in pool rows m) ∙ sym (trees_named segments rows m runs views pool)

  trees_count : length (trees_in segments rows m runs views pool) ≡ m
  unfolding trees_in
  trees_count = up_to_length (tree_of segments rows runs views pool) m

  piece_none : m ≡ 0 → piece_at (tree_tables segments views runs pool) t bs p ≡ []
  unfolding piece_at trees_in
  piece_none h = ap (segment_of p) trees_are ∙ rw h

  piece_some : (m ≡ 0 → ⊥) → piece_at (tree_tables segments views runs pool) t bs p ≡ joined_as p (trees_in segments rows m runs views pool) ∷ []
  unfolding piece_at
  piece_some h = ap (segment_of p) trees_are ∙ some_one p (trees_in segments rows m runs views pool) m trees_count h

-- the same of prefix i of a list of places
module _ (segments views runs pool t order : List ℕ) (n : ℕ) (prefixes : List ℕ) (i : ℕ) (z : Place) (k : z ≡ place_at prefixes (i * 2)) (rows : List ℕ) (m : ℕ)
    (e : ranged_trees (tree_tables segments views runs pool) (ranged_in pool rows m) ≡ arranged (ranged_by tree_views (trees_at_in (tree_tables segments views runs pool) t (bytes_in pool z) (begins order n)))) where
  pub overlap_at_lem : (b : Bool) → b ≡ some_overlap (ranged_in pool rows m) → b ≡ some_overlap (shares_in (tree_tables segments views runs pool) t (begins order n) (prefix_in prefixes pool i))
  overlap_at_lem b h =
      overlap_is segments views runs pool t (begins order n) (bytes_in pool z) rows m e b h
      ∙ ap (λ (y : Place). some_overlap (shares_in (tree_tables segments views runs pool) t (begins order n) (bytes_in pool y))) k

  piece_there : piece_at (tree_tables segments views runs pool) t (begins order n) (bytes_in pool z) ≡ piece_in segments views runs pool t order n prefixes i
  piece_there = ap (λ (y : Place). piece_at (tree_tables segments views runs pool) t (begins order n) (bytes_in pool y)) k

  pub piece_empty : m ≡ 0 → piece_in segments views runs pool t order n prefixes i ≡ []
  piece_empty h = sym piece_there ∙ piece_none segments views runs pool t (begins order n) (bytes_in pool z) rows m e h

  pub piece_one : (m ≡ 0 → ⊥) → piece_in segments views runs pool t order n prefixes i ≡ joined_as (bytes_in pool z) (trees_in segments rows m runs views pool) ∷ []
  piece_one h = sym piece_there ∙ piece_some segments views runs pool t (begins order n) (bytes_in pool z) rows m e h

-- ---- those of all prefixes

segments_joined : (l : Lent) (t bs : List ℕ) (ps : List (List ℕ)) → segments_at l t bs ps ≡ joined (piece_at l t bs) ps
unfolding segments_at piece_at
segments_joined l t bs [] = refl
segments_joined l t bs (p ∷ ps) = ap (λ (ss : List Segment). segment_of p (whats (shares_in l t bs p)) ++ ss) (segments_joined l t bs ps)

pub pieces_all : (segments views runs pool sources order : List ℕ) (n : ℕ) (prefixes : List ℕ) (np : ℕ)
    → all (up_to (piece_in segments views runs pool sources order n prefixes) np) ≡ segments_at (tree_tables segments views runs pool) sources (begins order n) (places_in prefixes pool np)
unfolding places_in
pieces_all segments views runs pool sources order n prefixes np =
    all_joined (piece_at (tree_tables segments views runs pool) sources (begins order n)) (prefix_in prefixes pool) np
    ∙ sym (segments_joined (tree_tables segments views runs pool) sources (begins order n) (up_to (prefix_in prefixes pool) np))

pub pieces_sum : (segments views runs pool sources order : List ℕ) (n : ℕ) (prefixes : List ℕ) (np : ℕ)
    → sum (sum segment_fill) (up_to (piece_in segments views runs pool sources order n prefixes) np)
    ≡ sum segment_fill (segments_at (tree_tables segments views runs pool) sources (begins order n) (places_in prefixes pool np))
pieces_sum segments views runs pool sources order n prefixes np =
    sum_many segment_fill (up_to (piece_in segments views runs pool sources order n prefixes) np)
    ∙ ap (sum segment_fill) (pieces_all segments views runs pool sources order n prefixes np)

-- ---- a segment added: its tree, then its row and its prefix

module _ (most c : Fill) (s : Segment) (u : Option Fill) (p : u ≡ add_of most c (tree_fill s.tree)) where
  abbrev front : ℕ → Fill
  front n = record { segments = 1; views = 0; runs = 0; borrows = 0; ids = 0; bytes = n }

  parts : plus (tree_fill s.tree) (front (length s.prefix)) ≡ segment_fill s
  unfolding segment_fill
  parts = fill_same (omega arith)

  pub segment_broken : u ≡ None → None ≡ add_of most c (segment_fill s)
  segment_broken k = added_broken most c (tree_fill s.tree) (front (length s.prefix)) (segment_fill s) parts u p k

  pub segment_added : (d : Fill) (k : List ℕ) (q : Option Fill) → u ≡ Some d → k ≡ s.prefix → q ≡ add_of most d (front (length k)) → q ≡ add_of most c (segment_fill s)
  segment_added d k q g i j =
      added_on most c (tree_fill s.tree) (front (length s.prefix)) (segment_fill s) parts u d q p g (j ∙ ap (λ (l : List ℕ). add_of most d (front (length l))) i)

module _ (most c : Fill) (xs : List Segment) where
  pub added_nothing : fits c most ≡ true → xs ≡ [] → Some c ≡ add_of most c (sum segment_fill xs)
  added_nothing h e = added_none most c h ∙ sym (ap (λ (l : List Segment). add_of most c (sum segment_fill l)) e)

  pub added_one : (s : Segment) (q : Option Fill) → xs ≡ s ∷ [] → q ≡ add_of most c (segment_fill s) → q ≡ add_of most c (sum segment_fill xs)
  added_one s q e h = h ∙ ap (add_of most c) (sym (plus_empty (segment_fill s))) ∙ sym (ap (λ (l : List Segment). add_of most c (sum segment_fill l)) e)
