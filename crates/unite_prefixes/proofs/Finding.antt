-- From words to sources: the shares, the segments and the first overlap that the code finds are those of the used sources. Assumes nothing.
use Prim.Native.Nat.{ℕ, suc, ◌*◌, ◌≤◌, ◌<◌}
use mathlib.Core.Path.{◌≡◌, refl, sym, ap, ◌∙◌}
use mathlib.Core.Bool.{Bool, true, false, not, ◌||◌}
use mathlib.Core.List.{List, [], ◌∷◌, ◌++◌, map}
use native.Mathlib.Omega.{arith}
use lib.ListN.{length}
use Rattle.keys.specs.Pick.{pick}
use Rattle.tables.proofs.Joined.{up_to_length}
use Rattle.records.specs.Model.{Tree, Segment}
use Rattle.records.specs.Row.{place_at}
use Rattle.records.specs.Decode.{Lent, bytes_in, manifest_in}
use Rattle.measure.specs.Within.{tree_views}
use Rattle.segments.specs.Prefixes.{leading}
use Rattle.merge.specs.Merge.{some_of}
use Rattle.unite_ranges.specs.Arranged.{Ranged, arranged, some_overlap, whats}
use Rattle.unite_sources.specs.Used.{ranged_by}
use Rattle.unite_sources.specs.Prefixed.{trees_at, shares_at, segment_of, segments_of, place12_at, all_prefixes}
use Rattle.unite_sources.specs.Rows.{manifest_at_word, source_at_word, places_in, trees_at_in, prefixes_of_all}
use Rattle.unite_sources.proofs.Results.{prefixes_sources}
use Rattle.unite_named.specs.Named.{shares_in, overlap_at, segments_at, tree_tables}

-- ---- "first such place": it is among all exactly if there is one

pub first_some : (f : List ℕ → Bool) (ps : List (List ℕ)) → leading (λ p. not (f p)) ps < length ps → some_of f ps ≡ true
first_some f [] h = absurd (omega arith)
first_some f (p ∷ ps) h = go (f p) h (first_some f ps)
  where
    go : (b : Bool) → pick (not b) (suc (leading (λ q. not (f q)) ps)) 0 < length (p ∷ ps) → (leading (λ q. not (f q)) ps < length ps → some_of f ps ≡ true) → (b || some_of f ps) ≡ true
    go true k i = refl
    go false k i = i (omega arith)

pub first_none : (f : List ℕ → Bool) (ps : List (List ℕ)) → length ps ≤ leading (λ p. not (f p)) ps → some_of f ps ≡ false
first_none f [] h = refl
first_none f (p ∷ ps) h = go (f p) h (first_none f ps)
  where
    go : (b : Bool) → length (p ∷ ps) ≤ pick (not b) (suc (leading (λ q. not (f q)) ps)) 0 → (length ps ≤ leading (λ q. not (f q)) ps → some_of f ps ≡ false) → (b || some_of f ps) ≡ false
    go true k i = absurd (omega arith)
    go false k i = i (omega arith)

pub places_long : (list pool : List ℕ) (n : ℕ) → n ≡ length (places_in list pool n)
unfolding places_in
places_long list pool n = sym (up_to_length (λ i. bytes_in pool (place_at list (i * 2))) n)

-- ---- the used sources

module _ (l : Lent) (t : List ℕ) where
  pub prefixes_are : (ps : List (List ℕ)) (bs : List ℕ) → ps ≡ prefixes_of_all [] l.segments l.pool t bs → ps ≡ all_prefixes (map (source_at_word l t) bs)
  prefixes_are ps bs e = e ∙ prefixes_sources l t bs

  -- trees are read from four of the six tables
  abbrev bare : Lent
  bare = tree_tables l.segments l.views l.runs l.pool

  trees_bare : (p bs : List ℕ) → trees_at_in bare t p bs ≡ trees_at p (map (source_at_word l t) bs)
  unfolding trees_at_in trees_at source_at_word manifest_at_word manifest_in
  trees_bare p [] = refl
  trees_bare p (b ∷ bs) = rw (trees_bare p bs)

  shares_bare : (bs p : List ℕ) → shares_in bare t bs p ≡ shares_at (map (source_at_word l t) bs) p
  unfolding shares_in shares_at
  shares_bare bs p = ap (λ (z : List Tree). arranged (ranged_by tree_views z)) (trees_bare p bs)

  -- "only named segments are joined, per prefix, those with views"
  pub segments_are : (bs : List ℕ) (ps : List (List ℕ)) → segments_at bare t bs ps ≡ segments_of (map (source_at_word l t) bs) ps
  unfolding segments_at segments_of
  segments_are bs [] = refl
  segments_are bs (p ∷ ps) =
      ap (λ (z : List (Ranged Tree)). segment_of p (whats z) ++ segments_at bare t bs ps) (shares_bare bs p)
      ∙ ap (λ (z : List Segment). segment_of p (whats (shares_at (map (source_at_word l t) bs) p)) ++ z) (segments_are bs ps)

  -- "12 | union ranges overlap | .. with an extractor 1 + first such place in the used sources' sorted distinct prefixes"
  pub overlap_is : (bs : List ℕ) (ps : List (List ℕ)) → overlap_at bare t bs ps ≡ place12_at (map (source_at_word l t) bs) ps
  unfolding overlap_at
  overlap_is bs [] = refl
  overlap_is bs (p ∷ ps) =
      ap (λ (z : List (Ranged Tree)). pick (not (some_overlap z)) (suc (overlap_at bare t bs ps)) 0) (shares_bare bs p)
      ∙ ap (λ (n : ℕ). pick (not (some_overlap (shares_at (map (source_at_word l t) bs) p))) (suc n) 0) (overlap_is bs ps)
