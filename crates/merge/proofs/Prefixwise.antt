-- Both merges walk the two lists once: what the lowest prefix gives, then what is left. Assumes nothing.
use Prim.Native.Nat.{ℕ}
use mathlib.Core.Path.{◌≡◌, refl, ◌∙◌}
use mathlib.Core.Bool.{Bool, true, false}
use mathlib.Core.List.{List, [], ◌∷◌, ◌++◌}
use Rattle.keys.specs.Pick.{pick}
use Rattle.keys.specs.Key.{Below, less_of}
use Rattle.keys.proofs.Says.{true_says}
use Rattle.keys.proofs.ByteOrder.{says_less}
use Rattle.records.specs.Model.{Tree, Segment}
use Rattle.records.specs.New.{new_tree}
use Rattle.segments.specs.Prefixes.{prefixes}
use Rattle.segments.specs.Lookup.{same_of}
use Rattle.merge.specs.Tree.{tree_merge, is_empty}
use Rattle.merge.specs.Merge.{tree_of, has_prefix, merged_all, from_writer, refuses6, place6, among, either_of, filled, from_compactor}
use Rattle.merge.proofs.Ascending.{Above, above_other, below_other, not_less, itself, not_itself}

-- ---- the tree of a prefix
pub tree_absent : {p : List ℕ} (ss : List Segment) → Above p (prefixes ss) → tree_of ss p ≡ new_tree
unfolding tree_of
tree_absent [] a = refl
tree_absent {p} (s ∷ ss) (Above.more h a) = rw (below_other h) (tree_absent ss a)

pub tree_here : (s : Segment) (ss : List Segment) → tree_of (s ∷ ss) s.prefix ≡ s.tree
unfolding tree_of
tree_here s ss = rw (itself s.prefix)

tree_past : {p : List ℕ} (s : Segment) (ss : List Segment) → Below s.prefix p → tree_of (s ∷ ss) p ≡ tree_of ss p
unfolding tree_of
tree_past s ss h = rw (above_other h)

-- a segment below all prefixes gives none of them its tree
module _ (ws cs : List Segment) (s : Segment) where
  past_writer : (ps : List (List ℕ)) → Above s.prefix ps → merged_all (s ∷ ws) cs ps ≡ merged_all ws cs ps
  past_writer [] a = refl
  past_writer (p ∷ ps) (Above.more h a) = rw (tree_past s ws h, past_writer ps a)

  past_compactor : (ps : List (List ℕ)) → Above s.prefix ps → merged_all ws (s ∷ cs) ps ≡ merged_all ws cs ps
  past_compactor [] a = refl
  past_compactor (p ∷ ps) (Above.more h a) = rw (tree_past s cs h, past_compactor ps a)

-- ---- prefixes of either side
pub above_among : {p q : List ℕ} (ps : List (List ℕ)) → Below p q → Above p ps → Above p (among q ps)
above_among [] h a = Above.more h Above.none
above_among {p} {q} (r ∷ ps) h (Above.more k a) = go (less_of q r) (same_of q r) (above_among ps h a)
  where
    go : (b d : Bool) → Above p (among q ps) → Above p (pick b (q ∷ r ∷ ps) (pick d (r ∷ ps) (r ∷ among q ps)))
    go true d i = Above.more h (Above.more k a)
    go false true i = Above.more k a
    go false false i = Above.more k i

pub above_either : {p : List ℕ} (ps qs : List (List ℕ)) → Above p ps → Above p qs → Above p (either_of ps qs)
unfolding either_of
above_either ps [] a b = a
above_either ps (q ∷ qs) a (Above.more h b) = above_among (either_of ps qs) h (above_either ps qs a b)

-- the lowest prefix is the first's, the second's, or both
pub either_first : (p : List ℕ) (ps qs : List (List ℕ)) → Above p qs → either_of (p ∷ ps) qs ≡ p ∷ either_of ps qs
unfolding either_of
either_first p ps [] a = refl
either_first p ps (q ∷ qs) (Above.more h a) = rw (either_first p ps qs a, not_less h, below_other h)

pub either_both : (p q : List ℕ) (ps qs : List (List ℕ)) → q ≡ p → Above p qs → either_of (p ∷ ps) (q ∷ qs) ≡ p ∷ either_of ps qs
unfolding either_of
either_both p q ps qs e a = rw (e, either_first p ps qs a, not_itself p, itself p)

pub either_second : (q : List ℕ) (ps qs : List (List ℕ)) → Above q ps → Above q qs → either_of ps (q ∷ qs) ≡ q ∷ either_of ps qs
unfolding either_of
either_second q ps qs a b = go (either_of ps qs) (above_either ps qs a b)
  where
    go : (rs : List (List ℕ)) → Above q rs → among q rs ≡ q ∷ rs
    go [] a = refl
    go (r ∷ rs) (Above.more h a) = rw (true_says (says_less q r) h)

filled_first : (s : Segment) (ss : List Segment) → filled (s ∷ ss) ≡ filled (s ∷ []) ++ filled ss
filled_first s ss = go (is_empty s.tree)
  where
    go : (b : Bool) → pick b (filled ss) (s ∷ filled ss) ≡ pick b [] (s ∷ []) ++ filled ss
    go true = refl
    go false = refl

-- ---- the segment of a prefix
abbrev pub segment_of : List ℕ → Tree → Tree → Segment
segment_of p w c = record { prefix = p; tree = tree_merge w c }

module _ (w : Segment) (ws cs : List Segment) (a : Above w.prefix (prefixes ws)) (b : Above w.prefix (prefixes cs)) where
  pub writer_first : from_writer (w ∷ ws) cs ≡ segment_of w.prefix w.tree new_tree ∷ from_writer ws cs
  unfolding from_writer
  writer_first = rw (tree_here w ws, tree_absent cs b, past_writer ws cs w (prefixes ws) a)

  pub compactor_first : from_compactor (w ∷ ws) cs ≡ filled (segment_of w.prefix w.tree new_tree ∷ []) ++ from_compactor ws cs
  unfolding from_compactor
  compactor_first =
      rw (either_first w.prefix (prefixes ws) (prefixes cs) b, tree_here w ws, tree_absent cs b, past_writer ws cs w (either_of (prefixes ws) (prefixes cs)) (above_either (prefixes ws) (prefixes cs) a b))
      (filled_first (segment_of w.prefix w.tree new_tree) (merged_all ws cs (either_of (prefixes ws) (prefixes cs))))

module _ (w c : Segment) (ws cs : List Segment) (e : c.prefix ≡ w.prefix) (a : Above w.prefix (prefixes ws)) (b : Above w.prefix (prefixes cs)) where
  compactor_here : tree_of (c ∷ cs) w.prefix ≡ c.tree
  compactor_here = rw (← e) (tree_here c cs)

  past_both : (ps : List (List ℕ)) → Above w.prefix ps → merged_all (w ∷ ws) (c ∷ cs) ps ≡ merged_all ws cs ps
  past_both ps o = past_writer ws (c ∷ cs) w ps o ∙ past_compactor ws cs c ps (rw e o)

  pub writer_both : from_writer (w ∷ ws) (c ∷ cs) ≡ segment_of w.prefix w.tree c.tree ∷ from_writer ws cs
  unfolding from_writer
  writer_both = rw (tree_here w ws, compactor_here, past_both (prefixes ws) a)

  pub compactor_both : from_compactor (w ∷ ws) (c ∷ cs) ≡ filled (segment_of w.prefix w.tree c.tree ∷ []) ++ from_compactor ws cs
  unfolding from_compactor
  compactor_both =
      rw (either_both w.prefix c.prefix (prefixes ws) (prefixes cs) e b, tree_here w ws, compactor_here, past_both (either_of (prefixes ws) (prefixes cs)) (above_either (prefixes ws) (prefixes cs) a b))
      (filled_first (segment_of w.prefix w.tree c.tree) (merged_all ws cs (either_of (prefixes ws) (prefixes cs))))

module _ (c : Segment) (ws cs : List Segment) (a : Above c.prefix (prefixes ws)) where
  pub writer_skip : from_writer ws (c ∷ cs) ≡ from_writer ws cs
  unfolding from_writer
  writer_skip = past_compactor ws cs c (prefixes ws) a

  pub compactor_second : Above c.prefix (prefixes cs) → from_compactor ws (c ∷ cs) ≡ filled (segment_of c.prefix new_tree c.tree ∷ []) ++ from_compactor ws cs
  unfolding from_compactor
  compactor_second b =
      rw (either_second c.prefix (prefixes ws) (prefixes cs) a b, tree_absent ws a, tree_here c cs, past_compactor ws cs c (either_of (prefixes ws) (prefixes cs)) (above_either (prefixes ws) (prefixes cs) a b))
      (filled_first (segment_of c.prefix new_tree c.tree) (merged_all ws cs (either_of (prefixes ws) (prefixes cs))))

-- ---- refusal 6
pub has_absent : {p : List ℕ} (ss : List Segment) → Above p (prefixes ss) → has_prefix ss p ≡ false
unfolding has_prefix
has_absent [] a = refl
has_absent (s ∷ ss) (Above.more h a) = rw (below_other h) (has_absent ss a)

-- a writer's segment below all the compactor's says nothing of them
pub only_past : (w : Segment) (ws cs : List Segment) → Above w.prefix (prefixes cs) → (refuses6 (w ∷ ws) cs ≡ refuses6 ws cs) × (place6 (w ∷ ws) cs ≡ place6 ws cs)
unfolding has_prefix
only_past w ws [] a = (refl, refl)
only_past w ws (c ∷ cs) (Above.more h a) = let i = only_past w ws cs a in (rw (above_other h, i.0), rw (above_other h, i.1))
