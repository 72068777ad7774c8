-- THE MERGED LISTS ARE LAWFUL: L2 to L5 of both results, for lawful lists. Assumes nothing.
use Prim.Native.Nat.{ℕ}
use mathlib.Core.Path.{◌≡◌, refl, sym, ap, ◌∙◌}
use mathlib.Core.Bool.{Bool, true, false, not, ◌&&◌, ◌||◌}
use mathlib.Core.List.{List, [], ◌∷◌}
use native.Mathlib.Omega.{arith}
use Rattle.keys.specs.Pick.{pick}
use Rattle.keys.specs.Key.{Below, is_less, less_of, is_equal}
use Rattle.keys.specs.Prefix.{Bytes, Begins, begins_of}
use Rattle.std.specs.declared.cmp.Ordering.{Ordering}
use Rattle.keys.proofs.Says.{says_not, true_says, says_false}
use Rattle.keys.proofs.ByteOrder.{Stand, stand, below_trans, up, not_both}
use Rattle.keys.proofs.Prefixes.{begins_up_to, begins_under, begins_between, up_to_under, says_begins}
use Rattle.tables.specs.Layout.{joined}
use Rattle.records.specs.Model.{Tree, Segment, Manifest}
use Rattle.records.specs.New.{new_tree}
use Rattle.measure.specs.Tests.{all_of, chain, pairs}
use Rattle.measure.specs.Within.{run_views, tree_views, tree_runs, all_views, all_runs}
use Rattle.measure.proofs.Lists.{all_append}
use Rattle.lawful.specs.Law.{l2_of, apart_of, l3_of, view_lawful, l4_of, run_lawful, l5_of}
use Rattle.lawful.proofs.Rules.{all_trees}
use Rattle.segments.specs.Prefixes.{prefixes}
use Rattle.segments.specs.Lookup.{same_of}
use Rattle.segments.specs.Insert.{with_segments}
use Rattle.segments.proofs.Places.{and_both}
use Rattle.segments.proofs.Demand3.{chain_prefixes, pairs_prefixes}
use Rattle.merge.specs.Tree.{absorbed, tree_merge, is_empty}
use Rattle.merge.specs.Merge.{tree_of, merged_all, from_writer, some_of, among, either_of, filled, from_compactor, nests, refuses7}
use Rattle.merge.proofs.Ascending.{Above, Ascending, above_on, ascending_of, ascending_chain}
use Rattle.merge.proofs.Prefixwise.{above_among}
use Rattle.merge.proofs.Keeping.{both_and, all_until}

-- ---- prefixes of either side: ascending, and exactly those of either
among_ascends : (q : List ℕ) (ps : List (List ℕ)) → Ascending ps → Ascending (among q ps)
among_ascends q [] a = Ascending.more Above.none Ascending.none
among_ascends q (p ∷ ps) (Ascending.more a s) = go (stand q p) (among_ascends q ps s)
  where
    go : {o : Ordering} → Stand q p o → Ascending (among q ps) → Ascending (pick (is_less o) (q ∷ p ∷ ps) (pick (is_equal o) (p ∷ ps) (p ∷ among q ps)))
    go (Stand.less h) i = Ascending.more (Above.more h (above_on h a)) (Ascending.more a s)
    go (Stand.same e) i = Ascending.more a s
    go (Stand.more h) i = Ascending.more (above_among ps h a) i

either_ascending : (ps qs : List (List ℕ)) → Ascending ps → Ascending (either_of ps qs)
unfolding either_of
either_ascending ps [] a = a
either_ascending ps (q ∷ qs) a = among_ascends q (either_of ps qs) (either_ascending ps qs a)

-- "prefixes of either side", strictly ascending as L2 asks
pub either_ascends : (ps qs : List (List ℕ)) → chain less_of ps ≡ true → chain less_of (either_of ps qs) ≡ true
either_ascends ps qs e = ascending_chain (either_of ps qs) (either_ascending ps qs (ascending_of ps e))

or_once : (a b : Bool) → (a || b) ≡ (a || (a || b))
or_once true b = refl
or_once false b = refl

or_swap : (a b c : Bool) → (a || (b || c)) ≡ (b || (a || c))
or_swap true true c = refl
or_swap true false c = refl
or_swap false b c = refl

among_some : (f : List ℕ → Bool) (q : List ℕ) (ps : List (List ℕ)) → some_of f (among q ps) ≡ (f q || some_of f ps)
among_some f q [] = refl
among_some f q (p ∷ ps) = go (stand q p) (among_some f q ps)
  where
    go : {o : Ordering} → Stand q p o → some_of f (among q ps) ≡ (f q || some_of f ps)
        → some_of f (pick (is_less o) (q ∷ p ∷ ps) (pick (is_equal o) (p ∷ ps) (p ∷ among q ps))) ≡ (f q || (f p || some_of f ps))
    go (Stand.less h) i = refl
    go (Stand.same e) i = rw e (or_once (f p) (some_of f ps))
    go (Stand.more h) i = ap (λ b. f p || b) i ∙ or_swap (f p) (f q) (some_of f ps)

either_some : (f : List ℕ → Bool) (ps qs : List (List ℕ)) → some_of f (either_of ps qs) ≡ (some_of f ps || some_of f qs)
unfolding either_of
either_some f ps [] = or_false (some_of f ps)
  where
    or_false : (b : Bool) → b ≡ (b || false)
    or_false true = refl
    or_false false = refl
either_some f ps (q ∷ qs) = among_some f q (either_of ps qs) ∙ ap (λ b. f q || b) (either_some f ps qs) ∙ or_swap (f q) (some_of f ps) (some_of f qs)

-- "prefixes of either side": those of the one or of the other, and no more
pub either_holds : (p : List ℕ) (ps qs : List (List ℕ)) → some_of (λ q. same_of q p) (either_of ps qs) ≡ (some_of (λ q. same_of q p) ps || some_of (λ q. same_of q p) qs)
either_holds p ps qs = either_some (λ q. same_of q p) ps qs

-- ---- what a list of segments keeps of the rules
pub record ListLawful (ss : List Segment) : Type 0 where
  pub second : chain (λ s t. less_of s.prefix t.prefix) ss ≡ true
  pub third : pairs apart_of ss ≡ true
  pub fourth : all_of (λ s. all_of view_lawful (tree_views s.tree)) ss ≡ true
  pub fifth : all_of (λ s. all_of run_lawful (tree_runs s.tree)) ss ≡ true

-- the segments of a manifest that keeps the rules
pub list_of : (m : Manifest) → l2_of m ≡ true → l3_of m ≡ true → l4_of m ≡ true → l5_of m ≡ true → ListLawful m.segments
unfolding l2_of l3_of l4_of l5_of all_views all_runs
list_of m a b c d =
    record {
      second = a;
      third = b;
      fourth = (and_both (all_of view_lawful (tree_views m.tree)) (all_of (λ s. all_of view_lawful (tree_views s.tree)) m.segments) (sym (all_trees view_lawful tree_views m) ∙ c)).1;
      fifth = (and_both (all_of run_lawful (tree_runs m.tree)) (all_of (λ s. all_of run_lawful (tree_runs s.tree)) m.segments) (sym (all_trees run_lawful tree_runs m) ∙ d)).1;
    }

-- put into a manifest that keeps L4 and L5, such a list makes one that keeps L2 to L5
pub list_in : (m : Manifest) (ss : List Segment) → l4_of m ≡ true → l5_of m ≡ true → ListLawful ss
    → (l2_of (with_segments m ss) ≡ true) × (l3_of (with_segments m ss) ≡ true) × (l4_of (with_segments m ss) ≡ true) × (l5_of (with_segments m ss) ≡ true)
unfolding l2_of l3_of l4_of l5_of all_views all_runs
list_in m ss c d x = (
  x.second,
  x.third,
  all_trees view_lawful tree_views (with_segments m ss)
      ∙ both_and (and_both (all_of view_lawful (tree_views m.tree)) (all_of (λ s. all_of view_lawful (tree_views s.tree)) m.segments) (sym (all_trees view_lawful tree_views m) ∙ c)).0 x.fourth,
  all_trees run_lawful tree_runs (with_segments m ss)
      ∙ both_and (and_both (all_of run_lawful (tree_runs m.tree)) (all_of (λ s. all_of run_lawful (tree_runs s.tree)) m.segments) (sym (all_trees run_lawful tree_runs m) ∙ d)).0 x.fifth,
)

-- ---- L4 and L5: a merged tree has the writer's views and the compactor's runs
module _ (ws cs : List Segment) where
  tree_all : (f : Tree → Bool) (ss : List Segment) → f new_tree ≡ true → all_of (λ s. f s.tree) ss ≡ true → (p : List ℕ) → f (tree_of ss p) ≡ true
  unfolding tree_of
  tree_all f [] n e p = n
  tree_all f (s ∷ ss) n e p = let w = and_both (f s.tree) (all_of (λ s. f s.tree) ss) e in go (same_of s.prefix p) w.0 (tree_all f ss n w.1 p)
    where
      go : (b : Bool) → f s.tree ≡ true → f (tree_of ss p) ≡ true → f (pick b s.tree (tree_of ss p)) ≡ true
      go true h i = h
      go false h i = i

  merged_all_lem : (f : Tree → Bool) → ((p : List ℕ) → f (tree_merge (tree_of ws p) (tree_of cs p)) ≡ true) → (ps : List (List ℕ)) → all_of (λ s. f s.tree) (merged_all ws cs ps) ≡ true
  merged_all_lem f h [] = refl
  merged_all_lem f h (p ∷ ps) = both_and (h p) (merged_all_lem f h ps)

  views_merge : (w c : Tree) → all_of view_lawful (tree_views w) ≡ true → all_of view_lawful (tree_views c) ≡ true → all_of view_lawful (tree_views (tree_merge w c)) ≡ true
  unfolding tree_merge
  views_merge w c a b =
      let x = and_both (all_of view_lawful w.l0) (all_of view_lawful (joined run_views w.runs)) (sym (all_append view_lawful w.l0 (joined run_views w.runs)) ∙ a) in
      let y = and_both (all_of view_lawful c.l0) (all_of view_lawful (joined run_views c.runs)) (sym (all_append view_lawful c.l0 (joined run_views c.runs)) ∙ b) in
      all_append view_lawful (tree_merge w c).l0 (joined run_views c.runs) ∙ both_and (all_until view_lawful (absorbed c) w.l0 x.0) y.1

  runs_merge : (w c : Tree) → all_of run_lawful (tree_runs c) ≡ true → all_of run_lawful (tree_runs (tree_merge w c)) ≡ true
  unfolding tree_merge
  runs_merge w c b = b

  module _ (x : ListLawful ws) (y : ListLawful cs) (ps : List (List ℕ)) where
    merged_fourth : all_of (λ s. all_of view_lawful (tree_views s.tree)) (merged_all ws cs ps) ≡ true
    merged_fourth =
        merged_all_lem (λ t. all_of view_lawful (tree_views t))
        (λ p. views_merge (tree_of ws p) (tree_of cs p) (tree_all (λ t. all_of view_lawful (tree_views t)) ws refl x.fourth p) (tree_all (λ t. all_of view_lawful (tree_views t)) cs refl y.fourth p)) ps

    merged_fifth : all_of (λ s. all_of run_lawful (tree_runs s.tree)) (merged_all ws cs ps) ≡ true
    merged_fifth = merged_all_lem (λ t. all_of run_lawful (tree_runs t)) (λ p. runs_merge (tree_of ws p) (tree_of cs p) (tree_all (λ t. all_of run_lawful (tree_runs t)) cs refl y.fifth p)) ps

  merged_prefixes : (ps : List (List ℕ)) → prefixes (merged_all ws cs ps) ≡ ps
  merged_prefixes [] = refl
  merged_prefixes (p ∷ ps) = ap (λ qs. p ∷ qs) (merged_prefixes ps)

abbrev apart_p : List ℕ → List ℕ → Bool
apart_p a b = not (begins_of a b) && not (begins_of b a)

-- MERGE FROM WRITER keeps L2 to L5; L3 because the writer's list does
pub writer_lawful : (ws cs : List Segment) → ListLawful ws → ListLawful cs → ListLawful (from_writer ws cs)
unfolding from_writer
writer_lawful ws cs x y =
    let e = merged_prefixes ws cs (prefixes ws) in
    record {
      second = chain_prefixes less_of (from_writer ws cs) ∙ ap (chain less_of) e ∙ sym (chain_prefixes less_of ws) ∙ x.second;
      third = pairs_prefixes apart_p (from_writer ws cs) ∙ ap (pairs apart_p) e ∙ sym (pairs_prefixes apart_p ws) ∙ x.third;
      fourth = merged_fourth ws cs x y (prefixes ws);
      fifth = merged_fifth ws cs x y (prefixes ws);
    }

-- ---- what is left of a list without its empty segments
above_filled : {p : List ℕ} (ss : List Segment) → Above p (prefixes ss) → Above p (prefixes (filled ss))
above_filled [] a = a
above_filled {p} (s ∷ ss) (Above.more h a) = go (is_empty s.tree) (above_filled ss a)
  where
    go : (b : Bool) → Above p (prefixes (filled ss)) → Above p (prefixes (pick b (filled ss) (s ∷ filled ss)))
    go true i = i
    go false i = Above.more h i

filled_ascends : (ss : List Segment) → Ascending (prefixes ss) → Ascending (prefixes (filled ss))
filled_ascends [] a = a
filled_ascends (s ∷ ss) (Ascending.more a r) = go (is_empty s.tree) (filled_ascends ss r)
  where
    go : (b : Bool) → Ascending (prefixes (filled ss)) → Ascending (prefixes (pick b (filled ss) (s ∷ filled ss)))
    go true i = i
    go false i = Ascending.more (above_filled ss a) i

all_filled : (f : Segment → Bool) (ss : List Segment) → all_of f ss ≡ true → all_of f (filled ss) ≡ true
all_filled f [] e = refl
all_filled f (s ∷ ss) e = let w = and_both (f s) (all_of f ss) e in go (is_empty s.tree) w.0 (all_filled f ss w.1)
  where
    go : (b : Bool) → f s ≡ true → all_of f (filled ss) ≡ true → all_of f (pick b (filled ss) (s ∷ filled ss)) ≡ true
    go true h i = i
    go false h i = both_and h i

-- prefixes are bytes
pub data BytesEach : List (List ℕ) → Type 0 where
  none : BytesEach []
  more : {p : List ℕ} {ps : List (List ℕ)} → Bytes p → BytesEach ps → BytesEach (p ∷ ps)

bytes_among : {q : List ℕ} (ps : List (List ℕ)) → Bytes q → BytesEach ps → BytesEach (among q ps)
bytes_among [] b e = BytesEach.more b BytesEach.none
bytes_among {q} (p ∷ ps) b (BytesEach.more c e) = go (less_of q p) (same_of q p) (bytes_among ps b e)
  where
    go : (x y : Bool) → BytesEach (among q ps) → BytesEach (pick x (q ∷ p ∷ ps) (pick y (p ∷ ps) (p ∷ among q ps)))
    go true y i = BytesEach.more b (BytesEach.more c e)
    go false true i = BytesEach.more c e
    go false false i = BytesEach.more c i

bytes_either : (ps qs : List (List ℕ)) → BytesEach ps → BytesEach qs → BytesEach (either_of ps qs)
unfolding either_of
bytes_either ps [] a b = a
bytes_either ps (q ∷ qs) a (BytesEach.more c b) = bytes_among (either_of ps qs) c (bytes_either ps qs a b)

bytes_filled : (ss : List Segment) → BytesEach (prefixes ss) → BytesEach (prefixes (filled ss))
bytes_filled [] a = a
bytes_filled (s ∷ ss) (BytesEach.more b a) = go (is_empty s.tree) (bytes_filled ss a)
  where
    go : (x : Bool) → BytesEach (prefixes (filled ss)) → BytesEach (prefixes (pick x (filled ss) (s ∷ filled ss)))
    go true i = i
    go false i = BytesEach.more b i

-- ---- L3: of ascending prefixes none begins another where none begins the next
apart_two : (p q : List ℕ) → Below p q → (Begins p q → ⊥) → apart_p p q ≡ true
apart_two p q h n = both_and (true_says (says_not (says_begins p q)) n) (true_says (says_not (says_begins q p)) (λ b. not_both h (begins_up_to b)))

-- what begins a later one begins the next
apart_rest : (p q : List ℕ) → Bytes q → Below p q → (Begins p q → ⊥) → (rs : List (List ℕ)) → Above q rs → all_of (apart_p p) rs ≡ true
apart_rest p q b h n [] a = refl
apart_rest p q b h n (r ∷ rs) (Above.more k a) =
    both_and (apart_two p r (below_trans h k) (λ c. n ((begins_between p q b).1 (up h, up_to_under (up k) (begins_under c))))) (apart_rest p q b h n rs a)

apart_all : (ps : List (List ℕ)) → Ascending ps → BytesEach ps → nests ps ≡ false → pairs apart_p ps ≡ true
unfolding nests
apart_all [] a b e = refl
apart_all (p ∷ []) a b e = refl
apart_all (p ∷ q ∷ ps) (Ascending.more (Above.more h a) (Ascending.more c s)) (BytesEach.more x (BytesEach.more y z)) e =
    let w = neither (begins_of p q) (nests (q ∷ ps)) e in
    let n = says_false (says_begins p q) w.0 in
    both_and (both_and (apart_two p q h n) (apart_rest p q y h n ps c)) (apart_all (q ∷ ps) (Ascending.more c s) (BytesEach.more y z) w.1)
  where
    neither : (a b : Bool) → (a || b) ≡ false → (a ≡ false) × (b ≡ false)
    neither true b e = let o : ◌≡◌ {A = ℕ} 0 1 = cc in absurd (omega arith)
    neither false b e = (refl, e)

-- MERGE FROM COMPACTOR keeps L2 to L5 where it is not refused; L3 because no kept prefix begins the next
pub compactor_lawful : (ws cs : List Segment) → ListLawful ws → ListLawful cs → BytesEach (prefixes ws) → BytesEach (prefixes cs)
    → refuses7 (from_compactor ws cs) ≡ false → ListLawful (from_compactor ws cs)
unfolding from_compactor
compactor_lawful ws cs x y a b r =
    let ps = either_of (prefixes ws) (prefixes cs) in
    let ss = merged_all ws cs ps in
    let e : prefixes ss ≡ ps = merged_prefixes ws cs ps in
    let up = filled_ascends ss (rw e (either_ascending (prefixes ws) (prefixes cs) (ascending_of (prefixes ws) (sym (chain_prefixes less_of ws) ∙ x.second)))) in
    record {
      second = chain_prefixes less_of (filled ss) ∙ ascending_chain (prefixes (filled ss)) up;
      third = pairs_prefixes apart_p (filled ss) ∙ apart_all (prefixes (filled ss)) up (bytes_filled ss (rw e (bytes_either (prefixes ws) (prefixes cs) a b))) r;
      fourth = all_filled (λ s. all_of view_lawful (tree_views s.tree)) ss (merged_fourth ws cs x y ps);
      fifth = all_filled (λ s. all_of run_lawful (tree_runs s.tree)) ss (merged_fifth ws cs x y ps);
    }
