-- From words to sources: what the code answers of a table is what is said of the sources in it. Assumes nothing.
use Prim.Native.Nat.{ℕ, zero, suc, ◌+◌, ◌*◌, ◌/◌}
use mathlib.Core.Path.{◌≡◌, refl, sym, ap, ◌∙◌}
use mathlib.Core.Bool.{Bool, true, false, ◌&&◌}
use mathlib.Core.List.{List, [], ◌∷◌, ◌++◌, map, map-append}
use lib.Dec.{leb}
use lib.ListN.{length}
use Rattle.keys.specs.Pick.{pick}
use Rattle.keys.specs.Key.{is_less, less_of}
use Rattle.keys.specs.Meet.{start_order}
use Rattle.std.specs.declared.cmp.Ordering.{Ordering}
use Rattle.keys.proofs.ByteOrder.{Stand, stand, stand_order}
use Rattle.tables.specs.Layout.{up_to}
use Rattle.tables.specs.Window.{held_of}
use Rattle.records.specs.Model.{View, Tree, Extractor}
use Rattle.records.specs.Row.{window_at, tree_at}
use Rattle.records.specs.Decode.{Lent, tree_in, manifest_in}
use Rattle.measure.specs.Tests.{all_of, chain}
use Rattle.measure.specs.Within.{tree_views, all_views}
use Rattle.segments.proofs.Places.{and_both}
use Rattle.segments.proofs.Answers.{prefixes_in_lem}
use Rattle.merge.specs.Merge.{among}
use Rattle.merge.proofs.Ascending.{Above, Ascending, above_on, ascending_chain}
use Rattle.merge.proofs.Prefixwise.{above_among}
use Rattle.unite_ranges.specs.Bounding.{Bounding, none, spans, bounding_of}
use Rattle.unite_ranges.specs.Arranged.{Ranged, entered, arranged_from, arranged, some_overlap, whats}
use Rattle.unite_ranges.specs.Rows.{ranged_in}
use Rattle.unite_ranges.proofs.Mapped.{renamed, arranged_renamed, overlap_renamed, whats_renamed, whats_rows}
use Rattle.unite_trees.specs.Rows.{trees_in}
use Rattle.unite_trees.proofs.Parts.{trees_named}
use Rattle.unite_sources.specs.Source.{Source, names, names_differ, refuses11}
use Rattle.unite_sources.specs.Used.{ranged_as, ranged_by, source_views, in_order, refuses12, own_trees}
use Rattle.unite_sources.specs.Prefixed.{among_all, prefixes_from, all_prefixes, trees_at, shares_at}
use Rattle.unite_sources.specs.Rows.{manifest_at_word, source_at_word, views_at_word, prefixes_at_word, name_at_word, words_of, sources_in, ranged_sources, begins, counts_within, prefixes_of_all, trees_at_in, ranged_trees}
use Rattle.unite_sources.proofs.Sharing.{tree_there, trees_renamed}

-- ---- lists

up_to_map : {A B : Type 0} (f : A → B) (g : ℕ → A) (n : ℕ) → map f (up_to g n) ≡ up_to (λ k. f (g k)) n
up_to_map f g zero = refl
up_to_map {A} {B} f g (suc n) = map-append f (up_to g n) (g n ∷ []) ∙ ap (λ (l : List B). l ++ (f (g n) ∷ [])) (up_to_map f g n)

module _ {A B : Type 0} (f : A → B) where
  as_renamed : (x : A) (q : Bounding) (xs : List (Ranged A)) → ranged_as (f x) q ++ map (renamed f) xs ≡ map (renamed f) (ranged_as x q ++ xs)
  as_renamed x none xs = refl
  as_renamed x (spans r) xs = refl

  -- what has views is not changed by another name
  pub ranged_renamed : (views : B → List View) (xs : List A) → ranged_by views (map f xs) ≡ map (renamed f) (ranged_by (λ x. views (f x)) xs)
  unfolding ranged_by
  ranged_renamed views [] = refl
  ranged_renamed views (x ∷ xs) =
      ap (λ (l : List (Ranged B)). ranged_as (f x) (bounding_of (views (f x))) ++ l) (ranged_renamed views xs)
      ∙ as_renamed x (bounding_of (views (f x))) (ranged_by (λ y. views (f y)) xs)

module _ (l : Lent) (t : List ℕ) where
  -- the sources that begin at some words
  abbrev pub sources_at : List ℕ → List Source
  sources_at bs = map (source_at_word l t) bs

  pub sources_are : (n : ℕ) → sources_at (words_of n) ≡ sources_in l t n
  unfolding words_of sources_in
  sources_are n = up_to_map (source_at_word l t) (λ i. i * 22) n

  -- ---- the used sources, in order

  pub sources_renamed : (xs : List (Ranged ℕ)) → ranged_sources l t xs ≡ map (renamed (source_at_word l t)) xs
  unfolding ranged_sources
  sources_renamed [] = refl
  sources_renamed (x ∷ xs) = ap (λ (z : List (Ranged Source)). renamed (source_at_word l t) x ∷ z) (sources_renamed xs)

  -- the views at a word are those of the source there
  views_ranged : (bs : List ℕ) → ranged_by (views_at_word l.segments l.runs l.views l.pool t) bs ≡ ranged_by (λ b. source_views (source_at_word l t b)) bs
  unfolding views_at_word source_at_word manifest_at_word manifest_in all_views
  views_ranged bs = refl

  -- arranged words are the used sources, "sorted stably by the start of their bounding effective range"
  pub arranged_sources : (n : ℕ) → ranged_sources l t (arranged (ranged_by (views_at_word l.segments l.runs l.views l.pool t) (words_of n))) ≡ in_order (sources_in l t n)
  unfolding in_order
  arranged_sources n =
      sources_renamed (arranged (ranged_by (views_at_word l.segments l.runs l.views l.pool t) (words_of n)))
      ∙ ap (λ (z : List (Ranged ℕ)). map (renamed (source_at_word l t)) (arranged z)) (views_ranged (words_of n))
      ∙ sym (arranged_renamed (source_at_word l t) (ranged_by (λ b. source_views (source_at_word l t b)) (words_of n)))
      ∙ ap arranged (sym (ranged_renamed (source_at_word l t) source_views (words_of n)))
      ∙ ap (λ (z : List Source). arranged (ranged_by source_views z)) (sources_are n)

  pub overlap_sources : (xs : List (Ranged ℕ)) → some_overlap xs ≡ refuses12 (ranged_sources l t xs)
  overlap_sources xs = sym (ap some_overlap (sources_renamed xs) ∙ overlap_renamed (source_at_word l t) xs)

  pub whats_sources : (xs : List (Ranged ℕ)) → sources_at (whats xs) ≡ whats (ranged_sources l t xs)
  whats_sources xs = sym (ap whats (sources_renamed xs) ∙ whats_renamed (source_at_word l t) xs)

  -- where the arranged ones begin
  pub begins_whats : (pool rows : List ℕ) (n : ℕ) → begins rows n ≡ whats (ranged_in pool rows n)
  unfolding begins
  begins_whats pool rows n = sym (whats_rows pool rows n)

  -- the rows that `arrange_sources` leaves, as sources
  pub used_sources : (pool rows : List ℕ) (k n : ℕ) → ranged_in pool rows k ≡ arranged (ranged_by (views_at_word l.segments l.runs l.views l.pool t) (words_of n))
      → sources_at (begins rows k) ≡ whats (in_order (sources_in l t n))
  used_sources pool rows k n e =
      ap sources_at (begins_whats pool rows k)
      ∙ whats_sources (ranged_in pool rows k)
      ∙ ap (λ (z : List (Ranged ℕ)). whats (ranged_sources l t z)) e
      ∙ ap whats (arranged_sources n)

  -- ---- names

  names_up_to : (f : ℕ → Source) (n : ℕ) → names (up_to f n) ≡ up_to (λ k. (f k).manifest.extractor) n
  unfolding names
  names_up_to f zero = refl
  names_up_to f (suc n) = snoc (up_to f n) (f n) ∙ ap (λ (z : List Extractor). z ++ ((f n).manifest.extractor ∷ [])) (names_up_to f n)
    where
      snoc : (ss : List Source) (s : Source) → names (ss ++ (s ∷ [])) ≡ names ss ++ (s.manifest.extractor ∷ [])
      snoc [] s = refl
      snoc (u ∷ ss) s = ap (λ (z : List Extractor). u.manifest.extractor ∷ z) (snoc ss s)

  -- "11 | extractor names differ among all sources"
  pub names_sources : (n : ℕ) → names_differ (up_to (λ i. name_at_word l.pool t (i * 22)) n) ≡ refuses11 (sources_in l t n)
  unfolding sources_in source_at_word manifest_at_word manifest_in
  names_sources n = ap names_differ (sym (names_up_to (λ i. source_at_word l t (i * 22)) n))

  -- ---- prefixes

  from_sources : (done : List (List ℕ)) (bs : List ℕ) → prefixes_of_all done l.segments l.pool t bs ≡ prefixes_from done (sources_at bs)
  unfolding prefixes_of_all prefixes_from prefixes_at_word source_at_word manifest_at_word
  from_sources done [] = refl
  from_sources done (b ∷ bs) =
      from_sources (among_all done (prefixes_at_word l.segments l.pool t b)) bs
      ∙ ap (λ (z : List (List ℕ)). prefixes_from (among_all done z) (sources_at bs)) (sym (prefixes_in_lem l (manifest_at_word t b)))

  -- "the used sources' sorted distinct prefixes"
  pub prefixes_sources : (bs : List ℕ) → prefixes_of_all [] l.segments l.pool t bs ≡ all_prefixes (sources_at bs)
  prefixes_sources bs = from_sources [] bs

  -- ---- the trees at a prefix

  pub trees_sources : (p : List ℕ) (bs : List ℕ) → trees_at_in l t p bs ≡ trees_at p (sources_at bs)
  unfolding trees_at_in trees_at source_at_word manifest_at_word manifest_in
  trees_sources p [] = refl
  trees_sources p (b ∷ bs) = rw (trees_sources p bs)

  -- trees are read from four of the six tables
  abbrev bare : Lent
  bare = record { segments = l.segments; views = l.views; runs = l.runs; borrows = []; ids = []; pool = l.pool }

  at_bare : (p : List ℕ) (bs : List ℕ) → trees_at_in bare t p bs ≡ trees_at_in l t p bs
  unfolding trees_at_in
  at_bare p [] = refl
  at_bare p (b ∷ bs) = rw (at_bare p bs)

  -- what `shares_at` leaves: "per prefix, those with views, sorted by their own start"
  module _ (p rows bs : List ℕ) (k : ℕ) (e : ranged_trees bare (ranged_in l.pool rows k) ≡ arranged (ranged_by tree_views (trees_at_in bare t p bs))) where
    pub shares_sources : ranged_trees l (ranged_in l.pool rows k) ≡ shares_at (sources_at bs) p
    unfolding shares_at
    shares_sources =
        trees_renamed l (ranged_in l.pool rows k)
        ∙ sym (trees_renamed bare (ranged_in l.pool rows k))
        ∙ e
        ∙ ap (λ (z : List Tree). arranged (ranged_by tree_views z)) (at_bare p bs ∙ trees_sources p bs)

    renamed_shares : map (renamed (tree_there l)) (ranged_in l.pool rows k) ≡ shares_at (sources_at bs) p
    renamed_shares = sym (trees_renamed l (ranged_in l.pool rows k)) ∙ shares_sources

    pub shares_overlap : some_overlap (ranged_in l.pool rows k) ≡ some_overlap (shares_at (sources_at bs) p)
    shares_overlap = sym (overlap_renamed (tree_there l) (ranged_in l.pool rows k)) ∙ ap some_overlap renamed_shares

    -- and the trees that are joined
    pub shares_trees : trees_in l.segments rows k l.runs l.views l.pool ≡ whats (shares_at (sources_at bs) p)
    shares_trees =
        trees_named l.segments rows k l.runs l.views l.pool
        ∙ sym (whats_renamed (tree_there l) (ranged_in l.pool rows k))
        ∙ ap whats renamed_shares

  -- without an extractor the unsegmented trees are joined
  own : (bs : List ℕ) → map (λ b. tree_in l.runs l.views l.pool (tree_at t b)) bs ≡ own_trees (sources_at bs)
  unfolding own_trees source_at_word manifest_at_word manifest_in
  own [] = refl
  own (b ∷ bs) = rw (own bs)

  pub own_trees_lem : (rows : List ℕ) (k : ℕ) → trees_in t rows k l.runs l.views l.pool ≡ own_trees (sources_at (begins rows k))
  own_trees_lem rows k = trees_named t rows k l.runs l.views l.pool ∙ ap (map (λ b. tree_in l.runs l.views l.pool (tree_at t b))) (sym (begins_whats l.pool rows k)) ∙ own (begins rows k)

-- ---- what holds of all holds of the used ones

module _ {A : Type 0} (test : A → Bool) where
  both : (a b : Bool) → a ≡ true → b ≡ true → (a && b) ≡ true
  both a b e f = rw (e, f)

  entered_all : (x : Ranged A) (ys : List (Ranged A)) → test x.what ≡ true → all_of test (whats ys) ≡ true → all_of test (whats (entered x ys)) ≡ true
  unfolding entered whats
  entered_all x [] e f = both (test x.what) true e refl
  entered_all x (y ∷ ys) e f =
      let w = and_both (test y.what) (all_of test (whats ys)) f in
      go (is_less (start_order x.range.start y.range.start)) (both (test y.what) (all_of test (whats (entered x ys))) w.0 (entered_all x ys e w.1))
    where
      go : (b : Bool) → (test y.what && all_of test (whats (entered x ys))) ≡ true → all_of test (whats (pick b (x ∷ y ∷ ys) (y ∷ entered x ys))) ≡ true
      go true h = both (test x.what) (all_of test (whats (y ∷ ys))) e f
      go false h = h

  from_all : (done xs : List (Ranged A)) → all_of test (whats done) ≡ true → all_of test (whats xs) ≡ true → all_of test (whats (arranged_from done xs)) ≡ true
  unfolding arranged_from whats
  from_all done [] e f = e
  from_all done (x ∷ xs) e f = let w = and_both (test x.what) (all_of test (whats xs)) f in from_all (entered x done) xs (entered_all x done w.0 e) w.1

  ranged_all : (views : A → List View) (xs : List A) → all_of test xs ≡ true → all_of test (whats (ranged_by views xs)) ≡ true
  unfolding ranged_by whats
  ranged_all views [] e = refl
  ranged_all views (x ∷ xs) e = let w = and_both (test x) (all_of test xs) e in go (bounding_of (views x)) w.0 (ranged_all views xs w.1)
    where
      go : (q : Bounding) → test x ≡ true → all_of test (whats (ranged_by views xs)) ≡ true → all_of test (whats (ranged_as x q ++ ranged_by views xs)) ≡ true
      go none t h = h
      go (spans r) t h = both (test x) (all_of test (whats (ranged_by views xs))) t h

  pub used_all : (views : A → List View) (xs : List A) → all_of test xs ≡ true → all_of test (whats (arranged (ranged_by views xs))) ≡ true
  unfolding whats
  used_all views xs e = from_all [] (ranged_by views xs) refl (ranged_all views xs e)

pub counts_all : (most : ℕ) (segments t bs : List ℕ) → counts_within most segments t bs ≡ all_of (λ b. leb (held_of (window_at t (b + 10)) (length segments / 12)) most) bs
counts_all most segments t [] = refl
counts_all most segments t (b ∷ bs) = rw (counts_all most segments t bs)

-- no used source has more segments than each source has
pub counts_used : (most : ℕ) (segments t pool rows : List ℕ) (views : ℕ → List View) (k n : ℕ) → ranged_in pool rows k ≡ arranged (ranged_by views (words_of n))
    → counts_within most segments t (words_of n) ≡ true → counts_within most segments t (begins rows k) ≡ true
unfolding begins
counts_used most segments t pool rows views k n e h =
    counts_all most segments t (begins rows k)
    ∙ ap (all_of (λ b. leb (held_of (window_at t (b + 10)) (length segments / 12)) most)) (sym (whats_rows pool rows k) ∙ ap whats e)
    ∙ used_all (λ b. leb (held_of (window_at t (b + 10)) (length segments / 12)) most) views (words_of n) (sym (counts_all most segments t (words_of n)) ∙ h)

-- ---- the prefixes ascend strictly

among_ascends : (p : List ℕ) {qs : List (List ℕ)} → Ascending qs → Ascending (among p qs)
among_ascends p Ascending.none = Ascending.more Above.none Ascending.none
among_ascends p (Ascending.more {p = q} {ps = qs} a s) = go (stand p q) (among_ascends p s)
  where
    go : {o : Ordering} → Stand p q o → Ascending (among p qs) → Ascending (among p (q ∷ qs))
    go (Stand.less h) r = rw (stand_order (Stand.less h)) (Ascending.more (Above.more h (above_on h a)) (Ascending.more a s))
    go (Stand.same e) r = rw (stand_order (Stand.same e)) (Ascending.more a s)
    go (Stand.more h) r = rw (stand_order (Stand.more h)) (Ascending.more (above_among qs h a) r)

all_ascends : (ps : List (List ℕ)) {done : List (List ℕ)} → Ascending done → Ascending (among_all done ps)
unfolding among_all
all_ascends [] s = s
all_ascends (p ∷ ps) s = all_ascends ps (among_ascends p s)

pub from_ascends : (ss : List Source) {done : List (List ℕ)} → Ascending done → Ascending (prefixes_from done ss)
unfolding prefixes_from
from_ascends [] s = s
from_ascends (x ∷ ss) s = from_ascends ss (all_ascends _ s)

pub all_ascending : (ss : List Source) → Ascending (all_prefixes ss)
all_ascending ss = from_ascends ss Ascending.none

pub prefixes_ascend : (ss : List Source) → chain less_of (all_prefixes ss) ≡ true
prefixes_ascend ss = ascending_chain (all_prefixes ss) (all_ascending ss)
