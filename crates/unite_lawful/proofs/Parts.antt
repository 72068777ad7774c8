-- THE PREFIXES OF A UNION are some of the used sources' sorted distinct prefixes, in their order. Assumes nothing.
use Prim.Native.Nat.{ℕ, ◌-◌}
use mathlib.Core.Path.{◌≡◌, refl, ap}
use mathlib.Core.Bool.{Bool, true, false}
use mathlib.Core.List.{List, [], ◌∷◌, ◌++◌}
use lib.ListN.{length}
use Rattle.keys.specs.Pick.{pick}
use Rattle.keys.specs.Key.{less_of}
use Rattle.ids.specs.declared.Uuid.{Uuid}
use Rattle.records.specs.Model.{Tree, Segment, Extractor, none, named}
use Rattle.measure.specs.Tests.{all_of, pairs}
use Rattle.segments.specs.Lookup.{same_of}
use Rattle.segments.specs.Prefixes.{prefixes}
use Rattle.segments.proofs.Places.{and_both}
use Rattle.segments.proofs.Demand3.{all_prefixes_lem}
use Rattle.merge.specs.Merge.{among}
use Rattle.merge.proofs.Keeping.{both_and}
use Rattle.unite_ranges.specs.Arranged.{whats}
use Rattle.unite_trees.specs.Joined.{numbered_segments}
use Rattle.unite_sources.specs.Source.{Source, agreed_name}
use Rattle.unite_sources.specs.Prefixed.{among_all, prefixes_from, all_prefixes, shares_at, segment_of, segments_of}
use Rattle.unite.specs.United.{segments_united, segment_runs, united_from}

-- ---- some of a list, in its order

pub data Part {A : Type 0} : List A → List A → Type 0 where
  nothing : {ys : List A} → Part [] ys
  skip : {y : A} {xs ys : List A} → Part xs ys → Part xs (y ∷ ys)
  keep : {x : A} {xs ys : List A} → Part xs ys → Part (x ∷ xs) (x ∷ ys)

module _ {A : Type 0} where
  pub part_all : (test : A → Bool) {xs ys : List A} → Part xs ys → all_of test ys ≡ true → all_of test xs ≡ true
  part_all test Part.nothing e = refl
  part_all test (Part.skip {y = y} {ys = ys} p) e = part_all test p (and_both (test y) (all_of test ys) e).1
  part_all test (Part.keep {x = x} {ys = ys} p) e = let w = and_both (test x) (all_of test ys) e in both_and w.0 (part_all test p w.1)

  pub part_pairs : (r : A → A → Bool) {xs ys : List A} → Part xs ys → pairs r ys ≡ true → pairs r xs ≡ true
  part_pairs r Part.nothing e = refl
  part_pairs r (Part.skip {y = y} {ys = ys} p) e = part_pairs r p (and_both (all_of (r y) ys) (pairs r ys) e).1
  part_pairs r (Part.keep {x = x} {ys = ys} p) e = let w = and_both (all_of (r x) ys) (pairs r ys) e in both_and (part_all (r x) p w.0) (part_pairs r p w.1)

-- ---- the prefixes of the result

prefixes_numbered : (left : ℕ) (ss : List Segment) → prefixes (numbered_segments left ss) ≡ prefixes ss
unfolding numbered_segments
prefixes_numbered left [] = refl
prefixes_numbered left (g ∷ ss) = ap (λ (ps : List (List ℕ)). g.prefix ∷ ps) (prefixes_numbered (left - length g.tree.runs) ss)

-- "a prefix without views gives no segment"
prefixes_of_lem : (us : List Source) (ps : List (List ℕ)) → Part (prefixes (segments_of us ps)) ps
unfolding segments_of
prefixes_of_lem us [] = Part.nothing
prefixes_of_lem us (p ∷ ps) = go (whats (shares_at us p)) (prefixes_of_lem us ps)
  where
    go : (ts : List Tree) → Part (prefixes (segments_of us ps)) ps → Part (prefixes (segment_of p ts ++ segments_of us ps)) (p ∷ ps)
    go [] h = Part.skip h
    go (t ∷ ts) h = Part.keep h

prefixes_united : (name : Extractor) (us : List Source) → Part (prefixes (segments_united name us)) (all_prefixes us)
prefixes_united none us = Part.nothing
prefixes_united (named k) us = prefixes_of_lem us (all_prefixes us)

pub prefixes_part : (ss us : List Source) (fresh : List Uuid) → Part (prefixes (united_from ss us fresh).segments) (all_prefixes us)
unfolding united_from
prefixes_part ss us fresh =
    let gs = segments_united (agreed_name ss) us in
    rw (prefixes_numbered (segment_runs gs) gs) (prefixes_united (agreed_name ss) us)

-- ---- each of them is a used source's

module _ (test : List ℕ → Bool) where
  among_all_lem : (p : List ℕ) (qs : List (List ℕ)) → test p ≡ true → all_of test qs ≡ true → all_of test (among p qs) ≡ true
  among_all_lem p [] e f = both_and e refl
  among_all_lem p (q ∷ qs) e f = let w = and_both (test q) (all_of test qs) f in go (less_of p q) (same_of p q) (both_and w.0 (among_all_lem p qs e w.1))
    where
      go : (a b : Bool) → all_of test (q ∷ among p qs) ≡ true → all_of test (pick a (p ∷ q ∷ qs) (pick b (q ∷ qs) (q ∷ among p qs))) ≡ true
      go true b h = both_and e f
      go false true h = f
      go false false h = h

  all_among : (done ps : List (List ℕ)) → all_of test done ≡ true → all_of test ps ≡ true → all_of test (among_all done ps) ≡ true
  unfolding among_all
  all_among done [] e f = e
  all_among done (p ∷ ps) e f = let w = and_both (test p) (all_of test ps) f in all_among (among p done) ps (among_all_lem p done w.0 e) w.1

  abbrev source_prefixes : Source → Bool
  source_prefixes s = all_of (λ (g : Segment). test g.prefix) s.manifest.segments

  from_all : (done : List (List ℕ)) (us : List Source) → all_of test done ≡ true → all_of source_prefixes us ≡ true → all_of test (prefixes_from done us) ≡ true
  unfolding prefixes_from
  from_all done [] e f = e
  from_all done (s ∷ us) e f =
      let w = and_both (source_prefixes s) (all_of source_prefixes us) f in
      from_all (among_all done (prefixes s.manifest.segments)) us (all_among done (prefixes s.manifest.segments) e (rw (← all_prefixes_lem test s.manifest.segments) w.0)) w.1

  pub prefixes_carried : (ss us : List Source) (fresh : List Uuid) → all_of (λ (s : Source). all_of (λ (g : Segment). test g.prefix) s.manifest.segments) us ≡ true
      → all_of (λ (g : Segment). test g.prefix) (united_from ss us fresh).segments ≡ true
  prefixes_carried ss us fresh e = rw (all_prefixes_lem test (united_from ss us fresh).segments) (part_all test (prefixes_part ss us fresh) (from_all [] us refl e))
