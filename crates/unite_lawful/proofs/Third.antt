-- L3 OF A UNION, "no prefix begins another", where refusal 14 is not given. Assumes nothing.
use Prim.Native.Nat.{ℕ}
use mathlib.Core.Path.{◌≡◌, refl, ◌∙◌}
use mathlib.Core.Bool.{Bool, true, false, not, ◌&&◌, ◌||◌, true≢false}
use mathlib.Core.List.{List, [], ◌∷◌}
use mathlib.Core.Logic.{⊎_elim}
use native.Mathlib.Omega.{arith}
use Rattle.keys.specs.Key.{Below}
use Rattle.keys.specs.Prefix.{Begins, begins_of}
use Rattle.keys.proofs.Says.{says_not, true_says, says_false}
use Rattle.keys.proofs.ByteOrder.{below_trans, below_cons, not_both}
use Rattle.keys.proofs.Prefixes.{begins_up_to, says_begins}
use Rattle.ids.specs.declared.Uuid.{Uuid}
use Rattle.records.specs.Model.{Extractor, none, named}
use Rattle.measure.specs.Tests.{all_of, pairs}
use Rattle.lawful.specs.Law.{l3_of}
use Rattle.segments.proofs.Demand3.{pairs_prefixes}
use Rattle.merge.specs.Merge.{nests}
use Rattle.merge.proofs.Ascending.{Above, Ascending}
use Rattle.merge.proofs.Keeping.{both_and}
use Rattle.unite_trees.specs.Joined.{numbered_segments}
use Rattle.unite_sources.specs.Source.{Source, agreed_name}
use Rattle.unite_sources.specs.Prefixed.{all_prefixes, refuses14}
use Rattle.unite_sources.proofs.Results.{all_ascending}
use Rattle.unite.specs.United.{united_from}
use Rattle.unite_lawful.proofs.Parts.{part_pairs, prefixes_part}

-- what begins a key begins all that stands between the two
between : {p q r : List ℕ} → Below p q → Below q r → Begins p r → Begins p q
between h k Begins.none = Begins.none
between (Below.here h) k (Begins.next b) = ⊎_elim (λ l. absurd (omega arith)) (λ l. absurd (omega arith)) (below_cons k)
between (Below.next h) k (Begins.next b) = ⊎_elim (λ l. absurd (omega arith)) (λ l. Begins.next (between h l.1 b)) (below_cons k)

abbrev apart : List ℕ → List ℕ → Bool
apart a b = not (begins_of a b) && not (begins_of b a)

apart_two : (p q : List ℕ) → Below p q → (Begins p q → ⊥) → apart p q ≡ true
apart_two p q h n = both_and (true_says (says_not (says_begins p q)) n) (true_says (says_not (says_begins q p)) (λ b. not_both h (begins_up_to b)))

-- what begins a later one begins the next
apart_rest : (p q : List ℕ) → Below p q → (Begins p q → ⊥) → (rs : List (List ℕ)) → Above q rs → all_of (apart p) rs ≡ true
apart_rest p q h n [] a = refl
apart_rest p q h n (r ∷ rs) (Above.more k a) = both_and (apart_two p r (below_trans h k) (λ b. n (between h k b))) (apart_rest p q h n rs a)

apart_all : (ps : List (List ℕ)) → Ascending ps → nests ps ≡ false → pairs apart ps ≡ true
unfolding nests
apart_all [] a e = refl
apart_all (p ∷ []) a e = refl
apart_all (p ∷ q ∷ ps) (Ascending.more (Above.more h a) (Ascending.more c s)) e =
    let w = neither (begins_of p q) (nests (q ∷ ps)) e in
    let n = says_false (says_begins p q) w.0 in
    both_and (both_and (apart_two p q h n) (apart_rest p q h n ps c)) (apart_all (q ∷ ps) (Ascending.more c s) w.1)
  where
    neither : (a b : Bool) → (a || b) ≡ false → (a ≡ false) × (b ≡ false)
    neither true b e = absurd (true≢false e)
    neither false b e = (refl, e)

plain : (ss us : List Source) (fresh : List Uuid) → agreed_name ss ≡ none → l3_of (united_from ss us fresh) ≡ true
unfolding l3_of united_from numbered_segments
plain ss us fresh e = rw e

-- without an extractor there is no segment; with one 14 was not given
pub union_l3 : (ss us : List Source) (fresh : List Uuid) → ((k : List ℕ) → agreed_name ss ≡ named k → refuses14 (all_prefixes us) ≡ false) → l3_of (united_from ss us fresh) ≡ true
unfolding l3_of
union_l3 ss us fresh fit = go (agreed_name ss) refl
  where
    go : (name : Extractor) → agreed_name ss ≡ name → l3_of (united_from ss us fresh) ≡ true
    go none e = plain ss us fresh e
    go (named k) e =
        pairs_prefixes apart (united_from ss us fresh).segments
        ∙ part_pairs apart (prefixes_part ss us fresh) (apart_all (all_prefixes us) (all_ascending us) (fit k e))
