-- L2 OF A UNION, "prefixes strictly ascending as bytes", for any sources. Assumes nothing.
use mathlib.Core.Path.{◌≡◌, refl, ◌∙◌}
use mathlib.Core.Bool.{Bool, true}
use mathlib.Core.List.{List, [], ◌∷◌}
use Rattle.keys.specs.Key.{less_of}
use Rattle.ids.specs.declared.Uuid.{Uuid}
use Rattle.measure.specs.Tests.{all_of, chain, pairs}
use Rattle.lawful.specs.Law.{l2_of}
use Rattle.lawful.proofs.Pairs.{chain_pairs}
use Rattle.segments.specs.Prefixes.{prefixes}
use Rattle.segments.proofs.Places.{and_both, less_trans}
use Rattle.segments.proofs.Demand3.{chain_prefixes}
use Rattle.merge.proofs.Keeping.{both_and}
use Rattle.unite_sources.specs.Source.{Source}
use Rattle.unite_sources.specs.Prefixed.{all_prefixes}
use Rattle.unite_sources.proofs.Results.{prefixes_ascend}
use Rattle.unite.specs.United.{united_from}
use Rattle.unite_lawful.proofs.Parts.{part_pairs, prefixes_part}

pairs_chain : {A : Type 0} (r : A → A → Bool) (xs : List A) → pairs r xs ≡ true → chain r xs ≡ true
pairs_chain r [] e = refl
pairs_chain r (x ∷ []) e = refl
pairs_chain r (x ∷ y ∷ ys) e =
    let w = and_both (all_of (r x) (y ∷ ys)) (pairs r (y ∷ ys)) e in
    both_and (and_both (r x y) (all_of (r x) ys) w.0).0 (pairs_chain r (y ∷ ys) w.1)

pub union_l2 : (ss us : List Source) (fresh : List Uuid) → l2_of (united_from ss us fresh) ≡ true
unfolding l2_of
union_l2 ss us fresh =
    chain_prefixes less_of (united_from ss us fresh).segments
    ∙ pairs_chain less_of (prefixes (united_from ss us fresh).segments) (part_pairs less_of (prefixes_part ss us fresh) (chain_pairs less_of less_trans (all_prefixes us) (prefixes_ascend us)))
