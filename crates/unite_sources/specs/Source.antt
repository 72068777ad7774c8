-- The sources of a union, and what must agree among all of them.
use Rattle.std.specs.Prelude.{ℕ, Bool, true, false, not, List, [], ◌∷◌, ltb}
use Rattle.keys.specs.Pick.{pick}
use Rattle.ids.specs.declared.Uuid.{Uuid}
use Rattle.records.specs.Model.{Extractor, none, named, Manifest}
use Rattle.segments.specs.Lookup.{same_of}
use Rattle.merge.specs.Merge.{some_of}

-- "sources (manifest, path, checkpoint)"
pub record Source : Type 0 where
  pub manifest : Manifest
  pub path : List ℕ
  pub checkpoint : Uuid

-- "absent is not empty"
abbrev pub same_name : Extractor → Extractor → Bool
same_name none none = true
same_name none (named b) = false
same_name (named a) none = false
same_name (named a) (named b) = same_of a b

-- one differs from the first
unfoldable pub names_differ : List Extractor → Bool
names_differ [] = false
names_differ (k ∷ ks) = some_of (λ j. not (same_name k j)) ks

unfoldable pub names : List Source → List Extractor
names [] = []
names (s ∷ ss) = s.manifest.extractor ∷ names ss

-- "11 | extractor names differ among all sources"
abbrev pub refuses11 : List Source → Bool
refuses11 ss = names_differ (names ss)

-- "the extractor name the agreed one"
abbrev pub agreed_name : List Source → Extractor
agreed_name [] = none
agreed_name (s ∷ ss) = s.manifest.extractor

-- "last_l0_seq the greatest over all sources"
abbrev pub greater : ℕ → ℕ → ℕ
greater a b = pick (ltb a b) b a

unfoldable pub greatest_from : ℕ → List Source → ℕ
greatest_from n [] = n
greatest_from n (s ∷ ss) = greatest_from (greater n s.manifest.last_l0_seq) ss

abbrev pub greatest_seq : List Source → ℕ
greatest_seq ss = greatest_from 0 ss
