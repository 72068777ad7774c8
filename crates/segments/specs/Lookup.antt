-- Lookup: the tree of a prefix.
use Rattle.std.specs.Prelude.{ℕ, Bool, not, List, [], ◌∷◌, ltb, length, Err, Ok, Result}
use Rattle.keys.specs.Pick.{pick}
use Rattle.keys.specs.Key.{order_of, is_equal}
use Rattle.records.specs.Decode.{Lent, manifest_in}
use Rattle.records.specs.Refusals.{refusal}
use Rattle.records.specs.declared.Limits.{Limits}
use Rattle.records.specs.declared.ManifestRow.{ManifestRow}
use Rattle.records.specs.declared.Refusal.TheVariants.{Unlawful, OverLimit}
use Rattle.segments.specs.Prefixes.{prefixes, leading}
use Rattle.segments.specs.Refuses.{prefix_over, refuses1, first_broken}
use Rattle.segments.specs.declared.Looked.TheVariants.{Unsegmented, Segment, Absent}
use Rattle.segments.specs.declared.Looked.{Looked}
use Rattle.records.specs.declared.Refusal.{Refusal}

-- two prefixes are the same bytes
abbrev pub same_of : List ℕ → List ℕ → Bool
same_of a b = is_equal (order_of a b)

-- the place of the first that is p; the number of all where none is
unfoldable pub index_of : List (List ℕ) → List ℕ → ℕ
index_of ps p = leading (λ q. not (same_of q p)) ps

-- the segment with that prefix, or none
abbrev pub segment_of : List (List ℕ) → List ℕ → Result Looked Refusal
segment_of ps p = pick (ltb (index_of ps p) (length ps)) (Ok (Segment (index_of ps p))) (Ok Absent)

-- "Looking up the empty prefix always answers the unsegmented tree."
unfoldable pub tree_for : List (List ℕ) → List ℕ → Result Looked Refusal
tree_for ps [] = Ok Unsegmented
tree_for ps (x ∷ p) = segment_of ps (x ∷ p)

-- the order of refusals: 2, 1
unfoldable pub looked_of : Limits → Lent → ManifestRow → List ℕ → Result Looked Refusal
looked_of lim l m p =
    pick (prefix_over lim p) (Err OverLimit)
    (pick (refuses1 lim l m) (Err (Unlawful (first_broken lim l m)))
    (tree_for (prefixes (manifest_in l m).segments) p))

-- the number and the values of each answer
abbrev pub looked : Result Looked Refusal → List ℕ
looked (Ok Unsegmented) = 0 ∷ 0 ∷ []
looked (Ok (Segment i)) = 0 ∷ 1 ∷ i ∷ []
looked (Ok Absent) = 0 ∷ 2 ∷ []
looked (Err r) = refusal r
