-- Selection: the segments with some key in a range.
use Rattle.std.specs.Prelude.{ℕ, ◌≤◌, ◌<◌, Bool, not, List, [], ◌∷◌, ltb, length, Err, Ok, Result}
use Rattle.keys.specs.Pick.{pick}
use Rattle.keys.specs.Prefix.{Bytes, Begins, under_of, after}
use Rattle.keys.specs.Range.{Edge, Edges, In, low, top}
use Rattle.keys.specs.Pool.{edges_of}
use Rattle.keys.specs.declared.Range.{Range}
use Rattle.records.specs.Decode.{Lent, manifest_in}
use Rattle.records.specs.Refusals.{refusal}
use Rattle.records.specs.declared.Limits.{Limits}
use Rattle.records.specs.declared.ManifestRow.{ManifestRow}
use Rattle.records.specs.declared.Refusal.TheVariants.{Unlawful, OverLimit, EmptyRange}
use Rattle.segments.specs.Prefixes.{prefixes, leading}
use Rattle.segments.specs.Refuses.{range_over, refuses1, first_broken, refuses5}
use Rattle.segments.specs.declared.Selected.TheVariants.{Unsegmented, Window}
use Rattle.segments.specs.declared.Selected.{Selected}
use Rattle.records.specs.declared.Refusal.{Refusal}

-- "some key in the range that begins with their prefix"
pub record Meets (r : Edges) (p : List ℕ) : Type 0 where
  pub key : List ℕ
  pub bytes : Bytes key
  pub inside : In key r
  pub begins : Begins p key

-- all that begins with the prefix lies before the start: the range's least key is not below the prefix's successor
abbrev pub before : Edge → List ℕ → Bool
before s p = not (under_of (low s) (after p))

-- something that begins with the prefix lies before the end: the prefix itself does
abbrev pub reached : Edge → List ℕ → Bool
reached e p = under_of p (top e)

-- from the first that is not before the start to the last that the end reaches
unfoldable pub first_of : Edge → List (List ℕ) → ℕ
first_of s ps = leading (λ p. before s p) ps

unfoldable pub past_of : Edge → List (List ℕ) → ℕ
past_of e ps = leading (λ p. reached e p) ps

-- "the window .. 0 to 0 for none"
abbrev pub window_of : ℕ → ℕ → Result Selected Refusal
window_of first past = pick (ltb first past) (Ok (Window first past)) (Ok (Window 0 0))

-- "an empty list answers "unsegmented" .. Otherwise the window"
unfoldable pub chosen_of : Edges → List (List ℕ) → Result Selected Refusal
chosen_of r [] = Ok Unsegmented
chosen_of r (p ∷ ps) = window_of (first_of r.start (p ∷ ps)) (past_of r.end (p ∷ ps))

-- the order of refusals: 2, 1, 5
unfoldable pub selected_of : Limits → Lent → ManifestRow → List ℕ → Range → Result Selected Refusal
selected_of lim l m args r =
    pick (range_over lim.key (length args) r) (Err OverLimit)
    (pick (refuses1 lim l m) (Err (Unlawful (first_broken lim l m)))
    (pick (refuses5 (edges_of args r)) (Err EmptyRange)
    (chosen_of (edges_of args r) (prefixes (manifest_in l m).segments))))

-- segment i is one of the answer's: ""unsegmented", which demand 3 counts as no segment"
abbrev pub Holds : ℕ → Result Selected Refusal → Type 0
Holds i (Ok Unsegmented) = ⊥
Holds i (Ok (Window first past)) = (first ≤ i) × (i < past)
Holds i (Err r) = ⊥

-- the number and the values of each answer
abbrev pub selected : Result Selected Refusal → List ℕ
selected (Ok Unsegmented) = 0 ∷ 0 ∷ []
selected (Ok (Window first past)) = 0 ∷ 1 ∷ first ∷ past ∷ []
selected (Err r) = refusal r
