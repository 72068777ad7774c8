-- Both merges, said for each prefix.
use Rattle.std.specs.Prelude.{ℕ, suc, Bool, false, not, ◌&&◌, ◌||◌, List, [], ◌∷◌}
use Rattle.keys.specs.Pick.{pick}
use Rattle.keys.specs.Key.{less_of}
use Rattle.keys.specs.Prefix.{begins_of}
use Rattle.records.specs.Model.{Tree, Segment}
use Rattle.records.specs.New.{new_tree}
use Rattle.segments.specs.Prefixes.{prefixes, leading}
use Rattle.segments.specs.Lookup.{same_of}
use Rattle.merge.specs.Tree.{tree_merge, is_empty}

-- the tree of a prefix among some segments; an absent one is empty: "merged with the compactor's tree or an empty one", "absent trees empty"
unfoldable pub tree_of : List Segment → List ℕ → Tree
tree_of [] p = new_tree
tree_of (s ∷ ss) p = pick (same_of s.prefix p) s.tree (tree_of ss p)

-- whether some segment has the prefix
unfoldable pub has_prefix : List Segment → List ℕ → Bool
has_prefix [] p = false
has_prefix (s ∷ ss) p = same_of s.prefix p || has_prefix ss p

-- the segment of a prefix in the result: the writer's tree merged with the compactor's
abbrev pub merged_at : List Segment → List Segment → List ℕ → Segment
merged_at ws cs p = record { prefix = p; tree = tree_merge (tree_of ws p) (tree_of cs p) }

-- one segment for each prefix
abbrev pub merged_all : List Segment → List Segment → List (List ℕ) → List Segment
merged_all ws cs [] = []
merged_all ws cs (p ∷ ps) = merged_at ws cs p ∷ merged_all ws cs ps

-- ---- merge from writer

-- "every writer prefix, merged with the compactor's tree or an empty one"
unfoldable pub from_writer : List Segment → List Segment → List Segment
from_writer ws cs = merged_all ws cs (prefixes ws)

-- "A compactor-only empty segment vanishes; one with data is refused."
abbrev pub only_data : List Segment → Segment → Bool
only_data ws s = not (has_prefix ws s.prefix) && not (is_empty s.tree)

abbrev pub some_of : {A : Type 0} → (A → Bool) → List A → Bool
some_of f [] = false
some_of f (x ∷ xs) = f x || some_of f xs

-- "6 | merge from writer, compactor-only data | first such compactor index"
abbrev pub refuses6 : List Segment → List Segment → Bool
refuses6 ws cs = some_of (only_data ws) cs

abbrev pub place6 : List Segment → List Segment → ℕ
place6 ws cs = leading (λ s. not (only_data ws s)) cs

-- ---- merge from compactor

-- a prefix among ascending ones, at its place; one that is there already is not entered again
abbrev pub among : List ℕ → List (List ℕ) → List (List ℕ)
among p [] = p ∷ []
among p (q ∷ qs) = pick (less_of p q) (p ∷ q ∷ qs) (pick (same_of p q) (q ∷ qs) (q ∷ among p qs))

-- "prefixes of either side", ascending, each once
unfoldable pub either_of : List (List ℕ) → List (List ℕ) → List (List ℕ)
either_of ps [] = ps
either_of ps (q ∷ qs) = among q (either_of ps qs)

-- "results that are empty are dropped"
abbrev pub filled : List Segment → List Segment
filled [] = []
filled (s ∷ ss) = pick (is_empty s.tree) (filled ss) (s ∷ filled ss)

unfoldable pub from_compactor : List Segment → List Segment → List Segment
from_compactor ws cs = filled (merged_all ws cs (either_of (prefixes ws) (prefixes cs)))

-- how many at the front do not begin the next; where none does, the number of all but the last
unfoldable pub nests_at : List (List ℕ) → ℕ
nests_at [] = 0
nests_at (p ∷ []) = 0
nests_at (p ∷ q ∷ ps) = pick (begins_of p q) 0 (suc (nests_at (q ∷ ps)))

-- some one begins the next
unfoldable pub nests : List (List ℕ) → Bool
nests [] = false
nests (p ∷ []) = false
nests (p ∷ q ∷ ps) = begins_of p q || nests (q ∷ ps)

-- "7 | merge from compactor, kept prefixes nest | first index, in the kept list, that begins the next"
abbrev pub refuses7 : List Segment → Bool
refuses7 kept = nests (prefixes kept)

abbrev pub place7 : List Segment → ℕ
place7 kept = nests_at (prefixes kept)
