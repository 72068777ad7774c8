-- The union with an extractor, as the code finds it. No public promise speaks of these.
use Rattle.std.specs.Prelude.{ℕ, List}
use Rattle.records.specs.Model.{Segment, Borrow, named, Manifest}
use Rattle.records.specs.New.{new_tree}
use Rattle.records.specs.Fill.{plus, sum, key_fill, name_keys, segment_fill}
use Rattle.records.specs.declared.Fill.{Fill}
use Rattle.unite_groups.specs.Groups.{Member}
use Rattle.unite_groups.specs.Chosen.{member_fill}
use Rattle.unite_sources.specs.Rows.{begins, places_in}
use Rattle.unite_named.specs.Named.{segments_at, tree_tables}
use Rattle.unite.specs.United.{assembled}

-- "With one: only named segments are joined, per prefix"
abbrev pub named_segments : List ℕ → List ℕ → List ℕ → List ℕ → List ℕ → List ℕ → ℕ → List ℕ → ℕ → List Segment
named_segments segments views runs pool sources order n prefixes np =
    segments_at (tree_tables segments views runs pool) sources (begins order n) (places_in prefixes pool np)

-- "unsegmented trees are not carried"
abbrev pub named_union : List Segment → List ℕ → ℕ → List Borrow → Manifest
named_union ss name seq bs = assembled new_tree ss (named name) seq bs

-- what the name and the borrows fill: ".. paths and the name together .., each occurrence counted"
abbrev pub rest_fill : List ℕ → List Member → Fill
rest_fill name ms = plus (sum key_fill (name_keys (named name))) (sum member_fill ms)

-- what the union fills
abbrev pub named_fill : List Segment → List ℕ → List Member → Fill
named_fill ss name ms = plus (sum segment_fill ss) (rest_fill name ms)
