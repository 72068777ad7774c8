-- The bounding effective range of some views: the smallest range in which their effective ranges lie.
use Rattle.std.specs.Prelude.{List, [], ◌∷◌}
use Rattle.keys.specs.Pick.{pick}
use Rattle.keys.specs.Range.{Edge, Edges}
use Rattle.keys.specs.Key.{is_less}
use Rattle.keys.specs.Meet.{start_order, end_order}
use Rattle.records.specs.Model.{View, effective}

-- of two starts the earlier, of two ends the later
abbrev pub earliest : Edge → Edge → Edge
earliest s t = pick (is_less (start_order t s)) t s

abbrev pub latest : Edge → Edge → Edge
latest s t = pick (is_less (end_order s t)) t s

abbrev pub widened : Edges → Edges → Edges
widened a b = record { start = earliest a.start b.start; end = latest a.end b.end }

-- no views have no range
pub data Bounding : Type 0 where
  none : Bounding
  spans : Edges → Bounding

abbrev pub with_range : Bounding → Edges → Bounding
with_range none r = spans r
with_range (spans q) r = spans (widened q r)

unfoldable pub bounding_from : Bounding → List View → Bounding
bounding_from b [] = b
bounding_from b (v ∷ vs) = bounding_from (with_range b (effective v)) vs

-- "their bounding effective range"
abbrev pub bounding_of : List View → Bounding
bounding_of vs = bounding_from none vs
