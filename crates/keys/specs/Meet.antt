-- The order of bounds, and ranges met.
use Rattle.std.specs.Prelude.{ℕ, List}
use Rattle.std.specs.declared.cmp.Ordering.{Ordering}
use Rattle.std.specs.declared.cmp.Ordering.TheVariants.{Less, Equal, Greater}
use Rattle.std.specs.Ordering.{ordering_then}
use Rattle.keys.specs.Pick.{pick}
use Rattle.keys.specs.Key.{order_of, is_less}
use Rattle.keys.specs.Range.{Edge, unbounded, included, excluded, Edges}

-- where two keys are the same, the second decides
abbrev pub or_else : Ordering → Ordering → Ordering
or_else = ordering_then

-- "Starts order as unbounded, then by key, included before excluded"
abbrev pub start_order : Edge → Edge → Ordering
start_order unbounded unbounded = Equal
start_order unbounded (included b) = Less
start_order unbounded (excluded b) = Less
start_order (included a) unbounded = Greater
start_order (included a) (included b) = order_of a b
start_order (included a) (excluded b) = or_else (order_of a b) Less
start_order (excluded a) unbounded = Greater
start_order (excluded a) (included b) = or_else (order_of a b) Greater
start_order (excluded a) (excluded b) = order_of a b

-- "ends by key, excluded before included, then unbounded"
abbrev pub end_order : Edge → Edge → Ordering
end_order unbounded unbounded = Equal
end_order unbounded (included b) = Greater
end_order unbounded (excluded b) = Greater
end_order (included a) unbounded = Less
end_order (included a) (included b) = order_of a b
end_order (included a) (excluded b) = or_else (order_of a b) Greater
end_order (excluded a) unbounded = Less
end_order (excluded a) (included b) = or_else (order_of a b) Less
end_order (excluded a) (excluded b) = order_of a b

-- The step that the code takes for both: a key beside a bound. `none` beside an unbounded one; else by key, and where
-- the keys are the same what stands for the bound's kind.
abbrev pub beside : List ℕ → Edge → Ordering → Ordering → Ordering → Ordering
beside a unbounded none inc exc = none
beside a (included b) none inc exc = or_else (order_of a b) inc
beside a (excluded b) none inc exc = or_else (order_of a b) exc

-- "An intersection takes the later start and the earlier end."
abbrev pub later : Edge → Edge → Edge
later s t = pick (is_less (start_order s t)) t s

abbrev pub earlier : Edge → Edge → Edge
earlier s t = pick (is_less (end_order t s)) t s

abbrev pub meet_of : Edges → Edges → Edges
meet_of a b = record { start = later a.start b.start; end = earlier a.end b.end }
