-- Document 01's rules L2 to L5, over a manifest of the model. L1 is the crate `measure`'s.
use Rattle.std.specs.Prelude.{ℕ, Bool, true, false, not, ◌&&◌, List, [], ◌∷◌}
use Rattle.keys.specs.Key.{less_of}
use Rattle.keys.specs.Prefix.{begins_of}
use Rattle.keys.specs.Range.{empty_of}
use Rattle.records.specs.Model.{LastKey, unknown, known, View, Run, Segment, Manifest, effective}
use Rattle.measure.specs.Tests.{all_of, chain, pairs}
use Rattle.measure.specs.Within.{all_views, all_runs}

-- "L2: prefixes strictly ascending as bytes."
unfoldable pub l2_of : Manifest → Bool
l2_of m = chain (λ s t. less_of s.prefix t.prefix) m.segments

-- neither prefix begins the other
abbrev pub apart_of : Segment → Segment → Bool
apart_of s t = not (begins_of s.prefix t.prefix) && not (begins_of t.prefix s.prefix)

-- "L3: no prefix begins another."
unfoldable pub l3_of : Manifest → Bool
l3_of m = pairs apart_of m.segments

-- "first key not above a known last key"
abbrev pub not_above : List ℕ → LastKey → Bool
not_above first unknown = true
not_above first (known last) = not (less_of last first)

-- "L4: first key not above a known last key; a view's physical range meets its visible range in some key."
unfoldable pub view_lawful : View → Bool
view_lawful v = not_above v.first v.last && not (empty_of (effective v).start (effective v).end)

unfoldable pub l4_of : Manifest → Bool
l4_of m = all_of view_lawful (all_views m)

-- "a known last key is below the next first key"
abbrev pub last_below : LastKey → List ℕ → Bool
last_below unknown first = true
last_below (known last) first = less_of last first

-- "first keys strictly ascend; a known last key is below the next first key"
unfoldable pub follows : View → View → Bool
follows v w = less_of v.first w.first && last_below v.last w.first

abbrev pub some_of : List View → Bool
some_of [] = false
some_of (v ∷ vs) = true

-- "L5: a run has a view; first keys strictly ascend; a known last key is below the next first key."
unfoldable pub run_lawful : Run → Bool
run_lawful r = some_of r.views && chain follows r.views

unfoldable pub l5_of : Manifest → Bool
l5_of m = all_of run_lawful (all_runs m)
