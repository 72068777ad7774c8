-- What the arms of the code know: of prefixes, of a last key, of a view, of two tests in a row. Assumes nothing.
use Rattle.std.specs.Prelude.{None, Option, Some}
use Prim.Native.Nat.{ℕ}
use mathlib.Core.Path.{◌≡◌, refl, sym, ap, ◌∙◌}
use mathlib.Core.Bool.{Bool, true, false, not, ◌&&◌}
use mathlib.Core.List.{List}
use Rattle.keys.specs.declared.Bound.{Bound}
use Rattle.keys.specs.declared.Bound.TheVariants.{Unbounded, Included}
use Rattle.keys.specs.declared.Range.{Range}
use Rattle.keys.specs.Key.{less_of}
use Rattle.keys.specs.Range.{included, Edges, empty_of}
use Rattle.keys.specs.Meet.{meet_of}
use Rattle.keys.specs.Pool.{edge_of, edges_of, meet_in}
use Rattle.keys.proofs.Meets.{edges_meet}
use Rattle.records.specs.Model.{physical, last_end, seen_edges, effective}
use Rattle.records.specs.Row.{segment_at, view_at}
use Rattle.records.specs.Decode.{bytes_in, last_in, seen_in, view_in}
use Rattle.records.specs.declared.Place.{Place}
use Rattle.records.specs.declared.ViewRow.{ViewRow}
use Rattle.records.specs.declared.SegmentRow.{SegmentRow}
use Rattle.lawful.specs.Law.{not_above, view_lawful, last_below, follows}
use Rattle.lawful.specs.Steps.{prefix_at, last_bound, physical_row, seen_row, hidden_of}

-- ---- x is one test and then another
module _ (x a b r : Bool) (is : x ≡ (a && b)) (e : r ≡ a) where
  pub both_later : (y : Bool) → r ≡ true → y ≡ b → y ≡ x
  both_later y t f = f ∙ sym (is ∙ rw (sym e ∙ t))

  pub both_not : r ≡ false → false ≡ x
  both_not t = sym (is ∙ rw (sym e ∙ t))

pub ruleset boths = (both_later, both_not)

-- ---- a test of two prefixes
module _ (t : List ℕ → List ℕ → Bool) (segments pool : List ℕ) (i j : ℕ) (s u : SegmentRow) (a b : List ℕ) (r : Bool) (p : s ≡ segment_at segments i) (q : u ≡ segment_at segments j) (f : a ≡ bytes_in pool s.prefix) (g : b ≡ bytes_in pool u.prefix) (e : r ≡ t a b) where
  pub prefixes_by : r ≡ t (prefix_at segments pool i) (prefix_at segments pool j)
  prefixes_by = rw (← p, ← q, ← f, ← g) e

  pub prefixes_not : not r ≡ not (t (prefix_at segments pool i) (prefix_at segments pool j))
  prefixes_not = ap not prefixes_by

-- ---- a last key
module _ (pool : List ℕ) (last : Option Place) (first : Place) where
  pub below_free : last ≡ None → true ≡ last_below (last_in pool last) (bytes_in pool first)
  below_free e = rw e

  pub ordered_free : last ≡ None → true ≡ not_above (bytes_in pool first) (last_in pool last)
  ordered_free e = rw e

  module _ (p : Place) (a b : List ℕ) (r : Bool) (e : last ≡ Some p) (f : a ≡ bytes_in pool p) (g : b ≡ bytes_in pool first) (h : r ≡ less_of a b) where
    pub below_known : r ≡ last_below (last_in pool last) (bytes_in pool first)
    below_known = rw e (rw (← f, ← g) h)

    pub ordered_known : not r ≡ not_above (bytes_in pool first) (last_in pool last)
    ordered_known = rw e (rw (← f, ← g) (ap not h))

pub bound_free : (last : Option Place) → last ≡ None → Unbounded ≡ last_bound last
bound_free last e = rw e

pub bound_known : (last : Option Place) (p : Place) → last ≡ Some p → Included p.at p.len ≡ last_bound last
bound_known last p e = rw e

pub seen_all : (visible : Option Range) → visible ≡ None → record { start = Unbounded; end = Unbounded } ≡ seen_row visible
seen_all visible e = rw e

pub seen_only : (visible : Option Range) (r : Range) → visible ≡ Some r → r ≡ seen_row visible
seen_only visible r e = rw e

pub ruleset lasts = (below_free, ordered_free, below_known, ordered_known, bound_free, bound_known, seen_all, seen_only)

-- ---- a view
pub hidden_by :
    (pool : List ℕ) (first : Place) (last : Option Place) (visible : Option Range) (e : Bound) (seen met : Range) (r : Bool)
    → e ≡ last_bound last → seen ≡ seen_row visible → met ≡ meet_in pool (record { start = Included first.at first.len; end = e }) seen
    → r ≡ empty_of (edge_of pool met.start) (edge_of pool met.end) → r ≡ hidden_of pool first last visible
unfolding hidden_of
hidden_by pool first last visible e seen met r p q m h =
    let start : Bound = Included first.at first.len in
    let is : met ≡ meet_in pool (physical_row first last) (seen_row visible) =
    m ∙ ap (λ z. meet_in pool (record { start = start; end = z }) seen) p ∙ ap (λ z. meet_in pool (physical_row first last) z) q
    in
    h ∙ ap (λ (z : Range). empty_of (edge_of pool z.start) (edge_of pool z.end)) is

pub last_edge : (pool : List ℕ) (last : Option Place) → edge_of pool (last_bound last) ≡ last_end (last_in pool last)
last_edge pool None = refl
last_edge pool (Some p) = refl

pub seen_edges_lem : (pool : List ℕ) (visible : Option Range) → edges_of pool (seen_row visible) ≡ seen_edges (seen_in pool visible)
seen_edges_lem pool None = refl
seen_edges_lem pool (Some r) = refl

hidden_is : (pool : List ℕ) (v : ViewRow) → hidden_of pool v.first v.last v.visible ≡ empty_of (effective (view_in pool v)).start (effective (view_in pool v)).end
unfolding hidden_of view_in
hidden_is pool v =
    ap (λ (z : Edges). empty_of z.start z.end)
    (edges_meet pool (physical_row v.first v.last) (seen_row v.visible)
    ∙ ap (λ z. meet_of (record { start = included (bytes_in pool v.first); end = z }) (edges_of pool (seen_row v.visible))) (last_edge pool v.last)
    ∙ ap (λ z. meet_of (physical (view_in pool v)) z) (seen_edges_lem pool v.visible))

module _ (views pool : List ℕ) (i : ℕ) (v : ViewRow) (at : v ≡ view_at views i) where
  module _ (o : Bool) (e : o ≡ not_above (bytes_in pool v.first) (last_in pool v.last)) where
    pub view_seen : (h : Bool) → o ≡ true → h ≡ hidden_of pool v.first v.last v.visible → not h ≡ view_lawful (view_in pool (view_at views i))
    unfolding view_lawful view_in
    view_seen h t f = rw (← at) (rw (sym e ∙ t) (ap not (f ∙ hidden_is pool v)))

    pub view_above : o ≡ false → false ≡ view_lawful (view_in pool (view_at views i))
    unfolding view_lawful view_in
    view_above t = rw (← at) (rw (sym e ∙ t))

  module _ (j : ℕ) (w : ViewRow) (then : w ≡ view_at views j) (a b : List ℕ) (r : Bool) (f : a ≡ bytes_in pool v.first) (g : b ≡ bytes_in pool w.first) (e : r ≡ less_of a b) where
    pub view_follows : (q : Bool) → r ≡ true → q ≡ last_below (last_in pool v.last) (bytes_in pool w.first) → q ≡ follows (view_in pool (view_at views i)) (view_in pool (view_at views j))
    unfolding follows view_in
    view_follows q t h = rw (← at, ← then) (rw (← f, ← g) (rw (sym e ∙ t) (rw g h)))

    pub view_stays : r ≡ false → false ≡ follows (view_in pool (view_at views i)) (view_in pool (view_at views j))
    unfolding follows view_in
    view_stays t = rw (← at, ← then) (rw (← f, ← g) (rw (sym e ∙ t)))

pub ruleset views_by = (view_seen, view_above, view_follows, view_stays)
