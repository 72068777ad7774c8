-- A view that is left, laid by its flat row. Assumes nothing.
use Rattle.std.specs.Prelude.{None, Option, Some}
use Prim.Native.Nat.{ℕ, ◌+◌, ◌-◌, ◌*◌, ◌≤◌, ◌<◌}
use mathlib.Core.Path.{◌≡◌, sym, ap, ◌∙◌}
use mathlib.Core.Bool.{true, false}
use mathlib.Core.List.{List}
use lib.ListN.{length, get_or, set}
use Rattle.keys.specs.Prefix.{successor_of}
use Rattle.keys.specs.Range.{Edge}
use Rattle.keys.specs.Pool.{part_of, edge_of}
use Rattle.keys.specs.declared.Bound.TheVariants as bound
use Rattle.tables.specs.Layout.{write}
use Rattle.tables.proofs.Writes.{write_length}
use Rattle.records.specs.Model.{View}
use Rattle.records.specs.Decode.{view_in}
use Rattle.records.specs.Words.{view_words}
use Rattle.records.specs.Fill.{plus, view_fill}
use Rattle.records.specs.Layout.{view_row, view_bytes}
use Rattle.records.specs.declared.Fill.{Fill}
use Rattle.records.specs.declared.ViewRow.{ViewRow}
use Rattle.records.proofs.Columns.{view_bytes_long}
use Rattle.project_views.specs.Reach.{until_of, reach_of}
use Rattle.project_views.specs.Shown.{with_visible}
use Rattle.project_views.specs.Steps.{flat_of, row_seen}
use Rattle.project_views.specs.declared.Until.{Until}
use Rattle.project_views.specs.declared.Until.TheVariants.{Unbounded, Included, Excluded, Successor}
use Rattle.project_views.specs.declared.Reach.{Reach}
use Rattle.project_views.specs.declared.Flat.{Flat}
use Rattle.project_views.proofs.Grows.{Up, up_room, up_laid, FlatIs, flat_is, flat_fill, flat_row, flat_up, flat_plain}

-- ---- an end as bytes of the pool

module _ (pool : List ℕ) (u : Until) where
  pub flat_free : u ≡ Unbounded → record { end = bound.Unbounded; grown = false } ≡ flat_of pool u
  flat_free t = rw t

  module _ (from len : ℕ) where
    pub flat_included : u ≡ Included from len → record { end = bound.Included from len; grown = false } ≡ flat_of pool u
    flat_included t = rw t

    pub flat_excluded : u ≡ Excluded from len → record { end = bound.Excluded from len; grown = false } ≡ flat_of pool u
    flat_excluded t = rw t

    module _ (p : List ℕ) (s : Option ℕ) (t : u ≡ Successor from len) (e : p ≡ part_of pool from len) (h : s ≡ successor_of p) where
      pub flat_nowhere : s ≡ None → record { end = bound.Unbounded; grown = false } ≡ flat_of pool u
      flat_nowhere q = rw (t, ← e, sym h ∙ q)

      pub flat_grown : (n : ℕ) → s ≡ Some n → record { end = bound.Excluded from n; grown = true } ≡ flat_of pool u
      flat_grown n q = rw (t, ← e, sym h ∙ q)

pub ruleset flats = (flat_free, flat_included, flat_excluded, flat_nowhere, flat_grown)

-- ---- the view, and its row with the flat end

module _ (pool : List ℕ) (v row : ViewRow) (seen : Reach) (f : Flat) (e : f ≡ flat_of pool seen.end) (p : row ≡ row_seen v seen.start f.end) where
  abbrev left : View
  left = with_visible (view_in pool v) (reach_of pool seen)

  abbrev s : Edge
  s = edge_of pool seen.start

  row_is : view_in pool row ≡ with_visible (view_in pool v) (record { start = s; end = edge_of pool f.end })
  unfolding view_in
  row_is = ap (view_in pool) p

  is : FlatIs (until_of pool seen.end) (edge_of pool f.end) f.grown
  is = rw e (flat_is pool seen.end)

  pub left_fill : view_fill (view_in pool row) ≡ view_fill left
  left_fill = ap view_fill row_is ∙ flat_fill (view_in pool v) s is

  pub left_past : (q c : Fill) → q ≡ plus c (view_fill (view_in pool row)) → q ≡ plus c (view_fill left)
  left_past q c h = h ∙ ap (plus c) left_fill

  pub left_words : (c : Fill) (d d' : List ℕ) → d' ≡ write d (c.views * 16) (view_words (view_row c.bytes (view_in pool row))) → d' ≡ write d (c.views * 16) (view_words (view_row c.bytes left))
  left_words c d d' h = h ∙ ap (λ r. write d (c.views * 16) (view_words r)) (ap (view_row c.bytes) row_is ∙ flat_row (view_in pool v) s c.bytes is)

  pub left_plain : (c : Fill) (d d' : List ℕ) → f.grown ≡ false → d' ≡ write d c.bytes (view_bytes (view_in pool row)) → d' ≡ write d c.bytes (view_bytes left)
  left_plain c d d' g h =
      h ∙ ap (λ x. write d c.bytes (view_bytes x)) (row_is ∙ ap (λ (x : Edge). with_visible (view_in pool v) (record { start = s; end = x })) (flat_plain is g))

  module _ (c q : Fill) (d d₁ : List ℕ) (g : f.grown ≡ true) (room : c.bytes + (view_fill left).bytes ≤ length d) (h : q ≡ plus c (view_fill (view_in pool row))) (w : d₁ ≡ write d c.bytes (view_bytes (view_in pool row))) where
    up : Up (view_bytes (view_in pool row)) (view_bytes left)
    up = rw row_is (flat_up (view_in pool v) s is g)

    past : q.bytes ≡ c.bytes + length (view_bytes (view_in pool row))
    past = ap (λ (x : Fill). x.bytes) h ∙ ap (λ (n : ℕ). c.bytes + n) (sym (view_bytes_long (view_in pool row)))

    within : c.bytes + length (view_bytes (view_in pool row)) ≤ length d
    within = rw (view_bytes_long (view_in pool row), left_fill) room

    pub left_one : (0 < q.bytes) × (q.bytes ≤ length d₁) × (get_or d₁ (q.bytes - 1) 0 < 255)
    left_one =
        let u = up_room d d₁ c.bytes q.bytes up within w past in
        let l : length d₁ ≡ length d = ap length w ∙ write_length d c.bytes (view_bytes (view_in pool row)) within in
        (u.0, rw l u.1, u.2)

    pub left_grown : (d₂ : List ℕ) → d₂ ≡ set d₁ (q.bytes - 1) (get_or d₁ (q.bytes - 1) 0 + 1) → d₂ ≡ write d c.bytes (view_bytes left)
    left_grown d₂ t = t ∙ up_laid d d₁ c.bytes q.bytes up within w past
