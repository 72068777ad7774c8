-- What is left of one view, by the tests that the code makes. Assumes nothing.
use Rattle.std.specs.Prelude.{None, Some}
use Prim.Native.Nat.{ℕ, ◌+◌, ◌≤◌, ◌<◌}
use mathlib.Core.Path.{◌≡◌, refl, sym, ap, ◌∙◌}
use mathlib.Core.Bool.{Bool, true, false, not, ◌&&◌}
use mathlib.Core.List.{List, [], ◌∷◌}
use lib.Dec.{ltb}
use borrow.Author.Tests.{lt-ltb, le-ltb}
use Rattle.keys.specs.Pick.{pick}
use Rattle.keys.specs.Range.{Edge, included, excluded, Edges}
use Rattle.keys.specs.Meet.{meet_of}
use Rattle.keys.specs.Pool.{edge_of, edges_of, meet_in}
use Rattle.keys.specs.declared.Bound.{Bound}
use Rattle.keys.specs.declared.Bound.TheVariants as bound
use Rattle.keys.specs.declared.Range.{Range}
use Rattle.keys.proofs.Meets.{edges_meet}
use Rattle.records.specs.Model.{View, last_end, seen_edges}
use Rattle.records.specs.Decode.{view_in}
use Rattle.records.specs.declared.ViewRow.{ViewRow}
use Rattle.lawful.specs.Steps.{last_bound, seen_row}
use Rattle.lawful.proofs.Arms.{last_edge, seen_edges_lem}
use Rattle.project_views.specs.Reach.{reach_of}
use Rattle.project_views.specs.Shown.{holds_none, goes, with_visible}
use Rattle.project_views.specs.Steps.{shown_to, kept_to, left_in, end_row, end_of, piece_of}
use Rattle.project_views.specs.declared.Reach.{Reach}

-- ---- the span, and the view

module _ (pool : List ℕ) (v : ViewRow) where
  pub span_is : (end : Bound) (seen m : Range) → seen ≡ seen_row v.visible → m ≡ meet_in pool (record { start = bound.Included v.first.at v.first.len; end = end }) seen
      → edges_of pool m ≡ meet_of (record { start = included (view_in pool v).first; end = edge_of pool end }) (seen_edges (view_in pool v).visible)
  unfolding view_in
  span_is end seen m p q =
      let a : Range = record { start = bound.Included v.first.at v.first.len; end = end } in
      ap (edges_of pool) q ∙ edges_meet pool a seen ∙ ap (λ (z : Range). meet_of (edges_of pool a) (edges_of pool z)) p ∙ ap (λ (z : Edges). meet_of (edges_of pool a) z) (seen_edges_lem pool v.visible)

  module _ (seen : Reach) (r : Bool) (e : r ≡ holds_none (reach_of pool seen)) where
    pub goes_empty : r ≡ true → true ≡ goes (reach_of pool seen) (view_in pool v)
    goes_empty h = rw (sym e ∙ h)

    pub goes_hidden : (end : Bound) (both : Reach) (b : Bool) → r ≡ false → end ≡ last_bound v.last
        → reach_of pool both ≡ meet_of (edges_of pool (record { start = bound.Included v.first.at v.first.len; end = end })) (reach_of pool seen)
        → b ≡ holds_none (reach_of pool both) → b ≡ goes (reach_of pool seen) (view_in pool v)
    unfolding view_in
    goes_hidden end both b h p q t =
        let l : edge_of pool end ≡ last_end (view_in pool v).last = ap (edge_of pool) p ∙ last_edge pool v.last in
        rw (sym e ∙ h) (t ∙ ap holds_none (q ∙ ap (λ (z : Edge). meet_of (record { start = included (view_in pool v).first; end = z }) (reach_of pool seen)) l))

  module _ (end : Bound) (r seen : Reach) (span : Range) (g : Bool)
      (s : edges_of pool span ≡ meet_of (record { start = included (view_in pool v).first; end = edge_of pool end }) (seen_edges (view_in pool v).visible))
      (m : reach_of pool seen ≡ meet_of (edges_of pool span) (reach_of pool r))
      (e : g ≡ goes (reach_of pool seen) (view_in pool v))
    where
      shown_is : reach_of pool seen ≡ shown_to (reach_of pool r) (view_in pool v) (edge_of pool end)
      shown_is = m ∙ ap (λ (z : Edges). meet_of z (reach_of pool r)) s

      kept_is : pick (goes (reach_of pool seen) (view_in pool v)) [] (with_visible (view_in pool v) (reach_of pool seen) ∷ []) ≡ kept_to (reach_of pool r) (view_in pool v) (edge_of pool end)
      unfolding kept_to
      kept_is = ap (λ (z : Edges). pick (goes z (view_in pool v)) [] (with_visible (view_in pool v) z ∷ [])) shown_is

      pub kept_gone : g ≡ true → left_in pool None ≡ kept_to (reach_of pool r) (view_in pool v) (edge_of pool end)
      kept_gone h = rw (sym e ∙ h) at kept_is

      pub kept_left : g ≡ false → left_in pool (Some (v, seen)) ≡ kept_to (reach_of pool r) (view_in pool v) (edge_of pool end)
      kept_left h = rw (sym e ∙ h) at kept_is

pub ruleset views_left = (span_is, goes_empty, goes_hidden, kept_gone, kept_left)

-- ---- where the span of view k ends

pub last_of : (v w : ViewRow) (b : Bound) → v ≡ w → b ≡ last_bound v.last → b ≡ last_bound w.last
last_of v w b e q = q ∙ ap (λ (z : ViewRow). last_bound z.last) e

module _ (f : ℕ → ViewRow) (n k : ℕ) (overlap : Bool) where
  pub end_over : (b : Bound) → overlap ≡ true → b ≡ last_bound (f k).last → b ≡ end_row overlap f n k
  end_over b h q = rw h q

  pub end_none : (b : Bound) → overlap ≡ false → n ≤ k + 1 → b ≡ last_bound (f k).last → b ≡ end_row overlap f n k
  end_none b h l q = rw (h, le-ltb (k + 1) n l) q

  pub end_next : (w : ViewRow) → overlap ≡ false → k + 1 < n → w ≡ f (k + 1) → bound.Excluded w.first.at w.first.len ≡ end_row overlap f n k
  end_next w h l e = rw (h, lt-ltb (k + 1) n l, e)

pub ruleset ends_at = (last_of, end_next, end_none, end_over)

end_edge : (pool : List ℕ) (f : ℕ → ViewRow) (n k : ℕ) (overlap : Bool) → edge_of pool (end_row overlap f n k) ≡ end_of overlap (λ i. view_in pool (f i)) n k
unfolding view_in
end_edge pool f n k overlap = go (not overlap && ltb (k + 1) n)
  where
    go : (b : Bool) → edge_of pool (pick b (bound.Excluded (f (k + 1)).first.at (f (k + 1)).first.len) (last_bound (f k).last)) ≡ pick b (excluded (view_in pool (f (k + 1))).first) (last_end (view_in pool (f k)).last)
    go true = refl
    go false = last_edge pool (f k).last

pub piece_is : (pool : List ℕ) (f : ℕ → ViewRow) (n k : ℕ) (overlap : Bool) (r : Edges) (v : ViewRow) (end : Bound) (x : List View) → v ≡ f k → end ≡ end_row overlap f n k
    → x ≡ kept_to r (view_in pool v) (edge_of pool end) → x ≡ piece_of r overlap (λ i. view_in pool (f i)) n k
unfolding piece_of
piece_is pool f n k overlap r v end x e p h =
    h ∙ ap (λ (z : ViewRow). kept_to r (view_in pool z) (edge_of pool end)) e ∙ ap (λ (z : Edge). kept_to r (view_in pool (f k)) z) (ap (edge_of pool) p ∙ end_edge pool f n k overlap)
