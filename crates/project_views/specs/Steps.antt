-- The steps that the code takes, row by row.
use Rattle.std.specs.Prelude.{ℕ, ◌+◌, Bool, true, false, not, ◌&&◌, List, [], ◌∷◌, ltb, None, Option, Some}
use Rattle.keys.specs.Pick.{pick}
use Rattle.keys.specs.Prefix.{after, successor_of}
use Rattle.keys.specs.Range.{Edge, included, excluded, Edges}
use Rattle.keys.specs.Meet.{earlier, meet_of}
use Rattle.keys.specs.Pool.{part_of}
use Rattle.keys.specs.declared.Bound.{Bound}
use Rattle.keys.specs.declared.Bound.TheVariants as bound
use Rattle.ids.specs.declared.SstId.{SstId}
use Rattle.records.specs.Model.{View, Run, last_end, seen_edges}
use Rattle.records.specs.Decode.{view_in}
use Rattle.records.specs.declared.ViewRow.{ViewRow}
use Rattle.lawful.specs.Steps.{last_bound}
use Rattle.project_views.specs.Reach.{top_edge, reach_of}
use Rattle.project_views.specs.Shown.{goes, with_visible, run_shown, l0_shown, kept_run}
use Rattle.project_views.specs.declared.Until.{Until}
use Rattle.project_views.specs.declared.Until.TheVariants.{Unbounded, Included, Excluded, Successor}
use Rattle.project_views.specs.declared.Flat.{Flat}
use Rattle.project_views.specs.declared.Reach.{Reach}

-- ---- ends

-- a bound as an end
abbrev pub as_until : Bound → Until
as_until bound.Unbounded = Unbounded
as_until (bound.Included from len) = Included from len
as_until (bound.Excluded from len) = Excluded from len

-- an end as a bound of the pool; that of a successor is none
abbrev pub plain_end : Until → Bound
plain_end Unbounded = bound.Unbounded
plain_end (Included from len) = bound.Included from len
plain_end (Excluded from len) = bound.Excluded from len
plain_end (Successor from len) = bound.Unbounded

-- the end e, before a successor where u is one
abbrev pub cut_by : List ℕ → Edge → Until → Edge
cut_by pool e Unbounded = e
cut_by pool e (Included from len) = e
cut_by pool e (Excluded from len) = e
cut_by pool e (Successor from len) = earlier e (top_edge (after (part_of pool from len)))

-- An end as bytes of the pool: of a successor the bytes that are left of its prefix, to the last of which one is to be added.
abbrev pub flat_by : ℕ → Option ℕ → Flat
flat_by from None = record { end = bound.Unbounded; grown = false }
flat_by from (Some n) = record { end = bound.Excluded from n; grown = true }

abbrev pub flat_of : List ℕ → Until → Flat
flat_of pool Unbounded = record { end = bound.Unbounded; grown = false }
flat_of pool (Included from len) = record { end = bound.Included from len; grown = false }
flat_of pool (Excluded from len) = record { end = bound.Excluded from len; grown = false }
flat_of pool (Successor from len) = flat_by from (successor_of (part_of pool from len))

-- ---- a view

-- its row with another visible range
abbrev pub row_seen : ViewRow → Bound → Bound → ViewRow
row_seen v s e = record { id = v.id; sst = v.sst; first = v.first; last = v.last; visible = Some (record { start = s; end = e }) }

-- the range that is seen of a view whose span ends at e
abbrev pub shown_to : Edges → View → Edge → Edges
shown_to r v e = meet_of (meet_of (record { start = included v.first; end = e }) (seen_edges v.visible)) r

-- what is left of it
unfoldable pub kept_to : Edges → View → Edge → List View
kept_to r v e = pick (goes (shown_to r v e) v) [] (with_visible v (shown_to r v e) ∷ [])

-- what the code's answer says is left
abbrev pub left_in : List ℕ → Option (ViewRow × Reach) → List View
left_in pool None = []
left_in pool (Some (v, seen)) = with_visible (view_in pool v) (reach_of pool seen) ∷ []

-- the id of the view that it says is left
abbrev pub ids_left : Option (ViewRow × Reach) → List SstId
ids_left None = []
ids_left (Some (v, seen)) = v.sst ∷ []

-- ---- view k of n that follow each other; those of L0 overlap, and none ends another's span

abbrev pub end_row : Bool → (ℕ → ViewRow) → ℕ → ℕ → Bound
end_row overlap f n k = pick (not overlap && ltb (k + 1) n) (bound.Excluded (f (k + 1)).first.at (f (k + 1)).first.len) (last_bound (f k).last)

abbrev pub end_of : Bool → (ℕ → View) → ℕ → ℕ → Edge
end_of overlap f n k = pick (not overlap && ltb (k + 1) n) (excluded (f (k + 1)).first) (last_end (f k).last)

unfoldable pub piece_of : Edges → Bool → (ℕ → View) → ℕ → ℕ → List View
piece_of r overlap f n k = kept_to r (f k) (end_of overlap f n k)

abbrev pub views_shown : Bool → Edges → List View → List View
views_shown true r vs = l0_shown r vs
views_shown false r vs = run_shown r vs

-- what is left of a run
abbrev pub run_piece : Edges → Run → List Run
run_piece r x = kept_run x (run_shown r x.views)
