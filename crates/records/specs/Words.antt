-- The words of each row: what `Row` reads, written. An absent key, range or id leaves zeros.
use Rattle.std.specs.Prelude.{ℕ, List, [], ◌∷◌, ◌++◌, None, Option, Some}
use Rattle.keys.specs.declared.Bound.{Bound}
use Rattle.keys.specs.declared.Bound.TheVariants.{Unbounded, Included, Excluded}
use Rattle.ids.specs.declared.SstId.{SstId}
use Rattle.records.specs.declared.Cell.{Cell}
use Rattle.records.specs.declared.Cells.{Cells}
use Rattle.records.specs.declared.ViewRow.{ViewRow}
use Rattle.records.specs.declared.RunRow.{RunRow}
use Rattle.records.specs.declared.TreeRow.{TreeRow}
use Rattle.records.specs.declared.SegmentRow.{SegmentRow}
use Rattle.records.specs.declared.BorrowRow.{BorrowRow}
use Rattle.ids.specs.declared.ViewId.{ViewId}
use Rattle.ids.specs.declared.Uuid.{Uuid}
use Rattle.records.specs.declared.Place.{Place}
use Rattle.keys.specs.declared.Range.{Range}

-- a code and two numbers
abbrev pub cell : ℕ → ℕ → ℕ → Cell
cell k a b = record { code = k; a = a; b = b }

abbrev pub nothing : Cell
nothing = cell 0 0 0

abbrev pub bound_cell : Bound → Cell
bound_cell Unbounded = nothing
bound_cell (Included from len) = cell 1 from len
bound_cell (Excluded from len) = cell 2 from len

abbrev pub last_cell : Option Place → Cell
last_cell None = nothing
last_cell (Some p) = cell 1 p.at p.len

-- the two halves of an id, whatever type holds it
abbrev pub mark_cell : {A : Type 0} → (A → ℕ × ℕ) → Option A → Cell
mark_cell halves None = nothing
mark_cell halves (Some x) = cell 1 (halves x).0 (halves x).1

abbrev pub view_mark_cell : Option ViewId → Cell
view_mark_cell = mark_cell λ x. (x.0, x.1)

abbrev pub sst_mark_cell : Option SstId → Cell
sst_mark_cell = mark_cell λ x. (x.0, x.1)

abbrev pub final_cell : Option Uuid → Cell
final_cell = mark_cell λ x. (x.0, x.1)

abbrev pub visible_cells : Option Range → Cells
visible_cells None = record { code = 0; start = nothing; end = nothing }
visible_cells (Some r) = record { code = 1; start = bound_cell r.start; end = bound_cell r.end }

abbrev pub cell_words : Cell → List ℕ
cell_words c = c.code ∷ c.a ∷ c.b ∷ []

unfoldable pub view_words : ViewRow → List ℕ
view_words v = v.id.0 ∷ v.id.1 ∷ v.sst.0 ∷ v.sst.1 ∷ v.first.at ∷ v.first.len ∷ (cell_words (last_cell v.last)
    ++ ((visible_cells v.visible).code ∷ (cell_words (visible_cells v.visible).start ++ cell_words (visible_cells v.visible).end)))

unfoldable pub run_words : RunRow → List ℕ
run_words r = r.id ∷ r.views.first ∷ r.views.count ∷ []

unfoldable pub tree_words : TreeRow → List ℕ
tree_words t = cell_words (view_mark_cell t.view) ++ (cell_words (sst_mark_cell t.sst) ++ (t.l0.first ∷ t.l0.count ∷ t.compacted.first ∷ t.compacted.count ∷ []))

unfoldable pub segment_words : SegmentRow → List ℕ
segment_words s = s.prefix.at ∷ s.prefix.len ∷ tree_words s.tree

unfoldable pub borrow_words : BorrowRow → List ℕ
borrow_words b = b.path.at ∷ b.path.len ∷ b.source.0 ∷ b.source.1 ∷ (cell_words (final_cell b.fin) ++ (b.ids.first ∷ b.ids.count ∷ []))

unfoldable pub id_words : SstId → List ℕ
id_words x = x.0 ∷ x.1 ∷ []
