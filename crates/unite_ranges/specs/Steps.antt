-- The steps that the code takes.
use Rattle.std.specs.Prelude.{ℕ, suc, List, [], ◌∷◌, ◌++◌}
use Rattle.keys.specs.Pick.{pick}
use Rattle.keys.specs.Key.{is_less}
use Rattle.keys.specs.Range.{Edge}
use Rattle.keys.specs.Meet.{start_order}
use Rattle.keys.specs.declared.Range.{Range}
use Rattle.records.specs.Words.{bound_cell, cell_words}
use Rattle.unite_ranges.specs.Arranged.{Ranged}

-- a row: the number, the start, the end
unfoldable pub row_words : ℕ → Range → List ℕ
row_words what r = what ∷ (cell_words (bound_cell r.start) ++ cell_words (bound_cell r.end))

-- how many stand before the first that starts later than s
unfoldable pub place_of : {A : Type 0} → Edge → List (Ranged A) → ℕ
place_of s [] = 0
place_of s (y ∷ ys) = pick (is_less (start_order s y.range.start)) 0 (suc (place_of s ys))
