-- The union of used sources in order, by the extractor name that all sources agree on: how the code is divided. No public promise speaks of it.
use Rattle.std.specs.Prelude.{ℕ, List}
use Rattle.ids.specs.declared.Uuid.{Uuid}
use Rattle.records.specs.Model.{Extractor}
use Rattle.records.specs.Decode.{Lent}
use Rattle.records.specs.declared.Limits.{Limits}
use Rattle.unite_ranges.specs.Arranged.{Ranged, whats}
use Rattle.unite_ranges.specs.Rows.{ranged_in}
use Rattle.unite_sources.specs.Source.{Source}
use Rattle.unite_sources.specs.Rows.{ranged_sources}
use Rattle.unite.specs.United.{tree_united, segments_united, borrows_united, assembled}
use Rattle.unite.specs.Answer.{Outcome, union_to, unless_unfit}

-- the used sources as the code holds them: n rows of seven words, the first the word at which the source's own row begins
abbrev pub used_in : Lent → List ℕ → List ℕ → ℕ → List (Ranged Source)
used_in l t rows n = ranged_sources l t (ranged_in l.pool rows n)

-- "then 12, 13 without an extractor or 14, 12 with one, then 15, 4, 16", and the union
unfoldable pub union_by : Limits → Extractor → List (Ranged Source) → ℕ → List Uuid → Lent → Outcome
union_by lim name us seq fresh o =
    unless_unfit name us o
    (union_to lim (whats us) fresh (assembled (tree_united name (whats us)) (segments_united name (whats us)) name seq (borrows_united (whats us) fresh)) o)
