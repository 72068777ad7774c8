-- What the inner functions answer. No public promise speaks of it.
use Rattle.std.specs.Prelude.{ℕ, ◌+◌, ◌*◌, Bool, not, ◌||◌, ltb}
use Rattle.records.specs.Fill.{bytes, fits}
use Rattle.records.specs.declared.Fill.{Fill}
use Rattle.records.specs.declared.Limits.{Limits}
use Rattle.unite_judge.specs.Judging.{most_sources}
use Rattle.encoded_union.specs.Union.{behind}

-- `short_union` in two parts, by the places that the tables have: those that each source is read into and those that hold all ..
unfoldable pub tables_short : Limits → ℕ → Fill → Fill → Bool
tables_short lim n work all = not (fits lim.fill work) || not (fits (behind lim.fill (bytes n) most_sources) all)

-- .. and all the rest: the list of UUIDs, the tables of the result and what the union itself works with
unfoldable pub rest_short : Limits → ℕ → ℕ → Fill → Bool → Bool
rest_short lim given lent to short = (ltb lent (given + lim.fill.borrows * 2) || not (fits lim.fill to)) || short
