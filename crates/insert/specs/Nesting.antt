-- What a new prefix nests with.
use Rattle.std.specs.Prelude.{ℕ, List, None, Option, Some}
use Rattle.keys.specs.Pick.{pick}
use Rattle.segments.specs.Place.{refuses3, conflict_of}

-- "3 | insert nests | conflict's index"
abbrev pub nesting_of : List (List ℕ) → List ℕ → Option ℕ
nesting_of ps p = pick (refuses3 ps p) (Some (conflict_of ps p)) None
