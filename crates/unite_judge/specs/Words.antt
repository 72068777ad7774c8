-- What all sources say together, as the code finds it in their rows. No public promise speaks of it.
use Rattle.std.specs.Prelude.{ℕ, suc, ◌+◌, ◌*◌, List, None, Option, Some}
use Rattle.records.specs.Row.{at, place_at, optional}
use Rattle.unite_sources.specs.Source.{greater}
use Rattle.records.specs.declared.Place.{Place}

-- "last_l0_seq the greatest over all sources": over the first n rows
abbrev pub greatest_at : List ℕ → ℕ → ℕ
greatest_at t ℕ.zero = 0
greatest_at t (suc n) = greater (greatest_at t n) (at t (n * 22 + 15))

-- the name of the row that begins at word b
abbrev pub name_at : List ℕ → ℕ → Option Place
name_at t b = optional None Some (at t (b + 12)) (place_at t (b + 13))

-- "the extractor name the agreed one": that of the first of n rows
abbrev pub agreed_at : List ℕ → ℕ → Option Place
agreed_at t ℕ.zero = None
agreed_at t (suc n) = name_at t 0
