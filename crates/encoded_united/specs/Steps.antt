-- What the inner functions answer. No public promise speaks of it.
use Rattle.std.specs.Prelude.{ℕ, ◌*◌, ◌/◌, List, length, take, replicate}
use Rattle.tables.specs.Layout.{over}

-- the fresh UUIDs as they are lent on: n words, with zeros behind those given. An odd last word is none.
unfoldable pub lent_words : List ℕ → ℕ → List ℕ
lent_words fresh n = over (replicate n 0) (take (length fresh / 2 * 2) fresh)
