-- The lesser of two numbers: how much of a table is lent, of its rows and the room asked for.
use Rattle.std.specs.Prelude.{ℕ, ◌-◌}

abbrev pub lesser : ℕ → ℕ → ℕ
lesser a b = a - (a - b)
