-- The lists that the union itself works with.
use Rattle.std.specs.Prelude.{ℕ, Bool}
use Rattle.records.specs.declared.Limits.{Limits}
use Rattle.unite_judge.specs.Judging.{work_short}

-- three of them are its own, as long as eight sources within document 01's limits ask: 8 * 64 * 2 words for prefixes, 512 * 2 for a source's own
-- ids, 8 * (32 + 1) * 6 for groups. The words for id sets are lent.
abbrev pub own_short : Limits → ℕ → Bool
own_short lim sets = work_short lim 1024 1024 1584 sets
