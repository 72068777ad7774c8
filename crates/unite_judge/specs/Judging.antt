-- A union's arguments as they are lent, judged before any source is looked into.
use Rattle.std.specs.Prelude.{ℕ, suc, ◌+◌, ◌*◌, Bool, true, false, not, ◌&&◌, ◌||◌, List, ltb, leb, Err, Ok, Result}
use Rattle.keys.specs.Pick.{pick}
use Rattle.records.specs.Row.{at, place_at}
use Rattle.records.specs.Decode.{Lent}
use Rattle.records.specs.declared.Limits.{Limits}
use Rattle.records.specs.declared.Place.{Place}
use Rattle.lawful.specs.Judge.{judged_of}
use Rattle.measure.specs.Placed.{opened}
use Rattle.unite_sources.specs.Rows.{manifest_at_word}

-- "source count (8)"
abbrev pub most_sources : ℕ
most_sources = 8

-- "2 | .. path argument .. over its limit": too long, or pointing outside the pool of n bytes
abbrev pub path_over : ℕ → ℕ → Place → Bool
path_over most n p = ltb most p.len || not (leb (p.at + p.len) n)

abbrev pub some_path_over : ℕ → ℕ → List ℕ → ℕ → Bool
some_path_over most n t ℕ.zero = false
some_path_over most n t (suc k) = some_path_over most n t k || path_over most n (place_at t (k * 22 + 18))

-- "1 | a manifest breaks L1..L5 | first broken rule's number", the first of the sources that does. A code of a source's row that stands for
-- nothing breaks L1.
abbrev pub codes_known : List ℕ → ℕ → Bool
codes_known t b = opened (at t b) true && opened (at t (b + 3)) true && opened (at t (b + 12)) true

abbrev pub source_judged : Limits → Lent → List ℕ → ℕ → Result Unit ℕ
source_judged lim l t b = pick (codes_known t b) (judged_of lim l (manifest_at_word t b)) (Err 1)

abbrev pub and_then : Result Unit ℕ → Result Unit ℕ → Result Unit ℕ
and_then (Ok _) next = next
and_then (Err rule) next = Err rule

abbrev pub sources_judged : Limits → Lent → List ℕ → ℕ → Result Unit ℕ
sources_judged lim l t ℕ.zero = Ok tt
sources_judged lim l t (suc k) = and_then (sources_judged lim l t k) (source_judged lim l t (k * 22))

-- the working memory has room for any eight sources within L1: so many words for prefixes, for a source's own ids, for groups, and for id sets
abbrev pub work_short : Limits → ℕ → ℕ → ℕ → ℕ → Bool
work_short lim prefixes owned groups sets =
    ltb prefixes (most_sources * lim.fill.segments * 2) || ltb owned (lim.fill.views * 2)
    || ltb groups (most_sources * (lim.fill.borrows + 1) * 6) || ltb sets (most_sources * (lim.fill.ids + lim.fill.views) * 2)
