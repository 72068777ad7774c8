-- When the refusals 1, 2 and 5 are given.
use Rattle.std.specs.Prelude.{ℕ, Bool, true, false, not, ◌||◌, List, ltb, length, Err, Ok, Result}
use Rattle.keys.specs.Range.{Edges, empty_of}
use Rattle.keys.specs.Pool.{inside_of}
use Rattle.keys.specs.declared.Bound.{Bound}
use Rattle.keys.specs.declared.Bound.TheVariants.{Unbounded, Included, Excluded}
use Rattle.keys.specs.declared.Range.{Range}
use Rattle.records.specs.Decode.{Lent}
use Rattle.records.specs.declared.Limits.{Limits}
use Rattle.records.specs.declared.ManifestRow.{ManifestRow}
use Rattle.lawful.specs.Judge.{judged_of}

-- a bound's key is of more than `most` bytes
abbrev pub long_of : ℕ → Bound → Bool
long_of most Unbounded = false
long_of most (Included at len) = ltb most len
long_of most (Excluded at len) = ltb most len

-- "bound .. over its limit"; one that points outside the pool of n bytes it was lent with is over its limit too
abbrev pub bound_over : ℕ → ℕ → Bound → Bool
bound_over most n b = long_of most b || not (inside_of n b)

-- "2 | prefix, bound .. over its limit": a range's bounds
unfoldable pub range_over : ℕ → ℕ → Range → Bool
range_over most n r = bound_over most n r.start || bound_over most n r.end

-- "2 | prefix, bound .. over its limit": a prefix
abbrev pub prefix_over : Limits → List ℕ → Bool
prefix_over lim p = ltb lim.prefix (length p)

-- "1 | a manifest breaks L1..L5 | first broken rule's number"
abbrev pub is_broken : Result Unit ℕ → Bool
is_broken (Ok _) = false
is_broken (Err rule) = true

abbrev pub rule_of : Result Unit ℕ → ℕ
rule_of (Ok _) = 0
rule_of (Err rule) = rule

abbrev pub refuses1 : Limits → Lent → ManifestRow → Bool
refuses1 lim l m = is_broken (judged_of lim l m)

abbrev pub first_broken : Limits → Lent → ManifestRow → ℕ
first_broken lim l m = rule_of (judged_of lim l m)

-- "5 | a range argument, own ranges apart, is empty"
abbrev pub refuses5 : Edges → Bool
refuses5 r = empty_of r.start r.end
