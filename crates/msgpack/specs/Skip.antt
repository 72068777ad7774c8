-- Skipping a value: the place after it, or the "start of the first innermost bad value (a missing one starts at the end)".
-- `room` is how many levels of arrays and maps may still be opened.
use Rattle.std.specs.Prelude.{ℕ, zero, suc, ◌-◌, List, ltb, length, drop, Err, Ok, Result}
use Rattle.keys.specs.Pick.{pick}
use Rattle.msgpack.specs.Head.{head_of}
use Rattle.msgpack.specs.declared.Head.{Head}
use Rattle.msgpack.specs.declared.Head.TheVariants as head

-- on from where a skip ended, if it did
abbrev pub after : Result ℕ ℕ → (ℕ → Result ℕ ℕ) → Result ℕ ℕ
after (Ok p) k = k p
after (Err q) k = Err q

-- n values in a row, each skipped by `one`: "elements are read one by one, the place is the first bad or missing one"
unfoldable pub many_of : (ℕ → Result ℕ ℕ) → ℕ → ℕ → Result ℕ ℕ
many_of one zero at = Ok at
many_of one (suc n) at = after (one at) (λ p. many_of one n p)

-- by the head at `at`: `group n next` skips the n values of an array; of a map "N times a key and a value", which are n values twice
unfoldable pub skip_head : ℕ → (ℕ → ℕ → Result ℕ ℕ) → Head → Result ℕ ℕ
skip_head at group head.Cut = Err at
skip_head at group head.Never = Err at
skip_head at group (head.Nil next) = Ok next
skip_head at group (head.Flag b next) = Ok next
skip_head at group (head.Uint x next) = Ok next
skip_head at group (head.Minus m next) = Ok next
skip_head at group (head.Bin from n next) = Ok next
skip_head at group (head.Other next) = Ok next
skip_head at group (head.Array n next) = group n next
skip_head at group (head.Map n next) = after (group n next) (λ p. group n p)

-- one value at `at`: an array or map with no room left, "empty or not, is bad at its start, its inside unread"
unfoldable pub value_of : List ℕ → ℕ → ℕ → Result ℕ ℕ
value_of s zero at = skip_head at (λ n next. Err at) (head_of at (drop at s))
value_of s (suc r) at = skip_head at (λ n next. many_of (λ p. value_of s r p) n next) (head_of at (drop at s))

-- "nesting above 16"; "the outermost array is depth 1"
abbrev pub deepest : ℕ
deepest = 16

-- "Further elements after the named ones are skipped, nested ones included": of n elements, those after the first `named`
abbrev pub rest_at : List ℕ → ℕ → ℕ → ℕ → Result ℕ ℕ
rest_at s at n named = many_of (value_of s deepest) (n - named) at

-- "not well-formed MessagePack, bytes left over": bad at what is left
abbrev pub whole_end : ℕ → Result ℕ ℕ → Result Unit ℕ
whole_end len (Ok p) = pick (ltb p len) (Err p) (Ok tt)
whole_end len (Err q) = Err q

-- the bytes are one value, and nothing is left over
unfoldable pub whole_of : List ℕ → Result Unit ℕ
whole_of s = whole_end (length s) (value_of s deepest 0)
