-- Bounds and ranges of keys, and when a range is empty.
use Rattle.std.specs.Prelude.{ℕ, List, [], ◌∷◌, ◌++◌, Bool, not}
use Rattle.keys.specs.Key.{Below, UpTo}
use Rattle.keys.specs.Prefix.{Bytes, Top, nowhere, at, under_of}

-- "A range has a start and an end bound, each unbounded, included or excluded"
pub data Edge : Type 0 where
  unbounded : Edge
  included : List ℕ → Edge
  excluded : List ℕ → Edge

pub record Edges : Type 0 where
  pub start : Edge
  pub end : Edge

-- a key lies from a start on
abbrev pub From : Edge → List ℕ → Type 0
From unbounded k = Unit
From (included a) k = UpTo a k
From (excluded a) k = Below a k

-- a key lies up to an end
abbrev pub To : List ℕ → Edge → Type 0
To k unbounded = Unit
To k (included b) = UpTo k b
To k (excluded b) = Below k b

-- a key is in a range
pub record In (k : List ℕ) (r : Edges) : Type 0 where
  pub from : From r.start k
  pub to : To k r.end

-- "and is empty when no key is in it"
unfoldable pub Empty : Edges → Type 0
Empty r = (k : List ℕ) → Bytes k → In k r → ⊥

-- The test. The least key above a is a and a 0, so a range is the keys from its least key on, below its top.
abbrev pub low : Edge → List ℕ
low unbounded = []
low (included a) = a
low (excluded a) = a ++ 0 ∷ []

abbrev pub top : Edge → Top
top unbounded = nowhere
top (included b) = at (b ++ 0 ∷ [])
top (excluded b) = at b

-- no key is in the range: not even its least is below its top
unfoldable pub empty_of : Edge → Edge → Bool
empty_of s e = not (under_of (low s) (top e))
