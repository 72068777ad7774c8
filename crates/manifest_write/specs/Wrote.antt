-- What the writers of records promise. With room they store; without they only count, so that one walk over the records serves for
-- the size and for the bytes. Assumes nothing: these are definitions.
use Rattle.std.specs.Prelude.{◌≡◌, ℕ, ◌+◌, ◌-◌, ◌≤◌, List, length}
use Rattle.std.proofs.lemmas.List.Edits.{sets}

-- the lesser of x and the last place there is
abbrev pub capped : ℕ → ℕ
capped x = x - (x - 0xffff_ffff_ffff_ffff)

-- bs was to be stored at `at` in d, which is d' now; p is the place after it, and where that is within d, bs was stored
pub record Wrote (d : List ℕ) (at : ℕ) (bs : List ℕ) (p : ℕ) (d' : List ℕ) : Type 0 where
  pub next : p ≡ capped (at + length bs)
  pub long : length d' ≡ length d
  pub is : p ≡ at + length bs → p ≤ length d → d' ≡ sets d at bs
