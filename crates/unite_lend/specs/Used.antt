-- The used sources as the code holds them: rows of seven words, the first the word at which the source's row begins. What the union asks of
-- them besides their trees. No public promise speaks of it.
use Rattle.std.specs.Prelude.{ℕ, zero, suc, ◌+◌, ◌*◌, ◌/◌, Bool, true, false, ◌&&◌, ◌||◌, List, [], ◌∷◌, ◌++◌, ltb, leb, length, Err, Ok, Result}
use Rattle.tables.specs.Layout.{joined}
use Rattle.tables.specs.Window.{held_of}
use Rattle.records.specs.Row.{at, window_at}
use Rattle.records.specs.Decode.{Lent, borrows_in}
use Rattle.records.specs.declared.Limits.{Limits}
use Rattle.measure.specs.Tests.{all_below}
use Rattle.lawful.specs.Judge.{judged_of}
use Rattle.borrows.specs.Owned.{owned_of}
use Rattle.borrows.specs.Clone.{refuses15}
use Rattle.unite_groups.specs.Groups.{Member}
use Rattle.unite_groups.specs.Rows.{borrow_members, owned_member}
use Rattle.unite_sources.specs.Source.{Source}
use Rattle.unite_sources.specs.Rows.{manifest_at_word, source_at_word, begins}

-- one of the numbers below n passes
abbrev pub some_below : (ℕ → Bool) → ℕ → Bool
some_below p zero = false
some_below p (suc n) = some_below p n || p n

-- "15 | a used borrow has no final checkpoint"
abbrev pub lacks_at : List ℕ → List ℕ → List ℕ → ℕ → Bool
lacks_at borrows t rows i = refuses15 (borrows_in borrows [] [] (window_at t (at rows (i * 7) + 16)))

-- "13 | segments in a used source, no extractor"
abbrev pub segmented_at : List ℕ → List ℕ → List ℕ → ℕ → Bool
segmented_at segments t rows i = ltb 0 (held_of (window_at t (at rows (i * 7) + 10)) (length segments / 12))

-- a source's path and checkpoint, as they stand in its row
unfoldable pub supply_words : List ℕ → ℕ → List ℕ
supply_words t b = at t (b + 18) ∷ at t (b + 19) ∷ at t (b + 20) ∷ at t (b + 21) ∷ []

-- "each used source's borrows with source checkpoint := final, then its owned ids if any under its own path and checkpoint"
unfoldable pub own_members : Source → List Member
own_members s = owned_member s.path s.checkpoint (owned_of s.manifest)

unfoldable pub source_members : Source → List Member
source_members s = borrow_members s.manifest.borrows ++ own_members s

unfoldable pub members_at : Lent → List ℕ → List ℕ → ℕ → List Member
members_at l t rows n = joined (λ b. source_members (source_at_word l t b)) (begins rows n)

-- a source whose row stands in the table, and that is lawful
abbrev pub is_lawful : Result Unit ℕ → Bool
is_lawful (Ok _) = true
is_lawful (Err rule) = false

unfoldable pub sound_at : Limits → Lent → List ℕ → ℕ → Bool
sound_at lim l t b = leb (b + 22) (length t) && is_lawful (judged_of lim l (manifest_at_word t b))

abbrev pub sound_below : Limits → Lent → List ℕ → List ℕ → ℕ → Bool
sound_below lim l t rows n = all_below (λ i. sound_at lim l t (at rows (i * 7))) n
