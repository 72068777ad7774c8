-- The prefixes of a manifest's segments.
use Rattle.std.specs.Prelude.{ℕ, suc, ◌+◌, ◌/◌, Bool, List, [], ◌∷◌, length, get_or}
use Rattle.keys.specs.Pick.{pick}
use Rattle.tables.specs.Layout.{up_to}
use Rattle.tables.specs.Window.{held_of}
use Rattle.tables.specs.declared.Window.{Window}
use Rattle.records.specs.Model.{Segment}
use Rattle.lawful.specs.Steps.{prefix_at}

-- the prefixes of some segments, in order
abbrev pub prefixes : List Segment → List (List ℕ)
prefixes [] = []
prefixes (s ∷ ss) = s.prefix ∷ prefixes ss

-- the i-th of them
abbrev pub prefix_of : List (List ℕ) → ℕ → List ℕ
prefix_of ps i = get_or ps i []

-- how many at the front pass, before the first that does not
abbrev pub leading : {A : Type 0} → (A → Bool) → List A → ℕ
leading f [] = 0
leading f (x ∷ xs) = pick (f x) (suc (leading f xs)) 0

-- the prefixes as the code finds them: those of a window's rows
unfoldable pub prefixes_in : List ℕ → List ℕ → Window → List (List ℕ)
prefixes_in segments pool w = up_to (λ k. prefix_at segments pool (w.first + k)) (held_of w (length segments / 12))
