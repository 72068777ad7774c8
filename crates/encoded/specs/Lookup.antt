-- Lookup on an encoded manifest.
use Rattle.std.specs.Prelude.{ℕ, ◌||◌, List, Err, Result}
use Rattle.keys.specs.Pick.{pick}
use Rattle.records.specs.Decode.{Lent}
use Rattle.records.specs.declared.Limits.{Limits}
use Rattle.records.specs.declared.Refusal.TheVariants.{OverLimit, NoRoom}
use Rattle.segments.specs.Prefixes.{prefixes}
use Rattle.segments.specs.Refuses.{prefix_over}
use Rattle.segments.specs.Lookup.{tree_for}
use Rattle.encoded.specs.Encoded.{Encoded, on, encoded_of, long_of, short_of}
use Rattle.segments.specs.declared.Looked.{Looked}
use Rattle.records.specs.declared.Refusal.{Refusal}

-- "Looking up the empty prefix always answers the unsegmented tree."
unfoldable pub looked_in : List ℕ → Encoded → Result Looked Refusal
looked_in p x = on Err (λ m. tree_for (prefixes m.segments) p) x

-- the order of refusals: 2, the working tables, 18, 19, 1
unfoldable pub lookup_of : Limits → List ℕ → List ℕ → Lent → Result Looked Refusal
lookup_of lim s p w =
    pick (long_of s || prefix_over lim p) (Err OverLimit)
    (pick (short_of lim w) (Err NoRoom)
    (looked_in p (encoded_of lim s)))
