-- Selection on an encoded manifest.
use Rattle.std.specs.Prelude.{ℕ, ◌||◌, List, length, Err, Result}
use Rattle.keys.specs.Pick.{pick}
use Rattle.keys.specs.Range.{Edges}
use Rattle.keys.specs.Pool.{edges_of}
use Rattle.keys.specs.declared.Range.{Range}
use Rattle.records.specs.Decode.{Lent}
use Rattle.records.specs.declared.Limits.{Limits}
use Rattle.records.specs.declared.Refusal.TheVariants.{OverLimit, NoRoom, EmptyRange}
use Rattle.segments.specs.Prefixes.{prefixes}
use Rattle.segments.specs.Refuses.{range_over, refuses5}
use Rattle.segments.specs.Select.{chosen_of}
use Rattle.encoded.specs.Encoded.{Encoded, on, encoded_of, long_of, short_of}
use Rattle.segments.specs.declared.Selected.{Selected}
use Rattle.records.specs.declared.Refusal.{Refusal}

-- "5 | a range argument .. is empty"; else the window
abbrev pub answered : Edges → List (List ℕ) → Result Selected Refusal
answered r ps = pick (refuses5 r) (Err EmptyRange) (chosen_of r ps)

unfoldable pub selected_in : List ℕ → Range → Encoded → Result Selected Refusal
selected_in args r x = on Err (λ m. answered (edges_of args r) (prefixes m.segments)) x

-- the order of refusals: 2, the working tables, 18, 19, 1, 5
unfoldable pub select_of : Limits → List ℕ → List ℕ → Range → Lent → Result Selected Refusal
select_of lim s args r w =
    pick (long_of s || range_over lim.key (length args) r) (Err OverLimit)
    (pick (short_of lim w) (Err NoRoom)
    (selected_in args r (encoded_of lim s)))
