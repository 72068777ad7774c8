-- Owned ids of an encoded manifest.
use Rattle.std.specs.Prelude.{ℕ, List, Err}
use Rattle.keys.specs.Pick.{pick}
use Rattle.records.specs.Decode.{Lent}
use Rattle.records.specs.declared.Limits.{Limits}
use Rattle.records.specs.declared.Refusal.{Refusal}
use Rattle.records.specs.declared.Refusal.TheVariants.{OverLimit, NoRoom}
use Rattle.borrows.specs.Answer.{OwnedOutcome, owned_given}
use Rattle.encoded.specs.Encoded.{Encoded, on, encoded_of, long_of, short_of}

-- "Each returns its number and place (0 where none is named) and changes no lent output."
abbrev pub refused_ids : List ℕ → Refusal → OwnedOutcome
refused_ids out r = record { answer = Err r; out = out }

-- "Owned ids: ids of all views, in record order, repeats kept, that no borrow names"
unfoldable pub owned_on : Limits → List ℕ → Encoded → OwnedOutcome
owned_on lim out x = on (refused_ids out) (λ m. owned_given lim m out) x

-- the order of refusals: 2, the working tables, 18, 19, 1, then 4
unfoldable pub owned_to : Limits → List ℕ → Lent → List ℕ → OwnedOutcome
owned_to lim s w out =
    pick (long_of s) (refused_ids out OverLimit)
    (pick (short_of lim w) (refused_ids out NoRoom)
    (owned_on lim out (encoded_of lim s)))
