-- Insert on an encoded manifest.
use Rattle.std.specs.Prelude.{ℕ, not, ◌||◌, List, [], ◌∷◌, Err, Ok, Result}
use Rattle.keys.specs.Pick.{pick}
use Rattle.records.specs.Fill.{fits}
use Rattle.records.specs.Decode.{Lent}
use Rattle.records.specs.Refusals.{refusal}
use Rattle.records.specs.declared.Fill.{Fill}
use Rattle.records.specs.declared.Limits.{Limits}
use Rattle.records.specs.declared.Refusal.{Refusal}
use Rattle.records.specs.declared.Refusal.TheVariants.{OverLimit, NoRoom}
use Rattle.copy.specs.Copy.{room_of}
use Rattle.segments.specs.Refuses.{prefix_over}
use Rattle.segments.specs.Insert.{Entry, found, entered, refused, inserted_of}
use Rattle.manifest_write.specs.Bytes.{manifest_bytes}
use Rattle.manifest_write.specs.Answer.{put_of, Outcome as Put}
use Rattle.encoded.specs.Encoded.{Encoded, on, encoded_of, long_of, short_of}
use Rattle.encoded.specs.declared.InsertedTo.TheVariants.{Found, Entered}
use Rattle.encoded.specs.declared.InsertedTo.{InsertedTo}

-- an answer, and what the lent slice for the encoded result holds
pub record Outcome : Type 0 where
  pub answer : Result InsertedTo Refusal
  pub out : List ℕ

-- "Each returns its number and place (0 where none is named) and changes no lent output."
abbrev pub refused_to : List ℕ → Refusal → Outcome
refused_to out r = record { answer = Err r; out = out }

-- what came of writing the manifest that the prefix entered at place i
abbrev pub entered_by : ℕ → Result ℕ Refusal → Result InsertedTo Refusal
entered_by i (Ok n) = Ok (Entered i n)
entered_by i (Err r) = Err r

abbrev pub wrote : ℕ → Put → Outcome
wrote i w = record { answer = entered_by i w.answer; out = w.out }

-- "a held prefix is found"; where the prefix entered, the resulting manifest is written
abbrev pub entered_to : List ℕ → Entry → Outcome
entered_to out (found i) = record { answer = Ok (Found i); out = out }
entered_to out (entered i n) = wrote i (put_of (manifest_bytes n) out)
entered_to out (refused r) = refused_to out r

unfoldable pub inserted_in : Limits → Fill → List ℕ → List ℕ → Encoded → Outcome
inserted_in lim room p out x = on (refused_to out) (λ m. entered_to out (inserted_of lim room m p)) x

-- the order of refusals: 2, the working tables w for the manifest and o for the result, 18, 19, 1, then 3 and 4
unfoldable pub insert_to : Limits → List ℕ → List ℕ → Fill → Lent → Lent → List ℕ → Outcome
insert_to lim s p room w o out =
    pick (long_of s || prefix_over lim p) (refused_to out OverLimit)
    (pick (short_of lim w || not (fits lim.fill (room_of o))) (refused_to out NoRoom)
    (inserted_in lim room p out (encoded_of lim s)))

-- the number and the values of each answer
abbrev pub inserted : Result InsertedTo Refusal → List ℕ
inserted (Ok (Found i)) = 0 ∷ 0 ∷ i ∷ []
inserted (Ok (Entered i n)) = 0 ∷ 1 ∷ i ∷ n ∷ []
inserted (Err r) = refusal r
