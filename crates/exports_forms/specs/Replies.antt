-- The numbers that an entry point returns.
use Rattle.std.specs.Prelude.{ℕ, List, get_or}
use Rattle.borrows.specs.Answer.{OwnedOutcome, owned_says}
use Rattle.manifest_write.specs.Answer.{Outcome, written}
use Rattle.exports_forms.specs.declared.Answer.{Answer}

-- the numbers of an answer, in order; 0 where it has no more
abbrev pub told : List ℕ → Answer
told xs = record { number = get_or xs 0 0; first = get_or xs 1 0; second = get_or xs 2 0; third = get_or xs 3 0 }

-- what is returned, and what the lent slice for the encoded result holds
pub record Reply : Type 0 where
  pub answer : Answer
  pub out : List ℕ

-- 0 and how many bytes were written, or the refusal
abbrev pub wrote_reply : Outcome → Reply
wrote_reply o = record { answer = told (written o.answer); out = o.out }

-- 0 and how many ids were laid, or the refusal
abbrev pub owned_reply : OwnedOutcome → Reply
owned_reply o = record { answer = told (owned_says o.answer); out = o.out }
