-- The answer, from the size that was counted and the bytes that were stored. Assumes nothing.
use Rattle.std.specs.Prelude.{Err, Ok, Result}
use mathlib.Core.Path.{◌≡◌, sym, ap, ◌∙◌}
use mathlib.Core.List.{List, ◌++◌}
use Prim.Native.Nat.{ℕ, ◌*◌, ◌≤◌, ◌<◌, ◌^◌}
use native.Mathlib.Nat.{zero-add}
use native.Mathlib.Omega.{arith}
use lib.ListN.{length, drop}
use lib.Seq.{sets-eq}
use borrow.Author.Tests.{lt-ltb, le-ltb}
use Rattle.records.specs.declared.Refusal.TheVariants.{NoRoom, Unlawful}
use Rattle.records.specs.declared.Limits.{Limits}
use Rattle.records.specs.declared.ManifestRow.{ManifestRow}
use Rattle.records.specs.Decode.{Lent, manifest_in}
use Rattle.lawful.specs.Judge.{judged_of}
use Rattle.manifest_write.specs.Bytes.{manifest_bytes}
use Rattle.tables.specs.Layout.{over}
use Rattle.manifest_write.specs.Answer.{Outcome, put_of, write_of}
use Rattle.manifest_write.specs.Wrote.{Wrote}

module _ (d d' bs : List ℕ) (n : ℕ) (w : Wrote d 0 bs n d') (out : List ℕ) (long : length out * 1 < 2 ^ 63) where
  pub no_room : length out < n → ◌≡◌ {A = Outcome} (record { answer = Err NoRoom; out = out }) (put_of bs out)
  unfolding put_of
  no_room h =
      let l : length out < length bs = omega (arith, w.next) in
      rw (lt-ltb (length out) (length bs) l)

  pub done : n ≤ length out → (p : ℕ) (out' : List ℕ) → Wrote out 0 bs p out' → ◌≡◌ {A = Outcome} (record { answer = Ok n; out = out' }) (put_of bs out)
  unfolding put_of
  done h p out' v =
      let e : n ≡ length bs = omega (arith, w.next) in
      let l : length bs ≤ length out = omega arith in
      let f : out' ≡ over out bs = v.is (omega (arith, v.next)) (omega (arith, v.next)) ∙ sets-eq bs out 0 (omega arith) ∙ ap (λ (k : ℕ). bs ++ drop k out) (zero-add (length bs)) in
      rw (le-ltb (length out) (length bs) l, e, f)

-- after the judgement
module _ (lim : Limits) (l : Lent) (m : ManifestRow) (out : List ℕ) (j : Result Unit ℕ) (told : j ≡ judged_of lim l m) where
  pub unlawful : (rule : ℕ) → j ≡ Err rule → ◌≡◌ {A = Outcome} (record { answer = Err (Unlawful rule); out = out }) (write_of lim l m out)
  unfolding write_of
  unlawful rule e = rw (sym told ∙ e)

  pub judged_so : (r : Outcome) → j ≡ Ok tt → r ≡ put_of (manifest_bytes (manifest_in l m)) out → r ≡ write_of lim l m out
  unfolding write_of
  judged_so r e h = rw (sym told ∙ e) h

pub ruleset answers = (no_room, done, unlawful, judged_so)
