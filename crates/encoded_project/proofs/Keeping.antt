-- Reading behind the arguments: what stands there, and the order of refusals. Assumes nothing.
use Rattle.std.specs.Prelude.{Err, Ok, Result}
use Prim.Native.Nat.{ℕ, ◌+◌, ◌*◌, ◌/◌, ◌≤◌}
use mathlib.Core.Path.{◌≡◌, refl, sym, ap, ◌∙◌}
use mathlib.Core.Bool.{Bool, true, false, ◌&&◌, ◌||◌}
use mathlib.Core.List.{List, [], ◌++◌}
use native.Mathlib.Omega.{arith}
use borrow.Author.Tests.{ltb-false}
use lib.Dec.{ltb}
use lib.ListN.{length, take, drop}
use lib.Seq.{take_at}
use Rattle.keys.specs.Pick.{pick}
use Rattle.keys.proofs.Says.{true_says}
use Rattle.tables.specs.Layout.{write}
use Rattle.records.specs.Model.{Manifest}
use Rattle.records.specs.Fill.{plus, bytes, fits}
use Rattle.records.specs.Layout.{manifest_row_at, layout_at}
use Rattle.records.specs.Decode.{Lent, manifest_in}
use Rattle.records.specs.declared.Fill.{Fill}
use Rattle.records.specs.declared.Limits.{Limits}
use Rattle.records.specs.declared.ManifestRow.{ManifestRow}
use Rattle.records.specs.declared.Refusal.{Refusal}
use Rattle.records.specs.declared.Refusal.TheVariants.{Unlawful, OverLimit, NoRoom, NotWellFormed, NotTheRecord}
use Rattle.measure.proofs.Fits.{under, says_fits}
use Rattle.lawful.specs.Judge.{judged_of}
use Rattle.copy.specs.Copy.{room_of, Outcome as Laid, given_at, copy_at_of}
use Rattle.msgpack.specs.Skip.{whole_of}
use Rattle.manifest_values.specs.Read.{Got, is, wrong, manifest_at}
use Rattle.manifest_rows.specs.Stored.{ManifestIs}
use Rattle.manifest_read.specs.Answer.{broken_of, refused, by_law, by_record, by_whole, work_room, read_at_of}
use Rattle.manifest_read.proofs.Answers.{SameLong, rows_over, rows_judged}
use Rattle.project_ranges.specs.Config.{Config}
use Rattle.project_ranges.specs.Args.{global_over, config_over}
use Rattle.project_ranges.specs.declared.ProjectionConfig.{ProjectionConfig}
use Rattle.encoded.specs.Encoded.{Encoded, holds, on, by_law as law, by_record as record_by, by_whole as whole_by, encoded_of, long_of}
use Rattle.standing.proofs.Reading.{read_into, read_is, Accepted, accepted_decode, accepted_judged, read_refused, read_accepted}
use Rattle.encoded_project.specs.Project.{Outcome, refused_to, config_for, over_got, over_whole, over_in, projected_to, short_any, project_to}
use Rattle.encoded_project.specs.Steps.{kept_at, read_with, read_behind}
use Rattle.encoded_project.proofs.Rooms.{both_true, short_list, short_tables, short_none, args_room, args_laid, work_room_lem}
use Rattle.encoded_project.proofs.Args.{either_false, config_front}

-- ---- rows, judged and copied

module _ (lim : Limits) (f c : Fill) (l : Lent) (m : ManifestRow) (o : Lent) (b : Bool) (e : b ≡ fits f lim.fill) where
  pub kept_over : b ≡ false → refused (Unlawful 1) o ≡ kept_at lim f c l m o
  unfolding kept_at
  kept_over h = rw (sym e ∙ h)

  module _ (h : b ≡ true) (j : Result Unit ℕ) (k : j ≡ judged_of lim l m) where
    pub kept_broken : (rule : ℕ) → j ≡ Err rule → refused (Unlawful rule) o ≡ kept_at lim f c l m o
    unfolding kept_at
    kept_broken rule g = rw (sym e ∙ h, sym k ∙ g)

    pub kept_lawful : j ≡ Ok tt → copy_at_of lim c l m o ≡ kept_at lim f c l m o
    unfolding kept_at
    kept_lawful g = rw (sym e ∙ h, sym k ∙ g)

-- ---- the bytes of the rows

module _ (lim : Limits) (n : ℕ) (a : ProjectionConfig) (own : List ℕ) (c : Fill) (o : Lent) where
  abbrev over : Manifest → Bool
  over m = config_over lim.key n (length m.segments) a own

  abbrev give : Manifest → Laid
  give m = given_at lim c m o

  pub rows_wrong : (g : Got Manifest) (q : ℕ) → g ≡ wrong q → refused (NotTheRecord q) o ≡ pick (over_got over g) (refused OverLimit o) (by_record lim give o g)
  rows_wrong g q h = rw h

  module _ (g : Got Manifest) (l l' : Lent) (row : ManifestRow) (f : Fill) (p : ℕ) (x : ManifestIs g l l' row f p) (b : Bool) (e : b ≡ config_over lim.key n row.segments.count a own) where
    over_is : over_got over g ≡ b
    over_is = ap (over_got over) x.read ∙ sym (e ∙ ap (λ (r : ManifestRow). config_over lim.key n r.segments.count a own) x.step.is)

    pub rows_past : b ≡ true → refused OverLimit o ≡ pick (over_got over g) (refused OverLimit o) (by_record lim give o g)
    rows_past h = rw (over_is ∙ h)

    pub rows_kept_lem : b ≡ false → l'.pool ≡ l.pool → SameLong l l' → fits lim.fill (work_room lim l) ≡ true
        → kept_at lim f c l' row o ≡ pick (over_got over g) (refused OverLimit o) (by_record lim give o g)
    unfolding kept_at
    rows_kept_lem h q s w = rw (over_is ∙ h) (go (fits f lim.fill) refl)
      where
        go : (y : Bool) → fits f lim.fill ≡ y → pick y (by_law (judged_of lim l' row) (copy_at_of lim c l' row o) o) (refused (Unlawful 1) o) ≡ by_record lim give o g
        go true k = rows_judged lim g l l' o row f p x c q s k w
        go false k = rows_over lim g l l' o row f p x give k

  -- ---- the bytes

  module _ (s : List ℕ) (w : Result Unit ℕ) (e : w ≡ whole_of s) where
    pub behind_good : (y : Laid) → w ≡ Ok tt → y ≡ pick (over_got over (manifest_at s 0)) (refused OverLimit o) (by_record lim give o (manifest_at s 0)) → y ≡ read_with lim n a own s c o
    unfolding read_with over_in
    behind_good y h k = rw (sym e ∙ h) k

    pub behind_bad : (q : ℕ) → w ≡ Err q → refused (NotWellFormed q) o ≡ read_with lim n a own s c o
    unfolding read_with over_in
    behind_bad q h = rw (sym e ∙ h)

-- ---- room for what was laid before

from_fits : (n : ℕ) (most room : Fill) → fits (plus (bytes n) most) room ≡ true → fits (bytes n) room ≡ true
from_fits n most room h =
    let u = under (plus (bytes n) most) room h in
    true_says (says_fits (bytes n) room) (record { segments = omega arith; views = omega arith; runs = omega arith; borrows = omega arith; ids = omega arith; bytes = omega (arith, u.bytes) })

-- ---- the arguments, and the bytes behind them

module _ (lim : Limits) (args : List ℕ) (a : ProjectionConfig) (own s : List ℕ) (w o : Lent) (b : Bool)
    (e : b ≡ (fits lim.fill (work_room lim w) && fits (plus (bytes (length args)) lim.fill) (room_of o))) where
  pub behind_short : b ≡ false → refused NoRoom o ≡ read_behind lim args a own s w o
  unfolding read_behind
  behind_short h = rw (sym e ∙ h)

  module _ (h : b ≡ true) where
    behind_both : (fits lim.fill (work_room lim w) ≡ true) × (fits (plus (bytes (length args)) lim.fill) (room_of o) ≡ true)
    behind_both = both_true (fits lim.fill (work_room lim w)) (fits (plus (bytes (length args)) lim.fill) (room_of o)) (sym e ∙ h)

    pub behind_args : 0 + length args ≤ length o.pool
    behind_args = args_room lim.fill o args behind_both.1

    module _ (p : List ℕ) (ep : p ≡ write o.pool 0 args) where
      pub behind_rows : (fits (bytes (length args)) (room_of (record { segments = o.segments; views = o.views; runs = o.runs; borrows = o.borrows; ids = o.ids; pool = p })) ≡ true) × (fits lim.fill (work_room lim w) ≡ true)
      behind_rows = (from_fits (length args) lim.fill (room_of (record { segments = o.segments; views = o.views; runs = o.runs; borrows = o.borrows; ids = o.ids; pool = p })) (args_laid lim.fill o args behind_both.1 p ep), behind_both.0)

      pub behind_laid : (y : Laid) → y ≡ read_with lim (length args) a own s (bytes (length args)) (record { segments = o.segments; views = o.views; runs = o.runs; borrows = o.borrows; ids = o.ids; pool = p }) → y ≡ read_behind lim args a own s w o
      unfolding read_behind
      behind_laid y k =
          k ∙ ap (λ (q : List ℕ). read_with lim (length args) a own s (bytes (length args)) (record { segments = o.segments; views = o.views; runs = o.runs; borrows = o.borrows; ids = o.ids; pool = q })) ep ∙ rw (sym e ∙ h)

-- ---- what was read, and the projection of it

-- the own ranges that count, of bytes that are a manifest
over_of : (lim : Limits) (n : ℕ) (a : ProjectionConfig) (own s : List ℕ) (m : Manifest) → encoded_of lim s ≡ holds m → over_in lim n a own s ≡ config_over lim.key n (length m.segments) a own
unfolding encoded_of over_in
over_of lim n a own s m e = go (whole_of s) e
  where
    f : Manifest → Bool
    f m = config_over lim.key n (length m.segments) a own

    judged : (k : Manifest) (j : Result Unit ℕ) → law j k ≡ holds m → f k ≡ f m
    judged k (Ok _) e = let z : k ≡ m = cc in ap f z
    judged k (Err r) e = let z : ◌≡◌ {A = ℕ} 0 1 = cc in absurd (omega arith)

    got : (g : Got Manifest) → record_by lim g ≡ holds m → over_got f g ≡ f m
    got (is k p) e = judged k (broken_of lim k) e
    got (wrong q) e = let z : ◌≡◌ {A = ℕ} 0 1 = cc in absurd (omega arith)

    go : (x : Result Unit ℕ) → whole_by lim s x ≡ holds m → over_whole f s x ≡ f m
    go (Ok _) e = got (manifest_at s 0) e
    go (Err q) e = let z : ◌≡◌ {A = ℕ} 0 1 = cc in absurd (omega arith)

module _ (lim : Limits) (s args : List ℕ) (a : ProjectionConfig) (own : List ℕ) (room : Fill) (out : List ℕ) where
  abbrev asked : Encoded → Outcome
  asked x = on (refused_to out) (λ m. projected_to lim room out (config_for args a own (length m.segments)) m) x

  asked_holds : (m : Manifest) (b : Bool) (x : Encoded) → b ≡ false → x ≡ holds m → projected_to lim room out (config_for args a own (length m.segments)) m ≡ pick b (refused_to out OverLimit) (asked x)
  asked_holds m b x h e = rw (h, e)

  module _ (n : ℕ) (en : n ≡ length args) (w : Lent) (ls : long_of s ≡ false) (kw : fits lim.fill (work_room lim w) ≡ true)
      (o : Lent) (rest : List ℕ) (ep : o.pool ≡ args ++ rest) (ko : fits (plus (bytes n) lim.fill) (room_of o) ≡ true)
      (r : Result ManifestRow Refusal) (o' : Lent) (e : record { answer = r; out = o' } ≡ read_with lim n a own s (bytes n) o) where
    -- what reading comes to
    read_whole : by_whole lim (λ m. given_at lim (bytes n) m o) s o (whole_of s) ≡ read_into (bytes n) o (encoded_of lim s)
    unfolding read_at_of
    read_whole = let z = read_is lim (bytes n) o ko s w ls kw in rw (ls, kw) at z

    read_by : record { answer = r; out = o' } ≡ pick (over_in lim n a own s) (refused OverLimit o) (read_into (bytes n) o (encoded_of lim s))
    unfolding read_with
    read_by = e ∙ ap (λ (y : Laid). pick (over_in lim n a own s) (refused OverLimit o) y) read_whole

    pub read_refuses : (x : Refusal) → r ≡ Err x → refused_to out x ≡ pick (over_in lim (length args) a own s) (refused_to out OverLimit) (asked (encoded_of lim s))
    read_refuses x f = rw (← en) (go (over_in lim n a own s) read_by)
      where
        go : (b : Bool) → record { answer = r; out = o' } ≡ pick b (refused OverLimit o) (read_into (bytes n) o (encoded_of lim s)) → refused_to out x ≡ pick b (refused_to out OverLimit) (asked (encoded_of lim s))
        go true k = let u : Err x ≡ Err OverLimit = sym f ∙ ap (λ (y : Laid). y.answer) k in let z : x ≡ OverLimit = cc in ap (refused_to out) z
        go false k = rw (read_refused lim s (bytes n) o o' r k x f)

    module _ (row : ManifestRow) (f : r ≡ Ok row) where
      not_over : over_in lim n a own s ≡ false
      not_over = go (over_in lim n a own s) read_by
        where
          go : (b : Bool) → record { answer = r; out = o' } ≡ pick b (refused OverLimit o) (read_into (bytes n) o (encoded_of lim s)) → b ≡ false
          go true k = let u : Ok row ≡ Err OverLimit = sym f ∙ ap (λ (y : Laid). y.answer) k in let z : ◌≡◌ {A = ℕ} 0 1 = cc in absurd (omega arith)
          go false k = refl

      read_in : record { answer = r; out = o' } ≡ read_into (bytes n) o (encoded_of lim s)
      read_in = rw not_over at read_by

      accepted : Accepted lim s (bytes n) row o'
      accepted = read_accepted lim s (bytes n) o o' r read_in ko row f

      pub read_judged : judged_of lim o' row ≡ Ok tt
      read_judged = accepted_judged lim s (bytes n) row o' accepted

      -- the arguments stand on, in front of it
      behind : List ℕ
      behind = (layout_at (bytes n) accepted.value).pool ++ drop (n + length (layout_at (bytes n) accepted.value).pool) o.pool

      pool_front : o'.pool ≡ args ++ behind
      unfolding behind
      pool_front =
          ap (λ (y : Laid). y.out.pool) (rw accepted.is at read_in)
          ∙ ap (λ (l : List ℕ). l ++ ((layout_at (bytes n) accepted.value).pool ++ drop (n + length (layout_at (bytes n) accepted.value).pool) o.pool)) (ap (take n) ep ∙ take_at args rest n (sym en))

      counted_is : row.segments.count ≡ length accepted.value.segments
      unfolding manifest_row_at
      counted_is = ap (λ (y : ManifestRow). y.segments.count) accepted.at

      config_is : config_for o'.pool a own row.segments.count ≡ config_for args a own (length accepted.value.segments)
      config_is =
          ap (λ (p : List ℕ). config_for p a own row.segments.count) pool_front
          ∙ ap (config_for (args ++ behind) a own) counted_is
          ∙ config_front args behind lim.key (length accepted.value.segments) a own (ap (λ (k : ℕ). config_over lim.key k (length accepted.value.segments) a own) (sym en) ∙ sym (over_of lim n a own s accepted.value accepted.is) ∙ not_over)

      pub read_projects : projected_to lim room out (config_for o'.pool a own row.segments.count) (manifest_in o' row) ≡ pick (over_in lim (length args) a own s) (refused_to out OverLimit) (asked (encoded_of lim s))
      read_projects =
          ap (λ (y : Config). projected_to lim room out y (manifest_in o' row)) config_is
          ∙ ap (λ (m : Manifest). projected_to lim room out (config_for args a own (length accepted.value.segments)) m) (accepted_decode lim s (bytes n) row o' accepted)
          ∙ asked_holds accepted.value (over_in lim (length args) a own s) (encoded_of lim s) (ap (λ (k : ℕ). over_in lim k a own s) (sym en) ∙ not_over) accepted.is

-- ---- what stands behind the arguments

module _ (lim : Limits) (s args : List ℕ) (a : ProjectionConfig) (own : List ℕ) (w t : Lent) (h : (long_of s || global_over lim.key (length args) a.global_range) ≡ false) (r : Result ManifestRow Refusal) (o : Lent) (e : record { answer = r; out = o } ≡ read_behind lim args a own s w t) where
  ls : long_of s ≡ false
  ls = (either_false (long_of s) (global_over lim.key (length args) a.global_range) h).0

  abbrev enough : Bool
  enough = fits lim.fill (work_room lim w) && fits (plus (bytes (length args)) lim.fill) (room_of t)

  abbrev laid : Lent
  laid = record { segments = t.segments; views = t.views; runs = t.runs; borrows = t.borrows; ids = t.ids; pool = write t.pool 0 args }

  read_laid : enough ≡ true → record { answer = r; out = o } ≡ read_with lim (length args) a own s (bytes (length args)) laid
  unfolding read_behind
  read_laid k = let z : read_behind lim args a own s w t ≡ read_with lim (length args) a own s (bytes (length args)) laid = rw k in e ∙ z

  read_short : enough ≡ false → record { answer = r; out = o } ≡ refused NoRoom t
  unfolding read_behind
  read_short k = let z : read_behind lim args a own s w t ≡ refused NoRoom t = rw k in e ∙ z

  work_fits : enough ≡ true → fits lim.fill (work_room lim w) ≡ true
  work_fits k = (both_true (fits lim.fill (work_room lim w)) (fits (plus (bytes (length args)) lim.fill) (room_of t)) k).0

  laid_fits : enough ≡ true → fits (plus (bytes (length args)) lim.fill) (room_of laid) ≡ true
  laid_fits k = args_laid lim.fill t args (both_true (fits lim.fill (work_room lim w)) (fits (plus (bytes (length args)) lim.fill) (room_of t)) k).1 (write t.pool 0 args) refl

  module _ (row : ManifestRow) (f : r ≡ Ok row) where
    done_enough : enough ≡ true
    done_enough = go enough refl
      where
        go : (b : Bool) → enough ≡ b → enough ≡ true
        go true k = k
        go false k = let u : Ok row ≡ Err NoRoom = sym f ∙ ap (λ (y : Laid). y.answer) (read_short k) in let z : ◌≡◌ {A = ℕ} 0 1 = cc in absurd (omega arith)

    -- what is asked of the rows that are projected, of the list of ids in use and of the tables of the result
    pub done_requires : (u p : ℕ) → (ltb (u / 2) lim.fill.views || ltb p lim.fill.bytes) ≡ false → (a b c d e : ℕ) → a ≡ length w.segments → b ≡ length w.views → c ≡ length w.runs → d ≡ length w.borrows → e ≡ length w.ids
        → (judged_of lim o row ≡ Ok tt) × ((lim.fill.views ≤ u / 2) × ((lim.fill.segments * 12 ≤ a) × (lim.fill.views * 16 ≤ b) × (lim.fill.runs * 3 ≤ c) × (lim.fill.borrows * 9 ≤ d) × (lim.fill.ids * 2 ≤ e) × (lim.fill.bytes ≤ p)))
    done_requires u p g b c d i j eb ec ed ei ej =
        let q = either_false (ltb (u / 2) lim.fill.views) (ltb p lim.fill.bytes) g in (
          read_judged lim s args a own lim.fill [] (length args) refl w ls (work_fits done_enough) laid (drop (0 + length args) t.pool) refl (laid_fits done_enough) r o (read_laid done_enough) row f,
          (
            ltb-false (u / 2) lim.fill.views q.0,
            work_room_lem lim w (work_fits done_enough) b c d i j p eb ec ed ei ej (ltb-false p lim.fill.bytes q.1),
          ),
        )

-- ---- the order of refusals

module _ (lim : Limits) (s args : List ℕ) (a : ProjectionConfig) (own : List ℕ) (room : Fill) (w t : Lent) (used pool out : List ℕ) where
  pub project_over : (long_of s || global_over lim.key (length args) a.global_range) ≡ true → refused_to out OverLimit ≡ project_to lim s args a own room w t used pool out
  unfolding project_to
  project_over h = rw h

  module _ (h : (long_of s || global_over lim.key (length args) a.global_range) ≡ false) where
    project_short : short_any lim (length args) w t used pool ≡ true → refused_to out NoRoom ≡ project_to lim s args a own room w t used pool out
    unfolding project_to
    project_short g = rw (h, g)

    project_bytes : short_any lim (length args) w t used pool ≡ false
        → pick (over_in lim (length args) a own s) (refused_to out OverLimit) (asked lim s args a own room out (encoded_of lim s)) ≡ project_to lim s args a own room w t used pool out
    unfolding project_to
    project_bytes g = rw (h, g)

    pub project_list : (ltb (length used / 2) lim.fill.views || ltb (length pool) lim.fill.bytes) ≡ true → refused_to out NoRoom ≡ project_to lim s args a own room w t used pool out
    project_list g = project_short (short_list (fits lim.fill (work_room lim w)) (fits (plus (bytes (length args)) lim.fill) (room_of t)) (ltb (length used / 2) lim.fill.views) (ltb (length pool) lim.fill.bytes) g)

    module _ (g : (ltb (length used / 2) lim.fill.views || ltb (length pool) lim.fill.bytes) ≡ false) (r : Result ManifestRow Refusal) (o : Lent) (e : record { answer = r; out = o } ≡ read_behind lim args a own s w t) where
      roomy : enough lim s args a own w t h r o e ≡ true → short_any lim (length args) w t used pool ≡ false
      roomy k = short_none (fits lim.fill (work_room lim w)) (fits (plus (bytes (length args)) lim.fill) (room_of t)) (ltb (length used / 2) lim.fill.views) (ltb (length pool) lim.fill.bytes) k g

      pub project_refused : (x : Refusal) → r ≡ Err x → refused_to out x ≡ project_to lim s args a own room w t used pool out
      project_refused x f = go (enough lim s args a own w t h r o e) refl
        where
          go : (b : Bool) → enough lim s args a own w t h r o e ≡ b → refused_to out x ≡ project_to lim s args a own room w t used pool out
          go true k =
              read_refuses lim s args a own room out (length args) refl w (ls lim s args a own w t h r o e) (work_fits lim s args a own w t h r o e k) (laid lim s args a own w t h r o e) (drop (0 + length args) t.pool) refl (laid_fits lim s args a own w t h r o e k) r o (read_laid lim s args a own w t h r o e k) x f
              ∙ project_bytes (roomy k)
          go false k =
              let u : Err x ≡ Err NoRoom = sym f ∙ ap (λ (y : Laid). y.answer) (read_short lim s args a own w t h r o e k) in
              let z : x ≡ NoRoom = cc in
              ap (refused_to out) z ∙ project_short (short_tables (fits lim.fill (work_room lim w)) (fits (plus (bytes (length args)) lim.fill) (room_of t)) (ltb (length used / 2) lim.fill.views) (ltb (length pool) lim.fill.bytes) k)

      pub project_done : (row : ManifestRow) → r ≡ Ok row → projected_to lim room out (config_for o.pool a own row.segments.count) (manifest_in o row) ≡ project_to lim s args a own room w t used pool out
      project_done row f =
          let k = done_enough lim s args a own w t h r o e row f in
          read_projects lim s args a own room out (length args) refl w (ls lim s args a own w t h r o e) (work_fits lim s args a own w t h r o e k) (laid lim s args a own w t h r o e) (drop (0 + length args) t.pool) refl (laid_fits lim s args a own w t h r o e k) r o (read_laid lim s args a own w t h r o e k) row f
          ∙ project_bytes (roomy k)
