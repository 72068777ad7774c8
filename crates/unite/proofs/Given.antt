-- Which answer a union gives, by its tests: 4, 16, or the union laid. Assumes nothing.
use Rattle.std.specs.Prelude.{None, Ok, Option, Some}
use Prim.Native.Nat.{ℕ, ◌/◌, ◌≤◌, ◌<◌}
use mathlib.Core.Path.{◌≡◌, refl, sym, ap, ◌∙◌}
use mathlib.Core.Bool.{Bool, true, false, not}
use mathlib.Core.List.{List, []}
use native.Mathlib.Omega.{arith}
use lib.Dec.{ltb}
use lib.ListN.{length}
use borrow.Author.Tests.{not-true, not-false, lt-ltb, le-ltb}
use Rattle.keys.specs.Pick.{pick}
use Rattle.tables.specs.Layout.{over}
use Rattle.records.specs.Model.{Manifest}
use Rattle.records.specs.Fill.{empty, plus, fits, manifest_fill}
use Rattle.records.specs.Layout.{layout, manifest_row}
use Rattle.records.specs.Decode.{Lent}
use Rattle.records.specs.declared.Fill.{Fill}
use Rattle.records.specs.declared.Limits.{Limits}
use Rattle.records.specs.declared.ManifestRow.{ManifestRow}
use Rattle.records.specs.declared.Refusal.TheVariants.{NoRoom, TooFewFresh}
use Rattle.records.proofs.Sums.{empty_plus}
use Rattle.measure.specs.Walk.{add_of}
use Rattle.copy.specs.Copy.{room_of, no_room}
use Rattle.borrows.specs.Clone.{uuids_of}
use Rattle.borrows.proofs.Renewing.{uuids_long}
use Rattle.project_views.proofs.Summed.{added_is}
use Rattle.unite_groups.specs.Groups.{Member}
use Rattle.unite.specs.United.{refuses15_all}
use Rattle.unite.specs.Answer.{refused, union_to}

too_much : (most c more : Fill) → add_of most c more ≡ None → fits (plus c more) most ≡ false
unfolding add_of
too_much most c more h = go (fits (plus c more) most) h
  where
    go : (b : Bool) → pick b (Some (plus c more)) None ≡ None → b ≡ false
    go true e = let z : ◌≡◌ {A = ℕ} 0 1 = cc in absurd (omega arith)
    go false e = refl

-- the union's records and bytes are `part`, and it has a borrow for each member
module _ (lim : Limits) (result : Manifest) (part : Fill) (ms : List Member) (ws : List ℕ) (o : Lent) (fill_is : manifest_fill result ≡ part) (counts : length result.borrows ≡ length ms)
    (s : Option Fill) (q : s ≡ add_of lim.fill empty part) where
  whole : plus empty part ≡ manifest_fill result
  whole = empty_plus part ∙ sym fill_is

  pub given_over : s ≡ None → refused NoRoom o ≡ union_to lim [] (uuids_of ws) result o
  unfolding union_to no_room refuses15_all
  given_over h = let b : fits (manifest_fill result) lim.fill ≡ false = rw (← whole) (too_much lim.fill empty part (sym q ∙ h)) in rw b

  module _ (f : Fill) (h : s ≡ Some f) where
    added : (f ≡ plus empty part) × (fits f lim.fill ≡ true)
    added = added_is lim.fill empty part f (sym q ∙ h)

    filled : f ≡ manifest_fill result
    filled = added.0 ∙ whole

    small : fits (manifest_fill result) lim.fill ≡ true
    small = rw (← filled) added.1

    pub given_runs : (n : ℕ) → part.runs ≡ n → f.runs ≡ n
    given_runs n e = ap (λ (x : Fill). x.runs) (added.0 ∙ empty_plus part) ∙ e

    module _ (b : Bool) (k : b ≡ fits f (room_of o)) where
      room_tested : fits (manifest_fill result) (room_of o) ≡ b
      room_tested = rw (← filled) (sym k)

      pub given_no_room : not b ≡ true → refused NoRoom o ≡ union_to lim [] (uuids_of ws) result o
      unfolding union_to no_room refuses15_all
      given_no_room u = rw (small, room_tested ∙ not-true b u)

      module _ (u : not b ≡ false) where
        pub given_room : fits part (room_of o) ≡ true
        given_room = rw (← fill_is) (room_tested ∙ not-false b u)

        module _ (n : ℕ) (c : n ≡ length ms) where
          counted : length result.borrows ≡ n
          counted = counts ∙ sym c

          pub given_few : length ws / 2 < n → refused TooFewFresh o ≡ union_to lim [] (uuids_of ws) result o
          unfolding union_to no_room refuses15_all
          given_few g =
              let v : ltb (length (uuids_of ws)) (length result.borrows) ≡ true = rw (uuids_long ws, counted) (lt-ltb (length ws / 2) n g) in
              rw (small, room_tested ∙ not-false b u, v)

          pub given_done : n ≤ length ws / 2 → (r : ManifestRow) (segments views runs borrows ids pool : List ℕ) → r ≡ manifest_row result
              → segments ≡ over o.segments (layout result).segments → views ≡ over o.views (layout result).views → runs ≡ over o.runs (layout result).runs
              → borrows ≡ over o.borrows (layout result).borrows → ids ≡ over o.ids (layout result).ids → pool ≡ over o.pool (layout result).pool
              → record { answer = Ok r; out = record { segments = segments; views = views; runs = runs; borrows = borrows; ids = ids; pool = pool } } ≡ union_to lim [] (uuids_of ws) result o
          unfolding union_to no_room refuses15_all
          given_done g r sx vx rx bx ix px e0 e1 e2 e3 e4 e5 e6 =
              let v : ltb (length (uuids_of ws)) (length result.borrows) ≡ false = rw (uuids_long ws, counted) (le-ltb (length ws / 2) n g) in
              rw (small, room_tested ∙ not-false b u, v) (rw (e0, e1, e2, e3, e4, e5, e6))
