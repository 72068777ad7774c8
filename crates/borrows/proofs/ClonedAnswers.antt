-- Which answer the clone gives, by its tests. Assumes nothing.
use Rattle.std.specs.Prelude.{Err, None, Ok, Option, Result, Some}
use Prim.Native.Nat.{ℕ, ◌/◌, ◌≤◌, ◌<◌}
use mathlib.Core.Path.{◌≡◌, refl, sym, ap, ◌∙◌}
use mathlib.Core.Bool.{Bool, true, false, not}
use mathlib.Core.List.{List, []}
use native.Mathlib.Omega.{arith}
use lib.Dec.{ltb}
use lib.ListN.{length}
use borrow.Author.Tests.{not-true, not-false, lt-ltb, le-ltb}
use Rattle.keys.specs.Pick.{pick}
use Rattle.tables.specs.Layout.{over}
use Rattle.tables.specs.Window.{held_of}
use Rattle.ids.specs.declared.Uuid.{Uuid}
use Rattle.records.specs.Model.{Manifest}
use Rattle.records.specs.Fill.{plus, fits, name_keys, manifest_fill}
use Rattle.records.specs.Layout.{layout, manifest_row}
use Rattle.records.specs.Decode.{Lent, borrows_in, manifest_in}
use Rattle.records.specs.declared.Fill.{Fill}
use Rattle.records.specs.declared.Limits.{Limits}
use Rattle.records.specs.declared.ManifestRow.{ManifestRow}
use Rattle.records.specs.declared.Refusal.TheVariants.{Unlawful, OverLimit, NoRoom, NoFinal, TooFewFresh}
use Rattle.records.proofs.Columns.{keys_fill, tree_fill_lem, segments_fill, borrows_fill}
use Rattle.measure.specs.Walk.{add_of}
use Rattle.lawful.specs.Judge.{judged_of}
use Rattle.copy.specs.Copy.{room_of, no_room}
use Rattle.borrows.specs.Owned.{owned_of}
use Rattle.borrows.specs.Clone.{uuids_of, cloned_borrows, cloned_of, refuses15}
use Rattle.borrows.specs.Bare.{lent_fill}
use Rattle.borrows.specs.Answer.{ClonedOutcome, refused, cloned_given, cloned_in}
use Rattle.borrows.proofs.Renewing.{lacks_plain, uuids_long}
use Rattle.borrows.proofs.Lending.{held_is}
use Rattle.borrows.proofs.Baring.{clone_fill}
use Rattle.borrows.proofs.Cloning.{cloned_count}

-- ---- what the sum tells

sum_broken : (most c more : Fill) → add_of most c more ≡ None → fits (plus c more) most ≡ false
unfolding add_of
sum_broken most c more h = go (fits (plus c more) most) h
  where
    go : (b : Bool) → pick b (Some (plus c more)) None ≡ None → b ≡ false
    go true e = let z : ◌≡◌ {A = ℕ} 0 1 = cc in absurd (omega arith)
    go false e = refl

sum_fills : (most c more f : Fill) → add_of most c more ≡ Some f → (f ≡ plus c more) × (fits (plus c more) most ≡ true)
unfolding add_of
sum_fills most c more f h = go (fits (plus c more) most) h
  where
    go : (b : Bool) → pick b (Some (plus c more)) None ≡ Some f → (f ≡ plus c more) × (b ≡ true)
    go true e = (cc, refl)
    go false e = let z : ◌≡◌ {A = ℕ} 0 1 = cc in absurd (omega arith)

pub borrows_filled : (m : Manifest) → (manifest_fill m).borrows ≡ length m.borrows
unfolding manifest_fill
borrows_filled m =
    let t = ap (λ (f : Fill). f.borrows) (tree_fill_lem m.tree) in
    let s = ap (λ (f : Fill). f.borrows) (segments_fill m.segments) in
    let n = ap (λ (f : Fill). f.borrows) (keys_fill (name_keys m.extractor)) in
    let b = ap (λ (f : Fill). f.borrows) (borrows_fill m.borrows) in
    omega arith

-- ---- 15, 4, 16

module _ (lim : Limits) (l : Lent) (m : ManifestRow) (path : List ℕ) (cp : Uuid) (ws : List ℕ) (o : Lent) where
  abbrev from : Manifest
  from = manifest_in l m

  abbrev clone : Manifest
  clone = cloned_of from path cp (uuids_of ws)

  clone_borrows : clone.borrows ≡ cloned_borrows from path cp (uuids_of ws)
  unfolding cloned_of
  clone_borrows = refl

  module _ (r : Bool) (e : r ≡ refuses15 (borrows_in l.borrows [] [] m.external_dbs)) where
    finals : refuses15 from.borrows ≡ r
    unfolding manifest_in
    finals = sym (lacks_plain l.borrows m.external_dbs l.ids l.pool) ∙ sym e

    pub given_no_final : r ≡ true → refused NoFinal o ≡ cloned_given lim from path cp (uuids_of ws) o
    unfolding cloned_given
    given_no_final t = rw (finals ∙ t)

    module _ (g : r ≡ false) (s : Option Fill) (q : s ≡ add_of lim.fill (manifest_fill from) (lent_fill path (owned_of from))) where
      pub given_over : s ≡ None → refused NoRoom o ≡ cloned_given lim from path cp (uuids_of ws) o
      unfolding cloned_given no_room
      given_over t = let b : fits (manifest_fill clone) lim.fill ≡ false = rw (clone_fill from path cp (uuids_of ws)) (sum_broken lim.fill (manifest_fill from) (lent_fill path (owned_of from)) (sym q ∙ t)) in rw (finals ∙ g, b)

      module _ (f : Fill) (t : s ≡ Some f) where
        filled : (f ≡ manifest_fill clone) × (fits (manifest_fill clone) lim.fill ≡ true)
        filled = rw (clone_fill from path cp (uuids_of ws)) (sum_fills lim.fill (manifest_fill from) (lent_fill path (owned_of from)) f (sym q ∙ t))

        counted : f.borrows ≡ length clone.borrows
        counted = ap (λ (x : Fill). x.borrows) filled.0 ∙ borrows_filled clone

        module _ (b : Bool) (k : b ≡ fits f (room_of o)) where
          room_tested : fits (manifest_fill clone) (room_of o) ≡ b
          room_tested = rw (← filled.0) (sym k)

          pub given_no_room : not b ≡ true → refused NoRoom o ≡ cloned_given lim from path cp (uuids_of ws) o
          unfolding cloned_given no_room
          given_no_room u = rw (finals ∙ g, filled.1, room_tested ∙ not-true b u)

          module _ (u : not b ≡ false) where
            pub given_room : fits (manifest_fill clone) (room_of o) ≡ true
            given_room = room_tested ∙ not-false b u

            pub given_few : length ws / 2 < f.borrows → refused TooFewFresh o ≡ cloned_given lim from path cp (uuids_of ws) o
            unfolding cloned_given no_room
            given_few h =
                let v : ltb (length (uuids_of ws)) (length clone.borrows) ≡ true = rw (uuids_long ws, ← counted) (lt-ltb (length ws / 2) f.borrows h) in
                rw (finals ∙ g, filled.1, given_room, v)

            module _ (h : f.borrows ≤ length ws / 2) where
              -- a fresh UUID for each
              pub given_fresh : held_of m.external_dbs (length l.borrows / 9) < length ws / 2
              given_fresh = rw (held_is l m) (omega (arith, counted, ap length clone_borrows, cloned_count from path cp (uuids_of ws)))

              pub given_done : (q : ManifestRow) (segments views runs borrows ids pool : List ℕ) → q ≡ manifest_row clone
                  → segments ≡ over o.segments (layout clone).segments → views ≡ over o.views (layout clone).views → runs ≡ over o.runs (layout clone).runs
                  → borrows ≡ over o.borrows (layout clone).borrows → ids ≡ over o.ids (layout clone).ids → pool ≡ over o.pool (layout clone).pool
                  → record { answer = Ok q; out = record { segments = segments; views = views; runs = runs; borrows = borrows; ids = ids; pool = pool } } ≡ cloned_given lim from path cp (uuids_of ws) o
              unfolding cloned_given no_room
              given_done q sx vx rx bx ix px e0 e1 e2 e3 e4 e5 e6 =
                  let v : ltb (length (uuids_of ws)) (length clone.borrows) ≡ false = rw (uuids_long ws, ← counted) (le-ltb (length ws / 2) f.borrows h) in
                  rw (finals ∙ g, filled.1, given_room, v) (rw (e0, e1, e2, e3, e4, e5, e6))

-- ---- 2, 1

module _ (lim : Limits) (l : Lent) (m : ManifestRow) (path : List ℕ) (cp : Uuid) (fresh : List Uuid) (o : Lent) where
  pub cloned_over : lim.path < length path → refused OverLimit o ≡ cloned_in lim l m path cp fresh o
  unfolding cloned_in
  cloned_over h = rw (lt-ltb lim.path (length path) h)

  module _ (h : length path ≤ lim.path) (j : Result Unit ℕ) (e : j ≡ judged_of lim l m) where
    pub cloned_broken : (rule : ℕ) → j ≡ Err rule → refused (Unlawful rule) o ≡ cloned_in lim l m path cp fresh o
    unfolding cloned_in
    cloned_broken rule t = rw (le-ltb lim.path (length path) h, sym e ∙ t)

    pub cloned_lawful : (x : ClonedOutcome) → j ≡ Ok tt → x ≡ cloned_given lim (manifest_in l m) path cp fresh o → x ≡ cloned_in lim l m path cp fresh o
    unfolding cloned_in
    cloned_lawful x t g = rw (le-ltb lim.path (length path) h, sym e ∙ t) g
