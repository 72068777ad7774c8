-- The manifest with one segment more: what it fills, its row, and the answer by the tests that the code makes. Assumes nothing.
use Rattle.std.specs.Prelude.{Err, None, Option, Result, Some}
use Prim.Native.Nat.{ℕ, zero, suc, ◌/◌, ◌≤◌}
use mathlib.Core.Path.{◌≡◌, refl, sym, ap, ◌∙◌}
use mathlib.Core.Bool.{Bool, true, false, not}
use mathlib.Core.List.{List, [], ◌∷◌}
use native.Mathlib.Omega.{arith}
use lib.ListN.{length}
use borrow.Author.Tests.{not-false}
use Rattle.keys.specs.Pick.{pick}
use Rattle.tables.specs.Window.{held_of}
use Rattle.records.specs.Model.{Tree, Segment, Manifest}
use Rattle.records.specs.Decode.{Lent, manifest_in}
use Rattle.records.specs.Fill.{empty, plus, sum, fits, tree_fill, segment_fill, manifest_fill}
use Rattle.records.specs.Layout.{tree_row, name_row, manifest_row}
use Rattle.records.specs.declared.Fill.{Fill}
use Rattle.records.specs.declared.Limits.{Limits}
use Rattle.records.specs.declared.ManifestRow.{ManifestRow}
use Rattle.records.specs.declared.Refusal.TheVariants.{NoRoom}
use Rattle.records.proofs.Sums.{fill_same}
use Rattle.records.proofs.Columns.{tree_fill_lem, segments_fill}
use Rattle.measure.specs.Within.{no_room}
use Rattle.measure.specs.Measure.{l1_of, measured_of}
use Rattle.measure.specs.Walk.{add_of}
use Rattle.emit.specs.declared.LaidTree.{LaidTree}
use Rattle.copy.specs.Copy.{room_of}
use Rattle.copy.proofs.Manifest.{borrows_count}
use Rattle.segments.specs.Prefixes.{prefixes, prefixes_in}
use Rattle.segments.specs.Place.{place_of}
use Rattle.segments.specs.Insert.{new_segment, with_segments, put, entered}
use Rattle.segments.proofs.Answers.{prefixes_in_lem}
use Rattle.insert.specs.Insert.{entered_at, new_fill, entered_of, Outcome, laid_entry}
use Rattle.insert.proofs.Conflicts.{most}
use Rattle.records.specs.declared.Place.{Place}
use Rattle.insert.specs.declared.Inserted.{Inserted}
use Rattle.records.specs.declared.Refusal.{Refusal}

-- ---- what it fills

sum_put : {A : Type 0} (f : A → Fill) (i : ℕ) (x : A) (xs : List A) → sum f (put i x xs) ≡ plus (sum f xs) (f x)
sum_put f zero x xs = fill_same (omega arith)
sum_put f (suc i) x [] = fill_same (omega arith)
sum_put f (suc i) x (y ∷ xs) = rw (sum_put f i x xs) (fill_same (omega arith))

new_fill_lem : (p : List ℕ) → segment_fill (new_segment p) ≡ new_fill (length p)
unfolding segment_fill tree_fill
new_fill_lem p = fill_same (omega arith)

pub with_fill : (i : ℕ) (p : List ℕ) (m : Manifest) → manifest_fill (entered_at i p m) ≡ plus (manifest_fill m) (new_fill (length p))
unfolding manifest_fill
with_fill i p m = rw (sum_put segment_fill i (new_segment p) m.segments, new_fill_lem p) (fill_same (omega arith))

-- what a manifest that keeps L1 fills, as the measure tells it
module _ (lim : Limits) (l : Lent) (m : ManifestRow) (r : Option Fill) (q : r ≡ measured_of lim l m) (h : l1_of lim l m ≡ true) where
  fills : r ≡ Some (manifest_fill (manifest_in l m))
  unfolding measured_of
  fills = q ∙ rw h

  pub never_broken : r ≡ None → ⊥
  never_broken t = let e : None ≡ Some (manifest_fill (manifest_in l m)) = sym t ∙ fills in let z : ◌≡◌ {A = ℕ} 0 1 = cc in omega arith

  pub adds_to : (f : Fill) (a : Option Fill) (more : Fill) → r ≡ Some f → a ≡ add_of lim.fill f more → a ≡ add_of lim.fill (manifest_fill (manifest_in l m)) more
  adds_to f a more t e = let g : f ≡ manifest_fill (manifest_in l m) = cc fills in e ∙ rw g

-- ---- its row

module _ (x : Lent) (m : ManifestRow) (ss : List Segment) where
  count_is : (t : Tree) → (plus (tree_fill t) (sum segment_fill ss)).segments ≡ length ss
  count_is t = rw (tree_fill_lem t, segments_fill ss) (omega arith)

  pub row_with : (l : LaidTree) (name : Option Place) (j : ℕ) (r : ManifestRow)
      → l ≡ record { tree = tree_row empty (manifest_in x m).tree; past = plus (tree_fill (manifest_in x m).tree) (sum segment_fill ss) }
      → name ≡ name_row l.past.bytes (manifest_in x m).extractor → j ≡ held_of m.external_dbs (length x.borrows / 9)
      → r ≡ record {
        initialized = m.initialized;
        tree = l.tree;
        segments = record { first = 0; count = l.past.segments };
        segment_extractor_name = name;
        next_wal_sst_id = m.next_wal_sst_id;
        replay_after_wal_id = m.replay_after_wal_id;
        last_l0_clock_tick = m.last_l0_clock_tick;
        last_l0_seq = m.last_l0_seq;
        recent_snapshot_min_seq = m.recent_snapshot_min_seq;
        external_dbs = record { first = 0; count = j };
        writer_epoch = m.writer_epoch;
        compactor_epoch = m.compactor_epoch;
      }
      → r ≡ manifest_row (with_segments (manifest_in x m) ss)
  unfolding manifest_in manifest_row
  row_with l name j r e q hj h =
      h ∙ rw (q, e, hj, count_is (manifest_in x m).tree, borrows_count x.borrows x.ids x.pool m.external_dbs)

-- ---- the answer

-- an answer and six tables, each by itself
pub outcome_same : {a b : Result Inserted Refusal} {o k : Lent}
    → a ≡ b → o.segments ≡ k.segments → o.views ≡ k.views → o.runs ≡ k.runs → o.borrows ≡ k.borrows → o.ids ≡ k.ids → o.pool ≡ k.pool
    → ◌≡◌ {A = Outcome} (record { answer = a; out = o }) (record { answer = b; out = k })
outcome_same e s v r b i p = λ j. record { answer = e j; out = record { segments = s j; views = v j; runs = r j; borrows = b j; ids = i j; pool = p j } }

module _ (lim : Limits) (x : Lent) (m : ManifestRow) (p : List ℕ) (o : Lent) (place : ℕ) (e : place ≡ place_of (prefixes_in x.segments x.pool m.segments) p) where
  at_place : place_of (prefixes (manifest_in x m).segments) p ≡ place
  at_place = rw (prefixes_in_lem x m) (sym e)

  pub place_in : place ≤ held_of m.segments (length x.segments / 12)
  place_in = most x.segments x.pool m.segments p place e

  no_room_lem : no_room lim (room_of o) (manifest_fill (entered_at place p (manifest_in x m))) ≡ true → record { answer = Err NoRoom; out = o } ≡ laid_entry o (entered_of lim (room_of o) (manifest_in x m) p)
  unfolding entered_of
  no_room_lem h = rw (at_place, h)

  module _ (s : Option Fill) (q : s ≡ add_of lim.fill (manifest_fill (manifest_in x m)) (new_fill (length p))) where
    added : s ≡ pick (fits (manifest_fill (entered_at place p (manifest_in x m))) lim.fill) (Some (manifest_fill (entered_at place p (manifest_in x m)))) None
    unfolding add_of
    added = rw (with_fill place p (manifest_in x m)) q

    broken : (b : Bool) (g : Fill) → None ≡ pick b (Some g) None → b ≡ false
    broken true g h = let z : ◌≡◌ {A = ℕ} 0 1 = cc in absurd (omega arith)
    broken false g h = refl

    filled : (b : Bool) (f g : Fill) → Some f ≡ pick b (Some g) None → (b ≡ true) × (f ≡ g)
    filled true f g h = (refl, cc)
    filled false f g h = let z : ◌≡◌ {A = ℕ} 0 1 = cc in absurd (omega arith)

    pub enter_over : s ≡ None → record { answer = Err NoRoom; out = o } ≡ laid_entry o (entered_of lim (room_of o) (manifest_in x m) p)
    unfolding no_room
    enter_over h = no_room_lem (rw (broken (fits (manifest_fill (entered_at place p (manifest_in x m))) lim.fill) (manifest_fill (entered_at place p (manifest_in x m))) (sym h ∙ added)))

    module _ (f : Fill) (h : s ≡ Some f) (r : Bool) (k : r ≡ fits f (room_of o)) where
      keeps : (fits (manifest_fill (entered_at place p (manifest_in x m))) lim.fill ≡ true) × (f ≡ manifest_fill (entered_at place p (manifest_in x m)))
      keeps = filled (fits (manifest_fill (entered_at place p (manifest_in x m))) lim.fill) f (manifest_fill (entered_at place p (manifest_in x m))) (sym h ∙ added)

      room_is : fits (manifest_fill (entered_at place p (manifest_in x m))) (room_of o) ≡ r
      room_is = sym (k ∙ ap (λ (z : Fill). fits z (room_of o)) keeps.1)

      pub enter_short : not r ≡ true → record { answer = Err NoRoom; out = o } ≡ laid_entry o (entered_of lim (room_of o) (manifest_in x m) p)
      unfolding no_room
      enter_short t = no_room_lem (rw (keeps.0, room_is) t)

      pub enter_fits : not r ≡ false → fits (manifest_fill (entered_at place p (manifest_in x m))) (room_of o) ≡ true
      enter_fits t = room_is ∙ not-false r t

      pub enter_done : not r ≡ false → (y : Outcome) → y ≡ laid_entry o (entered place (entered_at place p (manifest_in x m))) → y ≡ laid_entry o (entered_of lim (room_of o) (manifest_in x m) p)
      unfolding entered_of no_room
      enter_done t y u = u ∙ sym (rw (at_place, keeps.0, enter_fits t))
