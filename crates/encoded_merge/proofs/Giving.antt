-- The merged list, written; and the part of the result tables that a room leaves. Assumes nothing.
use Rattle.std.specs.Prelude.{Err, Ok, Result}
use Prim.Native.Nat.{ℕ, ◌*◌}
use mathlib.Core.Path.{◌≡◌, refl, sym, ap, ◌∙◌}
use mathlib.Core.Bool.{Bool, true, false, not}
use mathlib.Core.List.{List}
use native.Mathlib.Omega.{arith}
use lib.ListN.{length, drop}
use Rattle.keys.specs.Pick.{pick}
use Rattle.keys.proofs.Says.{says_and, says_same}
use Rattle.tables.specs.Layout.{over, joined}
use Rattle.tables.specs.declared.Window.{Window}
use Rattle.tables.proofs.Holds.{holds_front}
use Rattle.records.specs.Model.{Segment}
use Rattle.records.specs.Fill.{empty, sum, segment_fill}
use Rattle.records.specs.Layout.{segments_laid, segments_views_laid, segments_runs_laid, segment_bytes}
use Rattle.records.specs.Decode.{segments_in}
use Rattle.records.specs.declared.Fill.{Fill}
use Rattle.records.specs.declared.Limits.{Limits}
use Rattle.records.specs.declared.Refusal.{Refusal}
use Rattle.records.specs.declared.Refusal.TheVariants.{NoRoom, CompactorOnly, KeptNest}
use Rattle.records.proofs.Lists.{segments_back}
use Rattle.records.proofs.Columns.{segments_fill}
use Rattle.measure.proofs.Fits.{says_fits}
use Rattle.copy.specs.Copy.{no_room}
use Rattle.merge.specs.Merge.{from_writer, refuses6, place6, from_compactor, refuses7, place7}
use Rattle.merge.specs.Answer.{LentList, Outcome as Given, list_room, list_over, refused, list_given, writer_given, compactor_given, given_by}
use Rattle.merge.specs.declared.Side.{Side}
use Rattle.merge.specs.declared.Side.TheVariants.{Writer, Compactor}
use Rattle.merge.proofs.Standing.{standing}
use Rattle.manifest_write.specs.Bytes.{segments_bytes}
use Rattle.manifest_write.specs.Answer.{Outcome, put_of}
use Rattle.encoded.specs.Least.{lesser}
use Rattle.encoded.specs.Read.{refused_with}
use Rattle.encoded_merge.specs.Merge.{list_to, writer_to, compactor_to, merged_to}

-- what comes of an answer of the merge, where the result tables hold o
abbrev told : List ℕ → Result Window Refusal → LentList → Outcome
told out (Ok w) o = put_of (segments_bytes (standing o w)) out
told out (Err x) o = refused_with out x

module _ (lim : Limits) (out : List ℕ) (o : LentList) where
  list_back : (ss : List Segment) → standing (list_over o ss) (record { first = 0; count = length ss }) ≡ ss
  list_back ss =
      segments_back (over o.segments (segments_laid empty ss)) (over o.runs (segments_runs_laid empty ss)) (over o.views (segments_views_laid empty ss)) (over o.pool (joined segment_bytes ss)) empty ss
      (holds_front (segments_laid empty ss) (drop (length (segments_laid empty ss)) o.segments))
      (holds_front (segments_runs_laid empty ss) (drop (length (segments_runs_laid empty ss)) o.runs))
      (holds_front (segments_views_laid empty ss) (drop (length (segments_views_laid empty ss)) o.views))
      (holds_front (joined segment_bytes ss) (drop (length (joined segment_bytes ss)) o.pool))

  list_told : (ss : List Segment) → told out (list_given lim ss o).answer (list_given lim ss o).out ≡ list_to lim (list_room o) out ss
  unfolding list_given list_to
  list_told ss = go (no_room lim (list_room o) (sum segment_fill ss))
    where
      go : (b : Bool)
          → told out (pick b (refused NoRoom o) (record { answer = Ok (record { first = 0; count = length ss }); out = list_over o ss })).answer (pick b (refused NoRoom o) (record { answer = Ok (record { first = 0; count = length ss }); out = list_over o ss })).out
          ≡ pick b (refused_with out NoRoom) (put_of (segments_bytes ss) out)
      go true = refl
      go false = ap (λ (s : List Segment). put_of (segments_bytes s) out) (list_back ss)

  -- the merge's own refusal comes first
  own_told : (b : Bool) (x : Refusal) (given : Given) → told out (pick b (refused x o) given).answer (pick b (refused x o) given).out ≡ pick b (refused_with out x) (told out given.answer given.out)
  own_told true x given = refl
  own_told false x given = refl

  given_told : (side : Side) (ws cs : List Segment) → told out (given_by side lim ws cs o).answer (given_by side lim ws cs o).out ≡ merged_to side lim (list_room o) out ws cs
  unfolding given_by merged_to writer_given compactor_given writer_to compactor_to
  given_told Writer ws cs =
      own_told (refuses6 ws cs) (CompactorOnly (place6 ws cs)) (list_given lim (from_writer ws cs) o)
      ∙ ap (λ (y : Outcome). pick (refuses6 ws cs) (refused_with out (CompactorOnly (place6 ws cs))) y) (list_told (from_writer ws cs))
  given_told Compactor ws cs =
      let ss = from_compactor ws cs in
      own_told (refuses7 ss) (KeptNest (place7 ss)) (list_given lim ss o)
      ∙ ap (λ (y : Outcome). pick (refuses7 ss) (refused_with out (KeptNest (place7 ss))) y) (list_told ss)

module _ (side : Side) (lim : Limits) (ws cs : List Segment) (out : List ℕ) (o o' : LentList) (r : Result Window Refusal) (e : record { answer = r; out = o' } ≡ given_by side lim ws cs o) where
  into : (y : Result Window Refusal) → r ≡ y → told out y o' ≡ merged_to side lim (list_room o) out ws cs
  into y h = ap (λ (x : Result Window Refusal). told out x o') (sym h) ∙ ap (λ (g : Given). told out g.answer g.out) e ∙ given_told lim out o side ws cs

  pub into_done : (w : Window) → r ≡ Ok w → put_of (segments_bytes (segments_in o'.segments o'.runs o'.views o'.pool w)) out ≡ merged_to side lim (list_room o) out ws cs
  into_done w h = into (Ok w) h

  pub into_refused : (x : Refusal) → r ≡ Err x → refused_with out x ≡ merged_to side lim (list_room o) out ws cs
  into_refused x h = into (Err x) h

-- ---- the part of the result tables that the room and L1 leave

module _ (lim : Limits) (room : Fill) (o : LentList)
    (hs : length o.segments ≡ lesser lim.fill.segments room.segments * 12) (hv : length o.views ≡ lesser lim.fill.views room.views * 16)
    (hr : length o.runs ≡ lesser lim.fill.runs room.runs * 3) (hp : length o.pool ≡ lesser lim.fill.bytes room.bytes) where
  -- a segment list has room there exactly where it has room
  part_room : (ss : List Segment) → no_room lim (list_room o) (sum segment_fill ss) ≡ no_room lim room (sum segment_fill ss)
  unfolding no_room
  part_room ss =
      let f = sum segment_fill ss in
      let none : (f.borrows ≡ 0) × (f.ids ≡ 0) = rw (segments_fill ss) (refl, refl) in
      ap not
      (says_same (
        λ w. (
          w.0,
          record {
            segments = omega (arith, w.1.segments, hs);
            views = omega (arith, w.1.views, hv);
            runs = omega (arith, w.1.runs, hr);
            borrows = omega (arith, none.0);
            ids = omega (arith, none.1);
            bytes = omega (arith, w.1.bytes, hp);
          },
        ),
        λ w. (
          w.0,
          record {
            segments = omega (arith, w.0.segments, w.1.segments, hs);
            views = omega (arith, w.0.views, w.1.views, hv);
            runs = omega (arith, w.0.runs, w.1.runs, hr);
            borrows = omega (arith, none.0);
            ids = omega (arith, none.1);
            bytes = omega (arith, w.0.bytes, w.1.bytes, hp);
          },
        ),
      )
      (says_and (says_fits f lim.fill) (says_fits f (list_room o)))
      (says_and (says_fits f lim.fill) (says_fits f room)))

  pub part_merged : (side : Side) (out : List ℕ) (ws cs : List Segment) → merged_to side lim (list_room o) out ws cs ≡ merged_to side lim room out ws cs
  unfolding merged_to writer_to compactor_to list_to
  part_merged Writer out ws cs = rw (part_room (from_writer ws cs))
  part_merged Compactor out ws cs = rw (part_room (from_compactor ws cs))
