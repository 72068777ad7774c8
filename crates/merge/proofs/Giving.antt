-- Which answer a merge gives, by its tests. Assumes nothing.
use Rattle.std.specs.Prelude.{Err, None, Ok, Option, Result, Some}
use Prim.Native.Nat.{ℕ, ◌+◌, ◌*◌, ◌≤◌}
use mathlib.Core.Path.{◌≡◌, refl, sym, ap, ◌∙◌}
use mathlib.Core.Bool.{Bool, true, false, not, ◌&&◌}
use mathlib.Core.List.{List}
use native.Mathlib.Omega.{arith}
use lib.ListN.{length}
use Rattle.keys.specs.Pick.{pick}
use Rattle.keys.proofs.Says.{says_true}
use Rattle.tables.specs.Layout.{over, joined}
use Rattle.records.specs.Model.{Segment}
use Rattle.records.specs.Fill.{empty, sum, fits, segment_fill}
use Rattle.records.specs.Layout.{segments_laid, segments_runs_laid, segments_views_laid, segment_bytes}
use Rattle.records.specs.Decode.{Lent, manifest_in, segments_in}
use Rattle.records.specs.declared.Fill.{Fill}
use Rattle.records.specs.declared.Limits.{Limits}
use Rattle.records.specs.declared.ManifestRow.{ManifestRow}
use Rattle.records.specs.declared.Refusal.{Refusal}
use Rattle.records.specs.declared.Refusal.TheVariants.{Unlawful, NoRoom, CompactorOnly, KeptNest}
use Rattle.records.proofs.Columns.{segments_fill}
use Rattle.measure.proofs.Fits.{says_fits}
use Rattle.lawful.specs.Judge.{judged_of}
use Rattle.copy.specs.Copy.{no_room}
use Rattle.segments.specs.Prefixes.{prefixes}
use Rattle.merge.specs.Merge.{from_writer, refuses6, place6, from_compactor, refuses7, place7}
use Rattle.merge.specs.Answer.{LentList, Outcome, list_room, list_over, refused, list_given, writer_given, compactor_given, given_by, judged_both}
use Rattle.merge.specs.Steps.{merged_from, list_measured}
use Rattle.merge.specs.Finds.{fault_of, first_only, first_nest}
use Rattle.merge.specs.declared.Side.{Side}
use Rattle.merge.specs.declared.Side.TheVariants.{Writer, Compactor}

-- ---- refusal 4, else the list
module _ (lim : Limits) (ss : List Segment) (o : LentList) (u : Option Fill) (e : u ≡ list_measured lim ss) where
  pub give_broken : u ≡ None → refused NoRoom o ≡ list_given lim ss o
  unfolding list_measured list_given no_room
  give_broken h = go (fits (sum segment_fill ss) lim.fill) (sym e ∙ h)
    where
      go : (b : Bool) → pick b (Some (sum segment_fill ss)) None ≡ None
          → refused NoRoom o ≡ pick (not (b && fits (sum segment_fill ss) (list_room o))) (refused NoRoom o) (record { answer = Ok (record { first = 0; count = length ss }); out = list_over o ss })
      go true z = let k : ◌≡◌ {A = ℕ} 0 1 = cc in absurd (omega arith)
      go false z = refl

  module _ (f : Fill) (h : u ≡ Some f) where
    within : (fits (sum segment_fill ss) lim.fill ≡ true) × (f ≡ sum segment_fill ss)
    unfolding list_measured
    within = go (fits (sum segment_fill ss) lim.fill) refl (sym e ∙ h)
      where
        go : (b : Bool) → fits (sum segment_fill ss) lim.fill ≡ b → pick b (Some (sum segment_fill ss)) None ≡ Some f → (fits (sum segment_fill ss) lim.fill ≡ true) × (f ≡ sum segment_fill ss)
        go true k z = (k, cc)
        go false k z = let o : ◌≡◌ {A = ℕ} 0 1 = cc in absurd (omega arith)

    module _ (r : Bool) (g : r ≡ fits f (list_room o)) where
      room_is : fits (sum segment_fill ss) (list_room o) ≡ r
      room_is = ap (λ (x : Fill). fits x (list_room o)) (sym within.1) ∙ sym g

      pub give_short : r ≡ false → refused NoRoom o ≡ list_given lim ss o
      unfolding list_given no_room
      give_short t = rw (within.0, room_is ∙ t)

      -- room for each table's part
      pub give_room : r ≡ true
          → ((sum segment_fill ss).segments * 12 ≤ length o.segments)
          × (((sum segment_fill ss).runs * 3 ≤ length o.runs) × (((sum segment_fill ss).views * 16 ≤ length o.views) × ((sum segment_fill ss).bytes ≤ length o.pool)))
      give_room t =
          let b = says_true (says_fits (sum segment_fill ss) (list_room o)) (room_is ∙ t) in
          (omega (arith, b.segments), (omega (arith, b.runs), (omega (arith, b.views), omega (arith, b.bytes))))

      pub give_done : (to : Fill) (s v q b : List ℕ) → r ≡ true → to ≡ sum segment_fill ss
          → s ≡ over o.segments (segments_laid empty ss) → q ≡ over o.runs (segments_runs_laid empty ss) → v ≡ over o.views (segments_views_laid empty ss) → b ≡ over o.pool (joined segment_bytes ss)
          → record { answer = Ok (record { first = 0; count = to.segments }); out = record { segments = s; views = v; runs = q; pool = b } } ≡ list_given lim ss o
      unfolding list_given no_room
      give_done to s v q b t p hs hq hv hb =
          let n : to.segments ≡ length ss = ap (λ (x : Fill). x.segments) p ∙ rw (segments_fill ss) (omega arith) in
          rw (within.0, room_is ∙ t, n, hs, hq, hv, hb)

-- ---- refusals 6 and 7: x at n where b says so
module _ (x : ℕ → Refusal) (b : Bool) (n : ℕ) (f : Option ℕ) (e : f ≡ pick b (Some (0 + n)) None) where
  found_at : (k : ℕ) → f ≡ Some k → Some (x k) ≡ pick b (Some (x n)) None
  found_at k h = go b (sym e ∙ h)
    where
      go : (b : Bool) → pick b (Some (0 + n)) None ≡ Some k → Some (x k) ≡ pick b (Some (x n)) None
      go true z = let s : 0 + n ≡ k = cc in let p : k ≡ n = omega arith in rw p
      go false z = let p : ◌≡◌ {A = ℕ} 0 1 = cc in absurd (omega arith)

  found_nowhere : f ≡ None → None ≡ pick b (Some (x n)) None
  found_nowhere h = go b (sym e ∙ h)
    where
      go : (b : Bool) → pick b (Some (0 + n)) None ≡ None → None ≡ pick b (Some (x n)) None
      go true z = let p : ◌≡◌ {A = ℕ} 0 1 = cc in absurd (omega arith)
      go false z = refl

module _ (side : Side) (ws cs : List Segment) (f : Option ℕ) where
  module _ (s : side ≡ Writer) (e : f ≡ first_only 0 ws cs) where
    pub only_at : (k : ℕ) → f ≡ Some k → Some (CompactorOnly k) ≡ fault_of side ws cs
    unfolding first_only fault_of
    only_at k h = rw s (found_at CompactorOnly (refuses6 ws cs) (place6 ws cs) f e k h)

    pub only_nowhere : f ≡ None → None ≡ fault_of side ws cs
    unfolding first_only fault_of
    only_nowhere h = rw s (found_nowhere CompactorOnly (refuses6 ws cs) (place6 ws cs) f e h)

  module _ (s : side ≡ Compactor) (e : f ≡ first_nest 0 (prefixes (from_compactor ws cs))) where
    pub nest_at : (k : ℕ) → f ≡ Some k → Some (KeptNest k) ≡ fault_of side ws cs
    unfolding first_nest fault_of
    nest_at k h = rw s (found_at KeptNest (refuses7 (from_compactor ws cs)) (place7 (from_compactor ws cs)) f e k h)

    pub nest_nowhere : f ≡ None → None ≡ fault_of side ws cs
    unfolding first_nest fault_of
    nest_nowhere h = rw s (found_nowhere KeptNest (refuses7 (from_compactor ws cs)) (place7 (from_compactor ws cs)) f e h)

-- the merge's own refusal, else the list
module _ (side : Side) (lim : Limits) (l : Lent) (w c : ManifestRow) (o : LentList) (f : Option Refusal)
    (e : f ≡ fault_of side (segments_in l.segments l.runs l.views l.pool w.segments) (segments_in l.segments l.runs l.views l.pool c.segments)) where
  abbrev ws : List Segment
  ws = (manifest_in l w).segments

  abbrev cs : List Segment
  cs = (manifest_in l c).segments

  own_refused : (b : Bool) (x y : Refusal) (given : Outcome) → pick b (Some y) None ≡ Some x → refused x o ≡ pick b (refused y o) given
  own_refused true x y given z = let p : x ≡ y = cc in rw p
  own_refused false x y given z = let p : ◌≡◌ {A = ℕ} 0 1 = cc in absurd (omega arith)

  own_given : (b : Bool) (y : Refusal) (r given : Outcome) → pick b (Some y) None ≡ None → r ≡ given → r ≡ pick b (refused y o) given
  own_given true y r given z g = let p : ◌≡◌ {A = ℕ} 0 1 = cc in absurd (omega arith)
  own_given false y r given z g = g

  pub judged_refused : (x : Refusal) → f ≡ Some x → refused x o ≡ given_by side lim ws cs o
  unfolding fault_of given_by writer_given compactor_given manifest_in
  judged_refused x h = go side (sym e ∙ h)
    where
      go : (side : Side) → fault_of side ws cs ≡ Some x → refused x o ≡ given_by side lim ws cs o
      go Writer z = own_refused (refuses6 ws cs) x (CompactorOnly (place6 ws cs)) (list_given lim (from_writer ws cs) o) z
      go Compactor z = let ss = from_compactor ws cs in own_refused (refuses7 ss) x (KeptNest (place7 ss)) (list_given lim ss o) z

  pub judged_given : f ≡ None → (r : Outcome)
      → r ≡ list_given lim (merged_from side (segments_in l.segments l.runs l.views l.pool w.segments) (segments_in l.segments l.runs l.views l.pool c.segments)) o
      → r ≡ given_by side lim ws cs o
  unfolding fault_of given_by writer_given compactor_given manifest_in
  judged_given h r g = go side (sym e ∙ h) g
    where
      go : (side : Side) → fault_of side ws cs ≡ None → r ≡ list_given lim (merged_from side ws cs) o → r ≡ given_by side lim ws cs o
      go Writer z g = own_given (refuses6 ws cs) (CompactorOnly (place6 ws cs)) r (list_given lim (from_writer ws cs) o) z g
      go Compactor z g = let ss = from_compactor ws cs in own_given (refuses7 ss) (KeptNest (place7 ss)) r (list_given lim ss o) z g

-- ---- refusal 1, of the writer's manifest and then of the compactor's
module _ (lim : Limits) (l : Lent) (w c : ManifestRow) (given : Outcome) (o : LentList) (a : Result Unit ℕ) (e : a ≡ judged_of lim l w) where
  pub first_broken_lem : (rule : ℕ) → a ≡ Err rule → refused (Unlawful rule) o ≡ judged_both lim l w c given o
  first_broken_lem rule h = rw (sym e ∙ h)

  module _ (b : Result Unit ℕ) (h : a ≡ Ok tt) (g : b ≡ judged_of lim l c) where
    pub second_broken : (rule : ℕ) → b ≡ Err rule → refused (Unlawful rule) o ≡ judged_both lim l w c given o
    second_broken rule k = rw (sym e ∙ h, sym g ∙ k)

    pub both_lawful : (r : Outcome) → b ≡ Ok tt → r ≡ given → r ≡ judged_both lim l w c given o
    both_lawful r k q = rw (sym e ∙ h, sym g ∙ k) q
