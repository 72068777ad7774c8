-- The clone laid at the front of the tables: all but its borrows, then its borrows. Assumes nothing.
use Prim.Native.Nat.{ℕ, suc, ◌+◌, ◌*◌, ◌≤◌}
use mathlib.Core.Path.{◌≡◌, refl, sym, ap, ◌∙◌}
use mathlib.Core.Bool.{true}
use mathlib.Core.List.{List, [], ◌∷◌, ◌++◌, append_assoc, append-nil}
use native.Mathlib.Omega.{arith}
use native.Mathlib.Nat.{zero-add}
use lib.ListN.{length, length-append}
use Rattle.tables.specs.Layout.{write, over, joined}
use Rattle.tables.proofs.Writes.{write_front, then}
use Rattle.ids.specs.declared.Uuid.{Uuid}
use Rattle.records.specs.Model.{Borrow, Manifest}
use Rattle.records.specs.Fill.{plus, sum, fits, name_keys, borrow_fill, manifest_fill}
use Rattle.records.specs.Decode.{Lent}
use Rattle.records.specs.Layout.{run, tree_bytes, segment_bytes, borrows_laid, borrow_ids, borrow_path, past_name, manifest_row, layout}
use Rattle.records.specs.declared.Fill.{Fill}
use Rattle.records.specs.declared.ManifestRow.{ManifestRow}
use Rattle.records.proofs.Sums.{fill_same}
use Rattle.records.proofs.Laid.{borrows, ids, pool}
use Rattle.records.proofs.Stair.{layout_long}
use Rattle.measure.proofs.Fits.{Under, under}
use Rattle.copy.specs.Copy.{room_of}
use Rattle.borrows.specs.Clone.{renewed_all, cloned_borrows, cloned_of}
use Rattle.borrows.specs.Bare.{bare_of}
use Rattle.borrows.proofs.Baring.{fits_first, clone_over_bare}

renewed_long : (fresh : List Uuid) (n : ℕ) (bs : List Borrow) → length (renewed_all fresh n bs) ≡ length bs
unfolding renewed_all
renewed_long fresh n [] = refl
renewed_long fresh n (b ∷ bs) = ap suc (renewed_long fresh _ bs)

module _ (m : Manifest) (path : List ℕ) (cp : Uuid) (fresh : List Uuid) where
  pub cloned_count : length (cloned_borrows m path cp fresh) ≡ length m.borrows + 1
  unfolding cloned_borrows
  cloned_count = rw (length-append, renewed_long fresh 0 m.borrows)

  module _ (o : Lent) (h : fits (manifest_fill (cloned_of m path cp fresh)) (room_of o) ≡ true) where
    pub bare_fits : fits (manifest_fill (bare_of m)) (room_of o) ≡ true
    bare_fits = fits_first (manifest_fill (bare_of m)) (sum borrow_fill (cloned_borrows m path cp fresh)) (room_of o) (rw (clone_over_bare m path cp fresh) at h)

    module _ (c : Fill) (e : c ≡ manifest_fill (bare_of m)) where
      fitting : Under (plus c (sum borrow_fill (cloned_borrows m path cp fresh))) (room_of o)
      fitting = rw e (under _ (room_of o) (rw (clone_over_bare m path cp fresh) at h))

      pub borrows_room : (c.borrows + (sum borrow_fill (cloned_borrows m path cp fresh)).borrows) * 9 ≤ length o.borrows
      borrows_room = omega (arith, fitting.borrows)

      pub ids_room : (c.ids + (sum borrow_fill (cloned_borrows m path cp fresh)).ids) * 2 ≤ length o.ids
      ids_room = omega (arith, fitting.ids)

      pub pool_room : c.bytes + (sum borrow_fill (cloned_borrows m path cp fresh)).bytes ≤ length o.pool
      pool_room = fitting.bytes

  module _ (c : Fill) (e : c ≡ manifest_fill (bare_of m)) (d d₁ d₂ : List ℕ) where
    no_borrows : c.borrows * 9 ≡ 0
    unfolding layout bare_of borrows_laid
    no_borrows = rw e (sym (layout_long borrows (bare_of m)))

    no_ids : c.ids * 2 ≡ 0
    unfolding layout bare_of
    no_ids = rw e (sym (layout_long ids (bare_of m)))

    past_is : past_name (cloned_of m path cp fresh) ≡ c
    unfolding cloned_of bare_of manifest_fill
    past_is = rw e (fill_same (omega arith))

    pub clone_borrows : d₁ ≡ over d (layout (bare_of m)).borrows → d₂ ≡ write d₁ (c.borrows * 9) (borrows_laid c (cloned_borrows m path cp fresh)) → d₂ ≡ over d (layout (cloned_of m path cp fresh)).borrows
    unfolding layout bare_of cloned_of borrows_laid
    clone_borrows w v = v ∙ rw (no_borrows, w, past_is) (write_front d (borrows_laid c (cloned_borrows m path cp fresh)))

    pub clone_ids : d₁ ≡ over d (layout (bare_of m)).ids → d₂ ≡ write d₁ (c.ids * 2) (joined borrow_ids (cloned_borrows m path cp fresh)) → d₂ ≡ over d (layout (cloned_of m path cp fresh)).ids
    unfolding layout bare_of cloned_of
    clone_ids w v = v ∙ rw (no_ids, w) (write_front d (joined borrow_ids (cloned_borrows m path cp fresh)))

    pub clone_pool : d₁ ≡ over d (layout (bare_of m)).pool → d₂ ≡ write d₁ c.bytes (joined borrow_path (cloned_borrows m path cp fresh)) → d₂ ≡ over d (layout (cloned_of m path cp fresh)).pool
    unfolding layout bare_of cloned_of
    clone_pool w v =
        let t = tree_bytes m.tree in
        let s = joined segment_bytes m.segments in
        let n = run (name_keys m.extractor) in
        let b = joined borrow_path (cloned_borrows m path cp fresh) in
        let xs = t ++ (s ++ (n ++ [])) in
        let k : c.bytes ≡ 0 + length xs = rw e (sym (layout_long pool (bare_of m)) ∙ sym (zero-add (length xs))) in
        let q : xs ++ b ≡ t ++ (s ++ (n ++ b)) = simp (append_assoc, append-nil) in
        then d d₁ d₂ 0 c.bytes xs b (omega arith) (w ∙ sym (write_front d xs)) k v ∙ write_front d (xs ++ b) ∙ ap (λ (z : List ℕ). over d z) q

  -- a row like that of the manifest without its borrows
  pub clone_row : (l r : ManifestRow) (n : ℕ) → l ≡ manifest_row (bare_of m) → n ≡ length m.borrows
      → r ≡ record {
        initialized = l.initialized;
        tree = l.tree;
        segments = record { first = 0; count = l.segments.count };
        segment_extractor_name = l.segment_extractor_name;
        next_wal_sst_id = l.next_wal_sst_id;
        replay_after_wal_id = l.replay_after_wal_id;
        last_l0_clock_tick = l.last_l0_clock_tick;
        last_l0_seq = l.last_l0_seq;
        recent_snapshot_min_seq = l.recent_snapshot_min_seq;
        external_dbs = record { first = 0; count = n + 1 };
        writer_epoch = l.writer_epoch;
        compactor_epoch = l.compactor_epoch;
      }
      → r ≡ manifest_row (cloned_of m path cp fresh)
  unfolding manifest_row bare_of cloned_of
  clone_row l r n e h q = q ∙ rw (e, h, cloned_count)
