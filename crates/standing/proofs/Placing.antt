-- A MANIFEST THAT STANDS IN TABLES IS JUDGED AS IT IS, from whichever cursor on: it lies within them. Assumes nothing.
use Prim.Native.Nat.{ℕ}
use mathlib.Core.Path.{◌≡◌}
use mathlib.Core.Bool.{true}
use mathlib.Core.List.{List, ◌++◌}
use native.Mathlib.Omega.{arith}
use lib.ListN.{length}
use Rattle.tables.specs.Layout.{joined}
use Rattle.records.specs.Model.{Manifest}
use Rattle.records.specs.Fill.{plus, sum, name_keys, key_fill, tree_fill, segment_fill, borrow_fill, manifest_fill}
use Rattle.records.specs.Layout.{run, tree_bytes, tree_views_laid, tree_runs_laid, segment_bytes, segments_laid, segments_views_laid, segments_runs_laid, borrows_laid, borrow_ids, borrow_path, past_tree, past_segments, past_name, manifest_row_at, layout_at}
use Rattle.records.specs.Decode.{Lent}
use Rattle.records.specs.declared.Fill.{Fill}
use Rattle.records.specs.declared.Limits.{Limits}
use Rattle.records.proofs.Laid.{Table, segments, views, runs, borrows, ids, pool, at}
use Rattle.records.proofs.Columns.{keys_fill, tree_fill_lem, tree_views_long, tree_runs_long, tree_bytes_long, segments_fill}
use Rattle.records.proofs.Sums.{plus_assoc}
use Rattle.records.proofs.Cursor.{table_of, Stands, stands_decode}
use Rattle.measure.specs.Placed.{placed}
use Rattle.measure.specs.Measure.{l1_of}
use Rattle.measure.proofs.Lies.{both, Lies, lies_first, lies_rest, lies_cut, lies_past, lies_at}
use Rattle.lawful.specs.Judge.{judged_of}
use Rattle.history.proofs.Tables.{Small}
use Rattle.manifest_read.specs.Answer.{broken_of}
use Rattle.measure.proofs.Layouts.{tree_in_lem, segments_in_lem, borrows_in_lem, name_in_lem}

module _ (a : Fill) (m : Manifest) (l : Lent) (s : Stands a m l) (small : Small m) where
  pub stands_placed : placed l (manifest_row_at a m) ≡ true
  unfolding placed manifest_row_at layout_at manifest_fill
  stands_placed =
      let t = m.tree in
      let ss = m.segments in
      let ks = name_keys m.extractor in
      let bs = m.borrows in
      let ft = tree_fill t in
      let fs = sum segment_fill ss in
      let fk = sum key_fill ks in
      let fb = sum borrow_fill bs in
      let f₂ = plus fk fb in
      let f₁ = plus fs f₂ in
      let c = plus a (past_tree m) in
      let d = plus a (past_segments m) in
      let e = plus a (past_name m) in
      let z : plus c fs ≡ d = plus_assoc a ft fs in
      let z₂ : plus d fk ≡ e = plus_assoc a (plus ft fs) fk in
      let p₃ = joined borrow_path bs in
      let p₂ = run ks ++ p₃ in
      let p₁ = joined segment_bytes ss ++ p₂ in
      let lk : length (run ks) ≡ at pool fk = rw (keys_fill ks) in
      let ls : length (joined segment_bytes ss) ≡ at pool fs = rw (segments_fill ss) (omega arith) in
      let none : c.segments ≡ a.segments = rw (tree_fill_lem t) (omega arith) in
      let none₂ : (e.borrows ≡ a.borrows) × (e.ids ≡ a.ids) = rw (tree_fill_lem t, segments_fill ss, keys_fill ks) (omega arith) in
      let gs : Lies segments l.segments a (plus ft f₁) (segments_laid c ss) = record { holds = s.holds segments; room = s.room segments } in
      let gr : Lies runs l.runs a (plus ft f₁) (tree_runs_laid a t ++ segments_runs_laid c ss) = record { holds = s.holds runs; room = s.room runs } in
      let gv : Lies views l.views a (plus ft f₁) (tree_views_laid a t ++ segments_views_laid c ss) = record { holds = s.holds views; room = s.room views } in
      let gb : Lies borrows l.borrows a (plus ft f₁) (borrows_laid e bs) = record { holds = s.holds borrows; room = s.room borrows } in
      let gi : Lies ids l.ids a (plus ft f₁) (joined borrow_ids bs) = record { holds = s.holds ids; room = s.room ids } in
      let gp : Lies pool l.pool a (plus ft f₁) (tree_bytes t ++ p₁) = record { holds = s.holds pool; room = s.room pool } in
      let hp = lies_rest pool l.pool a ft f₁ (tree_bytes t) p₁ (tree_bytes_long t) gp in
      let hq = lies_at pool l.pool (plus c fs) d f₂ p₂ z (lies_rest pool l.pool c fs f₂ (joined segment_bytes ss) p₂ ls hp) in
      let tree = tree_in_lem l.runs l.views l.pool a t small.own
      (lies_first runs l.runs a ft f₁ (tree_runs_laid a t) (segments_runs_laid c ss) (tree_runs_long a t) gr)
      (lies_first views l.views a ft f₁ (tree_views_laid a t) (segments_views_laid c ss) (tree_views_long a t) gv)
      (lies_first pool l.pool a ft f₁ (tree_bytes t) p₁ (tree_bytes_long t) gp) in
      let segs = segments_in_lem l.runs l.views l.pool l.segments c ss small.each
      (lies_cut segments l.segments c fs f₂ (segments_laid c ss) (lies_past segments l.segments a ft f₁ (segments_laid c ss) (rw (tree_fill_lem t) (omega arith)) gs))
      (lies_cut runs l.runs c fs f₂ (segments_runs_laid c ss) (lies_rest runs l.runs a ft f₁ (tree_runs_laid a t) (segments_runs_laid c ss) (tree_runs_long a t) gr))
      (lies_cut views l.views c fs f₂ (segments_views_laid c ss) (lies_rest views l.views a ft f₁ (tree_views_laid a t) (segments_views_laid c ss) (tree_views_long a t) gv))
      (lies_first pool l.pool c fs f₂ (joined segment_bytes ss) p₂ ls hp) in
      let name = name_in_lem (length l.pool) d.bytes m.extractor (omega (arith, (lies_first pool l.pool d fk fb (run ks) p₃ lk hq).room, lk)) in
      let after : (x : Table) (xs : List ℕ) → at x ft ≡ 0 → at x fs ≡ 0 → at x fk ≡ 0 → Lies x (table_of x l) a (plus ft f₁) xs → Lies x (table_of x l) e fb xs =
      λ x xs a₁ a₂ a₃ g.
      lies_at x (table_of x l) (plus d fk) e fb xs z₂ (lies_past x (table_of x l) d fk fb xs a₃ (lies_at x (table_of x l) (plus c fs) d f₂ xs z (lies_past x (table_of x l) c fs f₂ xs a₂ (lies_past x (table_of x l) a ft f₁ xs a₁ g)))) in
      let bors = borrows_in_lem l.borrows l.ids l.pool e bs
      (after borrows (borrows_laid e bs) (rw (tree_fill_lem t) (omega arith)) (rw (segments_fill ss) (omega arith)) (rw (keys_fill ks) (omega arith)) gb)
      (after ids (joined borrow_ids bs) (rw (tree_fill_lem t) (omega arith)) (rw (segments_fill ss) (omega arith)) (rw (keys_fill ks) (omega arith)) gi)
      (lies_at pool l.pool (plus d fk) e fb p₃ z₂ (lies_rest pool l.pool d fk fb (run ks) p₃ lk hq)) in
      both _ _ (both _ _ (both _ _ tree (rw none at segs)) name) (rw none₂.0 at bors)

  -- the lawful check says of it what it is
  pub stands_judged : (lim : Limits) → judged_of lim l (manifest_row_at a m) ≡ broken_of lim m
  unfolding judged_of l1_of broken_of
  stands_judged lim = rw (stands_placed, stands_decode a m l s)
