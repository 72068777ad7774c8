-- The union with an extractor laid at the front of the tables: no tree, the segments, the name, then the borrows. Assumes nothing.
use Rattle.std.specs.Prelude.{None, Option, Some}
use Prim.Native.Nat.{ℕ, suc, ◌+◌, ◌-◌, ◌*◌, ◌≤◌}
use mathlib.Core.Path.{◌≡◌, refl, sym, ap, ◌∙◌}
use mathlib.Core.Bool.{true}
use mathlib.Core.List.{List, [], ◌∷◌, ◌++◌}
use native.Mathlib.Omega.{arith}
use lib.IntN.{negsuc}
use lib.ListN.{length}
use Rattle.tables.specs.Layout.{write, over, joined}
use Rattle.tables.proofs.Writes.{write_front, then}
use Rattle.ids.specs.declared.Uuid.{Uuid}
use Rattle.records.specs.Model.{Segment, Borrow, named, Manifest}
use Rattle.records.specs.Fill.{empty, plus, sum, bytes, key_fill, name_keys, tree_fill, segment_fill, borrow_fill, manifest_fill}
use Rattle.records.specs.Layout.{run, tree_row, tree_bytes, tree_views_laid, tree_runs_laid, views_laid, runs_laid, runs_views_laid, segment_bytes, segments_laid, segments_views_laid, segments_runs_laid, borrows_laid, borrow_ids, borrow_path, name_row, past_name, manifest_row, layout}
use Rattle.records.specs.declared.Fill.{Fill}
use Rattle.records.specs.declared.ManifestRow.{ManifestRow}
use Rattle.records.proofs.Sums.{empty_plus, plus_empty}
use Rattle.records.proofs.Laid.{Table, at, pool as bytes_table}
use Rattle.records.proofs.Columns.{segment_fill_lem, segments_fill, segment_bytes_long}
use Rattle.emit.proofs.Laid.{joined_long}
use Rattle.measure.specs.Walk.{add_of}
use Rattle.merge.specs.Steps.{new_row}
use Rattle.project_views.proofs.Summed.{added_broken, added_on}
use Rattle.unite_trees.specs.Joined.{numbered, numbered_tree, numbered_segments}
use Rattle.unite_trees.proofs.Numbers.{numbered_segments_fill}
use Rattle.unite_groups.specs.Groups.{Member}
use Rattle.unite_groups.specs.Chosen.{lent_from, member_fill}
use Rattle.unite_groups.proofs.Lent.{lent_fill_lem}
use Rattle.unite.specs.United.{segment_runs}
use Rattle.unite.proofs.Plain.{lent_long, lent_runs}
use Rattle.unite_segments.specs.Steps.{named_union, rest_fill, named_fill}
use Rattle.records.specs.declared.Place.{Place}

-- ---- counts

-- the runs that are numbered are those that the segments fill
pub runs_counted : (ss : List Segment) → segment_runs ss ≡ (sum segment_fill ss).runs
runs_counted [] = refl
runs_counted (s ∷ ss) = let h = ap (λ (f : Fill). f.runs) (segment_fill_lem s) in omega (arith, runs_counted ss, h)

segments_counted : (ss : List Segment) → (sum segment_fill ss).segments ≡ length ss
segments_counted ss = let h = ap (λ (f : Fill). f.segments) (segments_fill ss) in omega (arith, h)

numbered_long : (left : ℕ) (ss : List Segment) → length (numbered_segments left ss) ≡ length ss
unfolding numbered_segments
numbered_long left [] = refl
numbered_long left (s ∷ ss) = ap suc (numbered_long (left - length s.tree.runs) ss)

-- ---- measured

module _ (most c : Fill) (k : List ℕ) (ms : List Member) (x : List ℕ) (p : x ≡ k) (s : Option Fill) (e : s ≡ add_of most c (bytes (length x))) where
  name_part : plus (bytes (length x)) (sum member_fill ms) ≡ rest_fill k ms
  name_part = ap (λ (l : List ℕ). plus (bytes (length l)) (sum member_fill ms)) p ∙ ap (λ (f : Fill). plus f (sum member_fill ms)) (sym (plus_empty (key_fill k)))

  pub rest_broken : s ≡ None → None ≡ add_of most c (rest_fill k ms)
  rest_broken h = added_broken most c (bytes (length x)) (sum member_fill ms) (rest_fill k ms) name_part s e h

  pub rest_added : (d : Fill) (r : Option Fill) → s ≡ Some d → r ≡ add_of most d (sum member_fill ms) → r ≡ add_of most c (rest_fill k ms)
  rest_added d r h j = added_on most c (bytes (length x)) (sum member_fill ms) (rest_fill k ms) name_part s d r e h j

-- ---- laid

module _ (ss : List Segment) (k : List ℕ) (ms : List Member) (fresh : List Uuid) (seq : ℕ) where
  abbrev bs : List Borrow
  bs = lent_from fresh 0 ms

  abbrev result : Manifest
  result = named_union ss k seq bs

  -- what it fills
  pub prefixed_fill : manifest_fill result ≡ named_fill ss k ms
  unfolding manifest_fill numbered_tree numbered tree_fill
  prefixed_fill = rw (numbered_segments_fill (segment_runs ss) ss, lent_fill_lem fresh 0 ms) (empty_plus (plus (sum segment_fill ss) (plus (sum key_fill (name_keys (named k))) (sum borrow_fill bs))))

  pub prefixed_counts : (named_fill ss k ms).runs ≡ (sum segment_fill ss).runs
  prefixed_counts = omega (arith, lent_runs fresh ms)

  module _ (left : ℕ) (h : left ≡ (sum segment_fill ss).runs) (c : Fill) (e : c ≡ empty) where
    numbers : left ≡ segment_runs ss
    numbers = h ∙ sym (runs_counted ss)

    pub prefixed_segments : (d d' : List ℕ) → d' ≡ write d (c.segments * 12) (segments_laid c (numbered_segments left ss)) → d' ≡ over d (layout result).segments
    unfolding layout numbered_tree numbered tree_fill
    prefixed_segments d d' w =
        let z : c.segments * 12 ≡ 0 = rw e (omega arith) in
        w ∙ rw (z, e, numbers) (write_front d (segments_laid empty (numbered_segments (segment_runs ss) ss)))

    pub prefixed_views : (d d' : List ℕ) → d' ≡ write d (c.views * 16) (segments_views_laid c (numbered_segments left ss)) → d' ≡ over d (layout result).views
    unfolding layout numbered_tree numbered tree_fill tree_views_laid views_laid runs_views_laid
    prefixed_views d d' w =
        let z : c.views * 16 ≡ 0 = rw e (omega arith) in
        w ∙ rw (z, e, numbers) (write_front d (segments_views_laid empty (numbered_segments (segment_runs ss) ss)))

    pub prefixed_runs : (d d' : List ℕ) → d' ≡ write d (c.runs * 3) (segments_runs_laid c (numbered_segments left ss)) → d' ≡ over d (layout result).runs
    unfolding layout numbered_tree numbered tree_fill tree_runs_laid runs_laid
    prefixed_runs d d' w =
        let z : c.runs * 3 ≡ 0 = rw e (omega arith) in
        w ∙ rw (z, e, numbers) (write_front d (segments_runs_laid empty (numbered_segments (segment_runs ss) ss)))

    module _ (a : Fill) (q : a ≡ plus c (sum segment_fill ss)) where
      front_is : a ≡ sum segment_fill ss
      front_is = q ∙ rw e (empty_plus (sum segment_fill ss))

      -- past the segments, as the layout says it
      past_is : plus a (sum key_fill (name_keys (named k))) ≡ past_name result
      unfolding numbered_tree numbered tree_fill
      past_is = rw (front_is, numbered_segments_fill (segment_runs ss) ss) (ap (λ (f : Fill). plus f (sum key_fill (name_keys (named k)))) (sym (empty_plus (sum segment_fill ss))))

      -- room for what comes behind the segments
      pub rest_room : (t : Table) (n : ℕ) → at t (named_fill ss k ms) ≤ n → at t (plus a (rest_fill k ms)) ≤ n
      rest_room t n g = rw front_is g

      no_borrows : a.borrows * 9 ≡ 0
      no_borrows = let f = ap (λ (f : Fill). f.borrows) (segments_fill ss) in rw front_is (omega (arith, f))

      no_ids : a.ids * 2 ≡ 0
      no_ids = let f = ap (λ (f : Fill). f.ids) (segments_fill ss) in rw front_is (omega (arith, f))

      pub prefixed_borrows : (d d' : List ℕ) → d' ≡ write d (a.borrows * 9) (borrows_laid (plus a (sum key_fill (name_keys (named k)))) bs) → d' ≡ over d (layout result).borrows
      unfolding layout
      prefixed_borrows d d' w = w ∙ rw (no_borrows, past_is) (write_front d (borrows_laid (past_name result) bs))

      pub prefixed_ids : (d d' : List ℕ) → d' ≡ write d (a.ids * 2) (joined borrow_ids bs) → d' ≡ over d (layout result).ids
      unfolding layout
      prefixed_ids d d' w = w ∙ rw no_ids (write_front d (joined borrow_ids bs))

      pub prefixed_pool : (d d₁ d₂ : List ℕ) → d₁ ≡ write d c.bytes (joined segment_bytes (numbered_segments left ss)) → d₂ ≡ write d₁ a.bytes (run (name_keys (named k)) ++ joined borrow_path bs)
          → d₂ ≡ over d (layout result).pool
      unfolding layout numbered_tree numbered tree_bytes
      prefixed_pool d d₁ d₂ w v =
          let xs = joined segment_bytes (numbered_segments left ss) in
          let ys = run (name_keys (named k)) ++ joined borrow_path bs in
          let z : c.bytes ≡ 0 = rw e in
          let l : length xs ≡ (sum segment_fill (numbered_segments left ss)).bytes = joined_long segment_fill bytes_table segment_bytes segment_bytes_long (numbered_segments left ss) in
          let f : (sum segment_fill (numbered_segments left ss)).bytes ≡ (sum segment_fill ss).bytes = ap (λ (x : Fill). x.bytes) (numbered_segments_fill left ss) in
          let g : a.bytes ≡ (sum segment_fill ss).bytes = ap (λ (x : Fill). x.bytes) front_is in
          then d d₁ d₂ 0 a.bytes xs ys (omega arith) (rw z at w) (omega (arith, l, f, g)) v
          ∙ write_front d (xs ++ ys) ∙ ap (λ (i : ℕ). over d (joined segment_bytes (numbered_segments i ss) ++ ys)) numbers

      pub prefixed_row : (r : ManifestRow) (x : Option Place) (n : ℕ) → x ≡ name_row a.bytes (named k) → n ≡ length ms
          → r ≡ record {
            initialized = true;
            tree = new_row;
            segments = record { first = 0; count = a.segments };
            segment_extractor_name = x;
            next_wal_sst_id = 1;
            replay_after_wal_id = 0;
            last_l0_clock_tick = negsuc 9223372036854775807;
            last_l0_seq = seq;
            recent_snapshot_min_seq = 0;
            external_dbs = record { first = 0; count = n };
            writer_epoch = 0;
            compactor_epoch = 0;
          }
          → r ≡ manifest_row result
      unfolding manifest_row numbered_tree numbered tree_fill tree_row
      prefixed_row r x n y h g =
          let m : a.segments ≡ length (numbered_segments (segment_runs ss) ss) = rw (front_is, segments_counted ss, numbered_long (segment_runs ss) ss) in
          let b : a.bytes ≡ 0 + (sum segment_fill (numbered_segments (segment_runs ss) ss)).bytes = rw (front_is, numbered_segments_fill (segment_runs ss) ss) (omega arith) in
          g ∙ rw (y, m, b, h, lent_long fresh 0 ms)
