-- A source's row reads back, and what stands before a written row stands on. Assumes nothing.
use Rattle.std.specs.Prelude.{None, Option, Some}
use Prim.Native.Nat.{ℕ, ◌+◌, ◌-◌, ◌≤◌}
use mathlib.Core.Path.{◌≡◌, refl, ap, ◌∙◌}
use mathlib.Core.Bool.{true}
use mathlib.Core.List.{List, ◌++◌, append_assoc}
use native.Mathlib.Omega.{arith}
use native.Mathlib.Nat.{add_assoc}
use lib.IntN.{negsuc}
use lib.ListN.{length, take, drop, length-append, length-drop}
use lib.Seq.{length-take-le, take-add, take-append-add, drop-append-le, take-append-le}
use borrow.Author.Tests.{le-leb}
use Rattle.keys.specs.Pool.{part_of}
use Rattle.ids.specs.declared.Uuid.{Uuid}
use Rattle.tables.specs.Layout.{write}
use Rattle.tables.proofs.Holds.{Holds, holds_at, holds_head, holds_word}
use Rattle.records.specs.Model.{Manifest}
use Rattle.records.specs.Row.{at, place_at, tree_at, optional}
use Rattle.records.specs.Words.{tree_words, view_mark_cell, sst_mark_cell}
use Rattle.records.specs.Decode.{Lent, bytes_in, manifest_in}
use Rattle.records.specs.declared.Limits.{Limits}
use Rattle.records.specs.declared.ManifestRow.{ManifestRow}
use Rattle.records.specs.declared.Place.{Place}
use Rattle.records.proofs.Rows.{view_mark_back, sst_mark_back}
use Rattle.records.specs.Fill.{manifest_fill}
use Rattle.measure.specs.Placed.{opened, placed}
use Rattle.measure.specs.Within.{within, all_views, all_runs}
use Rattle.measure.specs.Measure.{l1_of}
use Rattle.lawful.specs.Law.{l2_of, l3_of, l4_of, l5_of}
use Rattle.lawful.specs.Judge.{judged_of}
use Rattle.unite_sources.specs.Source.{Source}
use Rattle.unite_sources.specs.Rows.{manifest_at_word, source_at_word}
use Rattle.unite_judge.specs.Judging.{codes_known, source_judged}
use Rattle.encoded_union.specs.Union.{bare_of}
use Rattle.encoded_union.specs.Steps.{name_cell, source_words}
use Rattle.ids.specs.declared.ViewId.{ViewId}
use Rattle.ids.specs.declared.SstId.{SstId}

-- ---- in one table

pub holds_written : (d : List ℕ) (from : ℕ) (xs : List ℕ) → from ≤ length d → Holds (write d from xs) from xs
holds_written d from xs h = holds_at (take from d) xs (drop (from + length xs) d) from (length-take-le from d h)

pub holds_before : (d : List ℕ) (n : ℕ) (ys : List ℕ) (from : ℕ) (xs : List ℕ) → n + length ys ≤ from → from ≤ length d → Holds d n ys → Holds (write d from xs) n ys
holds_before d n ys from xs h l s =
    let k = from - (n + length ys) in
    let rest = xs ++ drop (from + length xs) d in
    let e : from ≡ n + (length ys + k) = omega arith in
    let f : take from d ≡ take n d ++ (ys ++ take k s.behind) =
    ap (λ (i : ℕ). take i d) e ∙ take-add n (length ys + k) d ∙ ap (λ (z : List ℕ). take n d ++ take (length ys + k) z) s.is ∙ ap (λ (z : List ℕ). take n d ++ z) (take-append-add ys s.behind k) in
    let g : write d from xs ≡ take n d ++ (ys ++ (take k s.behind ++ rest)) =
    ap (λ (z : List ℕ). z ++ rest) f ∙ append_assoc (take n d) (ys ++ take k s.behind) rest ∙ ap (λ (z : List ℕ). take n d ++ z) (append_assoc ys (take k s.behind) rest) in
    rw g (holds_at (take n d) ys (take k s.behind ++ rest) n (length-take-le n d (omega arith)))

-- bytes with others behind them
pub part_front : (args rest : List ℕ) (from len : ℕ) → from + len ≤ length args → part_of (args ++ rest) from len ≡ part_of args from len
unfolding part_of
part_front args rest from len h =
    let d : drop from (args ++ rest) ≡ drop from args ++ rest = drop-append-le from args rest (omega arith) in
    let l : length (drop from args) ≡ length args - from = length-drop from args in
    rw (le-leb (from + len) (length args) h, le-leb (from + len) (length (args ++ rest)) (omega (arith, length-append args rest)), d)
    (take-append-le len (drop from args) rest (omega (arith, l)))

-- ---- a row

pub source_wide : (m : ManifestRow) (p : Place) (u : Uuid) → length (source_words m p u) ≡ 22
unfolding source_words tree_words
source_wide m p u = refl

-- a manifest's row with the numbers that a source's row does not hold as those of the new manifest
abbrev pub bare_row : ManifestRow → ManifestRow
bare_row m =
    record {
      initialized = true;
      tree = m.tree;
      segments = m.segments;
      segment_extractor_name = m.segment_extractor_name;
      next_wal_sst_id = 1;
      replay_after_wal_id = 0;
      last_l0_clock_tick = negsuc 9223372036854775807;
      last_l0_seq = m.last_l0_seq;
      recent_snapshot_min_seq = 0;
      external_dbs = m.external_dbs;
      writer_epoch = 0;
      compactor_epoch = 0;
    }

pub bare_in : (l : Lent) (m : ManifestRow) → manifest_in l (bare_row m) ≡ bare_of (manifest_in l m)
unfolding manifest_in bare_of
bare_in l m = refl

pub bare_judged : (lim : Limits) (l : Lent) (m : ManifestRow) → judged_of lim l (bare_row m) ≡ judged_of lim l m
unfolding judged_of l1_of placed within manifest_in manifest_fill all_views all_runs l2_of l3_of l4_of l5_of
bare_judged lim l m = refl

name_back : (x : Option Place) → optional None Some (name_cell x).code (record { at = (name_cell x).a; len = (name_cell x).b }) ≡ x
name_back None = refl
name_back (Some p) = refl

view_known : (x : Option ViewId) → opened (view_mark_cell x).code true ≡ true
view_known None = refl
view_known (Some x) = refl

sst_known : (x : Option SstId) → opened (sst_mark_cell x).code true ≡ true
sst_known None = refl
sst_known (Some x) = refl

name_known : (x : Option Place) → opened (name_cell x).code true ≡ true
name_known None = refl
name_known (Some p) = refl

-- a source whose path stands in the pool
abbrev pub made : Lent → Manifest → Place → Uuid → Source
made l x p u = record { manifest = x; path = bytes_in l.pool p; checkpoint = u }

module _ (t : List ℕ) (b : ℕ) (m : ManifestRow) (p : Place) (u : Uuid) (h : Holds t b (source_words m p u)) where
  manifest_back : manifest_at_word t b ≡ bare_row m
  unfolding manifest_at_word tree_at source_words tree_words
  manifest_back =
      simp (add_assoc, holds_head t b (source_words m p u) h, holds_word t b (source_words m p u) h, view_mark_back, sst_mark_back, name_back)

  path_back : place_at t (b + 18) ≡ p
  unfolding source_words tree_words
  path_back = simp (add_assoc, holds_word t b (source_words m p u) h)

  checkpoint_back : ◌≡◌ {A = Uuid} (at t (b + 20), at t (b + 21)) u
  unfolding source_words tree_words
  checkpoint_back = simp (holds_word t b (source_words m p u) h)

  codes_back : codes_known t b ≡ true
  unfolding source_words tree_words
  codes_back =
      simp (holds_head t b (source_words m p u) h, holds_word t b (source_words m p u) h, view_known, sst_known, name_known)

  pub row_judged : (lim : Limits) (l : Lent) → source_judged lim l t b ≡ judged_of lim l m
  row_judged lim l = rw (codes_back, manifest_back) (bare_judged lim l m)

  pub row_source : (l : Lent) → source_at_word l t b ≡ made l (bare_of (manifest_in l m)) p u
  unfolding source_at_word
  row_source l =
      ap (λ (a : ManifestRow). made l (manifest_in l a) (place_at t (b + 18)) (at t (b + 20), at t (b + 21))) manifest_back
      ∙ ap (λ (q : Place). made l (manifest_in l (bare_row m)) q (at t (b + 20), at t (b + 21))) path_back
      ∙ ap (λ (v : Uuid). made l (manifest_in l (bare_row m)) p v) checkpoint_back
      ∙ ap (λ (x : Manifest). made l x p u) (bare_in l m)
