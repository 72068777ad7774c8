-- THE IDS IN LENT TABLES are as words hold them, so what the union answers on lent tables owns nothing. Assumes nothing.
use Rattle.std.specs.Prelude.{Ok}
use Prim.Native.Nat.{ℕ, zero, suc, ◌+◌, ◌*◌, ◌/◌, ◌^◌, ◌<◌}
use mathlib.Core.Path.{◌≡◌, refl, ap, ◌∙◌}
use mathlib.Core.Bool.{Bool, true}
use mathlib.Core.List.{List, [], ◌∷◌}
use lib.ListN.{length}
use borrow.Author.Tests.{lt-ltb}
use Rattle.tables.specs.Layout.{up_to}
use Rattle.tables.specs.Window.{held_of}
use Rattle.tables.specs.declared.Window.{Window}
use Rattle.ids.specs.declared.Uuid.{Uuid}
use Rattle.records.specs.Model.{View, Run, Segment, Borrow}
use Rattle.records.specs.Row.{at, id_at, view_at, run_at, segment_at, borrow_at}
use Rattle.records.specs.Decode.{Lent, ids_in, view_in, views_in, run_in, runs_in, tree_in, segment_in, segments_in, borrow_in, borrows_in, manifest_in}
use Rattle.records.specs.declared.Limits.{Limits}
use Rattle.records.specs.declared.ManifestRow.{ManifestRow}
use Rattle.records.specs.declared.TreeRow.{TreeRow}
use Rattle.measure.specs.Tests.{all_of}
use Rattle.measure.specs.Within.{run_views, tree_views, all_views, ids_used}
use Rattle.measure.proofs.Lists.{all_append}
use Rattle.lawful.proofs.Rules.{all_tree, all_trees}
use Rattle.merge.proofs.Keeping.{both_and}
use Rattle.borrows.specs.Owned.{owned_of}
use Rattle.borrows.specs.Clone.{uuids_of}
use Rattle.unite_ranges.specs.Arranged.{whats}
use Rattle.unite_sources.specs.Source.{Source}
use Rattle.unite_sources.specs.Used.{source_views, in_order}
use Rattle.unite_sources.specs.Rows.{manifest_at_word, source_at_word, sources_in}
use Rattle.unite_sources.proofs.Results.{used_all}
use Rattle.unite.specs.United.{united_of}
use Rattle.unite.specs.Answer.{union_in}
use Rattle.unite_lawful.specs.Naming.{whole_id, whole_source}
use Rattle.unite_lawful.proofs.Used.{owns_nothing}
use Rattle.unite_lawful.proofs.Tables.{union_stands}

all_made : {A : Type 0} (test : A → Bool) (g : ℕ → A) → ((k : ℕ) → test (g k) ≡ true) → (n : ℕ) → all_of test (up_to g n) ≡ true
all_made test g h zero = refl
all_made test g h (suc n) = all_append test (up_to g n) (g n ∷ []) ∙ both_and (all_made test g h n) (both_and (h n) refl)

abbrev whole_view : View → Bool
whole_view v = whole_id v.sst

used_whole : (vs : List View) → all_of whole_id (ids_used vs) ≡ all_of whole_view vs
used_whole [] = refl
used_whole (v ∷ vs) = rw (used_whole vs)

id_whole : (hi lo : ℕ) → hi < 2 ^ 64 → lo < 2 ^ 64 → whole_id (hi, lo) ≡ true
id_whole hi lo h k = both_and (lt-ltb hi (2 ^ 64) h) (lt-ltb lo (2 ^ 64) k)

module _ (l : Lent) (views : (i : ℕ) → at l.views i < 2 ^ 64) (ids : (i : ℕ) → at l.ids i < 2 ^ 64) where
  view_whole : (i : ℕ) → whole_view (view_in l.pool (view_at l.views i)) ≡ true
  unfolding view_in view_at
  view_whole i = id_whole (at l.views (i * 16 + 2)) (at l.views (i * 16 + 3)) (views (i * 16 + 2)) (views (i * 16 + 3))

  views_whole : (w : Window) → all_of whole_view (views_in l.views l.pool w) ≡ true
  unfolding views_in
  views_whole w = all_made whole_view (λ k. view_in l.pool (view_at l.views (w.first + k))) (λ k. view_whole (w.first + k)) (held_of w (length l.views / 16))

  runs_whole : (w : Window) → all_of (λ (r : Run). all_of whole_view (run_views r)) (runs_in l.runs l.views l.pool w) ≡ true
  unfolding runs_in run_in
  runs_whole w =
      all_made (λ (r : Run). all_of whole_view (run_views r)) (λ k. run_in l.views l.pool (run_at l.runs (w.first + k))) (λ k. views_whole (run_at l.runs (w.first + k)).views) (held_of w (length l.runs / 3))

  tree_whole : (t : TreeRow) → all_of whole_view (tree_views (tree_in l.runs l.views l.pool t)) ≡ true
  unfolding tree_in
  tree_whole t = all_tree whole_view (tree_in l.runs l.views l.pool t) ∙ both_and (views_whole t.l0) (runs_whole t.compacted)

  segments_whole : (w : Window) → all_of (λ (s : Segment). all_of whole_view (tree_views s.tree)) (segments_in l.segments l.runs l.views l.pool w) ≡ true
  unfolding segments_in segment_in
  segments_whole w =
      all_made (λ (s : Segment). all_of whole_view (tree_views s.tree)) (λ k. segment_in l.runs l.views l.pool (segment_at l.segments (w.first + k)))
      (λ k. tree_whole (segment_at l.segments (w.first + k)).tree) (held_of w (length l.segments / 12))

  ids_whole : (w : Window) → all_of whole_id (ids_in l.ids w) ≡ true
  unfolding ids_in id_at
  ids_whole w =
      all_made whole_id (λ k. id_at l.ids (w.first + k))
      (λ k. id_whole (at l.ids ((w.first + k) * 2)) (at l.ids ((w.first + k) * 2 + 1)) (ids ((w.first + k) * 2)) (ids ((w.first + k) * 2 + 1))) (held_of w (length l.ids / 2))

  borrows_whole : (w : Window) → all_of (λ (b : Borrow). all_of whole_id b.ids) (borrows_in l.borrows l.ids l.pool w) ≡ true
  unfolding borrows_in borrow_in
  borrows_whole w =
      all_made (λ (b : Borrow). all_of whole_id b.ids) (λ k. borrow_in l.ids l.pool (borrow_at l.borrows (w.first + k))) (λ k. ids_whole (borrow_at l.borrows (w.first + k)).ids) (held_of w (length l.borrows / 9))

  used_in_lem : (m : ManifestRow) → all_of whole_view (all_views (manifest_in l m)) ≡ true
  unfolding all_views manifest_in
  used_in_lem m = all_trees whole_view tree_views (manifest_in l m) ∙ both_and (tree_whole m.tree) (segments_whole m.segments)

  borrowed_in : (m : ManifestRow) → all_of (λ (b : Borrow). all_of whole_id b.ids) (manifest_in l m).borrows ≡ true
  unfolding manifest_in
  borrowed_in m = borrows_whole m.external_dbs

  source_whole : (t : List ℕ) (b : ℕ) → whole_source (source_at_word l t b) ≡ true
  unfolding whole_source source_at_word
  source_whole t b = both_and (borrowed_in (manifest_at_word t b)) (used_whole (all_views (manifest_in l (manifest_at_word t b))) ∙ used_in_lem (manifest_at_word t b))

  pub sources_whole : (t : List ℕ) (n : ℕ) → all_of whole_source (sources_in l t n) ≡ true
  unfolding sources_in
  sources_whole t n = all_made whole_source (λ i. source_at_word l t (i * 22)) (λ i. source_whole t (i * 22)) n

-- of all sources, the used ones as sorted
pub united_owns_nothing : (ss : List Source) (fresh : List Uuid) → all_of whole_source ss ≡ true → owned_of (united_of ss fresh) ≡ []
unfolding united_of in_order
united_owns_nothing ss fresh e = owns_nothing ss (whats (in_order ss)) fresh (used_all whole_source source_views ss e)

-- what the union answers on lent tables borrows every id that its views use
pub union_owns_nothing : (lim : Limits) (l : Lent) (t fresh : List ℕ) (work : Bool) (o : Lent) (row : ManifestRow) → ((i : ℕ) → at l.views i < 2 ^ 64) → ((i : ℕ) → at l.ids i < 2 ^ 64)
    → (union_in lim l t fresh work o).answer ≡ Ok row → owned_of (manifest_in (union_in lim l t fresh work o).out row) ≡ []
union_owns_nothing lim l t fresh work o row v i e =
    ap owned_of (union_stands lim l t fresh work o row e).0 ∙ united_owns_nothing (sources_in l t (length t / 22)) (uuids_of fresh) (sources_whole l v i t (length t / 22))
