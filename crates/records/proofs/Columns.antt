-- What views, runs, trees, segments and borrows fill, and what they write into each table. Assumes nothing.
use Prim.Native.Nat.{ℕ}
use mathlib.Core.Path.{◌≡◌, refl, sym, ap, ◌∙◌}
use mathlib.Core.List.{List, [], ◌∷◌, ◌++◌}
use native.Mathlib.Omega.{arith}
use lib.ListN.{length, length-append}
use Rattle.ids.specs.declared.SstId.{SstId}
use Rattle.tables.specs.Layout.{joined}
use Rattle.records.specs.Model.{View, Run, Tree, Segment, Borrow}
use Rattle.records.specs.Words.{view_words, run_words, segment_words, borrow_words, id_words}
use Rattle.records.specs.Fill.{empty, plus, sum, key_fill, view_keys, view_fill, run_fill, tree_fill, segment_fill, borrow_fill}
use Rattle.records.specs.Fill.{segments as segment_cells, views as view_cells, runs as run_cells, borrows as borrow_cells, ids as id_cells, bytes}
use Rattle.records.specs.Layout.{run, past_l0, past_prefix, view_row, run_row, segment_row, borrow_row, view_bytes, views_laid, run_bytes, runs_laid, runs_views_laid, tree_bytes, tree_views_laid, tree_runs_laid, segment_bytes, borrow_ids, borrow_path, ids_laid}
use Rattle.records.specs.declared.Fill.{Fill}
use Rattle.records.proofs.Sums.{fill_same, sum_is}
use Rattle.records.proofs.Rows.{view_wide, run_wide, segment_wide, borrow_wide, id_wide}
use Rattle.records.proofs.Laid.{segments, views, runs, borrows, ids, pool, at, at_plus, Column, column_long, laid_joined}

pub keys_fill : (ks : List (List ℕ)) → sum key_fill ks ≡ bytes (length (run ks))
keys_fill [] = refl
keys_fill (k ∷ ks) = rw (keys_fill ks, length-append)

-- ---- views

pub view_fill_lem : (v : View) → view_fill v ≡ plus (view_cells 1) (bytes (length (view_bytes v)))
unfolding view_fill view_bytes
view_fill_lem v = ap (λ (f : Fill). plus (view_cells 1) f) (keys_fill (view_keys v))

pub views_fill : (vs : List View) → sum view_fill vs ≡ plus (view_cells (length vs)) (bytes (length (joined view_bytes vs)))
views_fill vs =
    sum_is view_fill (λ vs. plus (view_cells (length vs)) (bytes (length (joined view_bytes vs)))) refl
    (λ v vs. rw (view_fill_lem v, length-append) (fill_same (omega arith))) vs

pub view_row_long : (c : Fill) (v : View) → length (view_words (view_row c.bytes v)) ≡ at views (view_fill v)
view_row_long c v = view_wide (view_row c.bytes v) ∙ rw (view_fill_lem v)

pub view_bytes_long : (v : View) → length (view_bytes v) ≡ at pool (view_fill v)
view_bytes_long v = rw (view_fill_lem v) (omega arith)

abbrev pub view_rows : Column view_fill
view_rows = record { table = views; words = λ c v. view_words (view_row c.bytes v); long = view_row_long }

abbrev pub view_pool : Column view_fill
view_pool = record { table = pool; words = λ c v. view_bytes v; long = λ c v. view_bytes_long v }

pub views_long : (c : Fill) (vs : List View) → length (views_laid c vs) ≡ at views (sum view_fill vs)
unfolding views_laid
views_long c vs = column_long view_rows c vs

-- ---- runs

pub run_fill_lem : (r : Run) → run_fill r ≡ plus (run_cells 1) (plus (view_cells (length r.views)) (bytes (length (run_bytes r))))
unfolding run_fill run_bytes
run_fill_lem r = ap (λ (f : Fill). plus (run_cells 1) f) (views_fill r.views)

-- the views of some runs
abbrev pub runs_views : List Run → List View
runs_views rs = joined (λ r. r.views) rs

pub runs_fill : (rs : List Run) → sum run_fill rs ≡ plus (run_cells (length rs)) (plus (view_cells (length (runs_views rs))) (bytes (length (joined run_bytes rs))))
runs_fill rs =
    sum_is run_fill (λ rs. plus (run_cells (length rs)) (plus (view_cells (length (runs_views rs))) (bytes (length (joined run_bytes rs))))) refl
    (λ r rs. simp (run_fill_lem r, length-append) (fill_same (omega arith))) rs

pub run_row_long : (c : Fill) (r : Run) → length (run_words (run_row c r)) ≡ at runs (run_fill r)
run_row_long c r = run_wide (run_row c r) ∙ rw (run_fill_lem r)

pub run_views_long : (c : Fill) (r : Run) → length (views_laid c r.views) ≡ at views (run_fill r)
run_views_long c r = views_long c r.views ∙ rw (run_fill_lem r, views_fill r.views) (omega arith)

pub run_bytes_long : (r : Run) → length (run_bytes r) ≡ at pool (run_fill r)
run_bytes_long r = rw (run_fill_lem r) (omega arith)

abbrev pub run_rows : Column run_fill
run_rows = record { table = runs; words = λ c r. run_words (run_row c r); long = run_row_long }

abbrev pub run_views : Column run_fill
run_views = record { table = views; words = λ c r. views_laid c r.views; long = run_views_long }

abbrev pub run_pool : Column run_fill
run_pool = record { table = pool; words = λ c r. run_bytes r; long = λ c r. run_bytes_long r }

-- ---- trees

abbrev pub tree_views : Tree → List View
tree_views t = t.l0 ++ runs_views t.runs

pub tree_fill_lem : (t : Tree) → tree_fill t ≡ plus (run_cells (length t.runs)) (plus (view_cells (length (tree_views t))) (bytes (length (tree_bytes t))))
unfolding tree_fill tree_bytes
tree_fill_lem t = simp (views_fill t.l0, runs_fill t.runs, length-append) (fill_same (omega arith))

pub tree_views_long : (c : Fill) (t : Tree) → length (tree_views_laid c t) ≡ at views (tree_fill t)
unfolding tree_views_laid runs_views_laid tree_fill
tree_views_long c t =
    rw (length-append, views_long c t.l0, column_long run_views (past_l0 c t) t.runs)
    (sym (at_plus views (sum view_fill t.l0) (sum run_fill t.runs)))

pub tree_runs_long : (c : Fill) (t : Tree) → length (tree_runs_laid c t) ≡ at runs (tree_fill t)
unfolding tree_runs_laid runs_laid
tree_runs_long c t = column_long run_rows (past_l0 c t) t.runs ∙ rw (tree_fill_lem t, runs_fill t.runs) (omega arith)

pub tree_bytes_long : (t : Tree) → length (tree_bytes t) ≡ at pool (tree_fill t)
tree_bytes_long t = rw (tree_fill_lem t) (omega arith)

-- ---- segments

pub segment_fill_lem : (s : Segment) → segment_fill s ≡ plus (segment_cells 1) (plus (run_cells (length s.tree.runs)) (plus (view_cells (length (tree_views s.tree))) (bytes (length (segment_bytes s)))))
unfolding segment_fill segment_bytes
segment_fill_lem s = simp (tree_fill_lem s.tree, length-append) (fill_same (omega arith))

pub segments_fill : (ss : List Segment) → sum segment_fill ss ≡ plus (segment_cells (length ss)) (plus (run_cells (length (joined (λ s. s.tree.runs) ss))) (plus (view_cells (length (joined (λ s. tree_views s.tree) ss))) (bytes (length (joined segment_bytes ss)))))
segments_fill ss =
    sum_is segment_fill
    (λ ss. plus (segment_cells (length ss)) (plus (run_cells (length (joined (λ s. s.tree.runs) ss))) (plus (view_cells (length (joined (λ s. tree_views s.tree) ss))) (bytes (length (joined segment_bytes ss))))))
    refl
    (λ s ss. simp (segment_fill_lem s, length-append) (fill_same (omega arith))) ss

pub segment_row_long : (c : Fill) (s : Segment) → length (segment_words (segment_row c s)) ≡ at segments (segment_fill s)
segment_row_long c s = segment_wide (segment_row c s) ∙ rw (segment_fill_lem s)

pub segment_views_long : (c : Fill) (s : Segment) → length (tree_views_laid (past_prefix c s) s.tree) ≡ at views (segment_fill s)
unfolding segment_fill
segment_views_long c s = tree_views_long (past_prefix c s) s.tree ∙ omega arith

pub segment_runs_long : (c : Fill) (s : Segment) → length (tree_runs_laid (past_prefix c s) s.tree) ≡ at runs (segment_fill s)
unfolding segment_fill
segment_runs_long c s = tree_runs_long (past_prefix c s) s.tree ∙ omega arith

pub segment_bytes_long : (s : Segment) → length (segment_bytes s) ≡ at pool (segment_fill s)
segment_bytes_long s = rw (segment_fill_lem s) (omega arith)

abbrev pub segment_rows : Column segment_fill
segment_rows = record { table = segments; words = λ c s. segment_words (segment_row c s); long = segment_row_long }

abbrev pub segment_views : Column segment_fill
segment_views = record { table = views; words = λ c s. tree_views_laid (past_prefix c s) s.tree; long = segment_views_long }

abbrev pub segment_runs : Column segment_fill
segment_runs = record { table = runs; words = λ c s. tree_runs_laid (past_prefix c s) s.tree; long = segment_runs_long }

abbrev pub segment_pool : Column segment_fill
segment_pool = record { table = pool; words = λ c s. segment_bytes s; long = λ c s. segment_bytes_long s }

-- ---- ids

abbrev pub id_fill : SstId → Fill
id_fill x = id_cells 1

pub ids_fill : (xs : List SstId) → sum id_fill xs ≡ id_cells (length xs)
ids_fill xs = sum_is id_fill (λ xs. id_cells (length xs)) refl (λ x xs. fill_same (omega arith)) xs

pub id_row_long : (x : SstId) → length (id_words x) ≡ at ids (id_fill x)
id_row_long x = id_wide x

abbrev pub id_rows : Column id_fill
id_rows = record { table = ids; words = λ c x. id_words x; long = λ c x. id_row_long x }

-- ---- borrows

pub borrow_fill_lem : (b : Borrow) → borrow_fill b ≡ plus (borrow_cells 1) (plus (bytes (length b.path)) (id_cells (length b.ids)))
unfolding borrow_fill
borrow_fill_lem b = refl

pub borrows_fill : (bs : List Borrow) → sum borrow_fill bs ≡ plus (borrow_cells (length bs)) (plus (bytes (length (joined borrow_path bs))) (id_cells (length (joined (λ b. b.ids) bs))))
borrows_fill bs =
    sum_is borrow_fill
    (λ bs. plus (borrow_cells (length bs)) (plus (bytes (length (joined borrow_path bs))) (id_cells (length (joined (λ b. b.ids) bs)))))
    refl
    (λ b bs. simp (borrow_fill_lem b, length-append) (fill_same (omega arith))) bs

pub borrow_row_long : (c : Fill) (b : Borrow) → length (borrow_words (borrow_row c b)) ≡ at borrows (borrow_fill b)
borrow_row_long c b = borrow_wide (borrow_row c b) ∙ rw (borrow_fill_lem b)

pub borrow_ids_long : (b : Borrow) → length (borrow_ids b) ≡ at ids (borrow_fill b)
unfolding ids_laid
borrow_ids_long b =
    ap length (sym (laid_joined id_fill id_words empty b.ids)) ∙ column_long id_rows empty b.ids ∙ rw (ids_fill b.ids, borrow_fill_lem b) (omega arith)

pub borrow_path_long : (b : Borrow) → length (borrow_path b) ≡ at pool (borrow_fill b)
borrow_path_long b = rw (borrow_fill_lem b) (omega arith)

abbrev pub borrow_rows : Column borrow_fill
borrow_rows = record { table = borrows; words = λ c b. borrow_words (borrow_row c b); long = borrow_row_long }

abbrev pub borrow_id_rows : Column borrow_fill
borrow_id_rows = record { table = ids; words = λ c b. borrow_ids b; long = λ c b. borrow_ids_long b }

abbrev pub borrow_pool : Column borrow_fill
borrow_pool = record { table = pool; words = λ c b. borrow_path b; long = λ c b. borrow_path_long b }
