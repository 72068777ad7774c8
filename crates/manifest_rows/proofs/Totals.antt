-- The cursors count what the manifest fills: its rows, each once. Assumes nothing.
use Prim.Native.Nat.{ℕ, ◌+◌}
use mathlib.Core.Path.{◌≡◌, refl, sym, ap, ◌∙◌}
use mathlib.Core.List.{List, [], ◌∷◌}
use native.Mathlib.Omega.{arith}
use native.Mathlib.Nat.{zero-add}
use Rattle.records.specs.Model.{View, Run, Tree, Segment, Borrow, Manifest}
use Rattle.records.specs.Decode.{Lent}
use Rattle.records.specs.Fill.{empty, plus, sum, views, runs, segments, borrows, ids, key_fill, name_keys, view_keys, view_fill, run_fill, tree_fill, segment_fill, borrow_fill, manifest_fill}
use Rattle.records.specs.declared.Fill.{Fill}
use Rattle.records.specs.declared.ManifestRow.{ManifestRow}
use Rattle.records.specs.declared.TreeRow.{TreeRow}
use Rattle.records.proofs.Sums.{fill_same, plus_assoc, plus_empty, sum_more}
use Rattle.manifest_rows.specs.Stored.{Steps, none, more, Table, ViewStep, Two, RunStep, TreeStep, IdStep, BorrowStep, Three, SegmentStep, ManifestStep}
use Rattle.manifest_rows.proofs.Turns.{steps_next}

-- rows alone, no bytes
abbrev pub rows : Fill → Fill
rows f = record { segments = f.segments; views = f.views; runs = f.runs; borrows = f.borrows; ids = f.ids; bytes = 0 }

-- keys fill no row
keys_none : (ks : List (List ℕ)) → rows (sum key_fill ks) ≡ empty
keys_none [] = refl
keys_none (k ∷ ks) = let e = keys_none ks in fill_same (zero-add _ ∙ ap (λ (f : Fill). f.segments) e, zero-add _ ∙ ap (λ (f : Fill). f.views) e, zero-add _ ∙ ap (λ (f : Fill). f.runs) e, zero-add _ ∙ ap (λ (f : Fill). f.borrows) e, zero-add _ ∙ ap (λ (f : Fill). f.ids) e, refl)

-- `count` of the tables and cursors grows by the rows of each value
steps_rows : {S A : Type 0} (Step : A → S → S → Type 0) (count : S → Fill) (fill : A → Fill) → ((x : A) (σ σ' : S) → Step x σ σ' → count σ' ≡ plus (count σ) (rows (fill x)))
    → (xs : List A) (σ σ' : S) → Steps Step xs σ σ' → count σ' ≡ plus (count σ) (rows (sum fill xs))
steps_rows Step count fill f xs σ σ' none = sym (plus_empty (count σ))
steps_rows Step count fill f xs σ σ' (more {xs = ys} {x = y} {τ = τ} s t) =
    f y τ σ' t ∙ ap (λ (z : Fill). plus z (rows (fill y))) (steps_rows Step count fill f ys σ τ s)
    ∙ plus_assoc (count σ) (rows (sum fill ys)) (rows (fill y)) ∙ ap (λ (z : Fill). plus (count σ) (rows z)) (sym (sum_more fill ys y))

-- the same by its numbers
pub record Grown (a b d : Fill) : Type 0 where
  pub segments : b.segments ≡ a.segments + d.segments
  pub views : b.views ≡ a.views + d.views
  pub runs : b.runs ≡ a.runs + d.runs
  pub borrows : b.borrows ≡ a.borrows + d.borrows
  pub ids : b.ids ≡ a.ids + d.ids

grown : (a b d : Fill) → b ≡ plus a (rows d) → Grown a b d
grown a b d e = record { segments = ap (λ (f : Fill). f.segments) e; views = ap (λ (f : Fill). f.views) e; runs = ap (λ (f : Fill). f.runs) e; borrows = ap (λ (f : Fill). f.borrows) e; ids = ap (λ (f : Fill). f.ids) e }

abbrev view_count : Table → Fill
view_count σ = views σ.next

abbrev run_count : Two → Fill
run_count σ = plus (runs σ.outer.next) (views σ.inner.next)

abbrev borrow_count : Two → Fill
borrow_count σ = plus (borrows σ.outer.next) (ids σ.inner.next)

abbrev segment_count : Three → Fill
segment_count σ = plus (segments σ.segments.next) (run_count σ.rest)

module _ (s : List ℕ) where
  view_rows_lem : (v : View) (σ σ' : Table) → ViewStep s v σ σ' → view_count σ' ≡ plus (view_count σ) (rows (view_fill v))
  unfolding view_fill
  view_rows_lem v σ σ' x =
      let k = grown empty (rows (sum key_fill (view_keys v))) empty (keys_none (view_keys v)) in
      fill_same (omega (arith, x.next, k.segments), omega (arith, x.next, k.views), omega (arith, x.next, k.runs), omega (arith, x.next, k.borrows), omega (arith, x.next, k.ids), refl)

  views_rows : (vs : List View) (σ σ' : Table) → Steps (ViewStep s) vs σ σ' → view_count σ' ≡ plus (view_count σ) (rows (sum view_fill vs))
  views_rows = steps_rows (ViewStep s) view_count view_fill view_rows_lem

  run_rows_lem : (r : Run) (σ σ' : Two) → RunStep s r σ σ' → run_count σ' ≡ plus (run_count σ) (rows (run_fill r))
  unfolding run_fill
  run_rows_lem r σ σ' x =
      let k = grown (view_count σ.inner) (view_count σ'.inner) (sum view_fill r.views) (views_rows r.views σ.inner σ'.inner x.views) in
      fill_same (omega (arith, x.next, k.segments), omega (arith, x.next, k.views), omega (arith, x.next, k.runs), omega (arith, x.next, k.borrows), omega (arith, x.next, k.ids), refl)

  tree_rows : (row : TreeRow) (t : Tree) (σ σ' : Two) → TreeStep s row t σ σ' → run_count σ' ≡ plus (run_count σ) (rows (tree_fill t))
  unfolding tree_fill
  tree_rows row t σ σ' x =
      let k = grown (view_count σ.inner) (view_count x.between) (sum view_fill t.l0) (views_rows t.l0 σ.inner x.between x.l0) in
      let l = grown (run_count (record { outer = σ.outer; inner = x.between })) (run_count σ') (sum run_fill t.runs) (steps_rows (RunStep s) run_count run_fill run_rows_lem t.runs _ σ' x.runs) in
      fill_same (omega (arith, k.segments, l.segments), omega (arith, k.views, l.views), omega (arith, k.runs, l.runs), omega (arith, k.borrows, l.borrows), omega (arith, k.ids, l.ids), refl)

  segment_rows_lem : (g : Segment) (σ σ' : Three) → SegmentStep s g σ σ' → segment_count σ' ≡ plus (segment_count σ) (rows (segment_fill g))
  unfolding segment_fill
  segment_rows_lem g σ σ' x =
      let k = grown (run_count σ.rest) (run_count σ'.rest) (tree_fill g.tree) (tree_rows x.row g.tree σ.rest σ'.rest x.tree) in
      fill_same (omega (arith, x.next, k.segments), omega (arith, x.next, k.views), omega (arith, x.next, k.runs), omega (arith, x.next, k.borrows), omega (arith, x.next, k.ids), refl)

  borrow_rows_lem : (b : Borrow) (σ σ' : Two) → BorrowStep s b σ σ' → borrow_count σ' ≡ plus (borrow_count σ) (rows (borrow_fill b))
  unfolding borrow_fill
  borrow_rows_lem b σ σ' x =
      let k = steps_next IdStep (λ τ. τ.next) (λ y τ τ' u. u.next) b.ids σ.inner σ'.inner x.ids in
      fill_same (omega arith, omega arith, omega arith, omega (arith, x.next), omega (arith, k), refl)

-- All of a manifest's rows are counted.
pub manifest_rows : (l l' : Lent) (row : ManifestRow) (c : Fill) (m : Manifest) → ManifestStep l l' row c m → c ≡ rows (manifest_fill m)
unfolding manifest_fill
manifest_rows l l' row c m x =
    let t = grown empty (run_count x.trees.between) (tree_fill m.tree) (tree_rows l.pool row.tree m.tree _ _ x.trees.tree) in
    let g = grown (plus (segments 0) (run_count x.trees.between)) (plus (segments c.segments) (plus (runs c.runs) (views c.views))) (sum segment_fill m.segments) (steps_rows (SegmentStep l.pool) segment_count segment_fill (segment_rows_lem l.pool) m.segments _ _ x.trees.segments) in
    let n = grown empty (rows (sum key_fill (name_keys m.extractor))) empty (keys_none (name_keys m.extractor)) in
    let b = grown empty (plus (borrows c.borrows) (ids c.ids)) (sum borrow_fill m.borrows) (steps_rows (BorrowStep l.pool) borrow_count borrow_fill (borrow_rows_lem l.pool) m.borrows _ _ x.borrows) in
    fill_same (
      omega (arith, t.segments, g.segments, n.segments, b.segments),
      omega (arith, t.views, g.views, n.views, b.views),
      omega (arith, t.runs, g.runs, n.runs, b.runs),
      omega (arith, t.borrows, g.borrows, n.borrows, b.borrows),
      omega (arith, t.ids, g.ids, n.ids, b.ids),
      x.bytes,
    )
