-- The rows that were filled in read back as what was read, and each lies within its tables. Assumes nothing.
use Rattle.std.specs.Prelude.{None, Option, Some}
use Prim.Native.Nat.{ℕ, suc, ◌+◌, ◌*◌, ◌/◌, ◌^◌, ◌≤◌, ◌<◌}
use mathlib.Core.Path.{◌≡◌, refl, sym, ◌∙◌}
use mathlib.Core.Bool.{Bool, true, ◌&&◌}
use mathlib.Core.List.{List, [], ◌∷◌, ◌++◌}
use native.Mathlib.Omega.{arith}
use native.Mathlib.Nat.{add_assoc}
use native.Mathlib.Numerals.{add-one}
use borrow.Author.Tests.{le-leb, lt-ltb}
use lib.ListN.{length, length-append}
use Rattle.keys.specs.declared.Bound.{Bound}
use Rattle.keys.specs.declared.Bound.TheVariants.{Unbounded, Included, Excluded}
use Rattle.tables.specs.Layout.{up_to}
use Rattle.tables.specs.Window.{lies_in, held_of}
use Rattle.tables.proofs.Holds.{Holds, holds_word}
use Rattle.records.specs.Model.{View, Run, Tree, Segment, Borrow, Manifest}
use Rattle.records.specs.Row.{at, view_at, run_at, segment_at, borrow_at, id_at}
use Rattle.records.specs.Words.{bound_cell, last_cell, view_mark_cell, sst_mark_cell, final_cell, visible_cells, view_words, run_words, tree_words, segment_words, borrow_words, id_words}
use Rattle.records.specs.Decode.{Lent, view_in, views_in, run_in, runs_in, tree_in, segment_in, segments_in, ids_in, borrow_in, borrows_in, manifest_in}
use Rattle.records.specs.declared.ViewRow.{ViewRow}
use Rattle.records.specs.declared.TreeRow.{TreeRow}
use Rattle.records.specs.declared.SegmentRow.{SegmentRow}
use Rattle.records.specs.declared.ManifestRow.{ManifestRow}
use Rattle.records.specs.declared.Fill.{Fill}
use Rattle.ids.specs.declared.SstId.{SstId}
use Rattle.records.proofs.Rows.{view_at_back, run_at_back, segment_at_back, borrow_at_back, id_at_back}
use Rattle.measure.specs.Tests.{all_below}
use Rattle.measure.specs.Placed.{key_in, opened, bounded, view_placed, views_placed, run_placed, runs_placed, tree_placed, segment_placed, segments_placed, borrow_placed, borrows_placed, name_placed, placed}
use Rattle.manifest_rows.specs.Stored.{Stands, Kept, Steps, none, more, Table, ViewOver, LastIn, VisibleIn, BoundIn, ViewStep, Two, RunStep, run_row, TreeStep, IdStep, BorrowStep, borrow_row, Three, SegmentStep, NameIn, ManifestStep}
use Rattle.manifest_rows.proofs.Kept.{kept_trans, kept_less, kept_stands, stands_holds}
use Rattle.manifest_rows.proofs.Turns.{steps_next}
use Rattle.records.specs.declared.Place.{Place}
use Rattle.keys.specs.declared.Range.{Range}
use Rattle.ids.specs.declared.ViewId.{ViewId}
use Rattle.ids.specs.declared.Uuid.{Uuid}

-- ---- the last tables keep what stood in them at σ, and have room for it

pub record Keep (w : ℕ) (t : List ℕ) (σ : Table) : Type 0 where
  pub kept : Kept w σ.next σ.words t
  pub fits : σ.next ≤ length t / w

module _ (w : ℕ) (t : List ℕ) (σ σ' : Table) (k : Keep w t σ') (e : σ'.next ≡ σ.next + 1) (h : Kept w σ.next σ.words σ'.words) where
  pub keep_before_lem : Keep w t σ
  keep_before_lem =
      record {
        kept = kept_trans w σ.next σ.words σ'.words t h (kept_less w σ'.next σ.next σ'.words t (omega arith) k.kept);
        fits = omega (arith, k.fits);
      }

  pub keep_stands : (xs : List ℕ) → length xs ≡ w → (σ.next < length σ.words / w → Stands σ'.words (σ.next * w) xs) → Stands t (σ.next * w) xs
  keep_stands xs l f =
      let same : length σ.words ≡ length t = sym (k.kept.long ∙ h.long) in
      let room : σ.next < length σ.words / w = rw same (omega (arith, k.fits)) in
      kept_stands w σ'.next σ.next σ'.words t xs (omega arith) l k.kept (f room)

-- ---- row after row

both_true : (a b : Bool) → a ≡ true → b ≡ true → (a && b) ≡ true
both_true a b e f = rw (e, f)

-- `read i` is what row i of the last tables says, and `good i` whether it lies within them
module _ {S A : Type 0} (Step : A → S → S → Type 0) (next : S → ℕ) (KeepS : S → Type 0) (read : ℕ → A) (good : ℕ → Bool)
    (one : (x : A) (σ σ' : S) → Step x σ σ' → next σ' ≡ next σ + 1)
    (back : (x : A) (σ σ' : S) → Step x σ σ' → KeepS σ' → KeepS σ × (read (next σ) ≡ x) × (good (next σ) ≡ true)) where
  pub steps_back : (xs : List A) (σ σ' : S) → Steps Step xs σ σ' → KeepS σ' → KeepS σ × (up_to (λ k. read (next σ + k)) (length xs) ≡ xs) × (all_below (λ k. good (next σ + k)) (length xs) ≡ true)
  steps_back xs σ σ' none k = (k, refl, refl)
  steps_back xs σ σ' (more {xs = ys} {x = y} {τ = τ} s t) k =
      let b = back y τ σ' t k in
      let r = steps_back ys σ τ s b.0 in
      let i : next σ + length ys ≡ next τ = sym (steps_next Step next one ys σ τ s) in
      let n : length (ys ++ (y ∷ [])) ≡ suc (length ys) = length-append ys (y ∷ []) ∙ add-one (length ys) in (
        r.0,
        rw (n, r.1, i, b.1),
        rw n (both_true _ _ r.2 (rw i b.2)),
      )

-- a window that lies within its table holds all its rows
held : (first count rows : ℕ) → first + count ≤ rows → held_of (record { first = first; count = count }) rows ≡ count
unfolding held_of
held first count rows h = rw (le-leb (first + count) rows h)

-- ---- views

module _ (n : ℕ) where
  bound_placed_lem : (b : Bound) → BoundIn n b → bounded (bound_cell b).code (key_in n (record { at = (bound_cell b).a; len = (bound_cell b).b })) ≡ true
  bound_placed_lem Unbounded h = refl
  bound_placed_lem (Included from len) h = le-leb (from + len) n h
  bound_placed_lem (Excluded from len) h = le-leb (from + len) n h

  last_placed_lem : (l : Option Place) → LastIn n l → opened (last_cell l).code (key_in n (record { at = (last_cell l).a; len = (last_cell l).b })) ≡ true
  last_placed_lem None h = refl
  last_placed_lem (Some p) h = le-leb (p.at + p.len) n h

  visible_placed_lem : (v : Option Range) → VisibleIn n v → opened (visible_cells v).code (bounded (visible_cells v).start.code (key_in n (record { at = (visible_cells v).start.a; len = (visible_cells v).start.b })) && bounded (visible_cells v).end.code (key_in n (record { at = (visible_cells v).end.a; len = (visible_cells v).end.b }))) ≡ true
  visible_placed_lem None h = refl
  visible_placed_lem (Some r) h = both_true _ _ (bound_placed_lem r.start h.0) (bound_placed_lem r.end h.1)

module _ (s t : List ℕ) where
  view_placed_lem : (i : ℕ) (row : ViewRow) (v : View) → ViewOver s row v → Holds t (i * 16) (view_words row) → view_placed (length s) t i ≡ true
  unfolding view_placed view_words
  view_placed_lem i row v o h =
      simp (add_assoc, holds_word t (i * 16) (view_words row) h)
      (both_true _ _ (both_true _ _ (le-leb (row.first.at + row.first.len) (length s) o.first) (last_placed_lem (length s) row.last o.last)) (visible_placed_lem (length s) row.visible o.visible))

  view_back : (v : View) (σ σ' : Table) → ViewStep s v σ σ' → Keep 16 t σ' → Keep 16 t σ × (view_in s (view_at t σ.next) ≡ v) × (view_placed (length s) t σ.next ≡ true)
  unfolding view_words
  view_back v σ σ' x k =
      let same : length σ.words ≡ length t = sym (k.kept.long ∙ x.kept.long) in
      let room : σ.next < length σ.words / 16 = rw same (omega (arith, k.fits, x.next)) in
      let a = x.stored room in
      let st : Stands t (σ.next * 16) (view_words a.row) = keep_stands 16 t σ σ' k x.next x.kept (view_words a.row) refl (λ _. a.stands) in
      let h : Holds t (σ.next * 16) (view_words a.row) = stands_holds t (σ.next * 16) (view_words a.row) st in
      (keep_before_lem 16 t σ σ' k x.next x.kept, rw (view_at_back t σ.next a.row h) a.is.is, view_placed_lem σ.next a.row v a.is h)

  pub views_back : (vs : List View) (σ σ' : Table) → Steps (ViewStep s) vs σ σ' → Keep 16 t σ'
      → Keep 16 t σ × (views_in t s (record { first = σ.next; count = length vs }) ≡ vs) × (views_placed (length s) t (record { first = σ.next; count = length vs }) ≡ true)
  unfolding views_in views_placed
  views_back vs σ σ' x k =
      let r = steps_back (ViewStep s) (λ τ. τ.next) (Keep 16 t) (λ i. view_in s (view_at t i)) (view_placed (length s) t) (λ v τ τ' u. u.next) view_back vs σ σ' x k in
      let l : σ.next + length vs ≤ length t / 16 = omega (arith, k.fits, steps_next (ViewStep s) (λ τ. τ.next) (λ v τ τ' u. u.next) vs σ σ' x) in
      (r.0, rw (held σ.next (length vs) (length t / 16) l) r.1, both_true _ _ (le-leb (σ.next + length vs) (length t / 16) l) r.2)

-- ---- runs, over their views; ids; borrows, over their ids

pub record KeepTwo (v w : ℕ) (outer inner : List ℕ) (σ : Two) : Type 0 where
  pub outer_keeps : Keep v outer σ.outer
  pub inner_keeps : Keep w inner σ.inner

module _ (s runs views : List ℕ) where
  run_back : (r : Run) (σ σ' : Two) → RunStep s r σ σ' → KeepTwo 3 16 runs views σ'
      → KeepTwo 3 16 runs views σ × (run_in views s (run_at runs σ.outer.next) ≡ r) × (run_placed (length s) views runs σ.outer.next ≡ true)
  unfolding run_words run_in run_placed
  run_back r σ σ' x k =
      let i = σ.outer.next in
      let b = views_back s views r.views σ.inner σ'.inner x.views k.inner_keeps in
      let st = keep_stands 3 runs σ.outer σ'.outer k.outer_keeps x.next x.kept (run_words (run_row σ.inner r)) refl x.stored in
      let e : run_at runs i ≡ run_row σ.inner r = run_at_back runs i (run_row σ.inner r) (stands_holds runs (i * 3) (run_words (run_row σ.inner r)) st) in (
        record { outer_keeps = keep_before_lem 3 runs σ.outer σ'.outer k.outer_keeps x.next x.kept; inner_keeps = b.0 },
        rw (e, b.1),
        rw (e, lt-ltb r.id (2 ^ 32) x.small, b.2),
      )

  pub runs_back : (rs : List Run) (σ σ' : Two) → Steps (RunStep s) rs σ σ' → KeepTwo 3 16 runs views σ'
      → KeepTwo 3 16 runs views σ × (runs_in runs views s (record { first = σ.outer.next; count = length rs }) ≡ rs) × (runs_placed (length s) views runs (record { first = σ.outer.next; count = length rs }) ≡ true)
  unfolding runs_in runs_placed
  runs_back rs σ σ' x k =
      let r = steps_back (RunStep s) (λ τ. τ.outer.next) (KeepTwo 3 16 runs views) (λ i. run_in views s (run_at runs i)) (run_placed (length s) views runs) (λ v τ τ' u. u.next) run_back rs σ σ' x k in
      let l : σ.outer.next + length rs ≤ length runs / 3 = omega (arith, k.outer_keeps.fits, steps_next (RunStep s) (λ τ. τ.outer.next) (λ v τ τ' u. u.next) rs σ σ' x) in
      (r.0, rw (held σ.outer.next (length rs) (length runs / 3) l) r.1, both_true _ _ (le-leb (σ.outer.next + length rs) (length runs / 3) l) r.2)

  pub tree_back : (row : TreeRow) (t : Tree) (σ σ' : Two) → TreeStep s row t σ σ' → KeepTwo 3 16 runs views σ' → KeepTwo 3 16 runs views σ × (tree_in runs views s row ≡ t) × (tree_placed (length s) views runs row ≡ true)
  unfolding tree_in tree_placed
  tree_back row t σ σ' x k =
      let r = runs_back t.runs _ σ' x.runs k in
      let l = views_back s views t.l0 σ.inner x.between x.l0 r.0.inner_keeps in
      (record { outer_keeps = r.0.outer_keeps; inner_keeps = l.0 }, rw (x.is, l.1, r.1), rw (x.is, l.2, r.2))

module _ (ids : List ℕ) where
  id_back : (x : SstId) (σ σ' : Table) → IdStep x σ σ' → Keep 2 ids σ' → Keep 2 ids σ × (id_at ids σ.next ≡ x) × (true ≡ true)
  unfolding id_words
  id_back x σ σ' u k =
      let st = keep_stands 2 ids σ σ' k u.next u.kept (id_words x) refl u.stored in
      (keep_before_lem 2 ids σ σ' k u.next u.kept, id_at_back ids σ.next x (stands_holds ids (σ.next * 2) (id_words x) st), refl)

  pub ids_back : (xs : List SstId) (σ σ' : Table) → Steps IdStep xs σ σ' → Keep 2 ids σ'
      → Keep 2 ids σ × (ids_in ids (record { first = σ.next; count = length xs }) ≡ xs) × (lies_in (record { first = σ.next; count = length xs }) (length ids / 2) ≡ true)
  unfolding ids_in
  ids_back xs σ σ' x k =
      let r = steps_back IdStep (λ τ. τ.next) (Keep 2 ids) (id_at ids) (λ i. true) (λ v τ τ' u. u.next) id_back xs σ σ' x k in
      let l : σ.next + length xs ≤ length ids / 2 = omega (arith, k.fits, steps_next IdStep (λ τ. τ.next) (λ v τ τ' u. u.next) xs σ σ' x) in
      (r.0, rw (held σ.next (length xs) (length ids / 2) l) r.1, le-leb (σ.next + length xs) (length ids / 2) l)

-- a cell's code is 0 or 1
final_opens : (f : Option Uuid) → opened (final_cell f).code true ≡ true
final_opens None = refl
final_opens (Some x) = refl

view_mark_opens : (m : Option ViewId) → opened (view_mark_cell m).code true ≡ true
view_mark_opens None = refl
view_mark_opens (Some x) = refl

sst_mark_opens : (m : Option SstId) → opened (sst_mark_cell m).code true ≡ true
sst_mark_opens None = refl
sst_mark_opens (Some x) = refl

module _ (s borrows ids : List ℕ) where
  borrow_back : (b : Borrow) (σ σ' : Two) → BorrowStep s b σ σ' → KeepTwo 9 2 borrows ids σ'
      → KeepTwo 9 2 borrows ids σ × (borrow_in ids s (borrow_at borrows σ.outer.next) ≡ b) × (borrow_placed (length s) ids borrows σ.outer.next ≡ true)
  unfolding borrow_words borrow_in borrow_placed
  borrow_back b σ σ' x k =
      let i = σ.outer.next in
      let row = borrow_row x.path σ.inner b in
      let d = ids_back ids b.ids σ.inner σ'.inner x.ids k.inner_keeps in
      let st = keep_stands 9 borrows σ.outer σ'.outer k.outer_keeps x.next x.kept (borrow_words row) refl x.stored in
      let h : Holds borrows (i * 9) (borrow_words row) = stands_holds borrows (i * 9) (borrow_words row) st in
      let e : borrow_at borrows i ≡ row = borrow_at_back borrows i row h in
      let code : opened (at borrows (i * 9 + 4)) true ≡ true = rw (holds_word borrows (i * 9) (borrow_words row) h 4) (final_opens b.final) in (
        record { outer_keeps = keep_before_lem 9 borrows σ.outer σ'.outer k.outer_keeps x.next x.kept; inner_keeps = d.0 },
        rw (e, x.over.0, d.1),
        rw (e, code, le-leb (x.path.at + x.path.len) (length s) x.over.1, d.2),
      )

  pub borrows_back : (bs : List Borrow) (σ σ' : Two) → Steps (BorrowStep s) bs σ σ' → KeepTwo 9 2 borrows ids σ'
      → KeepTwo 9 2 borrows ids σ × (borrows_in borrows ids s (record { first = σ.outer.next; count = length bs }) ≡ bs) × (borrows_placed (length s) ids borrows (record { first = σ.outer.next; count = length bs }) ≡ true)
  unfolding borrows_in borrows_placed
  borrows_back bs σ σ' x k =
      let r = steps_back (BorrowStep s) (λ τ. τ.outer.next) (KeepTwo 9 2 borrows ids) (λ i. borrow_in ids s (borrow_at borrows i)) (borrow_placed (length s) ids borrows) (λ v τ τ' u. u.next) borrow_back bs σ σ' x k in
      let l : σ.outer.next + length bs ≤ length borrows / 9 = omega (arith, k.outer_keeps.fits, steps_next (BorrowStep s) (λ τ. τ.outer.next) (λ v τ τ' u. u.next) bs σ σ' x) in
      (r.0, rw (held σ.outer.next (length bs) (length borrows / 9) l) r.1, both_true _ _ (le-leb (σ.outer.next + length bs) (length borrows / 9) l) r.2)

pub record KeepThree (segments runs views : List ℕ) (σ : Three) : Type 0 where
  pub own : Keep 12 segments σ.segments
  pub below : KeepTwo 3 16 runs views σ.rest

module _ (s segments runs views : List ℕ) where
  segment_back : (g : Segment) (σ σ' : Three) → SegmentStep s g σ σ' → KeepThree segments runs views σ'
      → KeepThree segments runs views σ × (segment_in runs views s (segment_at segments σ.segments.next) ≡ g) × (segment_placed (length s) views runs segments σ.segments.next ≡ true)
  unfolding segment_words tree_words segment_in segment_placed
  segment_back g σ σ' x k =
      let i = σ.segments.next in
      let row : SegmentRow = record { prefix = x.prefix; tree = x.row } in
      let d = tree_back s runs views x.row g.tree σ.rest σ'.rest x.tree k.below in
      let st = keep_stands 12 segments σ.segments σ'.segments k.own x.next x.kept (segment_words row) refl x.stored in
      let h : Holds segments (i * 12) (segment_words row) = stands_holds segments (i * 12) (segment_words row) st in
      let e : segment_at segments i ≡ row = segment_at_back segments i row h in
      let one : opened (at segments (i * 12 + 2)) true ≡ true = rw (holds_word segments (i * 12) (segment_words row) h 2) (view_mark_opens x.row.view) in
      let other : opened (at segments (i * 12 + 5)) true ≡ true = rw (holds_word segments (i * 12) (segment_words row) h 5) (sst_mark_opens x.row.sst) in (
        record { own = keep_before_lem 12 segments σ.segments σ'.segments k.own x.next x.kept; below = d.0 },
        rw (e, x.over.0, d.1),
        rw (e, one, other, le-leb (x.prefix.at + x.prefix.len) (length s) x.over.1, d.2),
      )

  pub segments_back : (gs : List Segment) (σ σ' : Three) → Steps (SegmentStep s) gs σ σ' → KeepThree segments runs views σ'
      → KeepThree segments runs views σ × (segments_in segments runs views s (record { first = σ.segments.next; count = length gs }) ≡ gs) × (segments_placed (length s) views runs segments (record { first = σ.segments.next; count = length gs }) ≡ true)
  unfolding segments_in segments_placed
  segments_back gs σ σ' x k =
      let r = steps_back (SegmentStep s) (λ τ. τ.segments.next) (KeepThree segments runs views) (λ i. segment_in runs views s (segment_at segments i)) (segment_placed (length s) views runs segments) (λ v τ τ' u. u.next) segment_back gs σ σ' x k in
      let l : σ.segments.next + length gs ≤ length segments / 12 = omega (arith, k.own.fits, steps_next (SegmentStep s) (λ τ. τ.segments.next) (λ v τ τ' u. u.next) gs σ σ' x) in
      (r.0, rw (held σ.segments.next (length gs) (length segments / 12) l) r.1, both_true _ _ (le-leb (σ.segments.next + length gs) (length segments / 12) l) r.2)

-- ---- the manifest

name_placed_lem : (n : ℕ) (x : Option Place) → NameIn n x → name_placed n x ≡ true
name_placed_lem n None h = refl
name_placed_lem n (Some p) h = le-leb (p.at + p.len) n h

-- the counts fit the tables
pub record Fitting (c : Fill) (l : Lent) : Type 0 where
  pub segments : c.segments ≤ length l.segments / 12
  pub views : c.views ≤ length l.views / 16
  pub runs : c.runs ≤ length l.runs / 3
  pub borrows : c.borrows ≤ length l.borrows / 9
  pub ids : c.ids ≤ length l.ids / 2

all_kept : (w n : ℕ) (t : List ℕ) → n ≤ length t / w → Keep w t (record { words = t; next = n })
all_kept w n t h = record { kept = record { long = refl; same = refl }; fits = h }

-- Where the counts fit, the rows stand for the manifest that was read, and all of them lie within their tables.
pub manifest_back : (l l' : Lent) (row : ManifestRow) (c : Fill) (m : Manifest) → l'.pool ≡ l.pool → ManifestStep l l' row c m → Fitting c l' → (manifest_in l' row ≡ m) × (placed l' row ≡ true)
unfolding manifest_in placed
manifest_back l l' row c m p x f =
    let s = l.pool in
    let g = segments_back s l'.segments l'.runs l'.views m.segments _ _ x.trees.segments
    (record { own = all_kept 12 c.segments l'.segments f.segments; below = record { outer_keeps = all_kept 3 c.runs l'.runs f.runs; inner_keeps = all_kept 16 c.views l'.views f.views } }) in
    let t = tree_back s l'.runs l'.views row.tree m.tree _ _ x.trees.tree g.0.below in
    let b = borrows_back s l'.borrows l'.ids m.borrows _ _ x.borrows
    (record { outer_keeps = all_kept 9 c.borrows l'.borrows f.borrows; inner_keeps = all_kept 2 c.ids l'.ids f.ids }) in
    let ro : tree_in l'.runs l'.views s row.tree ≡ m.tree = t.1 in (
      rw (p, x.is, x.name, t.1, g.1, b.1),
      rw (p, x.is, t.2, g.2, name_placed_lem (length s) row.segment_extractor_name x.inside, b.2),
    )
