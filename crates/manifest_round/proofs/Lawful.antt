-- What a lawful manifest fills is small, so everything that it holds can be written and read back. Assumes nothing.
use Rattle.std.specs.Prelude.{Err, Ok, Result}
use Prim.Native.Nat.{ℕ, ◌+◌, ◌^◌, ◌≤◌, ◌<◌}
use mathlib.Core.Path.{◌≡◌, refl}
use mathlib.Core.Bool.{Bool, true, false, not, ◌&&◌}
use mathlib.Core.List.{List, [], ◌∷◌, ◌++◌}
use native.Mathlib.Omega.{arith}
use lib.ListN.{length}
use Rattle.keys.specs.Range.{Edge, unbounded, included, excluded}
use Rattle.records.specs.Model.{LastKey, unknown, known, Seen, all, only, View, Run, Tree, Segment, Borrow, Extractor, none, named, Manifest}
use Rattle.records.specs.Fill.{plus, sum, fits, key_fill, last_keys, edge_keys, seen_keys, name_keys, view_fill, run_fill, tree_fill, segment_fill, borrow_fill, manifest_fill}
use Rattle.records.specs.Fill.{segments as segment_cells, views as view_cells, runs as run_cells, borrows as borrow_cells, ids as id_cells}
use Rattle.records.specs.Limits.{limits01}
use Rattle.records.specs.declared.Fill.{Fill}
use Rattle.records.proofs.Sums.{sum_append}
use Rattle.keys.specs.Pick.{pick}
use Rattle.keys.proofs.Says.{says_true}
use Rattle.records.specs.Decode.{Lent}
use Rattle.measure.specs.Within.{within}
use Rattle.measure.proofs.Fits.{says_fits}
use Rattle.copy.specs.Copy.{given_of}
use Rattle.manifest_write.specs.Bytes.{manifest_bytes}
use Rattle.manifest_write.proofs.Bounds.{fitting_most}
use Rattle.manifest_read.specs.Answer.{broken_of, work_room, read_of}
use Rattle.manifest_round.proofs.Read.{read_back}
use Rattle.manifest_round.specs.Fits.{EdgeFits, SeenFits, LastFits, NameFits, AllFit, ListFits, ViewFits, RunFits, TreeFits, SegmentFits, BorrowFits, ManifestFits}
use Rattle.manifest_round.specs.Numbers.{ViewNumbers, RunNumbers, TreeNumbers, SegmentNumbers, BorrowNumbers, Numbers}

-- each of the six numbers is below 2 ^ 32
pub record Small (f : Fill) : Type 0 where
  pub segments : f.segments < 2 ^ 32
  pub views : f.views < 2 ^ 32
  pub runs : f.runs < 2 ^ 32
  pub borrows : f.borrows < 2 ^ 32
  pub ids : f.ids < 2 ^ 32
  pub bytes : f.bytes < 2 ^ 32

small_left : (a b : Fill) → Small (plus a b) → Small a
small_left a b s = record { segments = omega (arith, s.segments); views = omega (arith, s.views); runs = omega (arith, s.runs); borrows = omega (arith, s.borrows); ids = omega (arith, s.ids); bytes = omega (arith, s.bytes) }

small_right : (a b : Fill) → Small (plus a b) → Small b
small_right a b s = record { segments = omega (arith, s.segments); views = omega (arith, s.views); runs = omega (arith, s.runs); borrows = omega (arith, s.borrows); ids = omega (arith, s.ids); bytes = omega (arith, s.bytes) }

-- ---- lists: each is small, and there are few

module _ {A : Type 0} (f : A → Fill) (N P : A → Type 0) (one : (x : A) → N x → Small (f x) → P x) where
  each_fits : (xs : List A) → AllFit N xs → Small (sum f xs) → AllFit P xs
  each_fits [] n s = tt
  each_fits (x ∷ xs) n s = (one x n.0 (small_left (f x) (sum f xs) s), each_fits xs n.1 (small_right (f x) (sum f xs) s))

module _ {A : Type 0} (f : A → Fill) (count : Fill → ℕ) (adds : (a b : Fill) → count (plus a b) ≡ count a + count b) (some : (x : A) → 1 ≤ count (f x)) where
  counted : (xs : List A) → length xs ≤ count (sum f xs)
  counted [] = omega arith
  counted (x ∷ xs) = omega (arith, adds (f x) (sum f xs), some x, counted xs)

-- ---- views

last_fits : (l : LastKey) → Small (sum key_fill (last_keys l)) → LastFits l
last_fits unknown s = tt
last_fits (known k) s = omega (arith, s.bytes)

edge_fits : (e : Edge) → Small (sum key_fill (edge_keys e)) → EdgeFits e
edge_fits unbounded s = tt
edge_fits (included k) s = omega (arith, s.bytes)
edge_fits (excluded k) s = omega (arith, s.bytes)

seen_fits : (v : Seen) → Small (sum key_fill (seen_keys v)) → SeenFits v
seen_fits all s = tt
seen_fits (only r) s =
    let t : Small (plus (sum key_fill (edge_keys r.start)) (sum key_fill (edge_keys r.end))) = rw (sum_append key_fill (edge_keys r.start) (edge_keys r.end)) at s in
    (edge_fits r.start (small_left _ _ t), edge_fits r.end (small_right (sum key_fill (edge_keys r.start)) _ t))

view_fits : (v : View) → ViewNumbers v → Small (view_fill v) → ViewFits v
unfolding view_fill
view_fits v n s =
    let k = sum key_fill (last_keys v.last ++ seen_keys v.visible) in
    let t : Small (plus (key_fill v.first) k) = small_right (view_cells 1) (plus (key_fill v.first) k) s in
    let r : Small (plus (sum key_fill (last_keys v.last)) (sum key_fill (seen_keys v.visible))) = rw (sum_append key_fill (last_keys v.last) (seen_keys v.visible)) at (small_right (key_fill v.first) k t) in
    record {
      id = n.id;
      sst = n.sst;
      first = (small_left (key_fill v.first) k t).bytes;
      last = last_fits v.last (small_left _ _ r);
      visible = seen_fits v.visible (small_right (sum key_fill (last_keys v.last)) _ r);
    }

view_counts : (v : View) → 1 ≤ (view_fill v).views
unfolding view_fill
view_counts v = omega arith

views_fit : (vs : List View) → AllFit ViewNumbers vs → Small (sum view_fill vs) → ListFits ViewFits vs
views_fit vs n s =
    record { short = omega (arith, s.views, counted view_fill (λ f. f.views) (λ a b. refl) view_counts vs); each = each_fits view_fill ViewNumbers ViewFits view_fits vs n s }

-- ---- runs, trees, segments

run_fits : (r : Run) → RunNumbers r → Small (run_fill r) → RunFits r
unfolding run_fill
run_fits r n s = record { id = n.id; views = views_fit r.views n.views (small_right (run_cells 1) (sum view_fill r.views) s) }

run_counts : (r : Run) → 1 ≤ (run_fill r).runs
unfolding run_fill
run_counts r = omega arith

tree_fits : (t : Tree) → TreeNumbers t → Small (tree_fill t) → TreeFits t
unfolding tree_fill
tree_fits t n s =
    let r = small_right (sum view_fill t.l0) (sum run_fill t.runs) s in
    record {
      view = n.view;
      sst = n.sst;
      l0 = views_fit t.l0 n.l0 (small_left (sum view_fill t.l0) (sum run_fill t.runs) s);
      runs = record { short = omega (arith, r.runs, counted run_fill (λ f. f.runs) (λ a b. refl) run_counts t.runs); each = each_fits run_fill RunNumbers RunFits run_fits t.runs n.runs r };
    }

segment_fits : (x : Segment) → SegmentNumbers x → Small (segment_fill x) → SegmentFits x
unfolding segment_fill
segment_fits x n s =
    let r = small_right (segment_cells 1) (plus (key_fill x.prefix) (tree_fill x.tree)) s in
    record { prefix = (small_left (key_fill x.prefix) (tree_fill x.tree) r).bytes; tree = tree_fits x.tree n (small_right (key_fill x.prefix) (tree_fill x.tree) r) }

segment_counts : (x : Segment) → 1 ≤ (segment_fill x).segments
unfolding segment_fill
segment_counts x = omega arith

-- ---- borrows

borrow_fits : (b : Borrow) → BorrowNumbers b → Small (borrow_fill b) → BorrowFits b
unfolding borrow_fill
borrow_fits b n s =
    let r = small_right (borrow_cells 1) (plus (key_fill b.path) (id_cells (length b.ids))) s in
    record {
      path = (small_left (key_fill b.path) (id_cells (length b.ids)) r).bytes;
      source = n.source;
      final = n.final;
      ids = record { short = (small_right (key_fill b.path) (id_cells (length b.ids)) r).ids; each = n.ids };
    }

borrow_counts : (b : Borrow) → 1 ≤ (borrow_fill b).borrows
unfolding borrow_fill
borrow_counts b = omega arith

name_fits : (e : Extractor) → Small (sum key_fill (name_keys e)) → NameFits e
name_fits none s = tt
name_fits (named k) s = omega (arith, s.bytes)

-- ---- the manifest

pub small_fits : (m : Manifest) → Numbers m → Small (manifest_fill m) → ManifestFits m
unfolding manifest_fill
small_fits m n s =
    let t = tree_fill m.tree in
    let g = sum segment_fill m.segments in
    let e = sum key_fill (name_keys m.extractor) in
    let b = sum borrow_fill m.borrows in
    let s₁ = small_right t (plus g (plus e b)) s in
    let s₂ = small_right g (plus e b) s₁ in
    let gs = small_left g (plus e b) s₁ in
    let bs = small_right e b s₂ in
    record {
      tree = tree_fits m.tree n.tree (small_left t (plus g (plus e b)) s);
      segments = record { short = omega (arith, gs.segments, counted segment_fill (λ f. f.segments) (λ a b. refl) segment_counts m.segments); each = each_fits segment_fill SegmentNumbers SegmentFits segment_fits m.segments n.segments gs };
      name = name_fits m.extractor (small_left e b s₂);
      next = n.next;
      replay = n.replay;
      tick = n.tick;
      seq = n.seq;
      recent = n.recent;
      borrows = record { short = omega (arith, bs.borrows, counted borrow_fill (λ f. f.borrows) (λ a b. refl) borrow_counts m.borrows); each = each_fits borrow_fill BorrowNumbers BorrowFits borrow_fits m.borrows n.borrows bs };
      writer = n.writer;
      compactor = n.compactor;
    }

-- ---- for every lawful manifest

and_left : (a b : Bool) → (a && b) ≡ true → a ≡ true
and_left true b e = refl
and_left false b e = e

kept_first : (b : Bool) (rest : Result Unit ℕ) → pick {A = Result Unit ℕ} (not b) (Err 1) rest ≡ Ok tt → b ≡ true
kept_first true rest e = refl
kept_first false rest e = let z : ◌≡◌ {A = ℕ} 0 1 = cc in absurd (omega arith)

module _ (m : Manifest) (lawful : broken_of limits01 m ≡ Ok tt) where
  lawful_within : within limits01 m ≡ true
  unfolding broken_of
  lawful_within = kept_first (within limits01 m) _ lawful

  lawful_fitting : fits (manifest_fill m) limits01.fill ≡ true
  unfolding within
  lawful_fitting = and_left _ _ (and_left _ _ (and_left _ _ (and_left _ _ lawful_within)))

  lawful_small : Small (manifest_fill m)
  unfolding limits01
  lawful_small =
      let u = says_true (says_fits (manifest_fill m) limits01.fill) lawful_fitting in
      record { segments = omega (arith, u.segments); views = omega (arith, u.views); runs = omega (arith, u.runs); borrows = omega (arith, u.borrows); ids = omega (arith, u.ids); bytes = omega (arith, u.bytes) }

  -- THE ROUND TRIP of every lawful manifest: reading what was written of it gives it, laid out canonically, where there is room
  pub lawful_round : Numbers m → (w o : Lent) → fits limits01.fill (work_room limits01 w) ≡ true → read_of limits01 (manifest_bytes m) w o ≡ given_of limits01 m o
  lawful_round n w o r = read_back limits01 m w o (small_fits m n lawful_small) (fitting_most m lawful_fitting) r lawful
