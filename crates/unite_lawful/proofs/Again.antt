-- WHAT A UNION LAYS OUT IS ACCEPTED AGAIN: the lawful check passes it in the output tables, where the limit of runs is a number of 32 bits. Assumes nothing.
use Rattle.std.specs.Prelude.{Ok}
use Prim.Native.Nat.{ℕ, ◌+◌, ◌-◌, ◌/◌, ◌^◌, ◌≤◌}
use mathlib.Core.Path.{◌≡◌, refl, ap}
use mathlib.Core.Bool.{Bool, true}
use mathlib.Core.List.{List, [], ◌∷◌}
use native.Mathlib.Omega.{arith}
use lib.ListN.{length, length-append}
use borrow.Author.Tests.{lt-ltb}
use Rattle.tables.specs.Layout.{over}
use Rattle.ids.specs.declared.Uuid.{Uuid}
use Rattle.records.specs.Model.{Run, Tree, Segment, Manifest}
use Rattle.records.specs.Fill.{sum, tree_fill, segment_fill, manifest_fill}
use Rattle.records.specs.Layout.{layout, manifest_row}
use Rattle.records.specs.Decode.{Lent}
use Rattle.records.specs.declared.Fill.{Fill}
use Rattle.records.specs.declared.Limits.{Limits}
use Rattle.records.specs.declared.ManifestRow.{ManifestRow}
use Rattle.records.proofs.Columns.{tree_fill_lem, segment_fill_lem}
use Rattle.records.proofs.Laid.{Table, segments, views, runs, borrows, ids, pool, at}
use Rattle.records.proofs.Stair.{past, begins_before, decode_over, table_of, layout_long}
use Rattle.measure.specs.Tests.{all_of}
use Rattle.measure.specs.Placed.{placed}
use Rattle.measure.specs.Measure.{l1_of}
use Rattle.measure.proofs.Fits.{under}
use Rattle.measure.proofs.Layouts.{id_small, layout_placed}
use Rattle.lawful.specs.Judge.{judged_of}
use Rattle.copy.specs.Copy.{laid_over}
use Rattle.merge.proofs.Keeping.{both_and}
use Rattle.borrows.specs.Clone.{uuids_of}
use Rattle.unite_ranges.specs.Arranged.{whats}
use Rattle.unite_trees.specs.Joined.{numbered, numbered_tree, numbered_segments}
use Rattle.unite_trees.proofs.Numbers.{numbered_tree_fill, numbered_segments_fill}
use Rattle.unite_sources.specs.Source.{Source, agreed_name}
use Rattle.unite_sources.specs.Used.{in_order}
use Rattle.unite_sources.specs.Rows.{sources_in}
use Rattle.unite.specs.United.{tree_united, segments_united, segment_runs, united_from, united_of}
use Rattle.unite.specs.Answer.{union_given, union_in}
use Rattle.unite_lawful.specs.Sources.{lawful_source}
use Rattle.unite_lawful.proofs.Lawful.{Laws, united_lawful}
use Rattle.unite_lawful.proofs.Answers.{given_done}
use Rattle.unite_lawful.proofs.Tables.{in_done}

-- ---- "Run ids descend from count-1 to 0", so they are of 32 bits

numbered_small : (left : ℕ) (rs : List Run) → left ≤ 2 ^ 32 → all_of id_small (numbered left rs) ≡ true
unfolding numbered
numbered_small left [] h = refl
numbered_small left (r ∷ rs) h = both_and (lt-ltb (left - 1) (2 ^ 32) (omega arith)) (numbered_small (left - 1) rs (omega arith))

segments_small : (left : ℕ) (ss : List Segment) → left ≤ 2 ^ 32 → all_of (λ (s : Segment). all_of id_small s.tree.runs) (numbered_segments left ss) ≡ true
unfolding numbered_segments numbered_tree
segments_small left [] h = refl
segments_small left (s ∷ ss) h = both_and (numbered_small left s.tree.runs h) (segments_small (left - length s.tree.runs) ss (omega arith))

runs_filled : (ss : List Segment) → (sum segment_fill ss).runs ≡ segment_runs ss
runs_filled [] = refl
runs_filled (s ∷ ss) = let a = ap (λ (f : Fill). f.runs) (segment_fill_lem s) in let b = runs_filled ss in omega arith

-- the runs of the result are so many
runs_fit : (most : ℕ) (m : Manifest) (t : Tree) (ss : List Segment) → tree_fill m.tree ≡ tree_fill t → sum segment_fill m.segments ≡ sum segment_fill ss → (manifest_fill m).runs ≤ most
    → length t.runs + segment_runs ss ≤ most
unfolding manifest_fill
runs_fit most m t ss e f h =
    let a = ap (λ (x : Fill). x.runs) e in
    let b = ap (λ (x : Fill). x.runs) f in
    let c = ap (λ (x : Fill). x.runs) (tree_fill_lem t) in
    let d = runs_filled ss in
    omega arith

result_small : (most : ℕ) (ss us : List Source) (fresh : List Uuid) → most ≤ 2 ^ 32 → (manifest_fill (united_from ss us fresh)).runs ≤ most
    → (all_of id_small (united_from ss us fresh).tree.runs ≡ true) × (all_of (λ (s : Segment). all_of id_small s.tree.runs) (united_from ss us fresh).segments ≡ true)
unfolding united_from numbered_tree
result_small most ss us fresh h f =
    let t = tree_united (agreed_name ss) us in
    let gs = segments_united (agreed_name ss) us in
    let n : length t.runs + segment_runs gs ≤ most = runs_fit most (united_from ss us fresh) t gs (numbered_tree_fill (length t.runs + segment_runs gs) t) (numbered_segments_fill (segment_runs gs) gs) f in
    (numbered_small (length t.runs + segment_runs gs) t.runs (omega arith), segments_small (segment_runs gs) gs (omega arith))

united_small : (lim : Limits) (ss : List Source) (fresh : List Uuid) → lim.fill.runs ≤ 2 ^ 32 → (manifest_fill (united_of ss fresh)).runs ≤ lim.fill.runs
    → (all_of id_small (united_of ss fresh).tree.runs ≡ true) × (all_of (λ (s : Segment). all_of id_small s.tree.runs) (united_of ss fresh).segments ≡ true)
unfolding united_of
united_small lim ss fresh h f = result_small lim.fill.runs ss (whats (in_order ss)) fresh h f

-- ---- laid out

laid_placed : (m : Manifest) (o : Lent) → all_of id_small m.tree.runs ≡ true → all_of (λ (s : Segment). all_of id_small s.tree.runs) m.segments ≡ true → placed (laid_over o (layout m)) (manifest_row m) ≡ true
laid_placed m o own each = layout_placed (laid_over o (layout m)) m (begins_before (layout m) (past (layout m) o)) room own each
  where
    longer : (d xs : List ℕ) (n : ℕ) → length xs ≡ n → n ≤ length (over d xs)
    longer d xs n e = rw (length-append) (omega arith)

    room : (t : Table) → at t (manifest_fill m) ≤ length (table_of t (laid_over o (layout m)))
    room segments = longer o.segments (layout m).segments (at segments (manifest_fill m)) (layout_long segments m)
    room views = longer o.views (layout m).views (at views (manifest_fill m)) (layout_long views m)
    room runs = longer o.runs (layout m).runs (at runs (manifest_fill m)) (layout_long runs m)
    room borrows = longer o.borrows (layout m).borrows (at borrows (manifest_fill m)) (layout_long borrows m)
    room ids = longer o.ids (layout m).ids (at ids (manifest_fill m)) (layout_long ids m)
    room pool = longer o.pool (layout m).pool (at pool (manifest_fill m)) (layout_long pool m)

laid_judged : (lim : Limits) (m : Manifest) (o : Lent) → Laws lim m → placed (laid_over o (layout m)) (manifest_row m) ≡ true → judged_of lim (laid_over o (layout m)) (manifest_row m) ≡ Ok tt
unfolding judged_of l1_of
laid_judged lim m o law p = rw (p, decode_over m o, law.first, law.second, law.third, law.fourth, law.fifth)

pub given_accepted : (lim : Limits) (ss : List Source) (fresh : List Uuid) (o : Lent) (row : ManifestRow) → lim.fill.runs ≤ 2 ^ 32 → all_of (lawful_source lim) ss ≡ true
    → (union_given lim ss fresh o).answer ≡ Ok row → judged_of lim (union_given lim ss fresh o).out row ≡ Ok tt
given_accepted lim ss fresh o row small h e =
    let w = given_done lim ss fresh o row e in
    let m = united_of ss fresh in
    let s = united_small lim ss fresh small (under (manifest_fill m) lim.fill w.fit).runs in
    rw (w.out_is, w.row_is) (laid_judged lim m o (united_lawful lim ss fresh h w.unnested w.fit) (laid_placed m o s.0 s.1))

-- so what the union answers can be a source of the next
pub union_accepted : (lim : Limits) (l : Lent) (t fresh : List ℕ) (work : Bool) (o : Lent) (row : ManifestRow) → lim.fill.runs ≤ 2 ^ 32
    → (union_in lim l t fresh work o).answer ≡ Ok row → judged_of lim (union_in lim l t fresh work o).out row ≡ Ok tt
union_accepted lim l t fresh work o row small e =
    let w = in_done lim l t fresh work o row e in
    rw w.1.1 (given_accepted lim (sources_in l t (length t / 22)) (uuids_of fresh) o row small w.0 w.1.0)
