-- What the parts of a tree, and ids, fill of each table. Assumes nothing.
use mathlib.Core.Path.{◌≡◌, refl, ◌∙◌}
use mathlib.Core.List.{List, [], ◌∷◌}
use Prim.Native.Nat.{◌*◌}
use native.Mathlib.Omega.{arith}
use lib.ListN.{length}
use Rattle.ids.specs.declared.SstId.{SstId}
use Rattle.tables.specs.Layout.{joined}
use Rattle.records.specs.Model.{View, Run, Tree}
use Rattle.records.specs.Words.{id_words}
use Rattle.records.specs.Fill.{sum, view_fill, run_fill, tree_fill}
use Rattle.records.specs.Layout.{view_bytes, ids_laid}
use Rattle.records.proofs.Laid.{Table, segments, runs, ids, pool, at, at_plus}
use Rattle.records.proofs.Columns.{view_fill_lem, views_fill, view_bytes_long, run_fill_lem, id_fill, ids_fill, id_row_long}
use Rattle.emit.proofs.Laid.{joined_long, none_filled}

pub views_bytes_long : (vs : List View) → length (joined view_bytes vs) ≡ at pool (sum view_fill vs)
views_bytes_long vs = joined_long view_fill pool view_bytes view_bytes_long vs

pub views_no_runs : (vs : List View) → at runs (sum view_fill vs) ≡ 0
views_no_runs vs = rw (views_fill vs)

pub runs_counted : (rs : List Run) → (sum run_fill rs).runs ≡ length rs
runs_counted [] = refl
runs_counted (r ∷ rs) = rw (run_fill_lem r, runs_counted rs) (omega arith)

-- a table that neither views nor runs write into
pub tree_none : (t : Table) → ((v : View) → at t (view_fill v) ≡ 0) → ((r : Run) → at t (run_fill r) ≡ 0) → (x : Tree) → at t (tree_fill x) ≡ 0
unfolding tree_fill
tree_none t hv hr x = rw (at_plus t (sum view_fill x.l0) (sum run_fill x.runs), none_filled view_fill t hv x.l0, none_filled run_fill t hr x.runs)

pub tree_no_segments : (x : Tree) → at segments (tree_fill x) ≡ 0
tree_no_segments x = tree_none segments (λ v. rw (view_fill_lem v)) (λ r. rw (run_fill_lem r)) x

pub ids_laid_long : (xs : List SstId) → length (ids_laid xs) ≡ length xs * 2
unfolding ids_laid
ids_laid_long xs = joined_long id_fill ids id_words id_row_long xs ∙ rw (ids_fill xs)
