-- Views filled in. Assumes nothing.
use Prim.Native.Nat.{ℕ, ◌+◌, ◌≤◌}
use mathlib.Core.Path.{◌≡◌, refl, sym}
use mathlib.Core.List.{List}
use native.Mathlib.Omega.{arith}
use Rattle.records.specs.Words.{view_words}
use Rattle.records.specs.declared.ViewRow.{ViewRow}
use Rattle.manifest_values.specs.Read.{is, wrong, view_at}
use Rattle.manifest_values.specs.Rows as rows
use Rattle.manifest_values.specs.Rows.{got}
use Rattle.manifest_rows.specs.Stored.{Laid, FilledIs, table, Under, ViewOver, ViewStep}
use Rattle.manifest_rows.proofs.Goes.{goes, goes_view}
use Rattle.manifest_rows.proofs.Overs.{alike_is, alike_wrong, view_over}

module _ (s : List ℕ) (at : ℕ) where
  pub view_filled : (row : ViewRow) (q : ℕ) → is row q ≡ rows.view_at s at → (t t' : List ℕ) (v : ℕ) (w : List ℕ) → v ≤ at → w ≡ view_words row → Laid w v t t'
      → FilledIs (ViewStep s) Under (view_at s at) (table t v) (table t' (v + 1)) q
  unfolding view_words
  view_filled row q e t t' v w h ew l =
      let a = alike_is (ViewOver s) (rows.view_at s at) (view_at s at) row q (view_over s at) (sym e) in
      let l' : Laid (view_words row) v t t' = rw ew at l in
      let b : at + 1 ≤ q = goes 1 at (view_at s at) a.0 q (goes_view s at) a.1 in
      record {
        value = a.0;
        read = a.1;
        step = record { next = refl; kept = l'.kept; stored = λ i. record { row = row; stands = l'.stands i; is = a.2 } };
        under = omega arith;
      }

  pub view_wrong : (q : ℕ) → wrong q ≡ rows.view_at s at → view_at s at ≡ wrong q
  view_wrong q e = alike_wrong (ViewOver s) (rows.view_at s at) (view_at s at) q (view_over s at) (sym e)
