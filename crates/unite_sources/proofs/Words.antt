-- Words of a source's row, by the tests that the code makes. Assumes nothing.
use Rattle.std.specs.Prelude.{None, Some}
use Prim.Native.Nat.{ℕ, ◌+◌, ◌-◌, ◌≤◌, ◌<◌}
use mathlib.Core.Path.{◌≡◌, sym, ◌∙◌}
use mathlib.Core.List.{List, ◌∷◌}
use native.Mathlib.Omega.{arith}
use native.Mathlib.Nat.{add_assoc}
use lib.ListN.{length, get_or-eq_default}
use Rattle.tables.specs.declared.Window.{Window}
use Rattle.records.specs.Row.{at, place_at, window_at, tree_at, optional}
use Rattle.records.specs.Decode.{tree_in, segments_in}
use Rattle.records.specs.Model.{segment_trees}
use Rattle.records.specs.declared.TreeRow.{TreeRow}
use Rattle.records.proofs.Codes.{optional_rest}
use Rattle.measure.specs.Within.{tree_views}
use Rattle.tables.specs.Layout.{joined}
use Rattle.unite_ranges.specs.Bounding.{Bounding, bounding_of}
use Rattle.unite_sources.specs.Rows.{views_at_word}

-- a word that the table does not have
module _ (t : List ℕ) (b k : ℕ) where
  pub word_before : length t ≤ b → 0 ≡ at t (b + k)
  word_before h = sym (get_or-eq_default t 0 {n = b + k} (omega arith))

  pub word_behind : b < length t → length t - b ≤ k → 0 ≡ at t (b + k)
  word_behind g h = sym (get_or-eq_default t 0 {n = b + k} (omega arith))

pub ruleset words = (word_before, word_behind)

pub window_read : (t : List ℕ) (b k p q i j : ℕ) → p ≡ at t (b + k) → i ≡ p → q ≡ at t (b + (k + 1)) → j ≡ q → record { first = i; count = j } ≡ window_at t (b + k)
window_read t b k p q i j e f g h = rw (add_assoc b k 1) (λ z. record { first = (f ∙ e) z; count = (h ∙ g) z })

module _ (t : List ℕ) (b x : ℕ) (e : x ≡ at t (b + 12)) where
  pub name_absent : x ≡ 0 → None ≡ optional None Some (at t (b + 12)) (place_at t (b + 13))
  name_absent z = rw (sym e ∙ z)

  pub name_named : (p q i j : ℕ) → (x ≡ 0 → ⊥) → p ≡ at t (b + 13) → i ≡ p → q ≡ at t (b + 14) → j ≡ q → Some (record { at = i; len = j }) ≡ optional None Some (at t (b + 12)) (place_at t (b + 13))
  name_named p q i j z f g h k =
      rw (← e) (optional_rest None Some x (record { at = i; len = j }) (place_at t (b + 13)) z (rw (add_assoc b 13 1) (λ y. record { at = (g ∙ f) y; len = (k ∙ h) y })))

-- the views of a source: the watermarks of its tree are not asked for
pub source_views_lem : (segments runs views pool t : List ℕ) (b : ℕ) (r : TreeRow) (w : Window) (q : Bounding)
    → r ≡ record { view = None; sst = None; l0 = window_at t (b + 6); compacted = window_at t (b + 8) } → w ≡ window_at t (b + 10)
    → q ≡ bounding_of (joined tree_views (tree_in runs views pool r ∷ segment_trees (segments_in segments runs views pool w))) → q ≡ bounding_of (views_at_word segments runs views pool t b)
unfolding views_at_word tree_in tree_at
source_views_lem segments runs views pool t b r w q e f h = h ∙ rw (e, f)
